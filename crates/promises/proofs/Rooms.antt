-- Room for several texts on a line: for the first of them, and then for the others; and the journal that holds them all.
-- Assumes nothing.
use mathlib.Core.Path.{◌≡◌, refl, sym, ap, subst, ◌∙◌}
use mathlib.Core.Bool.{true}
use mathlib.Core.List.{List, [], ◌∷◌, ◌++◌, append_assoc, append-nil}
use Prim.Native.Nat.{ℕ, ◌+◌, ◌≤◌, ◌<◌}
use native.Mathlib.Nat.{le_trans}
use native.Mathlib.Decide.{ℕ_discrete}
use native.Mathlib.Omega.{arith}
use borrow.Author.Tests.{le-leb, leb-true}
use lib.ListN.{length, get_or, length-set}
use Rattle.memory.specs.Sizes.{lines, journal_size}
use Rattle.faults.proofs.Messages.{message_some, message_short}
use Rattle.header.specs.Header.{entry_size}
use Rattle.header.specs.Entry.{Entry}
use Rattle.room.specs.Room.{claims, fits, raised, todays_shares}
use Rattle.journal.specs.Storage.{new_entry, grown}
use Rattle.journal_laws.specs.Held.{Held}
use Rattle.journal_laws.specs.Runs.{State as Store}
use Rattle.room.proofs.Totals.{raised_own, raised_other, claims_le}
use Rattle.journal_laws.proofs.Keeps.{store_held}
use Rattle.promises.specs.Machine.{State, Sound}
use Rattle.promises.specs.Inner.Came.{stored_in}
use Rattle.promises.specs.Sending.{new_entries, Messages, sizes_of, HasRoom, Intact}

module _ (sh u : List ℕ) (i a b : ℕ) (long : length u ≡ lines) (line : i < lines) (room : fits sh (raised u i (a + b)) ≡ true) where
  most : claims sh (raised u i (a + b)) ≤ journal_size
  most = leb-true (claims sh (raised u i (a + b))) journal_size room

  fewer : (v : List ℕ) → get_or v i 0 ≤ get_or u i 0 + (a + b) → ((k : ℕ) → (k ≡ i → ⊥) → get_or v k 0 ≡ get_or u k 0) → fits sh v ≡ true
  fewer v own other =
      le-leb (claims sh v) journal_size
      (le_trans
      (claims_le sh v (raised u i (a + b))
      (λ k q. elim (ℕ_discrete k i) [
        | yes x ↦ rw x (omega (arith, own, raised_own u i (a + b) long line))
        | no x ↦ omega (arith, other k x, raised_other u i (a + b) long line k x)
      ]))
      most)

  pub room_first : fits sh (raised u i a) ≡ true
  room_first = fewer (raised u i a) (omega (arith, raised_own u i a long line)) (raised_other u i a long line)

  pub room_rest : fits sh (raised (raised u i a) i b) ≡ true
  room_rest =
      let long_then : length (raised u i a) ≡ lines = length-set u i (get_or u i 0 + a) ∙ long in
      fewer (raised (raised u i a) i b) (omega (arith, raised_own (raised u i a) i b long_then line, raised_own u i a long line))
      (λ k x. raised_other (raised u i a) i b long_then line k x ∙ raised_other u i a long line k x)

-- texts stored on line i, one behind the other
abbrev pub stored_all : ℕ → List (List ℕ) → Store → Store
stored_all i [] j = j
stored_all i (m ∷ ms) j = stored_all i ms (stored_in i m j)

pub stored_append : (i : ℕ) (ms ns : List (List ℕ)) (j : Store) → stored_all i (ms ++ ns) j ≡ stored_all i ns (stored_all i ms j)
stored_append i [] ns j = refl
stored_append i (m ∷ ms) ns j = stored_append i ms ns (stored_in i m j)

pub room_then : (i : ℕ) (m : List ℕ) (ms : List (List ℕ)) (j : Store) → length j.ledger.used ≡ lines → i < lines
    → fits todays_shares (raised j.ledger.used i (sizes_of (m ∷ ms))) ≡ true → fits todays_shares (raised (stored_in i m j).ledger.used i (sizes_of ms)) ≡ true
unfolding grown
room_then i m ms j long line room = room_rest todays_shares j.ledger.used i (entry_size (length m)) (sizes_of ms) long line room

used_then : (i : ℕ) (m : List ℕ) (j : Store) → length j.ledger.used ≡ lines → length (stored_in i m j).ledger.used ≡ lines
unfolding grown
used_then i m j long = length-set j.ledger.used i (get_or j.ledger.used i 0 + entry_size (length m)) ∙ long

-- room for two lists of texts: for the first, and behind it for the second
sizes_append : (ms ns : List (List ℕ)) → sizes_of (ms ++ ns) ≡ sizes_of ms + sizes_of ns
sizes_append [] ns = omega arith
sizes_append (m ∷ ms) ns = omega (arith, sizes_append ms ns)

pub room_before : (i : ℕ) (ms ns : List (List ℕ)) (j : Store) → length j.ledger.used ≡ lines → i < lines
    → fits todays_shares (raised j.ledger.used i (sizes_of (ms ++ ns))) ≡ true → fits todays_shares (raised j.ledger.used i (sizes_of ms)) ≡ true
room_before i ms ns j long line room =
    room_first todays_shares j.ledger.used i (sizes_of ms) (sizes_of ns) long line
    (ap (λ (n : ℕ). fits todays_shares (raised j.ledger.used i n)) (sym (sizes_append ms ns)) ∙ room)

pub room_after : (i : ℕ) (ms ns : List (List ℕ)) (j : Store) → length j.ledger.used ≡ lines → i < lines
    → fits todays_shares (raised j.ledger.used i (sizes_of (ms ++ ns))) ≡ true → fits todays_shares (raised (stored_all i ms j).ledger.used i (sizes_of ns)) ≡ true
room_after i [] ns j long line room = room
room_after i (m ∷ ms) ns j long line room = room_after i ms ns (stored_in i m j) (used_then i m j long) line (room_then i m (ms ++ ns) j long line room)

pub held_all : (i : ℕ) → i < lines → (ms : List (List ℕ)) (j : Store) (es : List Entry) → Held todays_shares j.ledger j.journal es → Messages ms
    → fits todays_shares (raised j.ledger.used i (sizes_of ms)) ≡ true
    → Held todays_shares (stored_all i ms j).ledger (stored_all i ms j).journal (es ++ new_entries j.ledger i ms)
held_all i line [] j es h are room = subst (Held todays_shares j.ledger j.journal) (sym (append-nil es)) h
held_all i line (m ∷ ms) j es h are room =
    let first = room_first todays_shares j.ledger.used i (entry_size (length m)) (sizes_of ms) h.lines_used line room in
    let one = store_held todays_shares j.ledger i m j.journal es h line (message_some _ m are.0) (message_short _ m are.0) first in
    let rest = held_all i line ms (stored_in i m j) (es ++ new_entry j.ledger i m ∷ []) one are.1 (room_then i m ms j h.lines_used line room) in
    subst (Held todays_shares (stored_all i ms (stored_in i m j)).ledger (stored_all i ms (stored_in i m j)).journal)
    (append_assoc es (new_entry j.ledger i m ∷ []) (new_entries (grown j.ledger i (length m)) i ms)) rest

-- where there is room for more on a line, the lines' claims fit without it: so the state is sound
module _ (s : State) (w : Intact s) (i : ℕ) (line : i < lines) (ms : List (List ℕ)) (room : HasRoom s i ms) where
  abbrev u : List ℕ
  u = s.gateway.ledger.used

  abbrev n : ℕ
  n = sizes_of ms

  pub room_held : Held todays_shares s.gateway.ledger s.memory.journal w.entries
  room_held = record {
    long = w.journal;
    lines_used = w.lines_used;
    lines_serials = w.lines_serials;
    serials = w.serials;
    whole = w.whole;
    claimed =
        le_trans
        (claims_le todays_shares u (raised u i n)
        (λ k q. elim (ℕ_discrete k i) [
          | yes x ↦ rw x (omega (arith, raised_own u i n w.lines_used line))
          | no x ↦ omega (arith, raised_other u i n w.lines_used line k x)
        ]))
        (leb-true (claims todays_shares (raised u i n)) journal_size room);
  }

  pub room_sound : Sound s
  room_sound = record {
    as_many = w.as_many;
    as_many_memos = w.as_many_memos;
    within = w.within;
    blocks = w.blocks;
    texts = w.texts;
    frames = w.frames;
    entries = w.entries;
    held = room_held;
  }
