-- Freed room serves again, over runs: after a taking, and whatever comes behind it that stores nothing, a message that takes no more room than the one taken is
-- not refused for room.
-- Assumes nothing.
use Rattle.std.specs.Prelude.{Err, Ok, Result, ℕ}
use Rattle.journal.specs.declared.NotTaken.TheVariants.{Broken, BufferShort, NoLine, NothingWaiting, WrongSize}
use Rattle.journal.specs.declared.NotTaken.{NotTaken}
use mathlib.Core.Path.{◌≡◌, refl, sym, ap, ◌∙◌}
use mathlib.Core.Logic.{◌≢◌, ◌⊎◌, inl, inr}
use mathlib.Core.Bool.{Bool, false, true≢false}
use mathlib.Core.List.{List, []}
use Prim.Native.Nat.{ℕ, ◌+◌, ◌-◌, ◌≤◌, ◌<◌}
use native.Mathlib.Nat.{le_trans}
use native.Mathlib.Decide.{ℕ_discrete, dec_le}
use native.Mathlib.Omega.{arith}
use borrow.Author.Tests.{le-leb}
use lib.Dec.{eqb}
use lib.ListN.{length, get_or, get_or-replicate, set, length-set}
use Rattle.memory.specs.Sizes.{lines, journal_size}
use Rattle.header.specs.Header.{entry_size}
use Rattle.header.specs.Entry.{size}
use Rattle.room.specs.Room.{share, todays_shares, claims, raised}
use Rattle.journal.specs.Removal.{AfterTaking, shrunk, take_of as take_entry}
use Rattle.journal_laws.specs.Runs.{Numbered, given}
use Rattle.journal_laws.proofs.Cases.{Gives, Keeps, take_cases}
use Rattle.journal.proofs.Oldest.{total_oldest}
use Rattle.room.proofs.Totals.{raised_own, raised_other, lowered_own, lowered_other, claims_le, claims_lowered, claims_raised_le}
use Rattle.journal.proofs.Wholes.{whole_facts}
use Rattle.answers.specs.Paper.{values_of}
use Rattle.answers.specs.declared.Answer.{Answer}
use Rattle.answers.specs.declared.Answer.TheVariants.{Taken as Answer8}
use Rattle.gateway.specs.Events.{take_of}
use Rattle.taking.specs.Taking.{took_answer}
use Rattle.looking.specs.declared.Kind.{Kind}
use Rattle.serial.specs.Serial.{taking, final, Every}
use Rattle.promises.specs.Machine.{State, GatewayItem, came, step, Sound, May}
use Rattle.promises.specs.Runs.{Beginning, Right, fresh, answered, NoSpace, Larger, used_by}
use Rattle.promises.specs.Freed.{taken_then, Frees}
use Rattle.promises.proofs.Kept.{keeps}
use Rattle.promises.proofs.Runs.{no_space, stays_sound, always_sound}
use Rattle.promises.proofs.Falls.{used_falls}

-- ---- a taking frees its entry's room

-- what a taking that is answered 8 with n bytes took: an entry of that size, so that the line uses that much less
record Freed (s : State) (i : ℕ) (b : List ℕ) (n : ℕ) : Type 0 where
  enough : entry_size n ≤ used_by s i
  own : used_by (step s (taking i b)).1 i ≡ used_by s i - entry_size n
  others : (k : ℕ) → k ≢ i → used_by (step s (taking i b)).1 k ≡ used_by s k

-- the length that 8 tells
abbrev answered_length : Answer → ℕ
answered_length a = get_or (values_of a) 0 0

abbrev is_eight : Answer → Bool
is_eight a = eqb (length (values_of a)) 2

keeps_answer : (t : Result (ℕ × ℕ) NotTaken) → ((c : List ℕ) → given t c ≡ []) → is_eight (took_answer t) ≡ false
keeps_answer (Ok (n, serial)) e = absurd (omega (arith, ap (λ (zs : List Numbered). length zs) (e [])))
keeps_answer (Err NothingWaiting) e = refl
keeps_answer (Err BufferShort) e = refl
keeps_answer (Err Broken) e = refl
keeps_answer (Err NoLine) e = refl
keeps_answer (Err WrongSize) e = refl

module _ (s : State) (w : Sound s) (i : ℕ) (line : i < lines) (b : List ℕ) (n serial : ℕ) where
  by_case : Gives todays_shares s.gateway.ledger i s.memory.journal b w.entries ⊎ Keeps s.gateway.ledger i s.memory.journal b
      → took_answer (take_entry s.gateway.ledger i s.memory.journal b).taking.answer ≡ Answer8 n serial → Freed s i b n
  unfolding take_of shrunk size
  by_case (inl g) e =
      let u = s.gateway.ledger.used in
      let is = g.is in
      let same : n ≡ length g.e.text = ap answered_length (sym e ∙ ap (λ (x : AfterTaking). took_answer x.taking.answer) is) in
      record {
        enough = rw (same, (whole_facts s.gateway.ledger s.memory.journal w.entries w.held.whole).sums i line) (total_oldest i w.entries g.e g.fs g.oldest);
        own =
            ap (λ (x : AfterTaking). get_or x.taking.ledger.used i 0) is ∙ lowered_own u i (size g.e) w.held.lines_used line
            ∙ ap (λ (m : ℕ). get_or u i 0 - entry_size m) (sym same);
        others = λ k x. ap (λ (y : AfterTaking). get_or y.taking.ledger.used k 0) is ∙ lowered_other u i (size g.e) w.held.lines_used line k x;
      }
  by_case (inr q) e =
      absurd (true≢false (ap is_eight (sym e ∙ ap (λ (x : AfterTaking). took_answer x.taking.answer) q.is) ∙ keeps_answer q.answer q.no))

  freed : (step s (taking i b)).0.answer ≡ Answer8 n serial → Freed s i b n
  unfolding take_of
  freed e = by_case (take_cases todays_shares s.gateway.ledger i s.memory.journal b w.entries w.held) e

-- ---- and it serves again

module _ (s : State) (w : Sound s) (l : ℕ) (line : l < lines) (b : List ℕ) (n : ℕ) (fs : List GatewayItem) (may : Every May fs) (frees : Frees s l b n fs) where
  abbrev taken : State
  taken = (step s (taking l b)).1

  abbrev then : State
  then = taken_then s l b fs

  sound_taken : Sound taken
  sound_taken = keeps s (taking l b) w tt

  sound_then : Sound then
  sound_then = stays_sound taken fs sound_taken may

  abbrev before_it : List ℕ
  before_it = s.gateway.ledger.used

  abbrev after_it : List ℕ
  after_it = then.gateway.ledger.used

  room : Freed s l b n
  room = freed s w l line b n frees.serial frees.gives

  less : (k : ℕ) → k < lines → used_by then k ≤ used_by taken k
  less k q = used_falls taken fs sound_taken may frees.nothing k q

  larger : (i : ℕ) (k : Kind) → NoSpace then i k → ((m : ℕ) → entry_size m ≤ entry_size n → claims todays_shares (raised after_it i (entry_size m)) ≤ journal_size) → Larger then i k n
  larger i k x enough = record {
    text = x.text;
    complete = x.complete;
    such = elim (dec_le (entry_size (length x.text)) (entry_size n)) [
      | yes small ↦
          absurd (true≢false (sym (le-leb (claims todays_shares (raised after_it i (entry_size (length x.text)))) journal_size (enough (length x.text) small)) ∙ x.such))
      | no large ↦ omega arith
    ];
  }

  -- on the line itself
  serves : (k : Kind) → answered (step then (came l k)).0 ≡ 31 → Larger then l k n
  serves k e = larger l k (no_space then sound_then l k line e)
      (λ m small. le_trans
      (claims_le todays_shares (raised after_it l (entry_size m)) before_it
      (λ c q. elim (ℕ_discrete c l) [
        | yes x ↦ rw x (omega (arith, small, raised_own after_it l (entry_size m) sound_then.held.lines_used line, less l line, room.own, room.enough))
        | no x ↦ omega (arith, raised_other after_it l (entry_size m) sound_then.held.lines_used line c x, less c q, room.others c x)
      ]))
      w.held.claimed)

  -- on any other, where the whole entry lay beyond its own line's share
  serves_others : share + entry_size n ≤ used_by s l → (i : ℕ) → i < lines → (k : Kind) → answered (step then (came i k)).0 ≡ 31 → Larger then i k n
  serves_others beyond i other k e = larger i k (no_space then sound_then i k other e)
      (λ m small.
      let u = set before_it l (get_or before_it l 0 - entry_size n) in
      let long = length-set before_it l (get_or before_it l 0 - entry_size n) ∙ w.held.lines_used in
      let fewer = claims_lowered todays_shares before_it l (entry_size n) w.held.lines_used line (rw (get_or-replicate lines l share 0 line) beyond) in
      let more = claims_raised_le todays_shares u i (entry_size m) long other in
      let no_more = claims_le todays_shares (raised after_it i (entry_size m)) (raised u i (entry_size m))
      (λ c q. elim (ℕ_discrete c i) [
        | yes x ↦ rw x (omega (arith, raised_own after_it i (entry_size m) sound_then.held.lines_used other, raised_own u i (entry_size m) long other, falls_to i other))
        | no x ↦ omega (arith, raised_other after_it i (entry_size m) sound_then.held.lines_used other c x, raised_other u i (entry_size m) long other c x, falls_to c q)
      ]) in
      omega (arith, no_more, more, fewer, small, w.held.claimed))
    where
      falls_to : (c : ℕ) → c < lines → used_by then c ≤ get_or (set before_it l (get_or before_it l 0 - entry_size n)) c 0
      falls_to c q = elim (ℕ_discrete c l) [
        | yes x ↦ rw x (omega (arith, less l line, room.own, lowered_own before_it l (entry_size n) w.held.lines_used line))
        | no x ↦ omega (arith, less c q, room.others c x, lowered_other before_it l (entry_size n) w.held.lines_used line c x)
      ]

-- ---- over runs from fresh

module _ (began : Beginning) (right : Right began) (es : List GatewayItem) (may : Every May es) where
  abbrev s : State
  s = final step (fresh began) es

  w : Sound s
  w = always_sound began right es may

  -- after a run and a taking that gave n bytes from line l, a message on that line that takes no more room than those is not refused for room, whatever came in
  -- between that stored nothing
  pub freed_own : (l : ℕ) → l < lines → (b : List ℕ) (n : ℕ) (fs : List GatewayItem) → Every May fs → Frees s l b n fs → (k : Kind)
      → answered (step (taken_then s l b fs) (came l k)).0 ≡ 31 → Larger (taken_then s l b fs) l k n
  freed_own l line b n fs may' frees k e = serves s w l line b n fs may' frees k e

  -- nor is one on any other line, where what was taken lay beyond its own line's share
  pub freed_others : (l : ℕ) → l < lines → (b : List ℕ) (n : ℕ) (fs : List GatewayItem) → Every May fs → Frees s l b n fs → share + entry_size n ≤ used_by s l
      → (i : ℕ) → i < lines → (k : Kind) → answered (step (taken_then s l b fs) (came i k)).0 ≡ 31 → Larger (taken_then s l b fs) i k n
  freed_others l line b n fs may' frees beyond i other k e = serves_others s w l line b n fs may' frees beyond i other k e
