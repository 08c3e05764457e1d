-- A whole chain, whatever the lines claim: it is held over no shares, and so storing and taking give a whole chain again.
-- Assumes nothing.
use Rattle.std.specs.Result.{is_ok}
use Rattle.std.specs.Prelude.{Some}
use mathlib.Core.Path.{◌≡◌}
use mathlib.Core.List.{List, [], ◌∷◌, ◌++◌}
use mathlib.Core.Bool.{true}
use Prim.Native.Nat.{ℕ, ◌<◌, ◌≤◌, max}
use native.Mathlib.Nat.{le_trans}
use native.Mathlib.Omega.{arith}
use lib.ListN.{length, get_or}
use borrow.Author.Tests.{le-leb, leb-true}
use Rattle.memory.specs.Sizes.{lines, journal_size}
use Rattle.header.specs.Header.{serial_count, entry_size}
use Rattle.header.specs.Entry.{Entry}
use Rattle.journal.specs.Entries.{sizes, total, before, from}
use Rattle.journal.specs.Chain.{chain}
use Rattle.room.specs.Room.{sum_to, claim, claims, raised}
use Rattle.journal.specs.Verdicts.{judge_of}
use Rattle.journal.specs.Storage.{new_entry, grown, appended}
use Rattle.journal.specs.Removal.{shrunk, without}
use Rattle.journal_laws.specs.Held.{Held}
use Rattle.journal.specs.declared.Ledger.{Ledger}
use Rattle.room.proofs.Totals.{sum_le, sum_same}
use Rattle.journal.proofs.Inside.{sum_totals}
use Rattle.journal.proofs.Wholes.{kept_some}
use Rattle.journal.proofs.Judged.{fits_facts}
use Rattle.journal_laws.proofs.Keeps.{store_held, take_held}

-- with no shares the lines claim what they use
no_shares : (u : List ℕ) → claims [] u ≡ sum_to lines (λ l. get_or u l 0)
unfolding claims
no_shares u = sum_same lines (claim [] u) (λ l. get_or u l 0) (λ l q. omega arith)

fewer : (sh u : List ℕ) → claims [] u ≤ claims sh u
unfolding claims
fewer sh u = sum_le lines (claim [] u) (claim sh u) (λ l q. more (get_or u l 0) (get_or sh l 0))
  where
    more : (a s : ℕ) → max a 0 ≤ max a s
    more a s = omega arith

module _ (d : Ledger) (j : List ℕ) (es : List Entry) where
  pub whole_held : length j ≡ journal_size → length d.used ≡ lines → length d.serials ≡ lines → ((l : ℕ) → l < lines → get_or d.serials l 0 < serial_count)
      → chain d j ≡ Some es → Held [] d j es
  whole_held long used serials below whole =
      let k = kept_some d j es whole in
      let same : sum_to lines (λ l. get_or d.used l 0) ≡ sum_to lines (λ l. total l k.es) = sum_same lines (λ l. get_or d.used l 0) (λ l. total l k.es) k.whole.sums in
      record {
        long = long;
        lines_used = used;
        lines_serials = serials;
        serials = below;
        whole = whole;
        claimed = omega (arith, no_shares d.used, same, sum_totals k.es k.all, k.in_use, k.whole.room);
      }

  -- stored: the entries before, and one more at the end
  pub store_whole : (sh : List ℕ) (l : ℕ) (t : List ℕ) → Held [] d j es → is_ok (judge_of d sh l (length t) j) ≡ true
      → Held [] (grown d l (length t)) (appended d l t j) (es ++ new_entry d l t ∷ [])
  store_whole sh l t h q =
      let f = fits_facts d sh l (length t) j q in
      let room : claims [] (raised d.used l (entry_size (length t))) ≤ journal_size = le_trans (fewer sh (raised d.used l (entry_size (length t)))) (leb-true _ _ f.room) in
      store_held [] d l t j es h f.line f.low f.high (le-leb _ _ room)

  -- taken: the entries before, without the line's first
  pub take_whole : (l : ℕ) → Held [] d j es → l < lines → (e : Entry) (fs : List Entry) → from l es ≡ e ∷ fs
      → Held [] (shrunk d l e) (without d (sizes (before l es)) e j) (before l es ++ fs)
  take_whole l h line e fs is = take_held [] d l j es h line e fs is
