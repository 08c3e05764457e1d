-- What the room rule gives: a line's own share is guaranteed, one line alone reaches all but the others' shares, and what is freed can be stored again.
-- Assumes nothing.
use Rattle.std.specs.Prelude.{Ok}
use mathlib.Core.Path.{◌≡◌, sym, ◌∙◌}
use mathlib.Core.List.{List, [], ◌∷◌, ◌++◌}
use mathlib.Core.Bool.{true, false}
use Prim.Native.Nat.{ℕ, ◌+◌, ◌-◌, ◌<◌, ◌≤◌, max}
use native.Mathlib.Nat.{le_trans}
use native.Mathlib.Omega.{arith}
use native.Mathlib.Decide.{ℕ_discrete}
use lib.ListN.{length, get_or, get_or-replicate, set, length-set}
use borrow.Author.Tests.{le-leb, lt-leb}
use Rattle.memory.specs.Sizes.{lines, message_limit, journal_size}
use Rattle.header.specs.Header.{entry_size}
use Rattle.header.specs.Entry.{Entry, size}
use Rattle.journal.specs.Entries.{sizes, before, from}
use Rattle.journal.specs.Chain.{fresh_ledger}
use Rattle.room.specs.Room.{share, todays_shares, sum_to, claim, claims, fits, raised}
use Rattle.journal.specs.Verdicts.{judge_of}
use Rattle.journal.specs.Removal.{shrunk, without}
use Rattle.journal_laws.specs.Held.{Held}
use Rattle.journal.specs.declared.Ledger.{Ledger}
use Rattle.journal.proofs.Oldest.{total_oldest}
use Rattle.room.proofs.Totals.{sum_swap, raised_own, raised_other, lowered_own, lowered_other, claims_le, claims_own_share, claims_lowered, claims_raised_le}
use Rattle.journal.proofs.Wholes.{whole_facts}
use Rattle.journal.proofs.Judged.{judged_room}
use Rattle.journal_laws.proofs.Keeps.{fresh_held, take_held}

-- the verdict of a journal that is held, on an entry that fits
judged_fits : (sh : List ℕ) (d : Ledger) (l n : ℕ) (j : List ℕ) (es : List Entry) → Held sh d j es → l < lines → 1 ≤ n → n ≤ message_limit
    → claims sh (raised d.used l (entry_size n)) ≤ journal_size → judge_of d sh l n j ≡ Ok tt
judged_fits sh d l n j es h line low high c =
    sym (judged_room d sh l n j line h.long low high true (rw h.whole) (le-leb (claims sh (raised d.used l (entry_size n))) journal_size c))

-- no entry is refused that goes, with its header, into the unused part of its line's share
pub never_refused : (sh : List ℕ) (d : Ledger) (l n : ℕ) (j : List ℕ) (es : List Entry) → Held sh d j es → l < lines → 1 ≤ n → n ≤ message_limit
    → get_or d.used l 0 + entry_size n ≤ get_or sh l 0 → judge_of d sh l n j ≡ Ok tt
never_refused sh d l n j es h line low high s =
    judged_fits sh d l n j es h line low high (rw (claims_own_share sh d.used l (entry_size n) h.lines_used line s) h.claimed)

-- ---- one line alone

-- every other line claims its share
pub alone : (sh u : List ℕ) (l : ℕ) → l < lines → ((k : ℕ) → k < lines → (k ≡ l → ⊥) → get_or u k 0 ≡ 0)
    → claims sh u + get_or sh l 0 ≡ sum_to lines (λ k. get_or sh k 0) + max (get_or u l 0) (get_or sh l 0)
unfolding claims
alone sh u l lb o =
    sum_swap lines (claim sh u) (λ k. get_or sh k 0) l (get_or sh l 0) (max (get_or u l 0) (get_or sh l 0)) lb
    (omega arith) (λ k q n. rw (o k q n) (omega arith))

-- so it reaches what the others' shares leave of the journal, and no byte more
module _ (sh u : List ℕ) (l : ℕ) (line : l < lines) (others : (k : ℕ) → k < lines → (k ≡ l → ⊥) → get_or u k 0 ≡ 0) (shares-fit : sum_to lines (λ k. get_or sh k 0) ≤ journal_size) where
  pub alone_reaches : get_or u l 0 + sum_to lines (λ k. get_or sh k 0) ≤ journal_size + get_or sh l 0 → fits sh u ≡ true
  alone_reaches h = le-leb (claims sh u) journal_size (omega (arith, alone sh u l line others))

  pub alone_no_more : journal_size + get_or sh l 0 < get_or u l 0 + sum_to lines (λ k. get_or sh k 0) → fits sh u ≡ false
  alone_no_more h = lt-leb (claims sh u) journal_size (omega (arith, alone sh u l line others))

today : (l : ℕ) → l < lines → get_or todays_shares l 0 ≡ share
today l q = get_or-replicate lines l share 0 q

pub fresh_today : (j : List ℕ) → length j ≡ journal_size → Held todays_shares fresh_ledger j []
fresh_today j n = fresh_held todays_shares j n (omega arith)

-- at today's shares: 18,432 and not 18,433
pub today_reaches : (u : List ℕ) (l : ℕ) → l < lines → ((k : ℕ) → k < lines → (k ≡ l → ⊥) → get_or u k 0 ≡ 0) → get_or u l 0 ≤ 18432 → fits todays_shares u ≡ true
today_reaches u l line o h = alone_reaches todays_shares u l line o (omega arith) (omega (arith, today l line))

pub today_no_more : (u : List ℕ) (l : ℕ) → l < lines → ((k : ℕ) → k < lines → (k ≡ l → ⊥) → get_or u k 0 ≡ 0) → 18433 ≤ get_or u l 0 → fits todays_shares u ≡ false
today_no_more u l line o h = alone_no_more todays_shares u l line o (omega arith) (omega (arith, today l line))

-- ---- what is freed can be stored again

module _ (sh : List ℕ) (d : Ledger) (l : ℕ) (j : List ℕ) (es : List Entry) (h : Held sh d j es) (line : l < lines) (e : Entry) (fs : List Entry) (is : from l es ≡ e ∷ fs) where
  lowered_long : length (set d.used l (get_or d.used l 0 - size e)) ≡ lines
  lowered_long = length-set d.used l _ ∙ h.lines_used

  enough : size e ≤ get_or d.used l 0
  enough = rw ((whole_facts d j es h.whole).sums l line) (total_oldest l es e fs is)

  -- on the line itself: after its oldest entry is taken, an entry no larger than that one is never refused
  pub freed_own : (n : ℕ) → 1 ≤ n → n ≤ message_limit → entry_size n ≤ size e → judge_of (shrunk d l e) sh l n (without d (sizes (before l es)) e j) ≡ Ok tt
  unfolding shrunk
  freed_own n low high small =
      let u = d.used in
      let most : claims sh (raised (set u l (get_or u l 0 - size e)) l (entry_size n)) ≤ claims sh u =
      claims_le sh (raised (set u l (get_or u l 0 - size e)) l (entry_size n)) u
      (λ k q. elim (ℕ_discrete k l) [
        | yes x ↦ rw x (omega (arith, raised_own (set u l (get_or u l 0 - size e)) l (entry_size n) lowered_long line, lowered_own u l (size e) h.lines_used line, enough))
        | no x ↦ rw (raised_other (set u l (get_or u l 0 - size e)) l (entry_size n) lowered_long line k x, lowered_other u l (size e) h.lines_used line k x) (omega arith)
      ]) in
      judged_fits sh (shrunk d l e) l n (without d (sizes (before l es)) e j) (before l es ++ fs) (take_held sh d l j es h line e fs is) line low high (le_trans most h.claimed)

  -- on any other line, where the whole entry lay beyond its own line's share
  pub freed_other : (k n : ℕ) → k < lines → 1 ≤ n → n ≤ message_limit → entry_size n ≤ size e → get_or sh l 0 + size e ≤ get_or d.used l 0
      → judge_of (shrunk d l e) sh k n (without d (sizes (before l es)) e j) ≡ Ok tt
  unfolding shrunk
  freed_other k n other low high small beyond =
      let u = d.used in
      let fewer = claims_lowered sh u l (size e) h.lines_used line beyond in
      let more = claims_raised_le sh (set u l (get_or u l 0 - size e)) k (entry_size n) lowered_long other in
      judged_fits sh (shrunk d l e) k n (without d (sizes (before l es)) e j) (before l es ++ fs) (take_held sh d l j es h line e fs is) other low high
      (omega (arith, fewer, more, h.claimed))
