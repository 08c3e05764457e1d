-- A text in two pieces: its last byte, its last record, and so how it ends.
-- Assumes nothing.
use mathlib.Core.Path.{◌≡◌, refl, ap, sym, ◌∙◌}
use mathlib.Core.Bool.{Bool, false, cond}
use mathlib.Core.List.{List, [], ◌∷◌, ◌++◌, append-nil}
use Prim.Native.Nat.{ℕ, suc, ◌+◌, ◌-◌, ◌<◌, ◌≤◌}
use native.Mathlib.Omega.{arith}
use lib.Dec.{eqb}
use lib.ListN.{length, get_or, take, drop, length-append, drop_of_length-le}
use lib.Seq.{drop-cons, take-append-add, get_or-append-add}
use borrow.Author.Tests.{ne_eqb}
use Rattle.memory.specs.Tests.{all}
use Rattle.characters.specs.Control.{cr}
use Rattle.records.specs.Records.{is_not_cr, behind_last_cr, last_record, begins_with_l, ends_with_l, ending_of}
use Rattle.records.specs.Inner.Starts.{last_start}
use Rattle.records.specs.declared.Ending.TheVariants.{WithoutCr, WithL, WithOther}
use Rattle.records.proofs.LastRecord.{behind_drop, behind_join_has, behind_join_lacks, lacks_behind, start_has, start_lacks, first_byte}

no_bytes : (s : List ℕ) → length s ≤ 0 → s ≡ []
no_bytes [] h = refl
no_bytes (b ∷ s) h = absurd (omega arith)

-- where nothing is joined, it may as well stand in front
pub nothing_joined : (old new : List ℕ) → length new ≤ 0 → old ++ new ≡ new ++ old
nothing_joined old new h = rw (no_bytes new h, append-nil)

pub empty_ending : (old new : List ℕ) → length old ≤ 0 → length new ≤ 0 → ending_of (old ++ new) ≡ WithoutCr
unfolding ending_of
empty_ending old new h k = rw (no_bytes old h, no_bytes new k)

module _ (old new : List ℕ) (some : 0 < length new) where
  joined_length : length (old ++ new) - 1 ≡ length old + (length new - 1)
  joined_length = rw length-append (omega arith)

  joined_last : get_or (old ++ new) (length (old ++ new) - 1) 0 ≡ get_or new (length new - 1) 0
  joined_last = rw joined_length (get_or-append-add old new (length new - 1) 0)

  joined_front : take (length (old ++ new) - 1) (old ++ new) ≡ old ++ take (length new - 1) new
  joined_front = rw joined_length (take-append-add old new (length new - 1))

  pub open_ending : (get_or new (length new - 1) 0 ≡ cr → ⊥) → ending_of (old ++ new) ≡ WithoutCr
  unfolding ending_of
  open_ending n = rw (joined_last, ne_eqb (get_or new (length new - 1) 0) cr n)

  module _ (closed : get_or new (length new - 1) 0 ≡ cr) where
    joined_is : ends_with_l (old ++ new) ≡ begins_with_l (behind_last_cr (old ++ take (length new - 1) new))
    unfolding ends_with_l last_record
    joined_is = rw (joined_last, closed, joined_front)

    pub closed_ending : (l : Bool) → l ≡ ends_with_l (old ++ new) → ending_of (old ++ new) ≡ cond l WithL WithOther
    unfolding ending_of
    closed_ending l e = rw (joined_last, closed, ← e)

    -- the last record lies in the new piece
    pub joined_within : (start : ℕ) → start ≡ last_start (take (length new - 1) new) → 0 < start → eqb (get_or new start 0) 0x4c ≡ ends_with_l (old ++ new)
    joined_within start k h =
        let has : all is_not_cr (take (length new - 1) new) ≡ false = start_has (take (length new - 1) new) (omega arith) in
        first_byte new (length new - 1) start (omega arith) closed k ∙ sym (joined_is ∙ ap begins_with_l (behind_join_has old (take (length new - 1) new) has))

    -- it begins in the old piece, or just where the new one begins
    module _ (only : last_start (take (length new - 1) new) ≡ 0) where
      joined_over : ends_with_l (old ++ new) ≡ begins_with_l (behind_last_cr old ++ take (length new - 1) new)
      joined_over = joined_is ∙ ap begins_with_l (behind_join_lacks old (take (length new - 1) new) (start_lacks (take (length new - 1) new) only))

      pub joined_across : (begin : ℕ) → begin ≡ last_start old → begin < length old → eqb (get_or old begin 0) 0x4c ≡ ends_with_l (old ++ new)
      joined_across begin k h =
          let old_rest : behind_last_cr old ≡ get_or old begin 0 ∷ drop (suc begin) old =
          sym (behind_drop old) ∙ ap (λ (n : ℕ). drop n old) (sym k) ∙ drop-cons old begin 0 h in
          sym (joined_over ∙ rw old_rest)

      pub joined_behind : (begin : ℕ) → begin ≡ last_start old → length old ≤ begin → eqb (get_or new 0 0) 0x4c ≡ ends_with_l (old ++ new)
      joined_behind begin k h =
          let none : behind_last_cr old ≡ [] = sym (behind_drop old) ∙ ap (λ (n : ℕ). drop n old) (sym k) ∙ drop_of_length-le old h in
          let whole : behind_last_cr (take (length new - 1) new) ≡ take (length new - 1) new = lacks_behind (take (length new - 1) new) (start_lacks (take (length new - 1) new) only) in
          first_byte new (length new - 1) 0 (omega arith) closed (sym only) ∙ ap begins_with_l whole ∙ sym (joined_over ∙ rw none)
