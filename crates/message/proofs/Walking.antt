-- A walk over the records behind a header: it stands at one of them, which may come next, and its end is found behind its type.
-- Assumes nothing.
use Rattle.std.proofs.Common.{◌≡◌, ℕ, ◌+◌, ◌<◌, ◌≤◌, true, false, List, length, get_or, drop, sym, ap, ◌∙◌, arith, length-drop, drop_of_length-le, get_or-drop, drop-drop, eq-eqb, ne_eqb}
use Rattle.memory.specs.Tests.{is, find}
use Rattle.characters.specs.Control.{cr}
use Rattle.characters.specs.Allowed.{ordinary}
use Rattle.kinds.specs.Kinds.{is_terminator}
use Rattle.records.specs.Fields.{before, behind}
use Rattle.records.specs.Records.{ends_with_cr}
use Rattle.sequence.specs.Numbers.{started}
use Rattle.faults.specs.Inner.Next.{comes, counts_behind}
use Rattle.message.specs.Inner.Rest.{breaks, right_rest}
use Rattle.kinds.specs.declared.Delimiters.{Delimiters}
use Rattle.sequence.specs.declared.Counts.{Counts}
use Rattle.records.proofs.Scans.{tail_at, rest_part}
use Rattle.message.proofs.Breaks.{cr_some, break_within, ends_behind, broken_by_cr, broken_by_other}
use Rattle.message.proofs.Starting.{next_passes}
use Rattle.message.proofs.Remaining.{left_bad, left_wrong, left_fine}

-- what stands behind a place in a text that ends with CR
module _ (s : List ℕ) (ends : ends_with_cr s ≡ true) (at : ℕ) (lt : at < length s) where
  tail_ends : ends_with_cr (tail_at s at) ≡ true
  tail_ends = rw (rest_part s at) (ends_behind s ends at lt)

  tail_length : at + length (tail_at s at) ≡ length s
  tail_length = omega (arith, ap length (rest_part s at), length-drop at s)

-- the record at the start of what is left of `rest` from `at` on, by the counts s of those in front of it
module _ (d : Delimiters) (rest : List ℕ) (plain : ordinary d.field ≡ true) (ends : 0 < length rest → ends_with_cr rest ≡ true) (s : Counts) (at : ℕ) (lt : at < length rest) where
  abbrev t : List ℕ
  t = tail_at rest at

  pub left_ends : ends_with_cr t ≡ true
  left_ends = tail_ends rest (ends (omega arith)) at lt

  module _ (decides : right_rest d s (drop at rest) ≡ right_rest d started rest) where
    left_decides : right_rest d s t ≡ right_rest d started rest
    left_decides = ap (right_rest d s) (rest_part rest at) ∙ decides

    pub ends_wrong : comes d s (before cr t) ≡ false → false ≡ right_rest d started rest
    ends_wrong e = sym (left_wrong d s t (cr_some t left_ends) e) ∙ left_decides

  module _ (next : comes d s (before cr t) ≡ true) where
    passed : (2 < length t) × (2 + find breaks (drop 2 t) ≡ find breaks t)
    passed = next_passes d t left_ends plain s next

    pub two_read : 2 < length t
    two_read = passed.0

    pub behind_ends : ends_with_cr (tail_at t 2) ≡ true
    behind_ends = tail_ends t left_ends 2 two_read

    module _ (e : ℕ) (found : e ≡ find breaks (tail_at t 2)) where
      at_end : 2 + e ≡ find breaks t
      at_end = ap (λ (n : ℕ). 2 + n) (found ∙ ap (find breaks) (rest_part t 2)) ∙ passed.1

      end_in_left : 2 + e < length t
      end_in_left = rw at_end (break_within t left_ends)

      pub end_within : e < length (tail_at t 2)
      end_within = omega (arith, end_in_left, tail_length t left_ends 2 two_read)

      pub next_within : at + (e + 3) ≤ length rest
      next_within = omega (arith, end_in_left, tail_length rest (ends (omega arith)) at lt)

      breaking : get_or t (find breaks t) 0 ≡ get_or (tail_at t 2) e 0
      breaking = sym (ap (λ (l : List ℕ). get_or l e 0) (rest_part t 2) ∙ get_or-drop 2 t e 0 ∙ ap (λ (n : ℕ). get_or t n 0) at_end)

      module _ (decides : right_rest d s (drop at rest) ≡ right_rest d started rest) where
        pub ends_broken : (get_or (tail_at t 2) e 0 ≡ cr → ⊥) → false ≡ right_rest d started rest
        ends_broken n =
            let other : is cr (get_or t (find breaks t) 0) ≡ false = ap (is cr) breaking ∙ ne_eqb _ cr n in
            sym (left_bad d s t (cr_some t left_ends) (broken_by_other t (break_within t left_ends) other)) ∙ left_decides decides

        pub goes_on : get_or (tail_at t 2) e 0 ≡ cr → (u : Counts) → counts_behind d s (before cr t) ≡ u → right_rest d u (drop (at + (e + 3)) rest) ≡ right_rest d started rest
        goes_on q u same_counts =
            let (same, clean) = broken_by_cr t (break_within t left_ends) (ap (is cr) breaking ∙ eq-eqb _ cr q) in
            let end : find (is cr) t + 1 ≡ e + 3 = omega (arith, at_end) in
            let place : behind cr t ≡ drop (at + (e + 3)) rest = ap (λ (n : ℕ). drop n t) end ∙ ap (drop (e + 3)) (rest_part rest at) ∙ drop-drop (e + 3) at rest in
            ap (right_rest d u) (sym place) ∙ left_fine d s t (cr_some t left_ends) u next same_counts clean ∙ left_decides decides

-- at the end of the text the last other record decides
pub at_the_end : (d : Delimiters) (s : Counts) (rest : List ℕ) (at : ℕ) → length rest ≤ at → is_terminator s.other ≡ right_rest d s (drop at rest)
unfolding right_rest
at_the_end d s rest at le = rw (drop_of_length-le rest le)
