-- The header of a text that ends with CR: where it is broken off, whether it is one, and the four that it names.
-- Assumes nothing.
use Rattle.std.proofs.Common.{◌≡◌, ℕ, ◌+◌, ◌<◌, ◌≤◌, true, false, List, length, get_or, take, drop, sym, ap, ◌∙◌, arith, length-drop, eq-eqb, ne_eqb}
use Rattle.memory.specs.Sizes.{message_limit}
use Rattle.memory.specs.Tests.{is, find, all}
use Rattle.memory.proofs.Tests.{is_false, never_both}
use Rattle.characters.specs.Control.{cr}
use Rattle.characters.specs.Allowed.{allowed, ordinary}
use Rattle.kinds.specs.Header.{is_header}
use Rattle.kinds.specs.Delimiters.{delimiters_of, are_delimiters}
use Rattle.records.specs.Fields.{before}
use Rattle.records.specs.Records.{ends_with_cr}
use Rattle.sequence.specs.Numbers.{started}
use Rattle.faults.specs.Message.{is_message}
use Rattle.message.specs.Inner.Rest.{breaks, right_rest}
use Rattle.kinds.specs.declared.Delimiters.{Delimiters}
use Rattle.records.proofs.Scans.{tail_at, rest_part}
use Rattle.faults.proofs.Messages.{header, message_allowed}
use Rattle.faults.proofs.InForce.{names, own_first}
use Rattle.message.proofs.Breaks.{cr_some, break_within, ends_behind, broken_by_cr, broken_by_other}
use Rattle.message.proofs.Remaining.{header_ordinary, headless, four_refused, header_passed}

module _ (t : List ℕ) (ends : ends_with_cr t ≡ true) (e : ℕ) (found : e ≡ find breaks t) where
  pub first_within : e < length t
  first_within = omega (arith, found, break_within t ends)

  pub rest_ends : 0 < length (tail_at t (e + 1)) → ends_with_cr (tail_at t (e + 1)) ≡ true
  rest_ends some =
      let left : 0 < length (drop (e + 1) t) = rw (rest_part t (e + 1)) at some in
      rw (rest_part t (e + 1)) (ends_behind t ends (e + 1) (omega (arith, left, length-drop (e + 1) t)))

  pub first_broken : (get_or t e 0 ≡ cr → ⊥) → false ≡ is_message t
  first_broken n =
      let other : is cr (get_or t (find breaks t) 0) ≡ false = rw (← found) (ne_eqb _ cr n) in
      let bad = broken_by_other t (break_within t ends) other in
      sym (is_false (is_message t) (λ m. never_both (all allowed t) (message_allowed (delimiters_of t) t m) bad))

  module _ (by_cr : get_or t e 0 ≡ cr) (short : length t ≤ message_limit) where
    broken_off : (find breaks t ≡ find (is cr) t) × (all allowed (before cr t) ≡ true)
    broken_off = broken_by_cr t (break_within t ends) (rw (← found) (eq-eqb _ cr by_cr))

    at_cr : e ≡ find (is cr) t
    at_cr = found ∙ broken_off.0

    header_as : is_header (delimiters_of (take e t)) (take e t) ≡ is_header (delimiters_of t) (before cr t)
    header_as = ap (λ (n : ℕ). is_header (delimiters_of (take n t)) (take n t)) at_cr ∙ sym (own_first t)

    pub no_header : is_header (delimiters_of (take e t)) (take e t) ≡ false → false ≡ is_message t
    no_header h = sym (headless (delimiters_of t) t short (cr_some t ends) ends (sym header_as ∙ h))

    -- the four as they were read
    module _ (h : is_header (delimiters_of (take e t)) (take e t) ≡ true) (d : Delimiters) (read : d ≡ delimiters_of (take e t)) where
      head : is_header (delimiters_of t) (before cr t) ≡ true
      head = sym header_as ∙ h

      four : d ≡ delimiters_of t
      four = read ∙ ap (λ (n : ℕ). delimiters_of (take n t)) at_cr ∙ names t (header (delimiters_of t) (before cr t) head).0

      pub no_four : are_delimiters d ≡ false → false ≡ is_message t
      no_four f = sym (four_refused (delimiters_of t) t short (cr_some t ends) ends (ap are_delimiters (sym four) ∙ f))

      pub field_ordinary : ordinary d.field ≡ true
      field_ordinary = ap (λ (k : Delimiters). ordinary k.field) four ∙ header_ordinary (delimiters_of t) t head broken_off.0

      pub rest_decides : are_delimiters d ≡ true → right_rest d started (tail_at t (e + 1)) ≡ is_message t
      rest_decides f =
          ap (λ (k : Delimiters). right_rest k started (tail_at t (e + 1))) four
          ∙ ap (right_rest (delimiters_of t) started) (rest_part t (e + 1) ∙ ap (λ (n : ℕ). drop (n + 1) t) at_cr)
          ∙ header_passed (delimiters_of t) t short (cr_some t ends) ends head (ap are_delimiters (sym four) ∙ f) broken_off.1
