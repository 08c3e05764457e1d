-- The front of a message that ends with a record: it is decided exactly if it is the whole message.
-- Assumes nothing.
use mathlib.Core.Path.{◌≡◌, refl, sym, ap, ◌∙◌}
use mathlib.Core.Bool.{true, true≢false}
use mathlib.Core.List.{List, [], ◌∷◌, ◌++◌, append_assoc}
use Prim.Native.Nat.{ℕ}
use Rattle.memory.specs.Tests.{all}
use Rattle.memory.proofs.Tests.{and_left, and_right}
use Rattle.characters.specs.Control.{cr}
use Rattle.faults.specs.Message.{is_message_by}
use Rattle.records.specs.Records.{records, joined, none, is_not_cr, ends_with_cr, ends_with_l}
use Rattle.kinds.specs.declared.Delimiters.{Delimiters}
use Rattle.records.proofs.Joined.{every, no_cr, records_first, joined_records}
use Rattle.faults.proofs.Messages.{cut_decided}

-- records that are joined are read back in front of anything
records_front : (rs : List (List ℕ)) (t : List ℕ) → every (all is_not_cr) rs ≡ true → records (joined rs ++ t) ≡ rs ++ records t
records_front [] t e = refl
records_front (r ∷ rs) t e =
    ap records (append_assoc r (cr ∷ joined rs) t)
    ∙ records_first r (joined rs ++ t) (and_left (all is_not_cr r) (every (all is_not_cr) rs) e)
    ∙ ap (λ (l : List (List ℕ)). r ∷ l) (records_front rs t (and_right (all is_not_cr r) (every (all is_not_cr) rs) e))

-- a list with something in it has a last member
record Ending (rs : List (List ℕ)) : Type 0 where
  front : List (List ℕ)
  last : List ℕ
  whole : rs ≡ front ++ last ∷ []

ending : (r : List ℕ) (rs : List (List ℕ)) → Ending (r ∷ rs)
ending r [] = record { front = []; last = r; whole = refl }
ending r (s ∷ rs) =
    let e = ending s rs in
    record { front = r ∷ e.front; last = e.last; whole = ap (λ (l : List (List ℕ)). r ∷ l) e.whole }

module _ (d : Delimiters) (x y : List ℕ) (h : is_message_by d (x ++ y) ≡ true) (e : ends_with_cr x ≡ true) where
  apart : records (x ++ y) ≡ records x ++ records y
  apart = ap (λ (t : List ℕ). records (t ++ y)) (sym (joined_records x e)) ∙ records_front (records x) y (no_cr x)

  by_records : (rs : List (List ℕ)) → records x ≡ rs → ends_with_l x ≡ none (records y)
  by_records [] q = absurd (true≢false (sym e ∙ ap ends_with_cr (sym (joined_records x e) ∙ ap joined q)))
  by_records (r ∷ rs) q =
      let f = ending r rs in
      let is : records x ≡ f.front ++ f.last ∷ [] = q ∙ f.whole in
      let cut : records (x ++ y) ≡ f.front ++ f.last ∷ records y = apart ∙ ap (λ (l : List (List ℕ)). l ++ records y) is ∙ append_assoc f.front (f.last ∷ []) (records y) in
      ap ends_with_l (sym (joined_records x e) ∙ ap joined is) ∙ cut_decided d (x ++ y) h f.front f.last (records y) cut

  pub front_decided : ends_with_l x ≡ none (records y)
  front_decided = by_records (records x) refl
