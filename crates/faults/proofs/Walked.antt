-- A walk over the records of a text, front to back: what is left of them decides; and what the tests before it say.
-- Assumes nothing.
use Rattle.std.specs.Prelude.{Err, Ok, Result}
use Rattle.faults.specs.declared.Flaw.TheVariants.{Faulty, NotText}
use Rattle.faults.specs.declared.Flaw.{Flaw}
use mathlib.Core.Path.{◌≡◌, refl, ap, sym, ◌∙◌}
use mathlib.Core.Bool.{Bool, true, false}
use mathlib.Core.List.{List}
use Prim.Native.Nat.{ℕ, ◌+◌, ◌<◌, ◌≤◌}
use native.Mathlib.Omega.{arith}
use lib.Dec.{leb}
use lib.ListN.{length, take, drop, drop_of_length-le}
use lib.Seq.{drop-drop}
use borrow.Author.Tests.{le-leb, eq-eqb, ne_eqb}
use Rattle.memory.specs.Sizes.{message_limit}
use Rattle.memory.specs.Tests.{is, find, all}
use Rattle.characters.specs.Control.{cr}
use Rattle.characters.specs.Allowed.{allowed}
use Rattle.records.specs.Records.{records, none, ends_with_cr}
use Rattle.records.proofs.Scans.{tail_at, rest_part, tail_within}
use Rattle.records.proofs.Front.{none_left, split_first, front}
use Rattle.kinds.specs.declared.Delimiters.{Delimiters}
use Rattle.sequence.specs.declared.Counts.{Counts}
use Rattle.answers.specs.declared.Fault.{Fault}
use Rattle.answers.specs.declared.Fault.TheVariants.{NoHeader, NoFinalCr}
use Rattle.faults.specs.Faults.{after, header_step, record_step, rest_fault, records_fault, fault}

-- ---- the first record

module _ (d : Delimiters) (text : List ℕ) (e : ℕ) (some : 0 < length text) (k : e ≡ find (is cr) text) where
  by_header : (st : Result Counts Fault) → st ≡ header_step d (leb (length text) (e + 1)) (take e text) → after st 1 (λ t. rest_fault d t 2 (records (drop (e + 1) text))) ≡ records_fault d (records text)
  unfolding records_fault
  by_header st of =
      let go : Counts → Result (Unit {0}) Flaw = λ t. rest_fault d t 2 (records (drop (e + 1) text)) in
      ap (λ (x : Result Counts Fault). after x 1 go) (of ∙ ap (λ (b : Bool). header_step d b (take e text)) (sym (none_left text (e + 1)))) ∙ sym (ap (records_fault d) (split_first text e some k))

  pub header_fine : {st : Result Counts Fault} (t : Counts) {r : Result (Unit {0}) Flaw} → st ≡ header_step d (leb (length text) (e + 1)) (take e text) → st ≡ Ok t → r ≡ rest_fault d t 2 (records (drop (e + 1) text)) → r ≡ records_fault d (records text)
  header_fine t of is rest = rest ∙ by_header (Ok t) (sym is ∙ of)

  pub header_wrong : {st : Result Counts Fault} (f : Fault) → st ≡ header_step d (leb (length text) (e + 1)) (take e text) → st ≡ Err f → (Err (Faulty f 1)) ≡ records_fault d (records text)
  header_wrong f of is = by_header (Err f) (sym is ∙ of)

-- ---- those behind it

-- the walk stands at `at` with these counts, and the next record has this place
pub record Walks (d : Delimiters) (counts : Counts) (text : List ℕ) (start : ℕ) (s : Counts) (at place : ℕ) : Type 0 where
  pub within : at ≤ length text + 1
  pub few : place ≤ at + 1
  pub decides : rest_fault d s place (records (drop at text)) ≡ rest_fault d counts 2 (records (drop start text))

module _ (d : Delimiters) (counts : Counts) (text : List ℕ) (start : ℕ) where
  pub walk_start : 0 < start → start ≤ length text + 1 → Walks d counts text start counts start 2
  walk_start some within = record { within = within; few = omega arith; decides = refl }

  module _ (s : Counts) (at place : ℕ) (w : Walks d counts text start s at place) where
    -- one record more: e is where it ends
    module _ (e : ℕ) (lt : at < length text) (k : e ≡ find (is cr) (tail_at text at)) where
      last_is : none (records (drop (at + (e + 1)) text)) ≡ leb (length (tail_at text at)) (e + 1)
      last_is =
          let rest : drop (e + 1) (tail_at text at) ≡ drop (at + (e + 1)) text = ap (drop (e + 1)) (rest_part text at) ∙ drop-drop (e + 1) at text in
          ap (λ (l : List ℕ). none (records l)) (sym rest) ∙ none_left (tail_at text at) (e + 1)

      abbrev stepped : Result Counts Fault
      stepped = record_step d s (leb (length (tail_at text at)) (e + 1)) (take e (tail_at text at))

      by_record : (st : Result Counts Fault) → st ≡ stepped → after st place (λ t. rest_fault d t (place + 1) (records (drop (at + (e + 1)) text))) ≡ rest_fault d counts 2 (records (drop start text))
      by_record st of =
          let go : Counts → Result (Unit {0}) Flaw = λ t. rest_fault d t (place + 1) (records (drop (at + (e + 1)) text)) in
          ap (λ (x : Result Counts Fault). after x place go) (of ∙ ap (λ (b : Bool). record_step d s b (take e (tail_at text at))) (sym last_is))
          ∙ ap (rest_fault d s place) (sym (front text at e lt k)) ∙ w.decides

      pub walk_on : {st : Result Counts Fault} (t : Counts) → st ≡ stepped → st ≡ Ok t → Walks d counts text start t (at + (e + 1)) (place + 1)
      walk_on t of is = record {
        within = omega (arith, tail_within cr text at e (omega arith) k);
        few = omega (arith, w.few);
        decides = by_record (Ok t) (sym is ∙ of);
      }

      pub walk_wrong : {st : Result Counts Fault} (f : Fault) → st ≡ stepped → st ≡ Err f → (Err (Faulty f place)) ≡ rest_fault d counts 2 (records (drop start text))
      walk_wrong f of is = by_record (Err f) (sym is ∙ of)

    -- nothing is left
    pub walk_end : length text ≤ at → (Ok tt) ≡ rest_fault d counts 2 (records (drop start text))
    walk_end ge = ap (λ (l : List ℕ). rest_fault d s place (records l)) (sym (drop_of_length-le text ge)) ∙ w.decides

-- ---- the tests before the walk

module _ (d : Delimiters) (text : List ℕ) (short : length text ≤ message_limit) where
  pub not_allowed : all allowed text ≡ false → (Err NotText) ≡ fault d text
  unfolding fault
  not_allowed a = rw (le-leb (length text) message_limit short, a)

  module _ (clean : all allowed text ≡ true) where
    pub empty : length text ≡ 0 → (Err (Faulty NoHeader 1)) ≡ fault d text
    unfolding fault
    empty e = rw (le-leb (length text) message_limit short, clean, eq-eqb (length text) 0 e)

    module _ (some : 0 < length text) where
      pub no_final_cr : ends_with_cr text ≡ false → (Err (Faulty NoFinalCr (length (records text)))) ≡ fault d text
      unfolding fault
      no_final_cr e = rw (le-leb (length text) message_limit short, clean, ne_eqb (length text) 0 (λ z. absurd (omega arith)), e)

      pub ended : ends_with_cr text ≡ true → {r : Result (Unit {0}) Flaw} → r ≡ records_fault d (records text) → r ≡ fault d text
      unfolding fault
      ended e of = rw (le-leb (length text) message_limit short, clean, ne_eqb (length text) 0 (λ z. absurd (omega arith)), e) of
