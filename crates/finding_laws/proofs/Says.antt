-- The finding of every right block with results says what stands in the block.
-- Assumes nothing.
use Rattle.std.specs.Prelude.{Some}
use mathlib.Core.Path.{◌≡◌, refl, sym, ap, ◌∙◌}
use mathlib.Core.Bool.{true}
use mathlib.Core.List.{List, [], ◌∷◌, ◌++◌}
use Prim.Native.Nat.{ℕ, ◌+◌, ◌-◌}
use native.Mathlib.Omega.{arith}
use lib.ListN.{length, get_or, drop}
use lib.Seq.{get_or-drop, drop-drop}
use Rattle.memory.specs.Parts.{part}
use Rattle.memory.specs.Tests.{all}
use Rattle.memory.proofs.Parts.{part_add}
use Rattle.kinds.specs.Delimiters.{standard, delimiters_of}
use Rattle.kinds.specs.Kinds.{letter_of, kind_of, type_of}
use Rattle.kinds.specs.declared.Kind.{Kind}
use Rattle.kinds.specs.declared.Kind.TheVariants.{Result as ResultKind}
use Rattle.records.specs.Fields.{field_of}
use Rattle.records.specs.Records.{records}
use Rattle.sequence.specs.Numbers.{number_of}
use Rattle.escaping.specs.Escape.{escaped}
use Rattle.escaping.specs.Unescape.{unescaped}
use Rattle.escaping.proofs.RoundTrips.{escaped_plain}
use Rattle.settings.specs.Settings.{patient_length}
use Rattle.settings.specs.declared.Patient.{Patient}
use Rattle.block.specs.Places.{matches}
use Rattle.block.specs.Layouts.{Result, results, results_block}
use Rattle.block.specs.Judged.{judged_of}
use Rattle.block.specs.declared.Judged.TheVariants.{Results}
use Rattle.block.proofs.Laws.{results_matches}
use Rattle.finding.specs.Trimmed.{trimmed}
use Rattle.finding.specs.Findings.{numeral, fielded, result_records, last_record, saying_of, finding_of, patient_at, sequence_at, sequence_length, results_at}
use Rattle.finding_laws.specs.Says.{record_of, read_at, IsRecord, SaysResult, SaysResults, Says}
use Rattle.finding_laws.proofs.Placed.{Stands, AllStand, behind_it, placed}
use Rattle.finding_laws.proofs.Texts.{trimmed_more, is_not_bar, escaped_bare}
use Rattle.finding_laws.proofs.Message.{Named, is_named, names, named, finding_records}
use Rattle.finding_laws.proofs.Fields.{field_first, field_next, capitals_bare, digits_bare, capitals_plain, capitals_trimmed}

own_four : (p : Patient) (bs : List ℕ) → delimiters_of (finding_of p bs) ≡ standard
unfolding delimiters_of finding_of
own_four p bs = refl

-- a record whose fields are a letter, a number and others
module _ (m : List ℕ) (k : ℕ) (d : delimiters_of m ≡ standard) {r : List ℕ} (is-r : record_of m k ≡ r) where
  read_is : (n : ℕ) {f t : List ℕ} → field_of standard.field n r ≡ f → unescaped standard f ≡ Some t → read_at m k n ≡ Some t
  unfolding read_at
  read_is n e u = rw (d, is-r, e) u

  kind_is : {kind : Kind} {number : ℕ} → type_of (field_of standard.field 1 r) ≡ Some kind → number_of (field_of standard.field 2 r) ≡ number → IsRecord m k kind number
  kind_is t n = record { type = rw (d, is-r) t; number_is = rw (d, is-r) n }

-- an R record, by its fields
module _ (g h t : List ℕ) (number : all is_not_bar g ≡ true) (name : all is_not_bar h ≡ true) (value : all is_not_bar t ≡ true) where
  abbrev letter : List ℕ
  letter = letter_of ResultKind ∷ []

  abbrev of_result : List ℕ
  of_result = fielded letter (g ∷ h ∷ t ∷ [])

  field_two : field_of standard.field 2 of_result ≡ g
  field_two = field_next 0 letter g (h ∷ t ∷ []) refl ∙ field_first g (h ∷ t ∷ []) number

  field_three : field_of standard.field 3 of_result ≡ h
  field_three = field_next 1 letter g (h ∷ t ∷ []) refl ∙ field_next 0 g h (t ∷ []) number ∙ field_first h (t ∷ []) name

  field_four : field_of standard.field 4 of_result ≡ t
  field_four = field_next 2 letter g (h ∷ t ∷ []) refl ∙ field_next 1 g h (t ∷ []) number ∙ field_next 0 h t [] name ∙ field_first t [] value

  type_one : type_of (field_of standard.field 1 of_result) ≡ Some ResultKind
  unfolding type_of kind_of
  type_one = refl

-- one result, and all
module _ (bs m : List ℕ) (d : delimiters_of m ≡ standard) where
  says_result : (k at : ℕ) (r : Result) → Named k r → Stands bs at r
      → record_of m (k + 3) ≡ fielded (letter_of ResultKind ∷ []) (numeral k ∷ r.name ∷ saying_of bs (at + length r.name) r.value ∷ []) → SaysResult bs m k at r
  says_result k at r n s e =
      let from = at + length r.name in
      let t = saying_of bs from r.value in
      let number = digits_bare (numeral k) n.digits in
      let name = capitals_bare r.name n.capitals in
      let value = escaped_bare (trimmed (part bs from r.value)) in
      let whole : trimmed (part bs from (r.value + r.blank)) ≡ trimmed (part bs from r.value) =
      ap trimmed (part_add bs from r.value r.blank) ∙ trimmed_more (part bs (from + r.value) r.blank) s.blank (part bs from r.value) in
      let itself : trimmed (part bs at (length r.name)) ≡ r.name = ap trimmed s.name ∙ capitals_trimmed r.name n.capitals in
      record {
        kind = kind_is m (k + 3) d e (type_one (numeral k) r.name t number name value) (ap number_of (field_two (numeral k) r.name t number name value) ∙ n.number);
        name = rw itself (read_is m (k + 3) d e 3 (field_three (numeral k) r.name t number name value) (capitals_plain r.name n.capitals));
        name_is = itself;
        rest = rw whole (read_is m (k + 3) d e 4 (field_four (numeral k) r.name t number name value) (escaped_plain standard (trimmed (part bs from r.value))));
      }

  says_results : (k at : ℕ) (rs : List Result) (ls : List (List ℕ)) → drop (k + 2) (records m) ≡ result_records (saying_of bs) k at rs ++ ls
      → is_named k rs ≡ true → AllStand bs at rs → SaysResults bs m k at rs
  says_results k at [] ls e n s = tt
  says_results k at (r ∷ rs) ls e n s =
      let (head, more) = named k r rs n in
      let here : k + 3 - 1 ≡ k + 2 + 0 = omega arith in
      let first : record_of m (k + 3) ≡ fielded (letter_of ResultKind ∷ []) (numeral k ∷ r.name ∷ saying_of bs (at + length r.name) r.value ∷ []) =
      ap (λ (i : ℕ). get_or (records m) i []) here ∙ sym (get_or-drop (k + 2) (records m) 0 []) ∙ ap (λ (l : List (List ℕ)). get_or l 0 []) e in
      let next : k + 1 + 2 ≡ k + 2 + 1 = omega arith in
      let others : drop (k + 1 + 2) (records m) ≡ result_records (saying_of bs) (k + 1) (behind_it at r) rs ++ ls =
      ap (λ (i : ℕ). drop i (records m)) next ∙ sym (drop-drop 1 (k + 2) (records m)) ∙ ap (drop 1) e in
      (says_result k at r head s.0 first, says_results (k + 1) (behind_it at r) rs ls others more s.1)

-- a block that is laid out right
pub layout_says : (p : Patient) (bs : List ℕ) → matches (results_block p) bs ≡ true → Says p bs (finding_of p bs)
unfolding type_of kind_of number_of
layout_says p bs h =
    let m = finding_of p bs in
    let d = own_four p bs in
    let e = finding_records p bs h in
    let b = placed p bs h in
    let patient = trimmed (part bs patient_at (patient_length p)) in
    let sequence = trimmed (part bs (sequence_at p) sequence_length) in
    record {
      patient_kind = kind_is m 2 d (ap (λ (l : List (List ℕ)). get_or l 1 []) e) refl refl;
      patient = read_is m 2 d (ap (λ (l : List (List ℕ)). get_or l 1 []) e) 3 (field_first (escaped standard patient) [] (escaped_bare patient)) (escaped_plain standard patient);
      order_kind = kind_is m 3 d (ap (λ (l : List (List ℕ)). get_or l 2 []) e) refl refl;
      sequence = read_is m 3 d (ap (λ (l : List (List ℕ)). get_or l 2 []) e) 3 (field_first (escaped standard sequence) [] (escaped_bare sequence)) (escaped_plain standard sequence);
      all_results = says_results bs m d 1 (results_at p) results (last_record ∷ []) (ap (drop 3) e) names b.stand;
    }

-- every right block
pub finding_says : (p : Patient) (bs : List ℕ) → judged_of p bs ≡ Results → Says p bs (finding_of p bs)
finding_says p bs e = layout_says p bs (results_matches p bs e)
