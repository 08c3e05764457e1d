-- The finding of every right block with results is a message.
-- Assumes nothing.
use mathlib.Core.Path.{◌≡◌, refl, ◌∙◌}
use mathlib.Core.Bool.{Bool, true, ◌&&◌}
use mathlib.Core.List.{List, [], ◌∷◌, ◌++◌}
use Prim.Native.Nat.{ℕ, ◌+◌, ◌≤◌}
use native.Mathlib.Omega.{arith}
use lib.Dec.{eqb, leb}
use lib.ListN.{length}
use borrow.Author.Tests.{eqb-true, leb-true}
use Rattle.memory.specs.Sizes.{message_limit}
use Rattle.memory.specs.Parts.{part}
use Rattle.memory.specs.Tests.{between, all}
use Rattle.memory.proofs.Tests.{and_left, and_right, and_both, all_append, between_yes}
use Rattle.characters.specs.Control.{cr}
use Rattle.characters.specs.Allowed.{allowed, ordinary}
use Rattle.kinds.specs.Delimiters.{standard, is_delimiter, different, are_delimiters}
use Rattle.kinds.specs.Header.{is_header}
use Rattle.kinds.specs.Kinds.{letter_of, kind_of, type_of, may_follow}
use Rattle.kinds.specs.declared.Kind.TheVariants.{Result as ResultKind}
use Rattle.records.specs.Records.{records, joined, is_not_cr, ends_with_cr}
use Rattle.records.proofs.Joined.{every, records_joined, joined_ends}
use Rattle.sequence.specs.Numbers.{is_digit, number_of}
use Rattle.faults.specs.Message.{are_records, is_message_by, is_message}
use Rattle.faults.proofs.InForce.{standard_stays}
use Rattle.settings.specs.Settings.{patient_length}
use Rattle.settings.specs.declared.Patient.{Patient}
use Rattle.block.specs.Places.{is_datum, matches}
use Rattle.block.specs.Layouts.{Result, results, results_block}
use Rattle.block.specs.Judged.{judged_of}
use Rattle.block.specs.declared.Judged.TheVariants.{Results}
use Rattle.block.proofs.Laws.{results_matches}
use Rattle.finding.specs.Trimmed.{trimmed}
use Rattle.finding.specs.Findings.{numeral, fielded, Saying, result_records, header_record, patient_record, order_record, last_record, records_saying, saying_of, finding_of, patient_at, sequence_at, sequence_length, results_at}
use Rattle.finding.proofs.Fills.{finding_short, finding_some}
use Rattle.finding_laws.proofs.Placed.{AllStand, behind_it, placed}
use Rattle.finding_laws.proofs.Texts.{data_ordinary, trimmed_keeps, escaped_ordinary}

-- whatever it says of the block, its records are those of a message
right_records : (p : Patient) (say : Saying) → are_records standard (records_saying p say) ≡ true
unfolding is_header are_delimiters is_delimiter different type_of kind_of may_follow number_of
right_records p say = refl

-- what it says of data may stand in a record
pub said_ordinary : (bs : List ℕ) (at n : ℕ) → all is_datum (part bs at n) ≡ true → all ordinary (saying_of bs at n) ≡ true
said_ordinary bs at n h = escaped_ordinary (trimmed (part bs at n)) (trimmed_keeps ordinary (part bs at n) (data_ordinary (part bs at n) h))

-- the names and numbers of the results
abbrev pub is_capital : ℕ → Bool
is_capital b = between 0x41 0x5a b

pub record Named (k : ℕ) (r : Result) : Type 0 where
  pub number : number_of (numeral k) ≡ k
  pub digits : all is_digit (numeral k) ≡ true
  pub capitals : all is_capital r.name ≡ true

abbrev pub is_named : ℕ → List Result → Bool
is_named k [] = true
is_named k (r ∷ rs) = eqb (number_of (numeral k)) k && (all is_digit (numeral k) && (all is_capital r.name && is_named (k + 1) rs))

pub names : is_named 1 results ≡ true
unfolding number_of
names = refl

pub named : (k : ℕ) (r : Result) (rs : List Result) → is_named k (r ∷ rs) ≡ true → Named k r × (is_named (k + 1) rs ≡ true)
named k r rs h =
    let a = eqb (number_of (numeral k)) k in
    let b = all is_digit (numeral k) in
    let c = all is_capital r.name in
    let d = is_named (k + 1) rs in
    let h₁ : b && (c && d) ≡ true = and_right a (b && (c && d)) h in
    let h₂ : c && d ≡ true = and_right b (c && d) h₁ in
    (record { number = eqb-true (number_of (numeral k)) k (and_left a (b && (c && d)) h); digits = and_left b (c && d) h₁; capitals = and_left c d h₂ }, and_right c d h₂)

-- a test that holds of every byte that passes another
pub all_of : (f g : ℕ → Bool) → ((b : ℕ) → f b ≡ true → g b ≡ true) → (bs : List ℕ) → all f bs ≡ true → all g bs ≡ true
all_of f g h [] e = refl
all_of f g h (b ∷ bs) e = and_both (g b) (all g bs) (h b (and_left (f b) (all f bs) e)) (all_of f g h bs (and_right (f b) (all f bs) e))

-- fields that may stand in a record make one
fielded_ordinary : (f : List ℕ) (gs : List (List ℕ)) → all ordinary f ≡ true → every (all ordinary) gs ≡ true → all ordinary (fielded f gs) ≡ true
unfolding allowed ordinary
fielded_ordinary f [] h k = h
fielded_ordinary f (g ∷ gs) h k =
    all_append ordinary f (standard.field ∷ fielded g gs)
    ∙ and_both (all ordinary f) (all ordinary (fielded g gs)) h
    (fielded_ordinary g gs (and_left (all ordinary g) (every (all ordinary) gs) k) (and_right (all ordinary g) (every (all ordinary) gs) k))

-- a digit and a capital are bytes of data
between_datum : (a e : ℕ) → 0x20 ≤ a → e ≤ 0x7d → (b : ℕ) → between a e b ≡ true → is_datum b ≡ true
between_datum a e low high b h =
    let lo : a ≤ b = leb-true a b (and_left (leb a b) (leb b e) h) in
    let hi : b ≤ e = leb-true b e (and_right (leb a b) (leb b e) h) in
    between_yes 0x20 0x7d b (omega arith) (omega arith)

digits_ordinary : (bs : List ℕ) → all is_digit bs ≡ true → all ordinary bs ≡ true
digits_ordinary bs h = data_ordinary bs (all_of is_digit is_datum (between_datum 0x30 0x39 (omega arith) (omega arith)) bs h)

capitals_ordinary : (bs : List ℕ) → all is_capital bs ≡ true → all ordinary bs ≡ true
capitals_ordinary bs h = data_ordinary bs (all_of is_capital is_datum (between_datum 0x41 0x5a (omega arith) (omega arith)) bs h)

letter_ordinary : all ordinary (letter_of ResultKind ∷ []) ≡ true
unfolding allowed ordinary
letter_ordinary = refl

-- every record of the results, with those behind them
results_ordinary : (bs : List ℕ) (k at : ℕ) (rs : List Result) (ls : List (List ℕ)) → is_named k rs ≡ true → AllStand bs at rs → every (all ordinary) ls ≡ true
    → every (all ordinary) (result_records (saying_of bs) k at rs ++ ls) ≡ true
results_ordinary bs k at [] ls n s h = h
results_ordinary bs k at (r ∷ rs) ls n s h =
    let (head, more) = named k r rs n in
    let said = saying_of bs (at + length r.name) r.value in
    let said_is : all ordinary said ≡ true = said_ordinary bs (at + length r.name) r.value s.0.value in
    let fields : every (all ordinary) (numeral k ∷ r.name ∷ said ∷ []) ≡ true =
    rw (digits_ordinary (numeral k) head.digits, capitals_ordinary r.name head.capitals, said_is) in
    and_both (all ordinary (fielded (letter_of ResultKind ∷ []) (numeral k ∷ r.name ∷ said ∷ [])))
    (every (all ordinary) (result_records (saying_of bs) (k + 1) (behind_it at r) rs ++ ls))
    (fielded_ordinary (letter_of ResultKind ∷ []) (numeral k ∷ r.name ∷ said ∷ []) letter_ordinary fields)
    (results_ordinary bs (k + 1) (behind_it at r) rs ls more s.1 h)

pub records_ordinary : (p : Patient) (bs : List ℕ) → matches (results_block p) bs ≡ true → every (all ordinary) (records_saying p (saying_of bs)) ≡ true
unfolding allowed ordinary
records_ordinary p bs h =
    let b = placed p bs h in
    let patient = said_ordinary bs patient_at (patient_length p) b.patient in
    let sequence = said_ordinary bs (sequence_at p) sequence_length b.sequence in
    rw (patient, sequence) (results_ordinary bs 1 (results_at p) results (last_record ∷ []) names b.stand refl)

-- records that are ordinary: they have no CR, and joined they are allowed
ordinary_no_cr : (rs : List (List ℕ)) → every (all ordinary) rs ≡ true → every (all is_not_cr) rs ≡ true
unfolding ordinary
ordinary_no_cr [] h = refl
ordinary_no_cr (r ∷ rs) h =
    and_both (all is_not_cr r) (every (all is_not_cr) rs)
    (all_of ordinary is_not_cr (λ b e. and_right (allowed b) (is_not_cr b) e) r (and_left (all ordinary r) (every (all ordinary) rs) h))
    (ordinary_no_cr rs (and_right (all ordinary r) (every (all ordinary) rs) h))

joined_allowed : (rs : List (List ℕ)) → every (all ordinary) rs ≡ true → all allowed (joined rs) ≡ true
unfolding ordinary allowed
joined_allowed [] h = refl
joined_allowed (r ∷ rs) h =
    all_append allowed r (cr ∷ joined rs)
    ∙ and_both (all allowed r) (all allowed (joined rs))
    (all_of ordinary allowed (λ b e. and_left (allowed b) (is_not_cr b) e) r (and_left (all ordinary r) (every (all ordinary) rs) h))
    (joined_allowed rs (and_right (all ordinary r) (every (all ordinary) rs) h))

finding_allowed : (p : Patient) (bs : List ℕ) → matches (results_block p) bs ≡ true → all allowed (finding_of p bs) ≡ true
unfolding finding_of
finding_allowed p bs h = joined_allowed (records_saying p (saying_of bs)) (records_ordinary p bs h)

-- the records of a finding, read again
pub finding_records : (p : Patient) (bs : List ℕ) → matches (results_block p) bs ≡ true → records (finding_of p bs) ≡ records_saying p (saying_of bs)
unfolding finding_of
finding_records p bs h = records_joined (records_saying p (saying_of bs)) (ordinary_no_cr (records_saying p (saying_of bs)) (records_ordinary p bs h))

finding_ends : (p : Patient) (bs : List ℕ) → ends_with_cr (finding_of p bs) ≡ true
unfolding finding_of
finding_ends p bs =
    let say = saying_of bs in
    joined_ends (header_record ∷ patient_record p say ∷ order_record p say ∷ result_records say 1 (results_at p) results) last_record

-- a block that is laid out right has a message for its finding
by_standard : (p : Patient) (bs : List ℕ) → matches (results_block p) bs ≡ true → is_message_by standard (finding_of p bs) ≡ true
unfolding is_message_by
by_standard p bs h =
    let sized = between_yes 1 message_limit (length (finding_of p bs)) (finding_some p bs) (omega (arith, finding_short p bs)) in
    rw (sized, finding_allowed p bs h, finding_ends p bs, finding_records p bs h) (right_records p (saying_of bs))

pub layout_message : (p : Patient) (bs : List ℕ) → matches (results_block p) bs ≡ true → is_message (finding_of p bs) ≡ true
layout_message p bs h = standard_stays (finding_of p bs) (by_standard p bs h)

-- and so has every right block
pub finding_message : (p : Patient) (bs : List ℕ) → judged_of p bs ≡ Results → is_message (finding_of p bs) ≡ true
finding_message p bs e = layout_message p bs (results_matches p bs e)
