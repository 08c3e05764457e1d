-- What the first fault of a text tells: it stands at one of the text's records, it is no missing CR where the text ends with one,
-- and only a text that is too long or has a byte that is not allowed has no records to look at.
-- Assumes nothing.
use Rattle.std.specs.Prelude.{Err, None, Ok, Option, Result, Some}
use Rattle.kinds.specs.declared.Kind.{Kind}
use Rattle.faults.specs.declared.Flaw.TheVariants.{Faulty, NotText}
use Rattle.faults.specs.declared.Flaw.{Flaw}
use mathlib.Core.Path.{◌≡◌, refl, sym, ap, subst, ◌∙◌}
use mathlib.Core.Logic.{◌≢◌}
use mathlib.Core.Bool.{Bool, true, false, cond, ◌&&◌}
use mathlib.Core.List.{List, [], ◌∷◌}
use Prim.Native.Nat.{ℕ, suc, ◌+◌, ◌<◌, ◌≤◌}
use native.Mathlib.Omega.{arith}
use lib.Dec.{leb, eqb}
use lib.ListN.{length}
use borrow.Author.Tests.{le-leb, lt-leb, eqb-true, eqb-false}
use Rattle.memory.specs.Sizes.{message_limit}
use Rattle.memory.specs.Tests.{unless, all}
use Rattle.memory.proofs.Tests.{clash, and_both, never_both}
use Rattle.characters.specs.Allowed.{allowed}
use Rattle.kinds.specs.Kinds.{may_follow}
use Rattle.kinds.specs.Header.{is_header}
use Rattle.kinds.specs.Delimiters.{are_delimiters}
use Rattle.records.specs.Records.{records, none, ends_with_cr}
use Rattle.records.proofs.Scans.{records_cons}
use Rattle.sequence.specs.Numbers.{started, count_of, counted}
use Rattle.faults.specs.Message.{type_in, number_in, is_message_by}
use Rattle.faults.specs.Faults.{placed, kind_step, record_step, header_step, after, rest_fault, records_fault, fault, is_faultless}
use Rattle.kinds.specs.declared.Delimiters.{Delimiters}
use Rattle.sequence.specs.declared.Counts.{Counts}
use Rattle.answers.specs.declared.Fault.{Fault}
use Rattle.answers.specs.declared.Fault.TheVariants.{NoHeader, Misplaced, Misnumbered, NoFinalCr, BadDelimiters}
use Rattle.faults.proofs.NoFault.{no_fault}

-- ---- the records, front to back

-- what stops at a record is no missing CR
abbrev Stops : Result Counts Fault → Type 0
Stops (Ok s) = Unit {0}
Stops (Err f) = f ≢ NoFinalCr

kind_stops : (s : Counts) (last : Bool) (l : Option Kind) (n : ℕ) → Stops (kind_step s last l n)
unfolding kind_step
kind_stops s last None n = λ e. clash (cc e)
kind_stops s last (Some k) n = by_tests (may_follow s.other k && placed last k) (eqb n (count_of s k + 1))
  where
    by_tests : (a b : Bool) → Stops (unless a (Err Misplaced) (unless b (Err Misnumbered) (Ok (counted s k n))))
    by_tests true true = tt
    by_tests true false = λ e. clash (cc e)
    by_tests false b = λ e. clash (cc e)

record_stops : (d : Delimiters) (s : Counts) (last : Bool) (r : List ℕ) → Stops (record_step d s last r)
unfolding record_step
record_stops d s last r = kind_stops s last (type_in d r) (number_in d r)

header_stops : (d : Delimiters) (last : Bool) (r : List ℕ) → Stops (header_step d last r)
unfolding header_step
header_stops d last r = by_tests (is_header d r) (are_delimiters d) last
  where
    by_tests : (a b c : Bool) → Stops (unless a (Err NoHeader) (unless b (Err BadDelimiters) (cond c (Err Misplaced) (Ok started))))
    by_tests true true true = λ e. clash (cc e)
    by_tests true true false = tt
    by_tests true false c = λ e. clash (cc e)
    by_tests false b c = λ e. clash (cc e)

-- a fault stands at one of n records, the first of them at this place
abbrev Among : ℕ → ℕ → Result (Unit {0}) Flaw → Type 0
Among place n (Ok tt) = Unit {0}
Among place n (Err NotText) = ⊥
Among place n (Err (Faulty f p)) = (place ≤ p) × (p < place + n) × (f ≢ NoFinalCr)

further : (place n : ℕ) (x : Result (Unit {0}) Flaw) → Among (place + 1) n x → Among place (suc n) x
further place n (Ok tt) h = tt
further place n (Err NotText) h = h
further place n (Err (Faulty f p)) h = let (first, last, other) = h in (omega arith, omega arith, other)

step_among : (place n : ℕ) (t : Result Counts Fault) (go : Counts → Result (Unit {0}) Flaw) → Stops t → ((s : Counts) → Among (place + 1) n (go s)) → Among place (suc n) (after t place go)
step_among place n (Ok s) go h rest = further place n (go s) (rest s)
step_among place n (Err f) go h rest = (omega arith, omega arith, h)

rest_among : (d : Delimiters) (s : Counts) (place : ℕ) (rs : List (List ℕ)) → Among place (length rs) (rest_fault d s place rs)
rest_among d s place [] = tt
rest_among d s place (r ∷ rs) =
    step_among place (length rs) (record_step d s (none rs) r) (λ t. rest_fault d t (place + 1) rs) (record_stops d s (none rs) r) (λ t. rest_among d t (place + 1) rs)

records_among : (d : Delimiters) (rs : List (List ℕ)) → 0 < length rs → Among 1 (length rs) (records_fault d rs)
unfolding records_fault
records_among d [] h = absurd (omega arith)
records_among d (r ∷ rs) h =
    step_among 1 (length rs) (header_step d (none rs) r) (λ t. rest_fault d t 2 rs) (header_stops d (none rs) r) (λ t. rest_among d t 2 rs)

-- ---- a text

-- a text that is not empty has a record
has_records : (text : List ℕ) → 0 < length text → 0 < length (records text)
has_records text h = let z = ap length (records_cons text h) in omega (arith, z)

abbrev is_clean : List ℕ → Bool
is_clean text = leb (length text) message_limit && all allowed text

-- what is known of a text by its first fault
record Told (text : List ℕ) (f : Fault) (p : ℕ) : Type 0 where
  first : 1 ≤ p
  last : 0 < length text → p ≤ length (records text)
  ended : ends_with_cr text ≡ true → f ≢ NoFinalCr

abbrev Tells : List ℕ → Result (Unit {0}) Flaw → Type 0
Tells text (Ok tt) = Unit {0}
Tells text (Err NotText) = is_clean text ≡ false
Tells text (Err (Faulty f p)) = Told text f p

tells : (d : Delimiters) (text : List ℕ) → Tells text (fault d text)
unfolding fault
tells d text = by_clean (is_clean text) refl
  where
    by_records : (x : Result (Unit {0}) Flaw) → Among 1 (length (records text)) x → Tells text x
    by_records (Ok tt) h = tt
    by_records (Err NotText) h = absurd h
    by_records (Err (Faulty f p)) h = let (from, below, other) = h in record { first = from; last = λ _. omega arith; ended = λ _. other }

    by_ended : (b : Bool) → 0 < length text → ends_with_cr text ≡ b → Tells text (unless b (Err (Faulty NoFinalCr (length (records text)))) (records_fault d (records text)))
    by_ended true some e = by_records (records_fault d (records text)) (records_among d (records text) (has_records text some))
    by_ended false some e = record { first = has_records text some; last = λ _. omega arith; ended = λ c. never_both (ends_with_cr text) c e }

    by_empty : (b : Bool) → eqb (length text) 0 ≡ b
        → Tells text (cond b (Err (Faulty NoHeader 1)) (unless (ends_with_cr text) (Err (Faulty NoFinalCr (length (records text)))) (records_fault d (records text))))
    by_empty true e = record { first = omega arith; last = λ some. absurd (omega (arith, eqb-true (length text) 0 e)); ended = λ _ q. clash (cc q) }
    by_empty false e = by_ended (ends_with_cr text) (omega (arith, eqb-false (length text) 0 e)) refl

    by_clean : (b : Bool) → is_clean text ≡ b
        → Tells text (unless b (Err NotText) (cond (eqb (length text) 0) (Err (Faulty NoHeader 1)) (unless (ends_with_cr text) (Err (Faulty NoFinalCr (length (records text)))) (records_fault d (records text)))))
    by_clean true e = by_empty (eqb (length text) 0) refl
    by_clean false e = e

module _ (d : Delimiters) where
  -- an empty text has no record: its fault is that of a missing header, and stands at 1
  pub empty_fault : fault d [] ≡ Err (Faulty NoHeader 1)
  unfolding fault
  empty_fault = refl

  module _ (text : List ℕ) where
    -- places are counted from 1, and the fault of any other text stands at one of its records
    pub fault_first : (f : Fault) (p : ℕ) → fault d text ≡ Err (Faulty f p) → 1 ≤ p
    fault_first f p e = (subst (Tells text) e (tells d text)).first

    pub fault_place : (f : Fault) (p : ℕ) → 0 < length text → fault d text ≡ Err (Faulty f p) → (1 ≤ p) × (p ≤ length (records text))
    fault_place f p some e = (fault_first f p e, (subst (Tells text) e (tells d text)).last some)

    -- a text that ends with CR does not lack it (54)
    pub fault_ended : (p : ℕ) → ends_with_cr text ≡ true → fault d text ≢ Err (Faulty NoFinalCr p)
    fault_ended p h e = (subst (Tells text) e (tells d text)).ended h refl

    -- it is no text exactly where it is too long or has a byte that is not allowed
    pub fault_not_text : fault d text ≡ Err NotText → leb (length text) message_limit && all allowed text ≡ false
    fault_not_text e = subst (Tells text) e (tells d text)

    pub not_text_fault : leb (length text) message_limit && all allowed text ≡ false → fault d text ≡ Err NotText
    unfolding fault
    not_text_fault h = rw h

    pub fault_clean : length text ≤ message_limit → all allowed text ≡ true → fault d text ≢ Err NotText
    fault_clean short clean e =
        never_both (is_clean text) (and_both (leb (length text) message_limit) (all allowed text) (le-leb (length text) message_limit short) clean) (fault_not_text e)

    pub fault_too_long : message_limit < length text → fault d text ≡ Err NotText
    fault_too_long h = not_text_fault (rw (lt-leb (length text) message_limit h))

    -- and it has no fault exactly where it is a message
    pub fault_none : fault d text ≡ Ok tt → is_message_by d text ≡ true
    fault_none e = no_fault d text ∙ ap is_faultless e

    pub message_fault : is_message_by d text ≡ true → fault d text ≡ Ok tt
    message_fault m = by_case (fault d text) (sym (no_fault d text) ∙ m)
      where
        by_case : (x : Result (Unit {0}) Flaw) → is_faultless x ≡ true → x ≡ Ok tt
        by_case (Ok tt) e = refl
        by_case (Err NotText) e = clash cc
        by_case (Err (Faulty f p)) e = clash cc

  -- so a text within the limit and of allowed bytes that is no message has a fault with a place
  pub record HasFault (text : List ℕ) : Type 0 where
    pub kind : Fault
    pub place : ℕ
    pub found : fault d text ≡ Err (Faulty kind place)

  pub has_fault : (text : List ℕ) → length text ≤ message_limit → all allowed text ≡ true → is_message_by d text ≡ false → HasFault text
  has_fault text short clean m = by_case (fault d text) refl
    where
      by_case : (x : Result (Unit {0}) Flaw) → fault d text ≡ x → HasFault text
      by_case (Ok tt) e = never_both (is_message_by d text) (fault_none text e) m
      by_case (Err NotText) e = absurd (fault_clean text short clean e)
      by_case (Err (Faulty f p)) e = record { kind = f; place = p; found = e }
