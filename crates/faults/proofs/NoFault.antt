-- A text is a message exactly if the search for its first fault finds none.
-- Assumes nothing.
use Rattle.std.specs.Prelude.{Err, None, Ok, Option, Result, Some}
use Rattle.kinds.specs.declared.Kind.{Kind}
use Rattle.faults.specs.declared.Flaw.TheVariants.{Faulty, NotText}
use Rattle.faults.specs.declared.Flaw.{Flaw}
use mathlib.Core.Path.{◌≡◌, refl, ap, ◌∙◌}
use mathlib.Core.Bool.{Bool, true, false, not, cond, ◌&&◌}
use mathlib.Core.List.{List, [], ◌∷◌}
use Prim.Native.Nat.{ℕ, ◌+◌}
use native.Mathlib.Omega.{arith}
use native.Mathlib.Decide.{dec_lt}
use lib.Dec.{leb, eqb}
use lib.ListN.{length}
use borrow.Author.Tests.{le-leb, lt-leb, eq-eqb, ne_eqb}
use Rattle.memory.specs.Sizes.{message_limit}
use Rattle.memory.specs.Tests.{unless, all}
use Rattle.characters.specs.Allowed.{allowed}
use Rattle.kinds.specs.Kinds.{may_follow, is_terminator}
use Rattle.kinds.specs.Header.{is_header}
use Rattle.kinds.specs.Delimiters.{are_delimiters}
use Rattle.records.specs.Records.{records, ends_with_cr}
use Rattle.sequence.specs.Numbers.{started, count_of, counted}
use Rattle.faults.specs.Message.{type_in, number_in, is_next, next_counts, are_next, are_records, is_message_by}
use Rattle.faults.specs.Inner.Next.{comes, counts_behind}
use Rattle.faults.specs.Faults.{kind_step, record_step, header_step, after, rest_fault, records_fault, fault, is_faultless}
use Rattle.kinds.specs.declared.Delimiters.{Delimiters}
use Rattle.sequence.specs.declared.Counts.{Counts}
use Rattle.answers.specs.declared.Fault.{Fault}
use Rattle.answers.specs.declared.Fault.TheVariants.{NoHeader, Misplaced, Misnumbered, NoFinalCr, BadDelimiters}
use Rattle.faults.proofs.Messages.{l_behind}

-- a record that others follow has no fault exactly if it may come next
one_right : (s : Counts) (l : Option Kind) (n place : ℕ) (go : Counts → Result (Unit {0}) Flaw)
    → is_faultless (after (kind_step s false l n) place go) ≡ is_next s l n && is_faultless (go (next_counts s l n))
unfolding kind_step
one_right s None n place go = refl
one_right s (Some k) n place go = by_tests (may_follow s.other k) (eqb n (count_of s k + 1))
  where
    by_tests : (a e : Bool) → is_faultless (after (unless (a && true) (Err Misplaced) (unless e (Err Misnumbered) (Ok (counted s k n)))) place go)
        ≡ a && e && is_faultless (go (counted s k n))
    by_tests true true = refl
    by_tests true false = refl
    by_tests false e = refl

-- and the last one if it is L too, which the last other record tells behind it
last_right : (s : Counts) (l : Option Kind) (n place : ℕ)
    → is_faultless (after (kind_step s true l n) place (λ t. Ok tt)) ≡ is_next s l n && is_terminator (next_counts s l n).other
unfolding kind_step
last_right s None n place = refl
last_right s (Some k) n place = by_tests (may_follow s.other k) (eqb n (count_of s k + 1)) refl
  where
    by_kind : (b e : Bool) → is_faultless (after (unless b (Err Misplaced) (unless e (Err Misnumbered) (Ok (counted s k n)))) place (λ t. Ok tt)) ≡ e && b
    by_kind true true = refl
    by_kind true false = refl
    by_kind false true = refl
    by_kind false false = refl

    by_tests : (a e : Bool) → may_follow s.other k ≡ a
        → is_faultless (after (unless (a && is_terminator k) (Err Misplaced) (unless e (Err Misnumbered) (Ok (counted s k n)))) place (λ t. Ok tt))
        ≡ a && e && is_terminator (counted s k n).other
    by_tests true e h = rw (l_behind s k n h) (by_kind (is_terminator k) e)
    by_tests false e h = refl

rest_right : (d : Delimiters) (s : Counts) (place : ℕ) (r : List ℕ) (rs : List (List ℕ)) → is_faultless (rest_fault d s place (r ∷ rs)) ≡ are_next d s (r ∷ rs)
unfolding record_step
rest_right d s place r [] = last_right s (type_in d r) (number_in d r) place
rest_right d s place r (q ∷ rs) =
    one_right s (type_in d r) (number_in d r) place (λ t. rest_fault d t (place + 1) (q ∷ rs))
    ∙ ap (λ (b : Bool). comes d s r && b) (rest_right d (counts_behind d s r) (place + 1) q rs)

records_right : (d : Delimiters) (rs : List (List ℕ)) → is_faultless (records_fault d rs) ≡ are_records d rs
unfolding records_fault header_step
records_right d [] = refl
records_right d (r ∷ []) = by_tests (is_header d r) (are_delimiters d)
  where
    by_tests : (b c : Bool) → is_faultless (after (unless b (Err NoHeader) (unless c (Err BadDelimiters) (Err Misplaced))) 1 (λ t. Ok tt)) ≡ b && c && false
    by_tests true true = refl
    by_tests true false = refl
    by_tests false c = refl
records_right d (r ∷ q ∷ rs) = by_tests (is_header d r) (are_delimiters d) (rest_right d started 2 q rs)
  where
    by_tests : (b c : Bool) → is_faultless (rest_fault d started 2 (q ∷ rs)) ≡ are_next d started (q ∷ rs)
        → is_faultless (after (unless b (Err NoHeader) (unless c (Err BadDelimiters) (Ok started))) 1 (λ t. rest_fault d t 2 (q ∷ rs))) ≡ b && c && are_next d started (q ∷ rs)
    by_tests true true e = e
    by_tests true false e = refl
    by_tests false c e = refl

empty : (n : ℕ) → eqb n 0 ≡ not (leb 1 n)
empty n =
    elim (dec_lt 0 n) [
      | yes some ↦ rw (ne_eqb n 0 (λ e. omega arith), le-leb 1 n (omega arith))
      | no none ↦ rw (eq-eqb n 0 (omega arith), lt-leb 1 n (omega arith))
    ]

pub no_fault : (d : Delimiters) (text : List ℕ) → is_message_by d text ≡ is_faultless (fault d text)
unfolding is_message_by fault
no_fault d text =
    rw (← records_right d (records text), empty (length text))
    (by_tests (leb 1 (length text)) (leb (length text) message_limit) (all allowed text) (ends_with_cr text) NoHeader NoFinalCr 1 (length (records text)) (records_fault d (records text)))
  where
    by_tests : (m l c e : Bool) (f g : Fault) (n k : ℕ) (x : Result (Unit {0}) Flaw)
        → m && l && c && e && is_faultless x ≡ is_faultless (unless (l && c) (Err NotText) (cond (not m) (Err (Faulty f n)) (unless e (Err (Faulty g k)) x)))
    by_tests true true true true f g n k x = refl
    by_tests true true true false f g n k x = refl
    by_tests true true false e f g n k x = refl
    by_tests true false c e f g n k x = refl
    by_tests false true true e f g n k x = refl
    by_tests false true false e f g n k x = refl
    by_tests false false c e f g n k x = refl
