-- The list of all answers: number, the byte that goes out and values tell the answer, and what a test finds of each in the list it finds of every answer; and what holds of every objection's number.
-- Assumes nothing.
use Rattle.std.specs.Prelude.{None, Option, Some, ℕ}
use mathlib.Core.Path.{◌≡◌, refl, sym, ap, ap₂, subst, ◌∙◌}
use mathlib.Core.Logic.{◌≢◌}
use mathlib.Core.Bool.{Bool, true, false, not, cond, ◌&&◌, ◌||◌}
use mathlib.Core.List.{List, [], ◌∷◌}
use Prim.Native.Nat.{ℕ, ◌+◌, ◌*◌, ◌≤◌}
use native.Mathlib.Omega.{arith}
use borrow.Author.Tests.{leb-true, eqb-true, le-ltb, le-leb, lt-leb, ne_eqb}
use lib.Dec.{T, leb, eqb}
use lib.ListN.{get_or}
use mir.Val.{has_key}
use types.Run.{OneOf, miss}
use denote.Enum.Declared.{tag_of}
use Rattle.memory.specs.Tests.{between, is_one_of}
use Rattle.memory.proofs.Tests.{clash, and_left, and_right, never_both}
use Rattle.answers.specs.Paper.{fault_number, is_faulty, number_of, values_of, place_of, nak, reply_of, first_out}
use Rattle.answers.specs.InNumbers.{reply_byte}
use Rattle.answers.specs.Inner.Objections.{is_objection}
use Rattle.answers.specs.declared.Answer.{Answer}
use Rattle.answers.specs.contracts.Answer.{the_type}
use Rattle.answers.specs.declared.Parcel.TheVariants.{Empty, Enquiry, Ending, Frame}
use Rattle.answers.specs.declared.Fault.{Fault}
use Rattle.answers.specs.declared.Fault.TheVariants.{NoHeader, UnknownType, Misplaced, Misnumbered, NoFinalCr, BadDelimiters}
use Rattle.answers.specs.declared.Answer.TheVariants.{Nothing, Opened, Accepted, Repeated, Stored, Ended, Dropped, TimedOut, Taken, Sends, Busy, Unended, Torn, WrongCheck, BadText, BadNumber, Refusing, OutOfTurn, TooLong, NoCr, NoMessage, NoRoom, NoLine, WrongSize, BeyondLimits, Broken, NothingWaiting, BufferShort, Malformed, NotFitting, Faulty, Unsendable, NotNeutral, GivenUp, Filed, Heard, Noted, Crowded, OddLength, OddTest, OddByte}

-- all answers: those that carry values carry these
abbrev pub answers : List ℕ → List Answer
answers vs =
    Nothing
    ∷ Opened
    ∷ Accepted
    ∷ Repeated
    ∷ Stored
    ∷ Ended
    ∷ Dropped
    ∷ TimedOut
    ∷ Taken (get_or vs 0 0) (get_or vs 1 0)
    ∷ Sends Empty
    ∷ Sends Enquiry
    ∷ Sends Ending
    ∷ Sends Frame
    ∷ Busy
    ∷ Unended
    ∷ Torn
    ∷ WrongCheck
    ∷ BadText
    ∷ BadNumber
    ∷ Refusing
    ∷ OutOfTurn
    ∷ TooLong
    ∷ NoCr
    ∷ NoMessage
    ∷ NoRoom
    ∷ NoLine
    ∷ WrongSize
    ∷ BeyondLimits
    ∷ Broken
    ∷ NothingWaiting
    ∷ BufferShort
    ∷ Malformed
    ∷ NotFitting
    ∷ Faulty NoHeader (get_or vs 0 0)
    ∷ Faulty UnknownType (get_or vs 0 0)
    ∷ Faulty Misplaced (get_or vs 0 0)
    ∷ Faulty Misnumbered (get_or vs 0 0)
    ∷ Faulty NoFinalCr (get_or vs 0 0)
    ∷ Faulty BadDelimiters (get_or vs 0 0)
    ∷ Unsendable NoHeader (get_or vs 0 0)
    ∷ Unsendable UnknownType (get_or vs 0 0)
    ∷ Unsendable Misplaced (get_or vs 0 0)
    ∷ Unsendable Misnumbered (get_or vs 0 0)
    ∷ Unsendable NoFinalCr (get_or vs 0 0)
    ∷ Unsendable BadDelimiters (get_or vs 0 0)
    ∷ NotNeutral
    ∷ GivenUp
    ∷ Filed
    ∷ Heard
    ∷ Noted
    ∷ Crowded
    ∷ OddLength
    ∷ OddTest
    ∷ OddByte
    ∷ []

-- number and the byte that goes out, in one: 0 for no byte
abbrev key_of : Answer → ℕ
key_of a = number_of a + 256 * reply_byte (first_out a)

-- the first of a list with this key
first : ℕ → List Answer → Option Answer
first n [] = None
first n (a ∷ more) = cond (eqb (key_of a) n) (Some a) (first n more)

listed : (a : Answer) → first (key_of a) (answers (values_of a)) ≡ Some a
unfolding first reply_of
listed Nothing = refl
listed Opened = refl
listed Accepted = refl
listed Repeated = refl
listed Stored = refl
listed Ended = refl
listed Dropped = refl
listed TimedOut = refl
listed (Taken length serial) = refl
listed (Sends Empty) = refl
listed (Sends Enquiry) = refl
listed (Sends Ending) = refl
listed (Sends Frame) = refl
listed Busy = refl
listed Unended = refl
listed Torn = refl
listed WrongCheck = refl
listed BadText = refl
listed BadNumber = refl
listed Refusing = refl
listed OutOfTurn = refl
listed TooLong = refl
listed NoCr = refl
listed NoMessage = refl
listed NoRoom = refl
listed NoLine = refl
listed WrongSize = refl
listed BeyondLimits = refl
listed Broken = refl
listed NothingWaiting = refl
listed BufferShort = refl
listed Malformed = refl
listed NotFitting = refl
listed (Faulty NoHeader place) = refl
listed (Faulty UnknownType place) = refl
listed (Faulty Misplaced place) = refl
listed (Faulty Misnumbered place) = refl
listed (Faulty NoFinalCr place) = refl
listed (Faulty BadDelimiters place) = refl
listed (Unsendable NoHeader place) = refl
listed (Unsendable UnknownType place) = refl
listed (Unsendable Misplaced place) = refl
listed (Unsendable Misnumbered place) = refl
listed (Unsendable NoFinalCr place) = refl
listed (Unsendable BadDelimiters place) = refl
listed NotNeutral = refl
listed GivenUp = refl
listed Filed = refl
listed Heard = refl
listed Noted = refl
listed Crowded = refl
listed OddLength = refl
listed OddTest = refl
listed OddByte = refl

-- each answer of a list passes a test
abbrev pub passes : (Answer → Bool) → List Answer → Bool
passes test [] = true
passes test (a ∷ more) = test a && passes test more

found : (test : Answer → Bool) (a : Answer) (n : ℕ) (list : List Answer) → passes test list ≡ true → first n list ≡ Some a → test a ≡ true
unfolding first
found test a n [] p q = clash cc
found test a n (b ∷ more) p q = by_number (eqb (key_of b) n) q (found test a n more (and_right (test b) (passes test more) p))
  where
    by_number : (t : Bool) → cond t (Some b) (first n more) ≡ Some a → (first n more ≡ Some a → test a ≡ true) → test a ≡ true
    by_number true e later =
        let same : b ≡ a = cc e in
        ap test (sym same) ∙ and_left (test b) (passes test more) p
    by_number false e later = later e

-- a test that each answer of the list passes, whatever values stand in it, every answer passes
pub every_answer : (test : Answer → Bool) → ((vs : List ℕ) → passes test (answers vs) ≡ true) → (a : Answer) → test a ≡ true
every_answer test h a = found test a (key_of a) (answers (values_of a)) (h (values_of a)) (listed a)

-- a test that only answers of one sort pass, no other answer passes
pub every_but : (sort test : Answer → Bool) → ((vs : List ℕ) → passes (λ a. sort a || not (test a)) (answers vs) ≡ true) → (a : Answer) → sort a ≡ false → test a ≡ false
every_but sort test h a other = by_sort (sort a) (test a) (every_answer (λ b. sort b || not (test b)) h a) other
  where
    by_sort : (s t : Bool) → s || not t ≡ true → s ≡ false → t ≡ false
    by_sort false false p q = refl
    by_sort false true p q = clash cc
    by_sort true t p q = clash cc

-- no two answers share number, the byte that goes out and values
pub paper_injective : (a b : Answer) → number_of a ≡ number_of b → reply_byte (first_out a) ≡ reply_byte (first_out b) → values_of a ≡ values_of b → a ≡ b
paper_injective a b n o v =
    let key : key_of a ≡ key_of b = ap₂ (λ (m : ℕ) (r : ℕ). m + 256 * r) n o in
    let same : Some a ≡ Some b = sym (listed a) ∙ ap₂ (λ (m : ℕ) (vs : List ℕ). first m (answers vs)) key v ∙ listed b in
    cc same

-- a fault has the number of one, and its place
pub fault_number_law : (f : Fault) → is_faulty (fault_number f) ≡ true
fault_number_law NoHeader = refl
fault_number_law UnknownType = refl
fault_number_law Misplaced = refl
fault_number_law Misnumbered = refl
fault_number_law NoFinalCr = refl
fault_number_law BadDelimiters = refl

-- and no other: so it is told from every answer that is none, and each fault from the others
pub fault_other : (f : Fault) (n : ℕ) → is_faulty n ≡ false → fault_number f ≢ n
fault_other f n plain e = never_both (is_faulty n) (ap is_faulty (sym e) ∙ fault_number_law f) plain

pub fault_injective : (f g : Fault) → fault_number f ≡ fault_number g → f ≡ g
fault_injective f g e =
    let same : Faulty f 0 ≡ Faulty g 0 = paper_injective (Faulty f 0) (Faulty g 0) e (ap (λ (n : ℕ). reply_byte (reply_of n)) e) refl in
    cc same

pub faulty_place : (f : Fault) (place : ℕ) → place_of (Faulty f place) ≡ place
faulty_place f place = rw (fault_number_law f)

pub unsendable_place : (f : Fault) (place : ℕ) → place_of (Unsendable f place) ≡ place
unsendable_place f place = rw (fault_number_law f)

-- which of the variants of `Answer` it is, counted from 0
abbrev sends_tag : ℕ
sends_tag = 9

abbrev faulty_tag : ℕ
faulty_tag = 30

abbrev unsendable_tag : ℕ
unsendable_tag = 31

abbrev placed : List ℕ
placed = faulty_tag ∷ unsendable_tag ∷ []

abbrev told : Answer → Bool
told a = not (is_faulty (number_of a)) || is_one_of placed (tag_of the_type a)

abbrev others : List ℕ
others = 0 ∷ 1 ∷ 2 ∷ 3 ∷ 4 ∷ 5 ∷ 6 ∷ 7 ∷ 8 ∷ 9 ∷ 10 ∷ 11 ∷ 12 ∷ 13 ∷ 14 ∷ 15 ∷ 16 ∷ 17 ∷ 18 ∷ 19 ∷ 20 ∷ 21 ∷ 22 ∷ 23 ∷ 24 ∷ 25 ∷ 26 ∷ 27 ∷ 28 ∷ 29 ∷ 32 ∷ 33 ∷ 34 ∷ 35 ∷ 36 ∷ 37 ∷ 38 ∷ 39 ∷ 40 ∷ []

-- none of these is in the list
abbrev NoneIn : List ℕ → List ℕ → Type 0
NoneIn list [] = Unit {0}
NoneIn list (x ∷ xs) = T (not (has_key list x)) × NoneIn list xs

-- a variant that is one of these is not among others
apart : (list xs : List ℕ) (tag : ℕ) → NoneIn list xs → is_one_of xs tag ≡ true → OneOf list tag → ⊥
apart list [] tag free e one = clash cc
apart list (x ∷ xs) tag free e one = by_first (eqb tag x) refl (λ later. apart list xs tag free.1 later one)
  where
    by_first : (b : Bool) → eqb tag x ≡ b → (is_one_of xs tag ≡ true → ⊥) → ⊥
    by_first true q more = miss list x free.0 (subst (OneOf list) (eqb-true tag x q) one)
    by_first false q more = more (rw q at e)

-- an answer that is another variant has no place
pub no_place : (a : Answer) → OneOf others (tag_of the_type a) → 0 ≡ place_of a
no_place a one = by_number (is_faulty (number_of a)) refl (every_answer told (λ vs. refl) a)
  where
    by_number : (b : Bool) → is_faulty (number_of a) ≡ b → told a ≡ true → 0 ≡ place_of a
    by_number true e h = absurd (apart others placed (tag_of the_type a) (tt, (tt, tt)) (rw e at h) one)
    by_number false e h = rw e

-- with an answer to a byte or seconds that sends no parcel the byte of its number goes out
abbrev received : List ℕ
received = 0 ∷ 1 ∷ 2 ∷ 3 ∷ 4 ∷ 5 ∷ 6 ∷ 7 ∷ 8 ∷ 10 ∷ 11 ∷ 12 ∷ 13 ∷ 14 ∷ 15 ∷ 16 ∷ 17 ∷ 18 ∷ 19 ∷ 20 ∷ 21 ∷ 22 ∷ 23 ∷ 24 ∷ 25 ∷ 26 ∷ 27 ∷ 28 ∷ 29 ∷ 30 ∷ 32 ∷ 33 ∷ 36 ∷ []

-- the others: a parcel's, a text's that is not sent, and those of a strip reader's line that have a block for a reply, or none
abbrev otherwise : List ℕ
otherwise = sends_tag ∷ unsendable_tag ∷ 34 ∷ 35 ∷ 37 ∷ 38 ∷ 39 ∷ 40 ∷ []

abbrev same : Option ℕ → Option ℕ → Bool
same None None = true
same None (Some b) = false
same (Some b) None = false
same (Some b) (Some c) = eqb b c

same_is : (r q : Option ℕ) → same r q ≡ true → r ≡ q
same_is None None e = refl
same_is None (Some b) e = clash cc
same_is (Some b) None e = clash cc
same_is (Some b) (Some c) e = ap Some (eqb-true b c e)

abbrev replies : Answer → Bool
replies a = is_one_of otherwise (tag_of the_type a) || same (first_out a) (reply_of (number_of a))

all_reply : (vs : List ℕ) → passes replies (answers vs) ≡ true
unfolding reply_of
all_reply vs = refl

pub out_by_number : (a : Answer) → OneOf received (tag_of the_type a) → reply_of (number_of a) ≡ first_out a
out_by_number a one = by_tag (is_one_of otherwise (tag_of the_type a)) refl (every_answer replies all_reply a)
  where
    by_tag : (b : Bool) → is_one_of otherwise (tag_of the_type a) ≡ b → replies a ≡ true → reply_of (number_of a) ≡ first_out a
    by_tag true e h = absurd (apart received otherwise (tag_of the_type a) (tt, (tt, (tt, (tt, (tt, (tt, (tt, (tt, tt)))))))) e one)
    by_tag false e h = sym (same_is (first_out a) (reply_of (number_of a)) (rw e at h))

-- an objection gets NAK; it is not 4, which stores, nor 31, which is for want of room, nor 41 to 43, which tell of memory, a record or a journal
pub record Objects (n : ℕ) : Type 0 where
  pub refused : reply_of n ≡ Some nak
  pub not_4 : eqb n 4 ≡ false
  pub not_31 : eqb n 31 ≡ false
  pub no_damage : between 41 43 n ≡ false

-- a fault does
faulty_objects : (n : ℕ) → is_faulty n ≡ true → Objects n
unfolding reply_of
faulty_objects n e =
    let low : 50 ≤ n = leb-true 50 n (and_left (leb 50 n) (leb n 55) e) in
    record {
      refused = rw (le-ltb n 1 (omega (arith, low)), lt-leb n 4 (omega (arith, low)), le-ltb n 20 (omega (arith, low)), lt-leb n 31 (omega (arith, low)), e);
      not_4 = ne_eqb n 4 (λ q. absurd (omega (arith, low, q)));
      not_31 = ne_eqb n 31 (λ q. absurd (omega (arith, low, q)));
      no_damage = rw (le-leb 41 n (omega (arith, low)), lt-leb n 43 (omega (arith, low)));
    }

pub objection_objects : (n : ℕ) → is_objection n ≡ true → Objects n
unfolding reply_of
objection_objects n e = by_number (is_faulty n) refl
  where
    by_number : (b : Bool) → is_faulty n ≡ b → Objects n
    by_number true q = faulty_objects n q
    by_number false q = subst Objects (sym (eqb-true n 30 (rw q at e))) (record { refused = refl; not_4 = refl; not_31 = refl; no_damage = refl })
