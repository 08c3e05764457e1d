-- What is known of a message: its length, its bytes, its last byte, how many records it has, and that exactly its last record begins with L.
-- Assumes nothing.
use Rattle.std.specs.Prelude.{None, Option, Some}
use mathlib.Core.Path.{◌≡◌, refl, ap, sym, ◌∙◌}
use mathlib.Core.Bool.{true, false, ◌&&◌}
use mathlib.Core.List.{List, [], ◌∷◌, ◌++◌}
use Prim.Native.Nat.{ℕ, ◌+◌, ◌*◌, ◌<◌, ◌≤◌}
use native.Mathlib.Omega.{arith}
use native.Mathlib.Decide.{dec_lt}
use lib.Dec.{leb, eqb}
use lib.ListN.{length, get_or, length-append, length-drop}
use borrow.Author.Tests.{leb-true, eqb-true}
use Rattle.memory.specs.Sizes.{message_limit, records_limit}
use Rattle.memory.specs.Tests.{is, find, all}
use Rattle.memory.proofs.Tests.{clash, and_left, and_right, never_both, find_le}
use Rattle.characters.specs.Control.{cr}
use Rattle.characters.specs.Allowed.{allowed}
use Rattle.kinds.specs.Kinds.{letter_of, kind_of, may_follow, is_terminator}
use Rattle.kinds.specs.Header.{is_header}
use Rattle.kinds.specs.Delimiters.{are_delimiters}
use Rattle.records.specs.Fields.{before, behind}
use Rattle.records.specs.Records.{records, joined, none, is_not_cr, ends_with_cr, begins_with_l, ends_with_l}
use Rattle.sequence.specs.Numbers.{number_of, started, count_of, counted}
use Rattle.faults.specs.Message.{type_in, number_in, is_next, are_next, are_records, is_message_by, is_message}
use Rattle.faults.specs.Inner.Next.{comes, counts_behind}
use Rattle.kinds.specs.declared.Delimiters.{Delimiters}
use Rattle.sequence.specs.declared.Counts.{Counts}
use Rattle.kinds.specs.declared.Kind.{Kind}
use Rattle.kinds.specs.declared.Kind.TheVariants.{Header, Patient, Order, Result, Query, Terminator, Comment, Manufacturer}
use Rattle.kinds.proofs.Following.{h_first, not_behind_l}
use Rattle.kinds.proofs.Naming.{letter, l_names}
use Rattle.sequence.proofs.Decimal.{number_none}
use Rattle.records.proofs.Scans.{before_length, before_first}
use Rattle.records.proofs.Joined.{every_at, no_cr, joined_records, joined_begins}

-- what the tests of a message passed
pub record Sound (d : Delimiters) (m : List ℕ) : Type 0 where
  pub some : 0 < length m
  pub short : length m ≤ message_limit
  pub clean : all allowed m ≡ true
  pub ended : ends_with_cr m ≡ true
  pub right : are_records d (records m) ≡ true

pub sound : (d : Delimiters) (m : List ℕ) → is_message_by d m ≡ true → Sound d m
unfolding is_message_by
sound d m h =
    let within = leb 1 (length m) && leb (length m) message_limit in
    let ended = and_left (within && all allowed m && ends_with_cr m) (are_records d (records m)) h in
    let clean = and_left (within && all allowed m) (ends_with_cr m) ended in
    let sized = and_left within (all allowed m) clean in
    let some : 1 ≤ length m = leb-true 1 (length m) (and_left (leb 1 (length m)) (leb (length m) message_limit) sized) in
    record {
      some = omega arith;
      short = leb-true (length m) message_limit (and_right (leb 1 (length m)) (leb (length m) message_limit) sized);
      clean = and_right within (all allowed m) clean;
      ended = and_right (within && all allowed m) (ends_with_cr m) ended;
      right = and_right (within && all allowed m && ends_with_cr m) (are_records d (records m)) h;
    }

-- a record that may come next: its type, by its first byte, what it followed, and its least length, a letter, a delimiter and a digit
pub record Typed (d : Delimiters) (s : Counts) (r : List ℕ) : Type 0 where
  pub kind : Kind
  pub first : kind_of (get_or r 0 0) ≡ Some kind
  pub follows : may_follow s.other kind ≡ true
  pub counts : counts_behind d s r ≡ counted s kind (number_in d r)
  pub long : 3 ≤ length r

-- a number is not empty, so something stands behind the letter and the delimiter
numbered : (b : ℕ) (r : List ℕ) (n : ℕ) → find (is b) r ≡ 1 → number_of (before b (behind b r)) ≡ n + 1 → 3 ≤ length r
numbered b r n one e =
    elim (dec_lt 2 (length r)) [
      | yes long ↦ omega arith
      | no short ↦
          let left : length (behind b r) ≡ 0 = length-drop (find (is b) r + 1) r ∙ omega (arith, one, short) in
          let none : length (before b (behind b r)) ≡ 0 = omega (arith, left, before_length b (behind b r), find_le (is b) (behind b r)) in
          absurd (omega (arith, number_none (before b (behind b r)) none, e))
    ]

pub typed : (d : Delimiters) (s : Counts) (r : List ℕ) → comes d s r ≡ true → Typed d s r
typed d s r h = by_type (type_in d r) refl h
  where
    by_type : (l : Option Kind) → type_in d r ≡ l → is_next s l (number_in d r) ≡ true → Typed d s r
    by_type None e g = never_both false g refl
    by_type (Some k) e g =
        let b = d.field in
        let (one, named) = letter (before b r) k e in
        let at_one : find (is b) r ≡ 1 = sym (before_length b r) ∙ one in
        record {
          kind = k;
          first = sym (ap kind_of (before_first b r at_one)) ∙ named;
          follows = and_left (may_follow s.other k) (eqb (number_in d r) (count_of s k + 1)) g;
          counts = rw e;
          long = numbered b r (count_of s k) at_one (eqb-true (number_in d r) (count_of s k + 1) (and_right (may_follow s.other k) (eqb (number_in d r) (count_of s k + 1)) g));
        }

-- behind a record of type k that may follow, the last other record is L exactly if k is
pub l_behind : (s : Counts) (k : Kind) (n : ℕ) → may_follow s.other k ≡ true → is_terminator (counted s k n).other ≡ is_terminator k
l_behind s Header n h = never_both (may_follow s.other Header) h (h_first s.other)
l_behind s Patient n h = refl
l_behind s Order n h = refl
l_behind s Result n h = refl
l_behind s Query n h = refl
l_behind s Terminator n h = refl
l_behind s Comment n h = not_behind_l s.other Comment h
l_behind s Manufacturer n h = not_behind_l s.other Manufacturer h

begins_as_other : (d : Delimiters) (s : Counts) (r : List ℕ) → comes d s r ≡ true
    → begins_with_l r ≡ is_terminator (counts_behind d s r).other
begins_as_other d s r h =
    let t = typed d s r h in
    l_names (get_or r 0 0) t.kind t.first ∙ sym (l_behind s t.kind (number_in d r) t.follows) ∙ sym (ap (λ (u : Counts). is_terminator u.other) t.counts)

-- among records of which each may come next, one begins with L exactly if none comes behind it
rest_last : (d : Delimiters) (s : Counts) (rs : List (List ℕ)) (r : List ℕ) (ss : List (List ℕ)) → are_next d s (rs ++ r ∷ ss) ≡ true → begins_with_l r ≡ none ss
rest_last d s [] r [] h = begins_as_other d s r (and_left _ _ h) ∙ and_right (comes d s r) _ h
rest_last d s [] r (q ∷ ss) h =
    let t = typed d (counts_behind d s r) q (and_left _ _ (and_right (comes d s r) _ h)) in
    begins_as_other d s r (and_left _ _ h) ∙ not_behind_l (counts_behind d s r).other t.kind t.follows
rest_last d s (x ∷ rs) r ss h = rest_last d (counts_behind d s x) rs r ss (and_right (comes d s x) _ h)

-- a header begins with H, and with the four delimiters has five bytes
pub header : (d : Delimiters) (r : List ℕ) → is_header d r ≡ true → (5 ≤ length r) × (get_or r 0 0 ≡ letter_of Header)
unfolding is_header
header d r h =
    let two = and_left _ _ (and_left _ _ (and_left _ _ (and_left _ _ h))) in
    (leb-true 5 (length r) (and_left (leb 5 (length r)) _ two), eqb-true (get_or r 0 0) (letter_of Header) (and_right (leb 5 (length r)) _ two))

-- the first of a message's records: a header that names an allowed four, and the others come behind it
pub record Headed (d : Delimiters) (r : List ℕ) (rs : List (List ℕ)) : Type 0 where
  pub head : is_header d r ≡ true
  pub four : are_delimiters d ≡ true
  pub others : are_next d started rs ≡ true

pub headed : (d : Delimiters) (r : List ℕ) (rs : List (List ℕ)) → are_records d (r ∷ rs) ≡ true → Headed d r rs
headed d r rs h =
    let proper = and_left (is_header d r && are_delimiters d) (are_next d started rs) h in
    record {
      head = and_left (is_header d r) (are_delimiters d) proper;
      four = and_right (is_header d r) (are_delimiters d) proper;
      others = and_right (is_header d r && are_delimiters d) (are_next d started rs) h;
    }

all_last : (d : Delimiters) (rs : List (List ℕ)) (r : List ℕ) (ss : List (List ℕ)) → are_records d (rs ++ r ∷ ss) ≡ true → begins_with_l r ≡ none ss
all_last d [] r [] h = never_both false (headed d r [] h).others refl
all_last d [] r (q ∷ ss) h = rw (header d r (headed d r (q ∷ ss) h).head).1
all_last d (x ∷ rs) r ss h = rest_last d started rs r ss (headed d x (rs ++ r ∷ ss) h).others

-- the least lengths of a message's records, without their CRs: H and four delimiters; a letter, a delimiter and a digit
abbrev pub OthersLong : List (List ℕ) → Type 0
OthersLong [] = Unit {0}
OthersLong (r ∷ rs) = (3 ≤ length r) × OthersLong rs

abbrev pub RecordsLong : List (List ℕ) → Type 0
RecordsLong [] = ⊥
RecordsLong (r ∷ rs) = (5 ≤ length r) × OthersLong rs

rest_long : (d : Delimiters) (s : Counts) (rs : List (List ℕ)) → are_next d s rs ≡ true → OthersLong rs
rest_long d s [] h = tt
rest_long d s (r ∷ rs) h =
    ((typed d s r (and_left _ _ h)).long, rest_long d (counts_behind d s r) rs (and_right (comes d s r) _ h))

all_long : (d : Delimiters) (rs : List (List ℕ)) → are_records d rs ≡ true → RecordsLong rs
all_long d [] h = never_both false h refl
all_long d (r ∷ rs) h = let p = headed d r rs h in ((header d r p.head).0, rest_long d started rs p.others)

-- how many there can be
rest_few : (rs : List (List ℕ)) → OthersLong rs → length rs * 4 ≤ length (joined rs)
rest_few [] l = omega arith
rest_few (r ∷ rs) l = let long = l.0 in let rest = rest_few rs l.1 in rw (length-append r (cr ∷ joined rs)) (omega arith)

all_few : (rs : List (List ℕ)) → RecordsLong rs → length (joined rs) ≤ message_limit → length rs ≤ records_limit
all_few [] l le = omega arith
all_few (r ∷ rs) l le =
    let long = l.0 in
    let rest = rest_few rs l.1 in
    omega (arith, rw (length-append r (cr ∷ joined rs)) at le)

-- a list that is not empty ends with its last element
record Ending (rs : List (List ℕ)) : Type 0 where
  front : List (List ℕ)
  last : List ℕ
  whole : rs ≡ front ++ last ∷ []

ending : (r : List ℕ) (rs : List (List ℕ)) → Ending (r ∷ rs)
ending r [] = record { front = []; last = r; whole = refl }
ending r (x ∷ rs) =
    let e = ending x rs in
    record { front = r ∷ e.front; last = e.last; whole = ap (λ (l : List (List ℕ)). r ∷ l) e.whole }

module _ (d : Delimiters) (m : List ℕ) (h : is_message_by d m ≡ true) where
  -- a message is not empty, at most the limit long, of allowed bytes, and ends with CR
  pub message_some : 0 < length m
  message_some = (sound d m h).some

  pub message_short : length m ≤ message_limit
  message_short = (sound d m h).short

  pub message_allowed : all allowed m ≡ true
  message_allowed = (sound d m h).clean

  pub message_ends : ends_with_cr m ≡ true
  message_ends = (sound d m h).ended

  -- its records joined, each with its CR, are the message
  pub message_joined : joined (records m) ≡ m
  message_joined = joined_records m message_ends

  -- a message that is cut behind one of its records
  module _ (rs : List (List ℕ)) (r : List ℕ) (ss : List (List ℕ)) (cut : records m ≡ rs ++ r ∷ ss) where
    -- a record begins with L exactly if it is the last
    pub only_last : begins_with_l r ≡ none ss
    only_last = all_last d rs r ss (rw cut at (sound d m h).right)

    -- no record has a CR
    pub cut_no_cr : all is_not_cr r ≡ true
    cut_no_cr = every_at (all is_not_cr) rs r ss (rw cut at (no_cr m))

    -- the first part is decided exactly if nothing is cut off: else its last record does not begin with L
    pub cut_decided : ends_with_l (joined (rs ++ r ∷ [])) ≡ none ss
    cut_decided = joined_begins rs r cut_no_cr ∙ only_last

  -- the whole message is decided: its last record begins with L
  pub message_decided : ends_with_l m ≡ true
  message_decided = by_records (records m) refl
    where
      by_records : (rs : List (List ℕ)) → records m ≡ rs → ends_with_l m ≡ true
      by_records [] e = let no : false ≡ true = rw e at (sound d m h).right in clash cc
      by_records (x ∷ rs) e =
          let l = ending x rs in
          ap ends_with_l (sym message_joined ∙ ap joined (e ∙ l.whole)) ∙ cut_decided l.front l.last [] (e ∙ l.whole)

  -- how long its records are, and that it has not more than the limit allows
  pub message_long : RecordsLong (records m)
  message_long = all_long d (records m) (sound d m h).right

  few_records : length (records m) ≤ records_limit
  few_records = all_few (records m) message_long (rw message_joined message_short)

pub message_records : (text : List ℕ) → is_message text ≡ true → length (records text) ≤ records_limit
message_records text h = few_records _ text h
