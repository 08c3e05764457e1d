-- The rest of a text behind some of its records decides, record by record.
-- Assumes nothing.
use Rattle.std.proofs.Common.{◌≡◌, ℕ, suc, ◌+◌, ◌<◌, ◌≤◌, Bool, true, false, cond, ◌&&◌, leb, List, [], ◌∷◌, length, get_or, take, drop, sym, refl, ap, ◌∙◌, add-one, arith, get_or-take, eqb-true, le-leb, leb-true}
use borrow.Author.Tests.{not-false}
use Rattle.memory.specs.Sizes.{message_limit}
use Rattle.memory.specs.Tests.{is, find, all}
use Rattle.memory.proofs.Tests.{and_left, and_right, and_not_right}
use Rattle.characters.specs.Control.{cr}
use Rattle.characters.specs.Allowed.{allowed, ordinary}
use Rattle.kinds.specs.Kinds.{letter_of}
use Rattle.kinds.specs.Header.{is_header}
use Rattle.kinds.specs.Delimiters.{are_delimiters}
use Rattle.records.specs.Fields.{before, behind}
use Rattle.records.specs.Records.{records, ends_with_cr}
use Rattle.sequence.specs.Numbers.{started}
use Rattle.faults.specs.Message.{are_next, are_records, is_message_by}
use Rattle.faults.specs.Inner.Next.{comes, counts_behind}
use Rattle.message.specs.Inner.Rest.{breaks, right_rest}
use Rattle.kinds.specs.declared.Delimiters.{Delimiters}
use Rattle.sequence.specs.declared.Counts.{Counts}
use Rattle.kinds.specs.declared.Kind.TheVariants.{Header}
use Rattle.records.proofs.Scans.{find_before, before_length, records_cons}

cr_allowed : (b : ℕ) → is cr b ≡ true → allowed b ≡ true
unfolding allowed
cr_allowed b e = rw (eqb-true b cr e)

-- a text is of allowed bytes where its first record is and what comes behind it
all_parts : (s : List ℕ) → all allowed s ≡ all allowed (before cr s) && all allowed (behind cr s)
all_parts [] = refl
all_parts (x ∷ xs) = by_first (is cr x) refl (all_parts xs)
  where
    grouped : (a b e : Bool) → a && (b && e) ≡ a && b && e
    grouped true b e = refl
    grouped false b e = refl

    by_first : (b : Bool) → is cr x ≡ b → all allowed xs ≡ all allowed (before cr xs) && all allowed (behind cr xs)
        → allowed x && all allowed xs ≡ all allowed (take (cond b 0 (suc (find (is cr) xs))) (x ∷ xs)) && all allowed (drop (cond b 0 (suc (find (is cr) xs)) + 1) (x ∷ xs))
    by_first true k e = rw (cr_allowed x k)
    by_first false k e = rw (add-one (suc (find (is cr) xs)), e, add-one (find (is cr) xs)) (grouped (allowed x) _ _)

-- the delimiter between fields is ordinary where it stands in a header that CR breaks off
pub header_ordinary : (d : Delimiters) (text : List ℕ) → is_header d (before cr text) ≡ true → find breaks text ≡ find (is cr) text → ordinary d.field ≡ true
unfolding is_header
header_ordinary d text h e =
    let r = before cr text in
    let three = and_left _ _ (and_left _ _ (and_left _ _ h)) in
    let long : 5 ≤ length r = leb-true 5 (length r) (and_left _ _ (and_left _ _ three)) in
    let lt : 1 < find (is cr) text = omega (arith, before_length cr text) in
    let second : get_or r 1 0 ≡ d.field = eqb-true (get_or r 1 0) d.field (and_right (leb 5 (length r) && is (letter_of Header) (get_or r 0 0)) (is d.field (get_or r 1 0)) three) in
    let at : get_or text 1 0 ≡ d.field = sym (get_or-take (find (is cr) text) text 1 0 lt) ∙ second in
    ap ordinary (sym at) ∙ not-false _ (find_before breaks text 1 (omega arith))

-- a text within the limit that ends with CR, cut at its first CR
module _ (d : Delimiters) (text : List ℕ) (short : length text ≤ message_limit) (some : 0 < length text) (ends : ends_with_cr text ≡ true) where
  whole : is_message_by d text ≡ all allowed text && (is_header d (before cr text) && are_delimiters d && are_next d started (records (behind cr text)))
  unfolding is_message_by
  whole =
      rw (le-leb 1 (length text) (omega arith), le-leb (length text) message_limit short, ends) (by_clean (all allowed text) (are_records d (records text)))
      ∙ ap (λ (rs : List (List ℕ)). all allowed text && are_records d rs) (records_cons text some)
    where
      by_clean : (a b : Bool) → a && true && b ≡ a && b
      by_clean true b = refl
      by_clean false b = refl

  pub headless : is_header d (before cr text) ≡ false → is_message_by d text ≡ false
  headless h = whole ∙ rw h (and_not_right (all allowed text) false refl)

  pub four_refused : are_delimiters d ≡ false → is_message_by d text ≡ false
  four_refused h = whole ∙ rw h (by_tests (all allowed text) (is_header d (before cr text)))
    where
      by_tests : (a b : Bool) → a && (b && false && are_next d started (records (behind cr text))) ≡ false
      by_tests true true = refl
      by_tests true false = refl
      by_tests false b = refl

  pub header_passed : is_header d (before cr text) ≡ true → are_delimiters d ≡ true → all allowed (before cr text) ≡ true → right_rest d started (behind cr text) ≡ is_message_by d text
  unfolding right_rest
  header_passed h f a = sym (whole ∙ rw (h, f, all_parts text, a))

-- the first of the records that are left
module _ (d : Delimiters) (s : Counts) (text : List ℕ) (some : 0 < length text) where
  left : right_rest d s text ≡ all allowed text && (comes d s (before cr text) && are_next d (counts_behind d s (before cr text)) (records (behind cr text)))
  unfolding right_rest
  left = ap (λ (rs : List (List ℕ)). all allowed text && are_next d s rs) (records_cons text some)

  pub left_bad : all allowed text ≡ false → right_rest d s text ≡ false
  left_bad h = left ∙ rw h

  pub left_wrong : comes d s (before cr text) ≡ false → right_rest d s text ≡ false
  left_wrong h = left ∙ rw h (and_not_right (all allowed text) false refl)

  pub left_fine : (t : Counts) → comes d s (before cr text) ≡ true
      → counts_behind d s (before cr text) ≡ t → all allowed (before cr text) ≡ true
      → right_rest d t (behind cr text) ≡ right_rest d s text
  unfolding right_rest
  left_fine t h e a = sym (left ∙ rw (h, e, all_parts text, a))
