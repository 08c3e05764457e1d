-- What is written of a frame, read back by the shape, is the same number, end and text, for every limit that it keeps.
-- Assumes nothing.
use Rattle.std.specs.Prelude.{Ok}
use Rattle.std.proofs.Common.{◌≡◌, ℕ, ◌+◌, ◌-◌, ◌<◌, ◌≤◌, true, List, [], ◌∷◌, ◌++◌, length, get_or, take, sym, refl, ◌∙◌, append_assoc, arith, length-append, take_at, get_or-append-add, eq-eqb, le-leb}
use lib.Seq.{get_or_at}
use Rattle.memory.specs.Parts.{part}
use Rattle.memory.specs.Tests.{all, is}
use Rattle.characters.specs.Control.{cr, lf}
use Rattle.characters.specs.Allowed.{allowed}
use Rattle.digits.specs.Check.{digits_of, check_of}
use Rattle.digits.specs.Number.{most_number, digit_for}
use Rattle.frame.specs.Shape.{around_text, text_in, is_end, end_from, is_built, is_checked, shape_of}
use Rattle.framing.specs.Writing.{end_byte, body_of, tail_of, collected_of}
use Rattle.frame.specs.declared.End.{End}
use Rattle.frame.specs.declared.End.TheVariants.{Etb, Etx}
use Rattle.frame.proofs.Collected.{text_in_law, built_long, checked_long, inner_long, shape_ended}
use Rattle.framing.proofs.Put.{length_body}

is_end_law : (end : End) → is_end (end_byte end) ≡ true
is_end_law Etb = refl
is_end_law Etx = refl

end_back : (end : End) → end_from (end_byte end) ≡ end
end_back Etb = refl
end_back Etx = refl

same_digit : (d : ℕ) → is d d ≡ true
same_digit d = eq-eqb d d refl

module _ (number : ℕ) (end : End) (text : List ℕ) where
  -- the check digits and CR, and all that is collected before the LF
  abbrev digits : List ℕ
  digits = (digits_of (check_of (body_of number end text))).high ∷ (digits_of (check_of (body_of number end text))).low ∷ cr ∷ []

  abbrev pub early : List ℕ
  early = body_of number end text ++ digits

  pub spelt : collected_of number end text ≡ early ++ (lf ∷ [])
  unfolding collected_of tail_of
  spelt = sym (append_assoc (body_of number end text) digits (lf ∷ []))

  pub long : length early ≡ length text + 5
  long = rw (length-append, length_body number end text) (omega arith)

  -- the bytes behind the body, counted from the end
  behind : (k : ℕ) → k < 4 → 0 < k → get_or early (length early - k) 0 ≡ get_or digits (3 - k) 0
  behind k h p =
      let at : length early - k ≡ length (body_of number end text) + (3 - k) = omega (arith, long, length_body number end text) in
      rw at (get_or-append-add (body_of number end text) digits (3 - k) 0)

  the_end : get_or early (length early - 4) 0 ≡ end_byte end
  unfolding body_of
  the_end =
      let at : length early - 4 ≡ length (digit_for number ∷ text) = omega (arith, long) in
      rw (append_assoc (digit_for number ∷ text) (end_byte end ∷ []) digits) (get_or_at (digit_for number ∷ text) (end_byte end) digits 0 (length early - 4) (sym at))

  counted : take (length early - 3) early ≡ body_of number end text
  counted = take_at (body_of number end text) digits (length early - 3) (omega (arith, long, length_body number end text))

  pub the_text : part early 1 (length early - 5) ≡ text
  unfolding body_of part
  the_text =
      let size : length early - 5 ≡ length text = omega (arith, long) in
      rw (size, append_assoc text (end_byte end ∷ []) digits) (take_at text ((end_byte end ∷ []) ++ digits) (length text) refl)

  the_digit : get_or early 0 0 ≡ digit_for number
  unfolding body_of
  the_digit = refl

  five : 5 ≤ length early
  five = omega (arith, long)

  built : is_built (early ++ (lf ∷ [])) ≡ true
  built = rw (built_long early lf five, behind 1 (omega arith) (omega arith), the_end, is_end_law end)

  checked : is_checked (early ++ (lf ∷ [])) ≡ true
  checked = rw (checked_long early lf five, counted, behind 3 (omega arith) (omega arith), behind 2 (omega arith) (omega arith), same_digit (digits_of (check_of (body_of number end text))).high, same_digit (digits_of (check_of (body_of number end text))).low)

  -- the theorem: whatever limit the frame keeps, from 7 to 512 and beyond
  pub read_back : (limit : ℕ) → number ≤ most_number → all allowed text ≡ true → length text + around_text ≤ limit
      → shape_of limit (collected_of number end text) ≡ Ok (number, end, length text)
  read_back limit n clean h =
      let within : length early + 1 < limit = omega (arith, long) in
      let back : 0x30 + number - 0x30 ≡ number = omega arith in
      let low : 0x30 ≤ 0x30 + number = omega arith in
      let high : 0x30 + number ≤ 0x37 = omega arith in
      let size : length early - 5 ≡ length text = omega (arith, long) in
      rw (
        spelt,
        shape_ended early limit within,
        built,
        checked,
        inner_long early lf five,
        the_text,
        clean,
        the_digit,
        le-leb 0x30 (0x30 + number) low,
        le-leb (0x30 + number) 0x37 high,
        the_end,
        end_back end,
        back,
        size,
      )

  pub text_back : text_in (collected_of number end text) ≡ text
  text_back = rw spelt (text_in_law early lf five ∙ the_text)
