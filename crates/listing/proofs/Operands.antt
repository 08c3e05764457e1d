-- What each test on an operand says.
-- Assumes nothing.
use Rattle.std.specs.Prelude.{None, Option, Some, ℕ}
use Rattle.std.proofs.Common.{◌≡◌, ℕ, ◌+◌, ◌-◌, ◌*◌, ◌<◌, ◌≤◌, Bool, true, false, cond, ◌&&◌, eqb, leb, List, [], ◌∷◌, length, get_or, drop, refl, ap, ◌∙◌, zero-le, arith, length-drop, get_or-drop, eq-eqb, ne_eqb, le-leb, leb-true}
use borrow.Author.Tests.{lt-leb}
use Rattle.memory.specs.Tests.{all}
use Rattle.memory.proofs.Tests.{and_right, and_not_right}
use Rattle.sequence.specs.Numbers.{is_digit, decimal}
use Rattle.listing.specs.Items.{operand_at, hex_value, by_digits, byte_item, amount_of}

-- two hex digits
module _ (line : ℕ) (text : List ℕ) where
  high : get_or (drop operand_at text) 0 0 ≡ get_or text 4 0
  high = get_or-drop 4 text 0 0

  low : get_or (drop operand_at text) 1 0 ≡ get_or text 5 0
  low = get_or-drop 4 text 1 0

  two_long : length text ≡ 6 → eqb (length (drop operand_at text)) 2 ≡ true
  two_long e = eq-eqb _ _ (length-drop 4 text ∙ omega arith)

  pub byte_length : 5 ≤ length text → (length text ≡ 6 → ⊥) → None ≡ byte_item line (drop operand_at text)
  unfolding byte_item
  byte_length h n =
      let no : length (drop operand_at text) ≡ 2 → ⊥ = λ e. n (let z = length-drop 4 text in omega arith) in
      rw (ne_eqb (length (drop operand_at text)) 2 no)

  pub byte_is : length text ≡ 6 → by_digits line (hex_value (get_or text 4 0)) (hex_value (get_or text 5 0)) ≡ byte_item line (drop operand_at text)
  unfolding byte_item
  byte_is e = rw (two_long e, high, low)

-- a number up to a limit
abbrev pub value_of : Option ℕ → ℕ
value_of (Some n) = n
value_of None = 0

module _ (most : ℕ) (text : List ℕ) where
  pub amount_bad : false ≡ all is_digit text → None ≡ amount_of most text
  unfolding amount_of
  amount_bad e = rw (← e)

  pub amount_large : most < decimal 0 text → None ≡ amount_of most text
  unfolding amount_of
  amount_large h = rw (and_not_right (all is_digit text) (leb (decimal 0 text) most) (lt-leb (decimal 0 text) most h))

  pub amount_is : true ≡ all is_digit text → decimal 0 text ≤ most → Some (decimal 0 text) ≡ amount_of most text
  unfolding amount_of
  amount_is e h = rw (← e, le-leb (decimal 0 text) most h)

  value_most : (b : Bool) → all is_digit text && leb (decimal 0 text) most ≡ b → value_of (cond b (Some (decimal 0 text)) None) ≤ most
  value_most true e = leb-true (decimal 0 text) most (and_right (all is_digit text) (leb (decimal 0 text) most) e)
  value_most false e = zero-le

  pub value_of_law : value_of (amount_of most text) ≤ most
  unfolding amount_of
  value_of_law = value_most (all is_digit text && leb (decimal 0 text) most) refl

  pub amount_most : (n : ℕ) → amount_of most text ≡ Some n → n ≤ most
  amount_most n e =
      let v : value_of (amount_of most text) ≡ n = ap value_of e in
      omega (arith, value_of_law)

-- digits behind a number only make it larger
pub decimal_grows : (n : ℕ) (text : List ℕ) → n ≤ decimal n text
decimal_grows n [] = omega arith
decimal_grows n (b ∷ bs) = let h = decimal_grows (n * 10 + (b - 0x30)) bs in omega arith
