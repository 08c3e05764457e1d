-- Packed fields: reading back what was packed, and packing what was read, over any list of widths.
-- Assumes nothing.
use mathlib.Core.Path.{◌≡◌, refl, sym, ap, ◌∙◌}
use mathlib.Core.List.{List, [], ◌∷◌, ◌++◌}
use Prim.Native.Nat.{ℕ, suc, ◌+◌, ◌*◌, ◌/◌, ◌%◌, ◌^◌, ◌<◌}
use native.Mathlib.Nat.{add-mul, mul_assoc, mod-one, mod-lt}
use native.Mathlib.Omega.{arith}
use lib.Arith.{digits_lt}
use lib.Pow.{pow-add, pow_pos, high, low, mod-pow-add}
use lib.ListN.{length}
use Rattle.packed.specs.Fields.{width, pack, unpack}

-- as many numbers as widths, each within its width
abbrev pub Within : List ℕ → List ℕ → Type 0
Within [] [] = Unit {0}
Within [] (x ∷ xs) = ⊥
Within (w ∷ ws) [] = ⊥
Within (w ∷ ws) (x ∷ xs) = (x < 2 ^ w) × Within ws xs

pub pack_below : (ws xs : List ℕ) → Within ws xs → pack ws xs < 2 ^ width ws
pack_below [] [] h = omega arith
pack_below [] (x ∷ xs) h = absurd h
pack_below (w ∷ ws) [] h = absurd h
pack_below (w ∷ ws) (x ∷ xs) h = rw (pow-add 2 w (width ws)) (digits_lt h.0 (pack_below ws xs h.1))

-- a packed field more in front
shifted : (y w x s p : ℕ) → y * 2 ^ (w + s) + (x * 2 ^ s + p) ≡ (y * 2 ^ w + x) * 2 ^ s + p
shifted y w x s p = rw (pow-add 2 w s, add-mul, mul_assoc) (omega arith)

-- what was packed reads back, whatever stands above it
pub unpack_above : (ws xs : List ℕ) (y : ℕ) → Within ws xs → unpack ws (y * 2 ^ width ws + pack ws xs) ≡ xs
unpack_above [] [] y h = refl
unpack_above [] (x ∷ xs) y h = absurd h
unpack_above (w ∷ ws) [] y h = absurd h
unpack_above (w ∷ ws) (x ∷ xs) y h =
    rw (shifted y w x (width ws) (pack ws xs), high (y * 2 ^ w + x) (width ws) (pack_below ws xs h.1), low y w h.0)
    (ap (λ (l : List ℕ). x ∷ l) (unpack_above ws xs (y * 2 ^ w + x) h.1))

pub unpack_pack : (ws xs : List ℕ) → Within ws xs → unpack ws (pack ws xs) ≡ xs
unpack_pack ws xs h =
    let e : pack ws xs ≡ 0 * 2 ^ width ws + pack ws xs = omega arith in
    ap (unpack ws) e ∙ unpack_above ws xs 0 h

-- packing what was read gives the number's low bits
pub pack_unpack : (ws : List ℕ) (n : ℕ) → pack ws (unpack ws n) ≡ n % 2 ^ width ws
pack_unpack [] n = sym (mod-one n)
pack_unpack (w ∷ ws) n = rw (pack_unpack ws n) (sym (mod-pow-add n w (width ws)))

pub unpack_within : (ws : List ℕ) (n : ℕ) → Within ws (unpack ws n)
unpack_within [] n = tt
unpack_within (w ∷ ws) n = (mod-lt (n / 2 ^ width ws) (pow_pos w), unpack_within ws n)

-- packed fields behind packed fields
pub width_append : (ws vs : List ℕ) → width (ws ++ vs) ≡ width ws + width vs
width_append [] vs = omega arith
width_append (w ∷ ws) vs = omega (arith, width_append ws vs)

pub pack_append : (ws xs vs ys : List ℕ) → length ws ≡ length xs → pack (ws ++ vs) (xs ++ ys) ≡ pack ws xs * 2 ^ width vs + pack vs ys
pack_append [] [] vs ys h = omega arith
pack_append [] (x ∷ xs) vs ys h = absurd (omega arith)
pack_append (w ∷ ws) [] vs ys h = absurd (omega arith)
pack_append (w ∷ ws) (x ∷ xs) vs ys h = rw (width_append ws vs, pow-add 2 (width ws) (width vs)) (omega (arith, pack_append ws xs vs ys (omega arith)))

pub length_unpack : (ws : List ℕ) (n : ℕ) → length (unpack ws n) ≡ length ws
length_unpack [] n = refl
length_unpack (w ∷ ws) n = ap suc (length_unpack ws n)
