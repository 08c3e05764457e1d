-- Printable bytes are allowed, and how they are told: none lies farther past the space than '~'.
-- Assumes nothing.
use Rattle.std.proofs.Common.{◌≡◌, ℕ, ◌+◌, ◌%◌, ◌<◌, max, Bool, true, false, ◌&&◌, ◌||◌, eqb, leb, List, [], ◌∷◌, length, get_or, take, refl, ap, add-one, arith, take-suc, ne_eqb, eqb-true, le-leb, leb-false, leb-true}
use borrow.Author.Tests.{lt-leb}
use Rattle.memory.specs.Tests.{between, all}
use Rattle.memory.proofs.Tests.{and_left, and_right, and_both, all_append}
use Rattle.characters.specs.Control.{cr}
use Rattle.characters.specs.Allowed.{allowed}
use Rattle.characters.specs.Inner.Printable.{printable}

-- a byte other than CR, by how far it lies past the space
pub printable_past : (b : ℕ) → b < 256 → (b ≡ cr → ⊥) → leb ((b + 0xe0) % 256) 0x5e ≡ printable b
unfolding printable
printable_past b h n = rw (ne_eqb b cr n) (by_ends (leb 0x20 b) (leb b 0x7e) refl refl)
  where
    by_ends : (x y : Bool) → leb 0x20 b ≡ x → leb b 0x7e ≡ y → leb ((b + 0xe0) % 256) 0x5e ≡ x && y
    by_ends true true p q = le-leb ((b + 0xe0) % 256) 0x5e (omega (arith, leb-true 0x20 b p, leb-true b 0x7e q))
    by_ends true false p q = lt-leb ((b + 0xe0) % 256) 0x5e (omega (arith, leb-true 0x20 b p, leb-false b 0x7e q))
    by_ends false y p q = lt-leb ((b + 0xe0) % 256) 0x5e (omega (arith, leb-false 0x20 b p))

-- both are at most m exactly if the larger is
pub leb_max : (a b m : ℕ) → leb (max a b) m ≡ leb a m && leb b m
leb_max a b m = by_tests (leb a m) (leb b m) refl refl
  where
    by_tests : (x y : Bool) → leb a m ≡ x → leb b m ≡ y → leb (max a b) m ≡ x && y
    by_tests true true p q = le-leb (max a b) m (omega (arith, leb-true a m p, leb-true b m q))
    by_tests true false p q = lt-leb (max a b) m (omega (arith, leb-false b m q))
    by_tests false y p q = lt-leb (max a b) m (omega (arith, leb-false a m p))

pub and_true : (a : Bool) → a && true ≡ a
and_true true = refl
and_true false = refl

-- every byte passes, of one byte more
pub all_more : (p : ℕ → Bool) (s : List ℕ) (i : ℕ) → i < length s → all p (take (i + 1) s) ≡ all p (take i s) && p (get_or s i 0)
all_more p s i h = rw (add-one i, take-suc s i 0 h, all_append p (take i s) (get_or s i 0 ∷ []), and_true (p (get_or s i 0)))

or_true : (a : Bool) → a || true ≡ true
or_true true = refl
or_true false = refl

-- a printable byte is allowed, and so a text of them
printable_allowed : (b : ℕ) → printable b ≡ true → allowed b ≡ true
unfolding printable allowed
printable_allowed b e = by_cr (eqb b cr) refl e
  where
    by_cr : (x : Bool) → eqb b cr ≡ x → x || between 0x20 0x7e b ≡ true → allowed b ≡ true
    by_cr true p q = ap allowed (eqb-true b cr p)
    by_cr false p q = simp (and_left (leb 0x20 b) (leb b 0x7e) q, and_right (leb 0x20 b) (leb b 0x7e) q, or_true)

pub all_printable : (s : List ℕ) → all printable s ≡ true → all allowed s ≡ true
all_printable [] e = refl
all_printable (b ∷ bs) e =
    and_both (allowed b) (all allowed bs) (printable_allowed b (and_left (printable b) (all printable bs) e)) (all_printable bs (and_right (printable b) (all printable bs) e))
