-- The delimiters that a header names.
-- Assumes nothing.
use mathlib.Core.Path.{◌≡◌, refl}
use mathlib.Core.Bool.{Bool, true, false, ◌&&◌}
use mathlib.Core.List.{List}
use Prim.Native.Nat.{ℕ}
use lib.Dec.{leb}
use lib.ListN.{length, get_or}
use borrow.Author.Tests.{eq-eqb, eqb-true}
use Rattle.memory.specs.Tests.{is}
use Rattle.memory.proofs.Tests.{six}
use Rattle.kinds.specs.Kinds.{letter_of}
use Rattle.kinds.specs.Delimiters.{delimiters_of}
use Rattle.kinds.specs.Header.{is_header}
use Rattle.kinds.specs.declared.Kind.TheVariants.{Header}
use Rattle.kinds.specs.declared.Delimiters.{Delimiters}

-- by the four that it names itself a record is a header if it has five bytes and begins with H
pub own_header : (r : List ℕ) → is_header (delimiters_of r) r ≡ leb 5 (length r) && is (letter_of Header) (get_or r 0 0)
unfolding is_header delimiters_of
own_header r = rw (eq-eqb (get_or r 1 0) (get_or r 1 0) refl, eq-eqb (get_or r 2 0) (get_or r 2 0) refl, eq-eqb (get_or r 3 0) (get_or r 3 0) refl, eq-eqb (get_or r 4 0) (get_or r 4 0) refl)
    (by_tests (leb 5 (length r)) (is (letter_of Header) (get_or r 0 0)))
  where
    by_tests : (a b : Bool) → a && b && true && true && true && true ≡ a && b
    by_tests true true = refl
    by_tests true false = refl
    by_tests false b = refl

-- a header by any four names these
pub header_names : (d : Delimiters) (r : List ℕ) → is_header d r ≡ true → delimiters_of r ≡ d
unfolding is_header delimiters_of
header_names d r h =
    let (long, letter, field, repeat, component, escape) =
    six (leb 5 (length r)) (is (letter_of Header) (get_or r 0 0)) (is d.field (get_or r 1 0)) (is d.repeat (get_or r 2 0)) (is d.component (get_or r 3 0)) (is d.escape (get_or r 4 0)) h in
    λ i. record {
      field = eqb-true (get_or r 1 0) d.field field i;
      repeat = eqb-true (get_or r 2 0) d.repeat repeat i;
      component = eqb-true (get_or r 3 0) d.component component i;
      escape = eqb-true (get_or r 4 0) d.escape escape i;
    }
