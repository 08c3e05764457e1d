-- What it says that a list begins with some bytes, and how a walk over both tells it.
-- Assumes nothing.
use mathlib.Core.Path.{◌≡◌, refl}
use mathlib.Core.Bool.{true, ◌&&◌}
use mathlib.Core.List.{List, [], ◌∷◌}
use Prim.Native.Nat.{ℕ, ◌+◌, ◌≤◌, ◌<◌}
use native.Mathlib.Numerals.{add-one}
use lib.Dec.{eqb}
use lib.ListN.{length, take, drop, get_or, drop_of_length-le}
use lib.Seq.{drop-cons}
use borrow.Author.Tests.{eqb-true}
use Rattle.memory.proofs.Tests.{and_left, and_right}
use Rattle.strips.specs.Readers.{begins_with}

-- the bytes are the list's first
pub begins_read : (bs kept : List ℕ) → begins_with bs kept ≡ true → take (length bs) kept ≡ bs
begins_read [] kept h = refl
begins_read (b ∷ bs) [] h = cc
begins_read (b ∷ bs) (k ∷ kept) h =
    let same : b ≡ k = eqb-true b k (and_left (eqb b k) (begins_with bs kept) h) in
    rw (same, begins_read bs kept (and_right (eqb b k) (begins_with bs kept) h))

-- a walk that has passed i bytes of both: one more, and the end
pub begins_more : (bs kept : List ℕ) (i : ℕ) → i < length bs → i < length kept
    → begins_with (drop i bs) (drop i kept) ≡ eqb (get_or bs i 0) (get_or kept i 0) && begins_with (drop (i + 1) bs) (drop (i + 1) kept)
begins_more bs kept i h k = rw (add-one, drop-cons bs i 0, drop-cons kept i 0)

pub begins_end : (bs kept : List ℕ) (i : ℕ) → length bs ≤ i → begins_with (drop i bs) kept ≡ true
begins_end bs kept i h = rw (drop_of_length-le bs h)
