-- Tests on bytes and on lists of bytes, and the choice of the first answer that applies.
-- Assumes nothing.
use Rattle.std.specs.Prelude.{ℕ, suc, Bool, cond, true, false, ◌&&◌, ◌||◌, List, [], ◌∷◌, leb, eqb}

-- the answer, unless the test holds: then what comes next
abbrev pub unless : {A : Type 0} → Bool → A → A → A
unless ok answer next = cond ok next answer

-- b lies between a and e, both counted
abbrev pub between : ℕ → ℕ → ℕ → Bool
between a e b = leb a b && leb b e

-- b is the byte x
abbrev pub is : ℕ → ℕ → Bool
is x b = eqb b x

-- b is one of these bytes
abbrev pub is_one_of : List ℕ → ℕ → Bool
is_one_of [] b = false
is_one_of (x ∷ xs) b = eqb b x || is_one_of xs b

-- every byte passes the test
abbrev pub all : (ℕ → Bool) → List ℕ → Bool
all p [] = true
all p (b ∷ bs) = p b && all p bs

-- the index of the first byte that passes the test, or the length where none does
abbrev pub find : (ℕ → Bool) → List ℕ → ℕ
find p [] = 0
find p (b ∷ bs) = cond (p b) 0 (suc (find p bs))

-- how many bytes pass the test
abbrev pub count : (ℕ → Bool) → List ℕ → ℕ
count p [] = 0
count p (b ∷ bs) = cond (p b) (suc (count p bs)) (count p bs)
