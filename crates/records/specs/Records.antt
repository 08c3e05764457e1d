-- The records of a text, each ended by CR, and how the text ends.
-- Assumes nothing.
use Rattle.std.specs.Prelude.{ℕ, ◌-◌, List, [], ◌∷◌, ◌++◌, Bool, false, true, not, cond, ◌&&◌, length, get_or, take}
use Rattle.memory.specs.Tests.{unless, is, all}
use Rattle.characters.specs.Control.{cr}
use Rattle.kinds.specs.declared.Kind.TheVariants.{Terminator}
use Rattle.kinds.specs.Kinds.{letter_of}
use Rattle.records.specs.declared.Ending.{Ending}
use Rattle.records.specs.declared.Ending.TheVariants.{WithoutCr, WithL, WithOther}

-- a byte in front of the first record
abbrev pub onto : ℕ → List (List ℕ) → List (List ℕ)
onto b [] = (b ∷ []) ∷ []
onto b (r ∷ rs) = (b ∷ r) ∷ rs

-- the records of a text, without their CRs; bytes behind the last CR count as a record too [R1]
abbrev pub records : List ℕ → List (List ℕ)
records [] = []
records (b ∷ bs) = cond (is cr b) ([] ∷ records bs) (onto b (records bs))

-- records joined, each with its CR
abbrev pub joined : List (List ℕ) → List ℕ
joined [] = []
joined (r ∷ rs) = r ++ cr ∷ joined rs

abbrev pub none : {A : Type 0} → List A → Bool
none [] = true
none (x ∷ xs) = false

-- the last byte is CR: of an empty text there is none [A29]
abbrev pub ends_with_cr : List ℕ → Bool
ends_with_cr text = is cr (get_or text (length text - 1) 0)

abbrev pub is_not_cr : ℕ → Bool
is_not_cr b = not (is cr b)

-- the bytes behind the last CR, or all where there is none
abbrev pub behind_last_cr : List ℕ → List ℕ
behind_last_cr [] = []
behind_last_cr (b ∷ bs) = cond (is_not_cr b && all is_not_cr bs) (b ∷ bs) (behind_last_cr bs)

-- of a text that ends with CR: what stands between the last CR but one, or the start, and the last CR [F8]
unfoldable pub last_record : List ℕ → List ℕ
last_record text = behind_last_cr (take (length text - 1) text)

-- a record begins with L (an empty one begins with nothing)
abbrev pub begins_with_l : List ℕ → Bool
begins_with_l r = is (letter_of Terminator) (get_or r 0 0)

-- the text ends with CR and its last record begins with L: the message is decided now [F8]
unfoldable pub ends_with_l : List ℕ → Bool
ends_with_l text = ends_with_cr text && begins_with_l (last_record text)

-- how a text ends: without CR, with a record that begins with L, or with another record
unfoldable pub ending_of : List ℕ → Ending
ending_of text = unless (ends_with_cr text) WithoutCr (cond (ends_with_l text) WithL WithOther)
