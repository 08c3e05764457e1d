-- What it means that a history is another one put in serial order, in the demand's own words and without the definition of `serialize`.
-- That there is one such history and no other is shown in proofs/Kept and proofs/Unique.
-- Assumes nothing.
use Rattle.std.specs.Prelude.{◌≡◌, Bool, true, false, cond, List, [], ◌∷◌, ◌++◌, ℕ, ◌<◌, eqb}
use Rattle.serial.specs.Serial.{Item, event, taking, Every, stretch, rests}

-- the members of a list that pass a test, in their order
abbrev pub only : {X : Type 0} → (X → Bool) → List X → List X
only p [] = []
only p (x ∷ xs) = cond (p x) (x ∷ only p xs) (only p xs)

module _ {K N : Type 0} where
  -- whether an item is an event of line i
  abbrev pub is_of : ℕ → Item K N → Bool
  is_of i (event l k) = eqb l i
  is_of i (taking l n) = false

  abbrev pub is_taking : Item K N → Bool
  is_taking (event l k) = false
  is_taking (taking l n) = true

module _ {K N A : Type 0} (decides : A → Bool) where
  -- whether an item with its answer is a taking or the last event of a stretch
  abbrev pub is_end : Item K N × A → Bool
  is_end x = cond (is_taking x.0) true (decides x.1)

-- a part of a serial history: a line's stretch with its last event, or a taking
pub data Part (K N A : Type 0) : Type 0 where
  finished : ℕ → List (K × A) → K → A → Part K N A
  took : ℕ → N → A → Part K N A

-- events of which none decides
abbrev pub Undecided : {K A : Type 0} → (A → Bool) → List (K × A) → Type 0
Undecided decides [] = Unit {0}
Undecided decides (x ∷ xs) = (decides x.1 ≡ false) × Undecided decides xs

module _ {K N A : Type 0} where
  -- of a stretch, the last event decides and no other does
  abbrev pub Proper : (A → Bool) → Part K N A → Type 0
  Proper decides (finished i xs k a) = Undecided decides xs × (decides a ≡ true)
  Proper decides (took i n a) = Unit {0}

  -- its items with their answers
  abbrev pub items_of : Part K N A → List (Item K N × A)
  items_of (finished i xs k a) = stretch i (xs ++ ((k, a) ∷ []))
  items_of (took i n a) = (taking i n, a) ∷ []

  -- parts one behind the other, and zs at the end
  abbrev pub all_items : List (Part K N A) → List (Item K N × A) → List (Item K N × A)
  all_items [] zs = zs
  all_items (b ∷ bs) zs = items_of b ++ all_items bs zs

-- a history that is made whole: stretches that stand undivided, and takings, in some order; then the lines' rests, in which nothing is decided
pub record Whole {K N A : Type 0} (decides : A → Bool) (order : List ℕ) (zs : List (Item K N × A)) : Type 0 where
  pub parts : List (Part K N A)
  pub rest : ℕ → List (K × A)
  pub proper : Every (Proper decides) parts
  pub unfinished : (i : ℕ) → Undecided decides (rest i)
  pub made : zs ≡ all_items parts (rests rest order)

-- zs is xs put in serial order: each line's events are those of xs, in their order; stretches are whole and rests are at the end;
-- and the last events of the stretches and the takings follow each other as in xs. [P3]
pub record Rearranged {K N A : Type 0} (decides : A → Bool) (lines : ℕ) (order : List ℕ) (xs zs : List (Item K N × A)) : Type 0 where
  pub each_line : (i : ℕ) → i < lines → only (λ x. is_of i x.0) zs ≡ only (λ x. is_of i x.0) xs
  pub ends : only (is_end decides) zs ≡ only (is_end decides) xs
  pub whole : Whole decides order zs
