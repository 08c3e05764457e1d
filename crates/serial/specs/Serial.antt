-- Demand 3, as definitions: a run over several lines, and the same run put one stretch after the other.
-- A run is a list of items: events of lines, and takings. Its history is the list of its items, each with the answer that it got.
-- `serialize` cuts each line's events behind each one whose answer decides a message, and puts each such stretch in one piece, where its last event stood;
-- takings stay in place among them, and the unfinished rests of the lines come at the end, in any order of the lines that is given.
-- The theorem: of a machine that is `Lined` (specs/Inner/Machine), that history is `GoesAlike` (proofs/Theorem), and so is every history that the demand's words allow (`Rearranged` of
-- specs/Kept; proofs/Demand). What the demand leaves open is settled in docs/DECISIONS.md, "Runs".
-- Assumes nothing.
use Rattle.std.specs.Prelude.{◌≡◌, Bool, true, false, cond, List, [], ◌∷◌, ◌++◌, map, ℕ, zero, suc, ◌+◌, ◌≤◌, ◌<◌, eqb}

-- ---- runs

-- an event of a line (K: what comes, a byte or seconds), or a taking that names a line (N: what it lends)
pub data Item (K N : Type 0) : Type 0 where
  event : ℕ → K → Item K N
  taking : ℕ → N → Item K N

module _ {S I A : Type 0} (step : S → I → A × S) where
  -- the history of a run: each item with its answer
  abbrev pub annotate : S → List I → List (I × A)
  annotate s [] = []
  annotate s (e ∷ es) = (e, (step s e).0) ∷ annotate (step s e).1 es

  -- the state at its end
  abbrev pub final : S → List I → S
  final s [] = s
  final s (e ∷ es) = final (step s e).1 es

-- the items of a history, without their answers
abbrev pub items : {I A : Type 0} → List (I × A) → List I
items {I} {A} xs = map (λ (x : I × A). x.0) xs

-- each of a list is such a one
abbrev pub Every : {X : Type 0} → (X → Type 0) → List X → Type 0
Every Q [] = Unit {0}
Every Q (x ∷ xs) = Q x × Every Q xs

-- The statement: in the order of zs the run es goes alike. The items of zs, run from s in the order of zs, get the very answers that zs has, and end in the same state. [P3]
pub record GoesAlike {S I A : Type 0} (step : S → I → A × S) (s : S) (es : List I) (zs : List (I × A)) : Type 0 where
  pub answers : annotate step s (items zs) ≡ zs
  pub state : final step s (items zs) ≡ final step s es

-- ---- the serial form of a history

-- how many of a list pass a test
abbrev pub count : {X : Type 0} → (X → Bool) → List X → ℕ
count p [] = 0
count p (x ∷ xs) = cond (p x) 1 0 + count p xs

-- how often a line stands in a list of lines
abbrev pub times : ℕ → List ℕ → ℕ
times l is = count (λ m. eqb m l) is

-- an order of the lines: each of them once, and no others
pub record OrderOf (lines : ℕ) (order : List ℕ) : Type 0 where
  pub once : (l : ℕ) → l < lines → times l order ≡ 1
  pub no_others : (l : ℕ) → lines ≤ l → times l order ≡ 0

-- m lines from line i on, and all lines, by their numbers
abbrev pub count_up : ℕ → ℕ → List ℕ
count_up i zero = []
count_up i (suc m) = i ∷ count_up (suc i) m

abbrev pub up_to : ℕ → List ℕ
up_to lines = count_up 0 lines

-- f, but a at i
unfoldable pub upd : {X : Type 0} → (ℕ → X) → ℕ → X → ℕ → X
upd f i a j = cond (eqb j i) a (f j)

module _ {K N A : Type 0} where
  -- events of line i, one behind the other, from what came and what was answered
  abbrev pub stretch : ℕ → List (K × A) → List (Item K N × A)
  stretch i xs = map (λ (x : K × A). (event i x.0, x.1)) xs

  -- What an item puts out, where `pending i` are line i's events since its last one that decided, and d says whether the item's answer decides:
  -- an event that decides puts out its line's stretch, itself the last; another event nothing; a taking itself.
  abbrev pub out : (ℕ → List (K × A)) → Item K N → A → Bool → List (Item K N × A)
  out pending (event i k) a true = stretch i (pending i ++ ((k, a) ∷ []))
  out pending (event i k) a false = []
  out pending (taking i n) a d = (taking i n, a) ∷ []

  -- what is pending behind it
  abbrev pub left : (ℕ → List (K × A)) → Item K N → A → Bool → ℕ → List (K × A)
  left pending (event i k) a true = upd pending i []
  left pending (event i k) a false = upd pending i (pending i ++ ((k, a) ∷ []))
  left pending (taking i n) a d = pending

  -- the rests of the lines, one line behind the other
  abbrev pub rests : (ℕ → List (K × A)) → List ℕ → List (Item K N × A)
  rests pending [] = []
  rests pending (i ∷ is) = stretch i (pending i) ++ rests pending is

  abbrev pub serial : (A → Bool) → List ℕ → (ℕ → List (K × A)) → List (Item K N × A) → List (Item K N × A)
  serial decides order pending [] = rests pending order
  serial decides order pending (x ∷ xs) =
      out pending x.0 x.1 (decides x.1) ++ serial decides order (left pending x.0 x.1 (decides x.1)) xs

  -- the serial form of a history; the rests come in the given order of the lines
  abbrev pub serialize : (A → Bool) → List ℕ → List (Item K N × A) → List (Item K N × A)
  serialize decides order xs = serial decides order (λ i. []) xs
