-- Bytes as a chain of entries, one behind the other in the order of storing.
-- Assumes nothing.
use Rattle.std.specs.Prelude.{ℕ, zero, suc, ◌+◌, Bool, true, false, cond, List, [], ◌∷◌, length, drop, ◌==◌, None, Option, Some}
use Rattle.header.specs.Entry.{Entry, size, starts, first}

-- an entry in front of a chain, if that is one
abbrev pub behind : Entry → Option (List Entry) → Option (List Entry)
behind e None = None
behind e (Some es) = Some (e ∷ es)

abbrev pub is_empty : List ℕ → Bool
is_empty [] = true
is_empty (b ∷ bs) = false

-- the chain that bytes are, looked for through at most n entries
abbrev pub chain_in : ℕ → List ℕ → Option (List Entry)
chain_in zero bs = cond (is_empty bs) (Some []) None
chain_in (suc n) bs = cond (is_empty bs) (Some []) (cond (starts bs) (behind (first bs) (chain_in n (drop (size (first bs)) bs))) None)

-- the entries that bytes are a whole chain of; none where they are not. No entry is empty, so there are no more entries than bytes. [J1, J9]
unfoldable pub entries : List ℕ → Option (List Entry)
entries bs = chain_in (length bs) bs

-- the room of all entries, and of a line's [J4]
abbrev pub sizes : List Entry → ℕ
sizes [] = 0
sizes (e ∷ es) = size e + sizes es

abbrev pub total : ℕ → List Entry → ℕ
total l [] = 0
total l (e ∷ es) = cond (e.line == l) (size e) 0 + total l es

-- what stands before a line's oldest entry, and the chain from that entry on [J11]
abbrev pub before : ℕ → List Entry → List Entry
before l [] = []
before l (e ∷ es) = cond (e.line == l) [] (e ∷ before l es)

abbrev pub from : ℕ → List Entry → List Entry
from l [] = []
from l (e ∷ es) = cond (e.line == l) (e ∷ es) (from l es)
