-- What the first bytes of a record tell of its fields 1 and 2.
-- Assumes nothing.
use Rattle.std.specs.Prelude.{Some}
use mathlib.Core.Path.{◌≡◌, sym, ◌∙◌}
use mathlib.Core.Bool.{Bool, true, false, cond}
use mathlib.Core.List.{List, [], ◌∷◌}
use Prim.Native.Nat.{ℕ, zero, suc, ◌<◌, ◌≤◌, min}
use native.Mathlib.Omega.{arith}
use native.Mathlib.Decide.{dec_lt}
use lib.ListN.{length, take, drop}
use lib.Seq.{length-take-le}
use Rattle.memory.specs.Tests.{is, find}
use Rattle.memory.proofs.Tests.{find_le}
use Rattle.kinds.specs.Kinds.{type_of}
use Rattle.records.specs.Fields.{before, behind}
use Rattle.sequence.specs.Numbers.{number_of}
use Rattle.kinds.specs.declared.Kind.{Kind}
use Rattle.sequence.proofs.Decimal.{number_long}
use Rattle.records.proofs.Scans.{before_length}
use Rattle.kinds.proofs.Naming.{letter}

-- a scan of the first k bytes ends where a scan of all does, or at k
pub find_window : (p : ℕ → Bool) (k : ℕ) (s : List ℕ) → find p (take k s) ≡ min k (find p s)
find_window p zero s = omega arith
find_window p (suc k) [] = omega arith
find_window p (suc k) (x ∷ s) = by_first (p x) (find_window p k s)
  where
    by_first : (b : Bool) → find p (take k s) ≡ min k (find p s) → cond b 0 (suc (find p (take k s))) ≡ min (suc k) (cond b 0 (suc (find p s)))
    by_first true e = omega arith
    by_first false e = omega arith

-- where field 1 names a type, field 2 is the first field behind two bytes
pub known_second : (b : ℕ) (r : List ℕ) (k : Kind) → type_of (before b r) ≡ Some k → before b (behind b r) ≡ before b (drop 2 r)
known_second b r k h =
    let (one, named) = letter (before b r) k h in
    let at_one : find (is b) r ≡ 1 = sym (before_length b r) ∙ one in
    rw at_one

-- a number of more than six digits is none, so seven bytes tell it
pub head_number_law : (b : ℕ) (s : List ℕ) (e : ℕ) → e ≡ find (is b) (take 7 s) → number_of (take e s) ≡ number_of (before b s)
head_number_law b s e h =
    let w : e ≡ min 7 (find (is b) s) = h ∙ find_window (is b) 7 s in
    elim (dec_lt (find (is b) s) 7) [
      | yes lt ↦ let same : e ≡ find (is b) s = omega arith in rw same
      | no ge ↦
          let within : find (is b) s ≤ length s = find_le (is b) s in
          let long : length (take e s) ≡ e = length-take-le e s (omega arith) in
          let cut : 6 < length (take e s) = omega arith in
          let all : 6 < length (before b s) = rw before_length (omega arith) in
          sym (number_long (take e s) cut) ∙ number_long (before b s) all
    ]
