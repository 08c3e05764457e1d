-- A datum put into lent memory.
-- Assumes nothing.
use Rattle.std.specs.Prelude.{Ok, Result}
use Rattle.std.specs.Result.{result_unwrap_or}
use Rattle.escaping.specs.declared.Refusal.{Refusal}
use mathlib.Core.Path.{◌≡◌, refl, ap, ◌∙◌}
use mathlib.Core.Bool.{true}
use mathlib.Core.List.{List, ◌++◌}
use Prim.Native.Nat.{ℕ, ◌+◌, ◌-◌, ◌≤◌}
use native.Mathlib.Omega.{arith}
use lib.Dec.{leb}
use lib.ListN.{length, take, drop, length-take, length-drop}
use borrow.Author.Tests.{le-leb}
use Rattle.memory.specs.Parts.{splice}
use Rattle.memory.specs.Moves.{copied}
use Rattle.memory.proofs.Moves.{laid_back}
use Rattle.kinds.specs.Delimiters.{standard}
use Rattle.kinds.proofs.Allowed.{standard_allowed}
use Rattle.escaping.specs.Escape.{escaped, escape_answer, escaped_over, Escaping}
use Rattle.finding.specs.Trimmed.{trimmed}
use Rattle.finding.specs.Inner.Templates.{saying}

-- what fits is put out
fitting : (t m : List ℕ) {r : Result ℕ Refusal} {b : List ℕ} → Escaping standard t m r b → length (escaped standard t) ≤ length m
    → (r ≡ Ok (length (escaped standard t))) × (b ≡ splice m 0 (escaped standard t))
unfolding escape_answer escaped_over copied
fitting t m e h =
    let holds : leb (0 + length (escaped standard t)) (length m) ≡ true = le-leb (0 + length (escaped standard t)) (length m) (omega arith) in
    (e.answer ∙ rw (standard_allowed, holds), e.after ∙ rw (standard_allowed, holds))

-- a datum at `at`, in the part that was lent from there on
pub datum_put : (datum out t b : List ℕ) (at n : ℕ) {r : Result ℕ Refusal} → at + length (saying datum) ≤ length out → t ≡ trimmed datum
    → Escaping standard t (take (length out - at) (drop at out)) r b → n ≡ result_unwrap_or r 0
    → (n ≡ length (saying datum)) × (take at out ++ (b ++ drop (length out - at) (drop at out)) ≡ splice out at (saying datum))
unfolding saying
datum_put datum out t b at n h k e l =
    let said : escaped standard t ≡ escaped standard (trimmed datum) = ap (escaped standard) k in
    let long : length (escaped standard t) ≡ length (escaped standard (trimmed datum)) = ap length said in
    let fits : length (escaped standard t) ≤ length (take (length out - at) (drop at out)) = rw (length-take, length-drop) (omega arith) in
    let (done, laid) = fitting t (take (length out - at) (drop at out)) e fits in
    (l ∙ ap (λ (x : Result ℕ Refusal). result_unwrap_or x 0) done ∙ long, laid_back out at (escaped standard (trimmed datum)) _ b h refl (laid ∙ rw said))
