-- Any two outcomes that a contract of this crate allows are equal. Where the contract is one equation (`test`), memory's `one_value` says it.
-- Assumes nothing.
use mathlib.Core.Path.{◌≡◌, sym, ◌∙◌}
use Prim.Native.Nat.{ℕ}
use Rattle.deciding.specs.declared.Fate.{Fate}
use Rattle.line.specs.declared.Line.{Line}
use Rattle.looking.specs.declared.Event.{Event}
use Rattle.receiving.specs.Alone.{AloneMemory, SteppingAlone}
use Rattle.receiving.specs.Closing.{Closing}
use Rattle.receiving.specs.declared.Alone.{Alone}

-- lent memory is known by its two parts
alone_memory : {m₁ m₂ : AloneMemory} → m₁.unfinished ≡ m₂.unfinished → m₁.frames ≡ m₂.frames → m₁ ≡ m₂
alone_memory u f = λ z. record { unfinished = u z; frames = f z }

-- `step_alone`
pub alone_once : (l : Line) (e : Event) (n : ℕ) (m : AloneMemory) {r s : Alone} {m₁ m₂ : AloneMemory} → SteppingAlone l e n m r m₁ → SteppingAlone l e n m s m₂ → (r ≡ s) × (m₁ ≡ m₂)
alone_once l e n m {r} {s} {m₁} {m₂} a b =
    let line : r.line ≡ s.line = a.line ∙ sym b.line in
    let look : r.look ≡ s.look = a.look ∙ sym b.look in
    (λ z. record { line = line z; look = look z }, alone_memory (a.unfinished ∙ sym b.unfinished) (a.frames ∙ sym b.frames))

-- `close`
pub close_once : (l : Line) (e : Event) (n : ℕ) (fate : Fate) (m : AloneMemory) {r s : Line} {m₁ m₂ : AloneMemory} → Closing l e n fate m r m₁ → Closing l e n fate m s m₂ → (r ≡ s) × (m₁ ≡ m₂)
close_once l e n fate m a b = (a.line ∙ sym b.line, alone_memory (a.unfinished ∙ sym b.unfinished) (a.frames ∙ sym b.frames))
