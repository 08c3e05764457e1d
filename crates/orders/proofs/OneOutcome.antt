-- Any two outcomes that a contract of this crate allows are equal.
-- Assumes nothing.
use mathlib.Core.Path.{◌≡◌, sym, ◌∙◌}
use mathlib.Core.List.{List}
use Prim.Native.Nat.{ℕ}
use Rattle.answers.specs.declared.Answered.{Answered}
use Rattle.answers.specs.declared.Made.{Made}
use Rattle.receiving.specs.Steps.{Memory}
use Rattle.orders.specs.Calls.{Sent, Fetched}

-- `send`
pub send_once : (ns : List ℕ) (i : ℕ) (text : List ℕ) (m : Memory) {r q : Answered} {ns₁ u₁ ns₂ u₂ : List ℕ} → Sent ns i text m r ns₁ u₁ → Sent ns i text m q ns₂ u₂
    → (r ≡ q) × (ns₁ ≡ ns₂) × (u₁ ≡ u₂)
send_once ns i text m x y = (x.result ∙ sym y.result, x.numbers ∙ sym y.numbers, x.unfinished ∙ sym y.unfinished)

-- `outgoing`
pub outgoing_once : (ns : List ℕ) (i : ℕ) (u out : List ℕ) {r q : Made} {out₁ out₂ : List ℕ} → Fetched ns i u out r out₁ → Fetched ns i u out q out₂ → (r ≡ q) × (out₁ ≡ out₂)
outgoing_once ns i u out x y = (x.answer ∙ sym y.answer, x.after ∙ sym y.after)
