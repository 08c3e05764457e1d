-- Any two outcomes that a contract of this crate allows are equal.
-- Assumes nothing.
use mathlib.Core.Path.{◌≡◌, sym, ◌∙◌}
use mathlib.Core.List.{List}
use Prim.Native.Nat.{ℕ}
use Rattle.texts.specs.Texts.{CutFrames, Escaped, Unescaped, RecordsRead}
use Rattle.answers.specs.declared.Made.{Made}

-- `cut`, `escape` and `unescape`
pub cut_once : (text out : List ℕ) {r q : Made} {x y : List ℕ} → CutFrames text out r x → CutFrames text out q y → (r ≡ q) × (x ≡ y)
cut_once text out a b = (a.result ∙ sym b.result, a.after ∙ sym b.after)

pub escape_once : (four text out : List ℕ) {r q : Made} {x y : List ℕ} → Escaped four text out r x → Escaped four text out q y → (r ≡ q) × (x ≡ y)
escape_once four text out a b = (a.result ∙ sym b.result, a.after ∙ sym b.after)

pub unescape_once : (four c out : List ℕ) {r q : Made} {x y : List ℕ} → Unescaped four c out r x → Unescaped four c out q y → (r ≡ q) × (x ≡ y)
unescape_once four c out a b = (a.result ∙ sym b.result, a.after ∙ sym b.after)

-- `read`
pub read_once : (text ts os ls ws : List ℕ) {r q : Made} {ts₁ os₁ ls₁ ws₁ ts₂ os₂ ls₂ ws₂ : List ℕ} → RecordsRead text ts os ls ws r ts₁ os₁ ls₁ ws₁ → RecordsRead text ts os ls ws q ts₂ os₂ ls₂ ws₂
    → (r ≡ q) × (ts₁ ≡ ts₂) × (os₁ ≡ os₂) × (ls₁ ≡ ls₂) × (ws₁ ≡ ws₂)
read_once text ts os ls ws a b = (
  a.result ∙ sym b.result,
  a.types ∙ sym b.types,
  a.offsets ∙ sym b.offsets,
  a.lengths ∙ sym b.lengths,
  a.owners ∙ sym b.owners,
)
