-- `keeping::is_kept` meets its contract.
-- Assumes nothing.
use Rattle.std.proofs.Common.{◌≡◌, ◌↔◌, IsTrue, ℕ, ◌+◌, ◌-◌, ◌<◌, List, length, get_or, take, drop, length-take, length-drop, sym, ◌∙◌, arith, rules}
use Rattle.layout.specs.Layout.{block_start}
use Rattle.keeping.proofs.Walks.{kept_nowhere, kept_short, lent_at, kept_tells}
use Rattle.keeping.proofs.is_kept.Goals as goal

pub returns-then-i-ge-LINES : goal.returns-then-i-ge-LINES
returns-then-i-ge-LINES c =
    let a = c.args in
    kept_nowhere a.numbers.now a.i a.block.now (search rules)

pub returns-then-block-gt-BLOCK_LIMIT : goal.returns-then-block-gt-BLOCK_LIMIT
returns-then-block-gt-BLOCK_LIMIT c =
    let a = c.args in
    kept_short a.numbers.now a.i a.block.now (search rules) (search rules)

pub returns : goal.returns
returns c =
    let ns = c.args.numbers.now in
    let i = c.args.i in
    let bs = c.args.block.now in
    let at = block_start i in
    let ks : List ℕ = take (at + length bs - at) (drop at ns) in
    let long : length ks ≡ length bs = simp (length-take, length-drop) (omega arith) in
    let each : IsTrue c.all.result ↔ ((k : ℕ) → k < length bs → get_or bs k 0 ≡ get_or ks k 0) = search rules in
    kept_tells ns i bs (omega arith) (omega arith)
    (λ t k g. each.0 t k g ∙ lent_at ns at (length bs) k g, λ h. each.1 (λ k g. h k g ∙ sym (lent_at ns at (length bs) k g)))
