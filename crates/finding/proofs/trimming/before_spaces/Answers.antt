-- `finding::trimming::before_spaces` meets its contract.
-- Assumes nothing.
use Rattle.std.proofs.Common.{◌≡◌, ℕ, ◌-◌, ◌≤◌, ◌<◌, length, get_or, rules}
use Rattle.finding.proofs.Trims.{back_at}
use Rattle.finding.proofs.trimming.before_spaces.Goals as goal

pub returns : goal.returns
returns c =
    let s = c.args.text.now in
    let n = c.map_or.result in
    let within : n ≤ length s = search rules in
    let spaces : (k : ℕ) → n ≤ k → k < length s → get_or s k 0 ≡ 0x20 = search rules in
    let other : 0 < n → get_or s (n - 1) 0 ≡ 0x20 → ⊥ = search rules in
    (within, back_at s n within spaces other)
