-- `finding::trimming::spaces_in_front` meets its contract.
-- Assumes nothing.
use Rattle.std.proofs.Common.{◌≡◌, ℕ, ◌≤◌, ◌<◌, length, get_or, rules}
use Rattle.finding.proofs.Trims.{front_at}
use Rattle.finding.proofs.trimming.spaces_in_front.Goals as goal

pub returns : goal.returns
returns c =
    let s = c.args.text.now in
    let i = c.unwrap_or.result in
    let within : i ≤ length s = search rules in
    let spaces : (k : ℕ) → k < i → get_or s k 0 ≡ 0x20 = search rules in
    let other : i < length s → get_or s i 0 ≡ 0x20 → ⊥ = search rules in
    (within, front_at s i within spaces other)
