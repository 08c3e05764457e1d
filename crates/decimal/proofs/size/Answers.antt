-- `decimal::size` meets its contract.
-- Assumes nothing.
use Rattle.std.proofs.Common.{◌≡◌, ℕ, ◌+◌, ◌*◌, ◌^◌, ◌≤◌, ◌<◌, length, Some, None, sym, ◌∙◌, arith, rules}
use Rattle.std.specs.Prelude.{Option, IfNone, IfSome, MatchOption}
use Rattle.decimal.specs.Decimal.{decimal_of, most_digits}
use Rattle.decimal.proofs.Digits.{one_long, digits_by_power}
use Rattle.decimal.proofs.size.Goals as goal

sized : (power : Option ℕ) (n r : ℕ) → IfNone power (n ≡ 0) → IfSome power (λ k. 10 ^ k ≤ n) → IfSome power (λ k. n < 10 * 10 ^ k) → IfSome power (λ k. k < 20)
    → MatchOption power (r ≡ 1) (λ k. r ≡ k + 1) → (r ≡ length (decimal_of n)) × (r ≤ most_digits)
sized None n r zero least most few e = (e ∙ sym (one_long n (omega arith)), omega arith)
sized (Some k) n r zero least most few e = (e ∙ sym (digits_by_power k n least most), omega arith)

pub returns : goal.returns
returns c =
    let power = c.checked_ilog10.ensures in
    sized c.checked_ilog10.result c.args.n c.map_or.result power.none power.power_le power.next_power_gt power.bound (search rules)
