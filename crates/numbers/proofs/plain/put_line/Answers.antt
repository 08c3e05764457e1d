-- `numbers::plain::put_line` meets its contract.
-- Assumes nothing.
use Rattle.std.proofs.Common.{rules, ◌≡◌, ap}
use Rattle.numbers.specs.Plain.{flag}
use Rattle.numbers.specs.declared.plain.Stated.{Stated}
use Rattle.numbers.proofs.Numbers.{put_line_law}
use Rattle.numbers.proofs.plain.put_line.Goals as goal

-- what the state is in numbers
pub returns : goal.returns
returns c =
    let a = c.args in
    let is = c.state_numbers-stated.ensures in
    let refusing : c.from.result ≡ flag a.line.refusing = search rules in
    put_line_law a.numbers.now a.i a.line _ _ _ _ _ (ap (λ (x : Stated). x.state) is) c.last_number.ensures refusing
    (ap (λ (x : Stated). x.tries) is) (ap (λ (x : Stated). x.place) is)
