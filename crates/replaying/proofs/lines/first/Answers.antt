-- `replaying::lines::first` meets its contract.
-- Assumes nothing.
use Rattle.std.specs.Prelude.{None, Some}
use Rattle.std.proofs.Common.{◌≡◌, arith}
use Rattle.std.proofs.lemmas.Result.{err_from_is_err_and}
use Rattle.replaying.proofs.Newlines.{by_line_length}
use Rattle.replaying.proofs.lines.first.Goals as goal

pub returns-in_err-n : goal.returns-in_err-n
returns-in_err-n c =
    let p = err_from_is_err_and c.from_residual.result c.from_residual.ensures.1 in
    let none : c.line_length.result ≡ None = c.in_err-n.ensures.ok_part in
    rw (p.1, p.2, ← by_line_length c.args.rest.now c.args.at, ← c.line_length.ensures.value, none) (grind arith)

pub returns-in_err-item : goal.returns-in_err-item
returns-in_err-item c =
    let p = err_from_is_err_and c.from_residual-in_err-item.result c.from_residual-in_err-item.ensures.1 in
    let ends : c.line_length.result ≡ Some c.in_ok-n.n = c.in_ok-n.ensures.ok_part in
    let none : c.read.result ≡ None = c.in_err-item.ensures.ok_part in
    rw (p.1, p.2, ← by_line_length c.args.rest.now c.args.at, ← c.line_length.ensures.value, ends, ← c.read.ensures, none) (grind arith)

pub returns : goal.returns
returns c =
    let ends : c.line_length.result ≡ Some c.in_ok-n.n = c.in_ok-n.ensures.ok_part in
    let item : c.read.result ≡ Some c.in_ok-item.item = c.in_ok-item.ensures.ok_part in
    rw (← by_line_length c.args.rest.now c.args.at, ← c.line_length.ensures.value, ends, ← c.read.ensures, item)
