-- `listing::write_fault` meets its contract.
-- Assumes nothing.
use Rattle.std.proofs.Common.{◌≡◌, ℕ, ◌+◌, ◌≤◌, List, ◌++◌, length, ap, ◌∙◌, append_assoc, arith, length-append, rules}
use Rattle.memory.specs.Parts.{splice}
use Rattle.memory.proofs.Moves.{copied_fits}
use Rattle.decimal.specs.Decimal.{decimal_of}
use Rattle.listing.specs.Texts.{line_text, no_event_text, fault_text}
use Rattle.decimal.proofs.Stores.{joined}
use Rattle.decimal.proofs.Putting.{put_fits}
use Rattle.listing.proofs.Stores.{text_no, text_yes}
use Rattle.listing.proofs.Columns.{length_fault}
use Rattle.listing.proofs.write_fault.Goals as goal

pub returns-then-out-at : goal.returns-then-out-at
returns-then-out-at c =
    let a = c.args in
    text_no (fault_text a.line) a.out.now a.at (omega arith)

pub returns-then-out-at-2 : goal.returns-then-out-at-2
returns-then-out-at-2 c =
    let a = c.args in
    text_no (fault_text a.line) a.out.now a.at (omega (arith, length_fault a.line, c.size.ensures.0))

pub returns : goal.returns
unfolding fault_text
returns c =
    let a = c.args in
    let out : List ℕ = a.out.now in
    let digits : List ℕ = decimal_of a.line in
    let k : c.size.result ≡ length digits = c.size.ensures.0 in
    let m = length_fault a.line in
    let room : a.at + length (fault_text a.line) ≤ length out = omega (arith, m, k) in
    let l = length-append line_text digits in
    let first = (copied_fits out a.at line_text c.copy_at.ensures (search rules)).1 in
    let put = put_fits a.line _ _ c.put-end.ensures (omega (arith, room, m, c.copy_at)) in
    let number = joined out a.at line_text digits (omega (arith, room, m)) (omega arith) first put.1 in
    let behind = (copied_fits _ _ no_event_text c.copy_at-2.ensures (omega (arith, m, k, c.put-end, put.0))).1 in
    let whole = joined out a.at (line_text ++ digits) no_event_text (omega (arith, room, m, l)) (omega (arith, k, l, put.0)) number behind in
    text_yes (fault_text a.line) out a.at room (omega (arith, m, k)) (whole ∙ ap (splice out a.at) (append_assoc line_text digits no_event_text))
