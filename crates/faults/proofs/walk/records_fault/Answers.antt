-- `faults::walk::records_fault` meets its contract: the first record, and those behind it.
-- Assumes nothing.
use mathlib.Core.Path.{◌≡◌, sym, ap, subst, ◌∙◌}
use Prim.Native.Nat.{ℕ, ◌≤◌}
use native.Mathlib.Omega.{arith}
use lib.ListN.{length, take}
use Rattle.memory.specs.Tests.{is}
use Rattle.memory.proofs.Tests.{find_le}
use Rattle.characters.specs.Control.{cr}
use Rattle.kinds.specs.Delimiters.{delimiters_of}
use Rattle.kinds.specs.Header.{is_header}
use Rattle.kinds.specs.declared.Delimiters.{Delimiters}
use Rattle.records.specs.Fields.{before}
use Rattle.records.proofs.Scans.{cut_length}
use Rattle.faults.proofs.InForce.{own_first}
use Rattle.faults.proofs.Walked.{header_fine, header_wrong}
use Rattle.faults.proofs.walk.records_fault.Goals as goal

pub overflow_add-last : goal.overflow_add-last
overflow_add-last c =
    let within : c.index_of-e.result ≤ length c.args.text.now = omega (arith, c.index_of-e.ensures, find_le (is cr) c.args.text.now) in
    omega (arith, within, c.well_formed)

pub slice_bounds-check_header-end : goal.slice_bounds-check_header-end
slice_bounds-check_header-end c = cut_length cr c.args.text.now _ c.index_of-e.ensures

-- the four that the text names are those of its first record, where this is long enough to name any
pub check_header-requires : goal.check_header-requires
check_header-requires c =
    let text = c.args.text.now in
    let own = ap (λ (d : Delimiters). is_header d (before cr text)) c.requires.0 ∙ own_first text in
    subst (λ (n : ℕ). is_header c.args.d (take n text) ≡ is_header (delimiters_of (take n text)) (take n text)) (sym c.index_of-e.ensures) own

pub overflow_add-e : goal.overflow_add-e
overflow_add-e c =
    let within : c.index_of-e.result ≤ length c.args.text.now = omega (arith, c.index_of-e.ensures, find_le (is cr) c.args.text.now) in
    omega (arith, within, c.well_formed)

pub rest_fault-requires : goal.rest_fault-requires
rest_fault-requires c =
    let within : c.index_of-e.result ≤ length c.args.text.now = omega (arith, c.index_of-e.ensures, find_le (is cr) c.args.text.now) in
    (c.requires.2, omega arith, omega (arith, within))

pub returns-in-Ok : goal.returns-in-Ok
returns-in-Ok c = header_fine c.args.d c.args.text.now c.index_of-e.result c.requires.1 c.index_of-e.ensures _ c.check_header.ensures c.in-Ok.is c.rest_fault.ensures

pub returns-in-Err : goal.returns-in-Err
returns-in-Err c = header_wrong c.args.d c.args.text.now c.index_of-e.result c.requires.1 c.index_of-e.ensures _ c.check_header.ensures c.in-Err.is
