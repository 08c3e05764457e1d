-- `streaming::turn` meets its contract.
-- Assumes nothing.
use Rattle.std.proofs.Common.{◌≡◌, true, false, length, sym, ap, ◌∙◌}
use Rattle.replaying.specs.Lents.{desk}
use Rattle.streaming.specs.declared.Kept.{Kept}
use Rattle.streaming.specs.Inner.Places.{LiesIn}
use Rattle.streaming.specs.Inner.Ready.{is_ready}
use Rattle.streaming.proofs.Places.{read_within}
use Rattle.streaming.proofs.Ways.{rows_shown, ready_lies, has_run, has_said}
use Rattle.streaming.proofs.turn.Goals as goal

pub returns-then-not-is_ready-clause-turn : goal.returns-then-not-is_ready-clause-turn
returns-then-not-is_ready-clause-turn c =
    let a = c.args in
    let (next, text, within) = c.say.ensures in
    let waits : is_ready a.kept (length a.input.now) ≡ false = sym c.is_ready.ensures ∙ c.if-not-is_ready.true in
    (has_said a.kept a.input.now a.out.now (desk a.lent.now) waits next text, within)

pub slice_bounds-run-count : goal.slice_bounds-run-count
slice_bounds-run-count c =
    let ready : (let a = c.args in is_ready a.kept (length a.input.now) ≡ true) = sym c.is_ready.ensures ∙ c.if-not-is_ready.false in
    let lies : (let a = c.args in LiesIn a.kept (length a.input.now)) = let a = c.args in ready_lies a.kept (length a.input.now) ready in
    lies.0

pub slice_bounds-run-start : goal.slice_bounds-run-start
slice_bounds-run-start c =
    let ready : (let a = c.args in is_ready a.kept (length a.input.now) ≡ true) = sym c.is_ready.ensures ∙ c.if-not-is_ready.false in
    let lies : (let a = c.args in LiesIn a.kept (length a.input.now)) = let a = c.args in ready_lies a.kept (length a.input.now) ready in
    lies.0

pub slice_bounds-run-end : goal.slice_bounds-run-end
slice_bounds-run-end c =
    let ready : (let a = c.args in is_ready a.kept (length a.input.now) ≡ true) = sym c.is_ready.ensures ∙ c.if-not-is_ready.false in
    let lies : (let a = c.args in LiesIn a.kept (length a.input.now)) = let a = c.args in ready_lies a.kept (length a.input.now) ready in
    lies.1

pub hand_on-requires : goal.hand_on-requires
hand_on-requires c =
    let ready : (let a = c.args in is_ready a.kept (length a.input.now) ≡ true) = sym c.is_ready.ensures ∙ c.if-not-is_ready.false in
    let lies : (let a = c.args in LiesIn a.kept (length a.input.now)) = let a = c.args in ready_lies a.kept (length a.input.now) ready in
    let a = c.args in
    (read_within a.kept a.input.now c.run-progress.result.read lies c.run-progress.ensures.run.1, lies.1)

pub returns-clause-turn : goal.returns-clause-turn
returns-clause-turn c =
    let a = c.args in
    let ready : is_ready a.kept (length a.input.now) ≡ true = sym c.is_ready.ensures ∙ c.if-not-is_ready.false in
    let (next, rest) = c.hand_on.ensures in
    let rows : c.hand_on.result.written ≡ c.run-progress.result.written = ap (λ (x : Kept). x.written) next ∙ rows_shown a.kept c.run-progress.result in
    (has_run a.kept a.input.now a.out.now (desk a.lent.now) {d' = desk c.run-progress.new.lent} ready c.run-progress.ensures.run.0 next rest, rw rows c.run-progress.ensures.run.2)
