-- The proof of the cycle of calls {read_owner, read_run}: a record with the run that it owns, and a run of such records.
-- Assumes nothing.
use Prim.Native.Nat.{◌+◌, ◌<◌, ◌≤◌}
use mathlib.Core.Path.{◌≡◌, ◌∙◌}
use native.Mathlib.Omega.{arith}
use lib.ListN.{length, set}
use Rattle.owner.specs.Inner.Nearest.{depth_at}
use Rattle.owner.proofs.RunLaws.{inside, ready_on, ran_none, ran_on, ran_owner}
use Rattle.owner.proofs.runs.+read_owner_read_run.Goals as goal

-- a record that owns none
pub read_owner-returns-then-depth_at-d : goal.read_owner-returns-then-depth_at-d
read_owner-returns-then-depth_at-d t c =
    let ts = c.args.types.now in
    let n = c.args.n in
    let stored = set c.args.owners.now n c.args.owner in
    let deep : c.args.d ≡ depth_at ts n = c.requires.deep in
    let none : n + 1 < length ts → depth_at ts (n + 1) ≤ depth_at ts n =
    λ h. let e : c.depth_at.result ≡ depth_at ts (n + 1) = c.depth_at.ensures.0 h in omega (arith, e, deep, c.if-depth_at-d.true) in
    ran_owner ts c.args.owners.now stored n (n + 1) c.args.owner (omega arith) c.requires.owned (ran_none ts stored (depth_at ts n) (n + 1) (omega arith) none)

-- a record and the run that it owns
pub read_owner-returns : goal.read_owner-returns
read_owner-returns t c =
    let deep = c.requires.deep in
    ran_owner c.args.types.now c.args.owners.now c.read_run.new.owners c.args.n c.read_run.result c.args.owner
    (omega arith) c.requires.owned (rw deep at c.read_run.ensures)

-- an owner and its run go on with the run that the loop goes through
pub read_run-loop-d-preserved : goal.read_run-loop-d-preserved
read_run-loop-d-preserved t c =
    let l = c.loop-d in
    let ts = c.args.types.now in
    let next = c.read_owner-at.result in
    let after = c.read_owner-at.new.owners in
    let h : l.at < length ts = inside ts l.at c.args.over l.d l.invariant.behind_all c.loop-d-test.true in
    let e : l.d ≡ depth_at ts l.at = l.invariant.deep h in
    let deeper : c.args.over < depth_at ts l.at = omega (arith, e, c.loop-d-test.true) in
    let on : l.at + 1 ≤ next = c.read_owner-at.ensures.up in record {
      from = omega arith;
      within = c.read_owner-at.ensures.within;
      owners_length = c.read_owner-at.auto.owners ∙ l.invariant.owners_length;
      deep = c.depth_at-d-in-loop-d.ensures.0;
      behind_all = c.depth_at-d-in-loop-d.ensures.1;
      ready = ready_on ts l.owners after c.args.over l.at next c.args.owner l.invariant.ready h c.read_owner-at.ensures;
      makes_whole = λ os m r. l.invariant.makes_whole os m (ran_on ts l.owners after os c.args.over l.at next m deeper c.read_owner-at.ensures r);
    }

-- what is left is an empty run
pub read_run-returns : goal.read_run-returns
read_run-returns t c =
    let l = c.loop-d in
    let ts = c.args.types.now in
    let none : l.at < length ts → depth_at ts l.at ≤ c.args.over =
    λ h. let e : l.d ≡ depth_at ts l.at = l.invariant.deep h in omega (arith, e, c.loop-d-test.false) in
    l.invariant.makes_whole l.owners l.at (ran_none ts l.owners c.args.over l.at l.invariant.within none)
