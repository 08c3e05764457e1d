-- What ends a listing before its end, and what it leaves.
-- Assumes nothing.
use Rattle.replay.specs.declared.turns.Fault.{Fault}
use Rattle.replay.specs.declared.turns.Fault.TheVariants.{Trace, Output}

-- the fault is a read's
abbrev pub OfTrace : Fault → Type 0
OfTrace (Trace e) = Unit {0}
OfTrace (Output e) = ⊥

-- the fault is a write's
abbrev pub OfOutput : Fault → Type 0
OfOutput (Trace e) = ⊥
OfOutput (Output e) = Unit {0}

-- where a read fails, what was to be written before it is written
abbrev pub LeavesWritten : Type 0 → Fault → Type 0
LeavesWritten written (Trace e) = written
LeavesWritten written (Output e) = Unit {0}
