-- `owner::runs::depth` meets its contract: each arm knows the byte, and the last that it is none of the eight.
-- Assumes nothing.
use Rattle.std.proofs.Common.{arith}
use Rattle.std.proofs.lemmas.Bool.Decides.{nat_tests}
use Rattle.kinds.specs.Kinds.{kind_of}
use Rattle.owner.specs.Inner.Depths.{depth_of}
use Rattle.owner.proofs.runs.depth.Goals as goal

pub returns-in-72 : goal.returns-in-72
unfolding depth_of kind_of
returns-in-72 c = rw c.in-72.is

pub returns-in-76 : goal.returns-in-76
unfolding depth_of kind_of
returns-in-76 c = rw c.in-76.is

pub returns-in-80 : goal.returns-in-80
unfolding depth_of kind_of
returns-in-80 c = rw c.in-80.is

pub returns-in-81 : goal.returns-in-81
unfolding depth_of kind_of
returns-in-81 c = rw c.in-81.is

pub returns-in-79 : goal.returns-in-79
unfolding depth_of kind_of
returns-in-79 c = rw c.in-79.is

pub returns-in-82 : goal.returns-in-82
unfolding depth_of kind_of
returns-in-82 c = rw c.in-82.is

pub returns-in-67 : goal.returns-in-67
unfolding depth_of kind_of
returns-in-67 c = rw c.in-67.is

pub returns-in-77 : goal.returns-in-77
unfolding depth_of kind_of
returns-in-77 c = rw c.in-77.is

pub returns-in_default : goal.returns-in_default
unfolding depth_of kind_of
returns-in_default c = grind (arith, nat_tests)
