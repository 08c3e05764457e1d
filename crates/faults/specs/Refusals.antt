-- Why a text is neither cut nor read, by what is wrong with it.
-- Assumes nothing.
use Rattle.std.specs.Prelude.{Result, Ok, Err}
use Rattle.faults.specs.declared.Flaw.{Flaw}
use Rattle.faults.specs.declared.Refusal.{Refusal}
use Rattle.faults.specs.declared.Refusal.TheVariants.{Malformed, Faulty}

-- of a text that is no message: it is no text, or its first fault and the place of that record [A46, R22]
abbrev pub refused_as : Result (Unit {0}) Flaw → Refusal
refused_as (Ok tt) = Malformed
refused_as (Err Flaw.NotText) = Malformed
refused_as (Err (Flaw.Faulty f place)) = Faulty f place
