-- The fields of a result record (R) that have a name. [R15]
-- Assumes nothing.
use Rattle.std.specs.Prelude.{ℕ}
use Rattle.component.specs.declared.ResultField.{ResultField}
use Rattle.component.specs.declared.ResultField.TheVariants.{Test, Value, Units, Flag, Status, Completion}

abbrev pub result_number : ResultField → ℕ
result_number Test = 3
result_number Value = 4
result_number Units = 5
result_number Flag = 7
result_number Status = 9
result_number Completion = 13
