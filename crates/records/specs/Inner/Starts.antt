-- Where the bytes behind a text's last CR start.
-- Assumes nothing.
use Rattle.std.specs.Prelude.{ℕ, ◌-◌, List, length}
use Rattle.records.specs.Records.{behind_last_cr}

abbrev pub last_start : List ℕ → ℕ
last_start text = length text - length (behind_last_cr text)
