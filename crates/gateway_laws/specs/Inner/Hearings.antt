-- The answers that go with what is done on a reader's line.
-- Assumes nothing.
use Rattle.std.specs.Prelude.{◌≡◌, ◌⊎◌}
use Rattle.answers.specs.declared.Answer.{Answer}
use Rattle.answers.specs.declared.Answer.TheVariants.{Nothing, Filed, Crowded}
use Rattle.uploads.specs.Uploads.{Deed, leave, add, settle, file}
use Rattle.gateway_laws.specs.Classes.{quiet, hearing, class_of}

-- an answer goes with a deed: where a deed has more than one, by its class
abbrev pub GoesWith : Deed → Answer → Type 0
GoesWith leave a = class_of a ≡ quiet
GoesWith add a = a ≡ Nothing
GoesWith (settle r) a = (class_of a ≡ hearing) ⊎ (a ≡ Crowded)
GoesWith file a = a ≡ Filed
