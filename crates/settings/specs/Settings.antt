-- What a line speaks, and the lengths of a strip reader's blocks.
-- Assumes nothing.
use Rattle.std.specs.Prelude.{ℕ, Bool, true, false}
use Rattle.settings.specs.declared.Patient.{Patient}
use Rattle.settings.specs.declared.Patient.TheVariants.{Ten, Thirteen}
use Rattle.settings.specs.declared.Dialogue.{Dialogue}
use Rattle.settings.specs.declared.Dialogue.TheVariants.{Frames, Blocks}
use Rattle.settings.specs.declared.Settings.{Settings}

-- the length of a patient number [B2]
abbrev pub patient_length : Patient → ℕ
patient_length Ten = 10
patient_length Thirteen = 13

-- the length of a block with results, and of one with colour and turbidity [B2]
abbrev pub results_length : Patient → ℕ
results_length Ten = 236
results_length Thirteen = 239

abbrev pub colours_length : Patient → ℕ
colours_length Ten = 78
colours_length Thirteen = 81

-- the longest block of all [B2]
abbrev pub block_limit : ℕ
block_limit = 239

-- frames, unless it is said otherwise [B1]
abbrev pub standard_settings : Settings
standard_settings = record { dialogue = Frames }

-- by what a line speaks
abbrev pub by_dialogue : {A : Type 0} → Dialogue → A → (Patient → A) → A
by_dialogue Frames frames blocks = frames
by_dialogue (Blocks p) frames blocks = blocks p

-- whether a line speaks frames
abbrev pub speaks_frames : Settings → Bool
speaks_frames t = by_dialogue t.dialogue true (λ p. false)
