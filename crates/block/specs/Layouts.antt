-- How the blocks of a strip reader are laid out.
-- Assumes nothing.
use Rattle.std.specs.Prelude.{ℕ, List, [], ◌∷◌, ◌++◌}
use Rattle.characters.specs.Control.{stx, etx, cr}
use Rattle.settings.specs.Settings.{patient_length}
use Rattle.settings.specs.declared.Patient.{Patient}
use Rattle.block.specs.Places.{Place, fixed, test, some_data, spaces, letters}

-- the codes of the control blocks: the reader asks whether we are ready (SPM), asks for our last reply again (REP), and ends (END); we want more (MOR) [B4]
abbrev pub spm : ℕ
spm = 0x3c

abbrev pub rep : ℕ
rep = 0x3f

abbrev pub end : ℕ
end = 0x3a

abbrev pub mor : ℕ
mor = 0x3e

-- the code of a block with data, and the letters of results and of colours [B5]
abbrev pub spe : ℕ
spe = 0x3b

abbrev pub results_letter : ℕ
results_letter = 0x45

abbrev pub colours_letter : ℕ
colours_letter = 0x44

-- what ends every block [B3]
abbrev pub back : List Place
back = fixed etx ∷ test ∷ test ∷ fixed cr ∷ []

-- a control block [B4]
abbrev pub control_block : ℕ → List Place
control_block code = fixed stx ∷ fixed code ∷ back

-- patient, sequence number, date and time, each with a space behind it [B5]
abbrev pub front : ℕ → Patient → List Place
front letter p =
    fixed stx ∷ fixed spe ∷ fixed letter ∷ (spaces 1 ++ (some_data (patient_length p) ++ (spaces 1 ++ (some_data 5 ++ (spaces 1 ++ (some_data 8 ++ (spaces 1 ++ (some_data 5 ++ spaces 1))))))))

-- a result: its name, how many bytes of data, and how many spaces behind them
pub record Result : Type 0 where
  pub name : List ℕ
  pub value : ℕ
  pub blank : ℕ

abbrev result : List ℕ → ℕ → ℕ → Result
result name value blank = record { name = name; value = value; blank = blank }

-- the eleven: SG PH LEU NIT PRO GLU KET UBG BIL ERY NAG [B5]
abbrev pub results : List Result
results =
    result (0x53 ∷ 0x47 ∷ []) 5 6
    ∷ result (0x50 ∷ 0x48 ∷ []) 3 6
    ∷ result (0x4c ∷ 0x45 ∷ 0x55 ∷ []) 16 1
    ∷ result (0x4e ∷ 0x49 ∷ 0x54 ∷ []) 8 1
    ∷ result (0x50 ∷ 0x52 ∷ 0x4f ∷ []) 16 1
    ∷ result (0x47 ∷ 0x4c ∷ 0x55 ∷ []) 16 1
    ∷ result (0x4b ∷ 0x45 ∷ 0x54 ∷ []) 16 1
    ∷ result (0x55 ∷ 0x42 ∷ 0x47 ∷ []) 16 1
    ∷ result (0x42 ∷ 0x49 ∷ 0x4c ∷ []) 16 1
    ∷ result (0x45 ∷ 0x52 ∷ 0x59 ∷ []) 16 1
    ∷ result (0x4e ∷ 0x41 ∷ 0x47 ∷ []) 0 17
    ∷ []

abbrev pub places_of : List Result → List Place
places_of [] = []
places_of (r ∷ rs) = letters r.name ++ (some_data r.value ++ (spaces r.blank ++ places_of rs))

-- a block with results, E [B5]
unfoldable pub results_block : Patient → List Place
results_block p = front results_letter p ++ (places_of results ++ back)

-- a block with colour and turbidity, D [B5]
unfoldable pub colours_block : Patient → List Place
colours_block p = front colours_letter p ++ (some_data 18 ++ (spaces 1 ++ (some_data 18 ++ (spaces 1 ++ back))))
