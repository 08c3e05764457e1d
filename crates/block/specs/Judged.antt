-- What a whole block of a strip reader is: right and of a kind, or wrong in the first way that applies.
-- Assumes nothing.
use Rattle.std.specs.Prelude.{ℕ, ◌+◌, ◌-◌, ◌/◌, ◌%◌, Bool, cond, ◌&&◌, ◌||◌, List, [], ◌∷◌, eqb, length, get_or, take}
use Rattle.std.specs.Int.Bits.{bit_xor}
use Rattle.memory.specs.Tests.{is, unless}
use Rattle.settings.specs.Settings.{results_length, colours_length}
use Rattle.settings.specs.declared.Patient.{Patient}
use Rattle.block.specs.Places.{matches}
use Rattle.block.specs.Layouts.{spm, rep, end, control_block, results_block, colours_block}
use Rattle.block.specs.declared.Judged.{Judged}
use Rattle.block.specs.declared.Judged.TheVariants.{OddLength, OddTest, OddByte, Multiple, Repeat, End, Colours, Results}

-- the bytes of a control block
abbrev pub control_length : ℕ
control_length = 6

-- the lengths that a block may have [B2]
unfoldable pub is_length : Patient → ℕ → Bool
is_length p n = eqb n control_length || eqb n (colours_length p) || eqb n (results_length p)

-- the exclusive or of bytes, from t on
unfoldable pub test_from : ℕ → List ℕ → ℕ
test_from t [] = t
test_from t (b ∷ bs) = test_from (bit_xor t b) bs

-- the test byte of the bytes that it counts [B3]
abbrev pub test_byte : List ℕ → ℕ
test_byte bs = test_from 0 bs

-- its two halves, each joined with 30: the high one first [B3]
abbrev pub high_test : ℕ → ℕ
high_test t = 0x30 + t / 16

abbrev pub low_test : ℕ → ℕ
low_test t = 0x30 + t % 16

-- the two bytes before the last are the test bytes of all before them [B3]
unfoldable pub is_tested : List ℕ → Bool
is_tested bs =
    let t = test_byte (take (length bs - 3) bs) in
    is (high_test t) (get_or bs (length bs - 3) 0) && is (low_test t) (get_or bs (length bs - 2) 0)

-- a block of six bytes, by its code [B4]
unfoldable pub control_of : List ℕ → Judged
control_of bs = cond (matches (control_block spm) bs) Multiple (cond (matches (control_block rep) bs) Repeat (cond (matches (control_block end) bs) End OddByte))

-- a longer one, by its length [B5]
unfoldable pub data_of : Patient → List ℕ → Judged
data_of p bs =
    cond (eqb (length bs) (colours_length p)) (unless (matches (colours_block p) bs) OddByte Colours)
    (unless (matches (results_block p) bs) OddByte Results)

-- 70, 71, 72, or what the block is [A70, A71, A72]
unfoldable pub judged_of : Patient → List ℕ → Judged
judged_of p bs =
    unless (is_length p (length bs)) OddLength
    (unless (is_tested bs) OddTest
    (cond (eqb (length bs) control_length) (control_of bs) (data_of p bs)))
