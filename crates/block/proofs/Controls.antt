-- Laws of the control blocks that we send: each is right by our own tests; and what each way out of the writing of one says.
-- Assumes nothing.
use Rattle.std.specs.Prelude.{Option, Some, None}
use mathlib.Core.Path.{◌≡◌, refl, sym, ap, ◌∙◌}
use mathlib.Core.Bool.{Bool, true, false, cond}
use mathlib.Core.List.{List, [], ◌∷◌}
use Prim.Native.Nat.{ℕ}
use borrow.Author.Tests.{eq-eqb}
use lib.ListN.{length}
use Rattle.memory.specs.Moves.{fits_at, copied, Copied}
use Rattle.characters.specs.Control.{stx, etx}
use Rattle.settings.specs.declared.Patient.{Patient}
use Rattle.block.specs.Places.{matches}
use Rattle.block.specs.Layouts.{spm, rep, end, mor, control_block}
use Rattle.block.specs.Judged.{control_length, is_length, test_from, test_byte, high_test, low_test, is_tested, control_of, judged_of}
use Rattle.block.specs.declared.Judged.TheVariants.{Multiple, Repeat, End}
use Rattle.block.specs.Controls.{control_bytes, ControlPut}

-- every control block, MOR too, passes the tests of its length, of its test bytes and of its layout, whatever its code
pub control_long : (code : ℕ) → length (control_bytes code) ≡ control_length
unfolding control_bytes
control_long code = refl

pub control_tested : (code : ℕ) → is_tested (control_bytes code) ≡ true
unfolding is_tested control_bytes
control_tested code =
    let t = test_byte (stx ∷ code ∷ etx ∷ []) in
    rw (eq-eqb (high_test t) (high_test t) refl, eq-eqb (low_test t) (low_test t) refl)

pub control_matches : (code : ℕ) → matches (control_block code) (control_bytes code) ≡ true
unfolding control_bytes
control_matches code = rw (eq-eqb code code refl)

pub control_right : (code : ℕ) → (is_tested (control_bytes code) ≡ true) × (matches (control_block code) (control_bytes code) ≡ true)
control_right code = (control_tested code, control_matches code)

-- so it is judged by its code alone
judged_by_code : (p : Patient) (code : ℕ) → judged_of p (control_bytes code) ≡ control_of (control_bytes code)
unfolding judged_of is_length
judged_by_code p code = rw (control_long code, control_tested code)

-- those of a reader are what it says
pub control_judged : (p : Patient) → (judged_of p (control_bytes spm) ≡ Multiple) × (judged_of p (control_bytes rep) ≡ Repeat) × (judged_of p (control_bytes end) ≡ End)
unfolding control_of control_bytes
control_judged p = (judged_by_code p spm, judged_by_code p rep, judged_by_code p end)

-- the blocks that the maker prints as examples: SPM, MOR, REP [B4]
pub control_examples :
    (control_bytes spm ≡ 0x02 ∷ 0x3c ∷ 0x03 ∷ 0x33 ∷ 0x3d ∷ 0x0d ∷ [])
    × (control_bytes mor ≡ 0x02 ∷ 0x3e ∷ 0x03 ∷ 0x33 ∷ 0x3f ∷ 0x0d ∷ [])
    × (control_bytes rep ≡ 0x02 ∷ 0x3f ∷ 0x03 ∷ 0x33 ∷ 0x3e ∷ 0x0d ∷ [])
unfolding control_bytes test_from
control_examples = (refl, refl, refl)

-- `put_control`: any two outcomes that its contract allows are equal
pub put_once : (code : ℕ) (out : List ℕ) {r q : Option ℕ} {x y : List ℕ} → ControlPut code out r x → ControlPut code out q y → (r ≡ q) × (x ≡ y)
put_once code out a b = (a.answer ∙ sym b.answer, a.after ∙ sym b.after)
