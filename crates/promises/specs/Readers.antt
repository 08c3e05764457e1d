-- A strip reader's line: what each of its blocks is answered and what goes out then; and what the kept block is, over runs.
-- Assumes nothing.
use Rattle.strips.specs.declared.Reply.{Reply}
use Rattle.std.specs.Prelude.{ℕ, ◌≡◌, true, false, List, [], ◌∷◌, ◌++◌, length, take, Option}
use Rattle.settings.specs.Settings.{results_length}
use Rattle.settings.specs.declared.Patient.{Patient}
use Rattle.settings.specs.declared.Dialogue.TheVariants.{Blocks}
use Rattle.block.specs.Controls.{control_bytes}
use Rattle.block.specs.Judged.{judged_of}
use Rattle.block.specs.Layouts.{mor, rep}
use Rattle.block.specs.declared.Judged.{Judged}
use Rattle.block.specs.declared.Judged.TheVariants.{OddLength, OddTest, OddByte, Multiple, Repeat, End, Colours, Results}
use Rattle.finding.specs.Findings.{finding_of}
use Rattle.strips.specs.Readers.{Memo, is_again}
use Rattle.strips.specs.Replies.{reply_block}
use Rattle.strips.specs.Sights.{sight_of}
use Rattle.strips.specs.declared.Sight.TheVariants.{Judges}
use Rattle.uploads.specs.Uploads.{block_bytes}
use Rattle.looking.specs.Views.{frames_of}
use Rattle.looking.specs.declared.Kind.TheVariants.{Byte}
use Rattle.gateway.specs.Events.{line_at, dialogue_at, memo_at}
use Rattle.serial.specs.Serial.{final}
use Rattle.promises.specs.Machine.{State, GatewayItem, came, step, store_of}
use Rattle.promises.specs.Runs.{Beginning, fresh, answered, has_space}
use Rattle.promises.specs.Queue.{completed, all_stored}

-- ---- a block

-- line i is a reader's, with patient numbers of this length, and the byte b ends a block there [B1, B6]
pub record Ends (s : State) (i b : ℕ) (p : Patient) : Type 0 where
  pub speaks : dialogue_at s.gateway i ≡ Blocks p
  pub judges : sight_of p (line_at s.gateway i) b ≡ Judges

-- that block
abbrev pub block_at : State → ℕ → ℕ → List ℕ
block_at s i b = block_bytes (line_at s.gateway i) b (frames_of i s.memory.frames)

-- the byte b on line i is answered with this number, and these bytes go out
pub record Told (s : State) (i b number : ℕ) (out : List ℕ) : Type 0 where
  pub number_is : answered (step s (came i (Byte b))).0 ≡ number
  pub out_is : (step s (came i (Byte b))).0.buffer ≡ out

-- ledger and journal stay
abbrev pub StoreKept : State → ℕ → ℕ → Type 0
StoreKept s i b = store_of (step s (came i (Byte b))).1 ≡ store_of s

-- the number of a block that is not with results, and what goes out, where our last reply was this one [A11, A70, A71, A72, B11]
abbrev pub number_for : Judged → ℕ
number_for OddLength = 70
number_for OddTest = 71
number_for OddByte = 72
number_for Multiple = 11
number_for Repeat = 11
number_for End = 11
number_for Colours = 11
number_for Results = 11

abbrev pub out_for : Judged → Option Reply → List ℕ
out_for OddLength r = control_bytes rep
out_for OddTest r = control_bytes rep
out_for OddByte r = control_bytes rep
out_for Multiple r = control_bytes mor
out_for Repeat r = reply_block r
out_for End r = []
out_for Colours r = control_bytes mor
out_for Results r = control_bytes mor

-- a block with results is stored, and more is asked for; it is crowded out, and nothing goes out; or it is the last stored one, repeated with an SPM or REP between:
-- more is asked for, and it is not stored again [A4, A31, B9, B10]
pub data ResultsTold (s : State) (i b : ℕ) (p : Patient) : Type 0 where
  filed : is_again (memo_at s.gateway i) (block_at s i b) ≡ false → has_space s i (length (finding_of p (block_at s i b))) ≡ true → completed s i (Byte b) ≡ finding_of p (block_at s i b)
      → Told s i b 4 (control_bytes mor) → ResultsTold s i b p
  crowded : is_again (memo_at s.gateway i) (block_at s i b) ≡ false → has_space s i (length (finding_of p (block_at s i b))) ≡ false → StoreKept s i b → Told s i b 31 [] → ResultsTold s i b p
  repeated : is_again (memo_at s.gateway i) (block_at s i b) ≡ true → StoreKept s i b → Told s i b 11 (control_bytes mor) → ResultsTold s i b p

-- ---- the kept block, over runs

-- as many bytes as a block with results has
abbrev pub kept_block : Patient → Memo → List ℕ
kept_block p w = take (results_length p) w.block

-- the last of a list
pub record LastOf (xs : List (List ℕ)) (x : List ℕ) : Type 0 where
  pub before : List (List ℕ)
  pub is : xs ≡ before ++ (x ∷ [])

-- line i is a reader's, what it keeps is a right block with results, and that block's finding is the last of these texts [B7]
pub record KeepsLast (s : State) (i : ℕ) (texts : List (List ℕ)) : Type 0 where
  pub patient : Patient
  pub speaks : dialogue_at s.gateway i ≡ Blocks patient
  pub right : judged_of patient (kept_block patient (memo_at s.gateway i)) ≡ Results
  pub last : LastOf texts (finding_of patient (kept_block patient (memo_at s.gateway i)))

-- after the run es: the last text that was stored on the line in that run
abbrev pub KeptStored : Beginning → List GatewayItem → ℕ → Type 0
KeptStored b es i = KeepsLast (final step (fresh b) es) i (all_stored i (fresh b) es)
