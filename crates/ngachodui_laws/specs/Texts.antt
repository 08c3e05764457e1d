-- Messages that a host has cut and read by the library, and texts that it has escaped and unescaped.
-- Assumes nothing.
use Rattle.std.specs.Prelude.{ℕ, ◌*◌, ◌≤◌, ◌≡◌, ◌≢◌, false, List, length, take}
use Rattle.memory.specs.Sizes.{frame_limit}
use Rattle.memory.specs.Parts.{splice}
use Rattle.cutting.specs.Frames.{cut_of}
use Rattle.answers.specs.Paper.{is_faulty}
use Rattle.answers.specs.InNumbers.{done}
use Rattle.texts.specs.Texts.{CutFrames, Escaped, Unescaped, RecordsRead}
use Rattle.answers.specs.declared.Made.{Made}

-- whatever the contract of `ngachodui_cut` allows for m, given memory for its frames: they stand at the memory's start, and the rest stays
pub record CutWhole (m out : List ℕ) (r : Made) (out' : List ℕ) : Type 0 where
  pub answer : r ≡ done (length (cut_of frame_limit m))
  pub frames : out' ≡ splice out 0 (cut_of frame_limit m)

abbrev pub Cut : List ℕ → Type 0
Cut m = (out out' : List ℕ) (r : Made) → CutFrames m out r out' → length (cut_of frame_limit m) ≤ length out → CutWhole m out r out'

-- whatever the contract of `ngachodui_read` allows for this text, it is neither 46 nor a fault
pub record Readable (text : List ℕ) : Type 0 where
  pub never_46 : (ts os ls ws ts' os' ls' ws' : List ℕ) (r : Made) → RecordsRead text ts os ls ws r ts' os' ls' ws' → r.number ≢ 46
  pub never_faulty : (ts os ls ws ts' os' ls' ws' : List ℕ) (r : Made) → RecordsRead text ts os ls ws r ts' os' ls' ws' → is_faulty r.number ≡ false

-- a text is put out: its length is in the answer, its bytes stand at the memory's start
pub record PutOut (text : List ℕ) (r : Made) (out' : List ℕ) : Type 0 where
  pub answer : r ≡ done (length text)
  pub bytes : take (length text) out' ≡ text

-- whatever the contracts of `ngachodui_escape_2` and `ngachodui_unescape_2` allow with these four: a text that is escaped into three bytes for each of its own is
-- written, and what was written, unescaped into as many bytes as the text has, puts out the text [R20]
pub record ComesBack (four text : List ℕ) : Type 0 where
  pub escapes : (out out' : List ℕ) (r : Made) → Escaped four text out r out' → 3 * length text ≤ length out → r.number ≡ 0
  pub returns : (out out' back back' : List ℕ) (r q : Made) → Escaped four text out r out' → r.number ≡ 0
      → Unescaped four (take r.length out') back q back' → length text ≤ length back → PutOut text q back'

-- and a component whose text was written, as it is unescaped: that text, escaped into as many bytes as the component has, puts out the component [R20]
abbrev pub GoesBack : List ℕ → List ℕ → Type 0
GoesBack four c = (out out' back back' : List ℕ) (r q : Made) → Unescaped four c out r out' → r.number ≡ 0
    → Escaped four (take r.length out') back q back' → length c ≤ length back → PutOut c q back'
