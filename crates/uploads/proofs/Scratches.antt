-- What lies in a scratch: the block that a byte ends, and the finding of a block with results.
-- Assumes nothing.
use Rattle.std.proofs.lemmas.Option.{same_Some}
use Rattle.std.specs.Prelude.{Option, Some, true}
use Rattle.std.specs.Option.{is_some}
use mathlib.Core.Path.{sym, ◌≡◌, ap, ◌∙◌}
use mathlib.Core.Bool.{Bool}
use mathlib.Core.List.{List, [], ◌∷◌, ◌++◌}
use Prim.Native.Nat.{ℕ, ◌+◌, ◌-◌, ◌≤◌, ◌<◌}
use native.Mathlib.Nat.{add-zero}
use native.Mathlib.Numerals.{add-one}
use native.Mathlib.Omega.{arith}
use borrow.Author.Tests.{eq-eqb}
use lib.ListN.{length, take, drop, set}
use lib.Seq.{take-suc-set}
use Rattle.memory.specs.Sizes.{lines, frame_part, frames_size}
use Rattle.memory.specs.Parts.{part, splice}
use Rattle.memory.specs.Moves.{Copied}
use Rattle.memory.proofs.Parts.{length_part, part_lent, part_part, length_splice}
use Rattle.memory.proofs.Moves.{held, piece_held, copied_fits}
use Rattle.settings.specs.Settings.{results_length, block_limit}
use Rattle.settings.specs.declared.Patient.{Patient}
use Rattle.looking.specs.Views.{frame_start, frames_of}
use Rattle.finding.specs.Findings.{finding_limit, finding_of, put_length, put_over, FindingPut}
use Rattle.finding.proofs.Fills.{finding_short}

-- n collected bytes of line i's part of the frames are copied over the start of a scratch, and a byte is put behind them
module _ (place frames : List ℕ) (i n b : ℕ) {r : Bool} {place' : List ℕ} (long : length place ≡ block_limit) (few : n < block_limit) (h : i < lines) (size : length frames ≡ frames_size)
    (x : Copied place 0 (take (frame_start i + n - frame_start i) (drop (frame_start i) frames)) r place') where
  lent_long : length (take (frame_start i + n - frame_start i) (drop (frame_start i) frames)) ≡ n
  lent_long = ap length (part_lent frames (frame_start i) n) ∙ length_part frames (frame_start i) n (omega arith)

  laid : place' ≡ splice place 0 (take (frame_start i + n - frame_start i) (drop (frame_start i) frames))
  laid = (copied_fits place 0 (take (frame_start i + n - frame_start i) (drop (frame_start i) frames)) x (omega (arith, lent_long))).1

  pub still_long : length place' ≡ block_limit
  still_long = ap length laid ∙ length_splice place 0 (take (frame_start i + n - frame_start i) (drop (frame_start i) frames)) (omega (arith, lent_long)) ∙ long

  pub gathered : take (n + 1) (set place' n b) ≡ part (frames_of i frames) 0 n ++ (b ∷ [])
  gathered =
      let front : take n place' ≡ part frames (frame_start i) n = piece_held place frames (frame_start i) n (omega arith) (omega arith) laid in
      let own : part (frames_of i frames) 0 n ≡ part frames (frame_start i) n = part_part frames (frame_start i) frame_part 0 n (omega arith) ∙ rw (add-zero (frame_start i)) in
      rw (add-one, take-suc-set place' n b (omega (arith, still_long)), front, own)

-- the finding of a block of the right length, in a scratch of the right size
module _ (p : Patient) (bs out : List ℕ) {r : Option ℕ} {out' : List ℕ} (right : length bs ≡ results_length p) (size : length out ≡ finding_limit) (x : FindingPut p bs out r out') where
  made_answer : r ≡ Some (length (finding_of p bs))
  unfolding put_length
  made_answer = x.answer ∙ rw (eq-eqb (length bs) (results_length p) right, size)

  pub made_there : is_some r ≡ true
  made_there = ap is_some made_answer

  made_length : {n : ℕ} → r ≡ Some n → n ≡ length (finding_of p bs)
  made_length is = same_Some _ _ (sym is ∙ made_answer)

  made_over : out' ≡ splice out 0 (finding_of p bs)
  unfolding put_over
  made_over = x.after ∙ rw (eq-eqb (length bs) (results_length p) right, size)

  pub made_fits : {n : ℕ} → r ≡ Some n → n ≤ length out'
  made_fits is =
      let short : length (finding_of p bs) ≤ finding_limit = finding_short p bs in
      let same : length out' ≡ length out = ap length made_over ∙ length_splice out 0 (finding_of p bs) (omega arith) in
      omega (arith, made_length is)

  pub made_text : {n : ℕ} → r ≡ Some n → take n out' ≡ finding_of p bs
  made_text is =
      let short : length (finding_of p bs) ≤ finding_limit = finding_short p bs in
      rw (made_length is) (held out (finding_of p bs) (omega arith) made_over)
