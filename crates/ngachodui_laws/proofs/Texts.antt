-- A message that a host hands over is cut whole, and what it has taken can be read.
-- Assumes nothing.
use Rattle.std.specs.Prelude.{Err, Ok, Result, ℕ}
use Rattle.faults.specs.declared.Refusal.TheVariants.{Faulty, Malformed, NotFitting}
use Rattle.faults.specs.declared.Refusal.{Refusal}
use mathlib.Core.Path.{◌≡◌, refl, sym, ap, ◌∙◌, subst}
use mathlib.Core.Logic.{◌≢◌}
use mathlib.Core.Bool.{true, false}
use mathlib.Core.List.{List}
use Prim.Native.Nat.{ℕ, ◌<◌}
use native.Mathlib.Omega.{arith}
use borrow.Author.Tests.{le-leb}
use lib.ListN.{length}
use Rattle.memory.specs.Sizes.{lines, frame_limit}
use Rattle.faults.specs.Message.{is_message}
use Rattle.cutting.specs.Frames.{cut_of, is_cuttable, cut_answer, cut_in}
use Rattle.owner.specs.Reading.{reading_of}
use Rattle.answers.specs.Paper.{is_faulty}
use Rattle.answers.specs.declared.Fault.{Fault}
use Rattle.journal_laws.specs.Runs.{Numbered}
use Rattle.serial.specs.Serial.{Every}
use Rattle.promises.specs.Runs.{fresh}
use Rattle.promises.specs.Queue as queue
use Rattle.promises.specs.OnlyMessages as there
use Rattle.promises.proofs.OnlyMessages as messages
use Rattle.promises.proofs.Every.{every_so}
use Rattle.texts.specs.Texts.{made_of}
use Rattle.answers.specs.declared.Made.{Made}
use Rattle.ngachodui_laws.specs.HostRuns.{Run, history_of}
use Rattle.ngachodui_laws.specs.Queue.{all_taken}
use Rattle.ngachodui_laws.specs.Texts.{Cut, Readable}
use Rattle.ngachodui_laws.proofs.HostRuns.{begun, begun_right}
use Rattle.ngachodui_laws.proofs.Queue.{taken_from_fresh}

pub cut_whole : (m : List ℕ) → is_message m ≡ true → Cut m
unfolding cut_answer cut_in is_cuttable made_of
cut_whole m message out out' r c room =
    let fits = le-leb (length (cut_of frame_limit m)) (length out) room in
    record { answer = c.result ∙ rw (message, fits); frames = c.after ∙ rw (message, fits) }

-- of what reading comes to, only one is answered 46, and only faults are answered as such
not_46 : (x : Result ℕ Refusal) → x ≢ Err Malformed → ((f : Fault) (place : ℕ) → x ≢ Err (Faulty f place)) → (made_of x).number ≢ 46
unfolding made_of
not_46 (Ok n) h q e = absurd (omega arith)
not_46 (Err Malformed) h q e = h refl
not_46 (Err NotFitting) h q e = absurd (omega arith)
not_46 (Err (Faulty f place)) h q e = q f place refl

not_faulty : (x : Result ℕ Refusal) → ((f : Fault) (place : ℕ) → x ≢ Err (Faulty f place)) → is_faulty (made_of x).number ≡ false
unfolding made_of
not_faulty (Ok n) q = refl
not_faulty (Err Malformed) q = refl
not_faulty (Err NotFitting) q = refl
not_faulty (Err (Faulty f place)) q = absurd (q f place refl)

module _ (text : List ℕ) (h : there.Readable text) (ts os ls ws : List ℕ) where
  abbrev reading : Result ℕ Refusal
  reading = reading_of text (length ts) (length os) (length ls) (length ws)

  faultless : (f : Fault) (place : ℕ) → reading ≢ Err (Faulty f place)
  faultless f place = h.never_faulty f place (length ts) (length os) (length ls) (length ws)

  read_not_46 : (made_of reading).number ≢ 46
  read_not_46 = not_46 reading (h.never_46 (length ts) (length os) (length ls) (length ws)) faultless

  read_faultless : is_faulty (made_of reading).number ≡ false
  read_faultless = not_faulty reading faultless

readable : (text : List ℕ) → there.Readable text → Readable text
readable text h = record {
  never_46 = λ ts os ls ws ts' os' ls' ws' r c e. read_not_46 text h ts os ls ws (ap (λ (x : Made). x.number) (sym c.result) ∙ e);
  never_faulty = λ ts os ls ws ts' os' ls' ws' r c. ap (λ (x : Made). is_faulty x.number) c.result ∙ read_faultless text h ts os ls ws;
}

pub read_never_refused : (r : Run) (l : ℕ) → l < lines → Every (λ n. Readable n.text) (all_taken l (history_of r))
read_never_refused r l h =
    let taken = queue.all_taken l (fresh (begun r)) r.calls in
    let there = messages.read_never_refused (begun r) (begun_right r) r.calls r.may l h in
    subst (Every (λ (n : Numbered). Readable n.text)) (sym (taken_from_fresh r l)) (every_so _ (λ (n : Numbered). Readable n.text) (λ n. readable n.text) taken there)
