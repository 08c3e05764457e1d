-- One event on one line: the whole step, on its record, the ledger and the lent bytes.
-- Assumes nothing.
use Rattle.std.specs.Prelude.{ℕ, ◌≡◌, List}
use Rattle.room.specs.Room.{todays_shares}
use Rattle.journal.specs.declared.Ledger.{Ledger}
use Rattle.line.specs.declared.Line.{Line}
use Rattle.looking.specs.Views.{frames_of, texts_of, joined_text}
use Rattle.looking.specs.declared.Event.{Event}
use Rattle.looking.specs.declared.Verdict.{Verdict}
use Rattle.receiving.specs.Verdicts.{verdict_of}
use Rattle.receiving.specs.Settled.{line_after, frames_after, texts_after, ledger_after, journal_after}
use Rattle.receiving.specs.declared.Stepped.{Stepped}

-- the lent memory of an event
pub record Memory : Type 0 where
  pub journal : List ℕ
  pub unfinished : List ℕ
  pub frames : List ℕ

pub record AfterStep : Type 0 where
  pub stepped : Stepped
  pub memory : Memory

-- what a verdict leaves
abbrev pub settle : Verdict → Line → Ledger → Event → Memory → AfterStep
settle v l d e m =
    let text : ℕ → List ℕ = λ n. joined_text l n (texts_of e.line m.unfinished) (frames_of e.line m.frames) in
    record {
      stepped = record { line = line_after v.act l; ledger = ledger_after v.act d e.line text; answer = v.answer };
      memory = record {
        journal = journal_after v.act d e.line text m.journal;
        unfinished = texts_after v.act l e.line m.unfinished m.frames;
        frames = frames_after v.act e.kind l e.line m.frames;
      };
    }

-- an event on a line with this record: look, then act
unfoldable pub step_of : List ℕ → Line → Ledger → Event → Memory → AfterStep
step_of shares l d e m = settle (verdict_of shares l d e m.journal m.unfinished m.frames) l d e m

-- what an outcome of a step says
pub record Leaves (s : AfterStep) (r : Stepped) (m : Memory) : Type 0 where
  pub result : r ≡ s.stepped
  pub memory : m ≡ s.memory

abbrev pub memory_of : List ℕ → List ℕ → List ℕ → Memory
memory_of j u f = record { journal = j; unfinished = u; frames = f }

-- what a step says [E13]
abbrev pub Stepping : Line → Ledger → Event → Memory → Stepped → Memory → Type 0
Stepping l d e m r m' = Leaves (step_of todays_shares l d e m) r m'
