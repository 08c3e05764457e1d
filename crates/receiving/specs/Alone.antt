-- An event on its line alone: the step as far as it needs no journal. Where it completes a text nothing is changed yet.
-- Assumes nothing.
use Rattle.std.specs.Prelude.{ℕ, ◌≡◌, List}
use Rattle.line.specs.declared.Line.{Line}
use Rattle.looking.specs.Looks.{look_alone}
use Rattle.looking.specs.declared.Event.{Event}
use Rattle.looking.specs.declared.Kind.{Kind}
use Rattle.looking.specs.declared.Look.{Look}
use Rattle.looking.specs.declared.Look.TheVariants.{Done, Decides}
use Rattle.receiving.specs.Settled.{line_after, frames_after, texts_after}
use Rattle.receiving.specs.declared.Alone.{Alone}

-- what a look leaves: the row of its verdict, or everything as it was where a message is complete
abbrev pub line_alone : Look → Line → Line
line_alone (Done v) l = line_after v.act l
line_alone (Decides n) l = l

abbrev pub texts_alone : Look → Line → ℕ → List ℕ → List ℕ → List ℕ
texts_alone (Done v) l i unfinished frames = texts_after v.act l i unfinished frames
texts_alone (Decides n) l i unfinished frames = unfinished

abbrev pub frames_alone : Look → Kind → Line → ℕ → List ℕ → List ℕ
frames_alone (Done v) k l i frames = frames_after v.act k l i frames
frames_alone (Decides n) k l i frames = frames

-- the lent memory of an event on its line alone: the journal is not lent
pub record AloneMemory : Type 0 where
  pub unfinished : List ℕ
  pub frames : List ℕ

pub record LeavesAlone (k : Look) (l : Line) (e : Event) (m : AloneMemory) (r : Alone) (m' : AloneMemory) : Type 0 where
  pub look : r.look ≡ k
  pub line : r.line ≡ line_alone k l
  pub unfinished : m'.unfinished ≡ texts_alone k l e.line m.unfinished m.frames
  pub frames : m'.frames ≡ frames_alone k e.kind l e.line m.frames

-- what a step on the line alone says
abbrev pub SteppingAlone : Line → Event → ℕ → AloneMemory → Alone → AloneMemory → Type 0
SteppingAlone l e journal m r m' = LeavesAlone (look_alone l e journal m.unfinished m.frames) l e m r m'
