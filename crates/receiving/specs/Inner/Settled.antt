-- What acting says.
-- Assumes nothing.
use Rattle.std.specs.Prelude.{ℕ, ◌≡◌, List}
use Rattle.line.specs.declared.Line.{Line}
use Rattle.looking.specs.declared.Kind.{Kind}
use Rattle.looking.specs.declared.Act.{Act}
use Rattle.receiving.specs.Settled.{line_after, frames_after, texts_after}

pub record Settled (a : Act) (k : Kind) (l : Line) (i : ℕ) (u f : List ℕ) (r : Line) (u' f' : List ℕ) : Type 0 where
  pub line : r ≡ line_after a l
  pub texts : u' ≡ texts_after a l i u f
  pub frames : f' ≡ frames_after a k l i f
