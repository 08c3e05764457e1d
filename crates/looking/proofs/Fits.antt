-- What a look comes to fits the line: its text lies in the frame and has room behind the joined text. And no look decides.
-- Assumes nothing.
use mathlib.Core.List.{List}
use Prim.Native.Nat.{ℕ}
use Rattle.line.specs.declared.Line.{Line}
use Rattle.looking.specs.Inner.Ready.{Own}
use Rattle.looking.specs.Looks.{look_of}
use Rattle.looking.specs.Inner.Fitting.{TextFits, Fitting, Quiet}
use Rattle.looking.specs.declared.Kind.{Kind}
use Rattle.looking.specs.declared.Look.{Look}
use Rattle.looking.specs.declared.Look.TheVariants.{Done, Decides}
use Rattle.looking.proofs.Cases.{Cases, every_look}

-- what holds of a look
abbrev pub LookFits : Look → Line → Type 0
LookFits (Done v) l = Fitting v.act l × Quiet v.act
LookFits (Decides n) l = TextFits l n

module _ (l : Line) where
  fitting : Cases (λ k. LookFits k l) l
  fitting = record {
    ignored = (tt, tt);
    busy = (tt, tt);
    opens = (tt, tt);
    ended = (tt, tt);
    dropped = (tt, tt);
    timed_out = (tt, tt);
    begins = (tt, tt);
    counts = λ n h. (h, tt);
    collects = λ h. (h, tt);
    unended = (tt, tt);
    torn = (tt, tt);
    unchecked = (tt, tt);
    foreign = (tt, tt);
    unnumbered = (tt, tt);
    refused = (tt, tt);
    repeated = (tt, tt);
    missed = (tt, tt);
    overlong = (tt, tt);
    no_cr = (tt, tt);
    accepts = λ n t. (t, tt);
    decides = λ n t. t;
    sends = λ t e. record { stays = (tt, tt); awaits = λ n h. (h, tt); goes = λ s n h k. ((h, k), tt); over = (tt, tt); given_up = (tt, tt) };
  }

  pub look_fits : (texts frames : List ℕ) → Own l texts frames → (k : Kind) → LookFits (look_of l k texts frames) l
  look_fits texts frames own k = every_look (λ k. LookFits k l) l fitting texts frames own k
