-- The look at an event, by the line's state.
-- Assumes nothing.
use mathlib.Core.Path.{◌≡◌, ap}
use mathlib.Core.List.{List}
use Prim.Native.Nat.{ℕ}
use Rattle.memory.specs.Sizes.{frame_limit}
use Rattle.line.specs.Seconds.{passed_of}
use Rattle.line.specs.declared.Line.{Line}
use Rattle.line.specs.declared.State.{State}
use Rattle.line.specs.declared.State.TheVariants.{Neutral, Waiting, Inside, Out}
use Rattle.line.specs.declared.Sending.{Sending}
use Rattle.sending.specs.Onward.{byte_onward, seconds_onward}
use Rattle.answers.specs.declared.Answer.TheVariants.{Nothing}
use Rattle.looking.specs.Views.{unfinished_text}
use Rattle.looking.specs.Looks.{neutral_look, waiting_look, inside_look, by_state, byte_look, passed_look, onward_look, seconds_look}
use Rattle.looking.specs.declared.Look.{Look}
use Rattle.looking.specs.declared.Look.TheVariants.{Done}
use Rattle.looking.specs.Verdicts.{Left}

module _ (l : Line) (b : ℕ) (texts frames : List ℕ) where
  abbrev replied : Sending → Look
  replied s = onward_look (byte_onward frame_limit l s b (unfinished_text l texts))

  pub byte_neutral : l.state ≡ Neutral → byte_look l b texts frames ≡ neutral_look b
  unfolding byte_look
  byte_neutral e = ap (λ (s : State). by_state s (neutral_look b) (waiting_look l b) (inside_look l b texts frames) replied) e

  pub byte_waiting : l.state ≡ Waiting → byte_look l b texts frames ≡ waiting_look l b
  unfolding byte_look
  byte_waiting e = ap (λ (s : State). by_state s (neutral_look b) (waiting_look l b) (inside_look l b texts frames) replied) e

  pub byte_inside : l.state ≡ Inside → byte_look l b texts frames ≡ inside_look l b texts frames
  unfolding byte_look
  byte_inside e = ap (λ (s : State). by_state s (neutral_look b) (waiting_look l b) (inside_look l b texts frames) replied) e

  pub byte_out : (s : Sending) → l.state ≡ Out s → byte_look l b texts frames ≡ onward_look (byte_onward frame_limit l s b (unfinished_text l texts))
  unfolding byte_look
  byte_out s e = ap (λ (t : State). by_state t (neutral_look b) (waiting_look l b) (inside_look l b texts frames) replied) e

module _ (l : Line) (n : ℕ) where
  abbrev passed : Sending → Look
  passed s = onward_look (seconds_onward l s n)

  pub seconds_neutral : l.state ≡ Neutral → seconds_look l n ≡ Done (Left Nothing)
  unfolding seconds_look
  seconds_neutral e = ap (λ (t : State). by_state t (Done (Left Nothing)) (passed_look (passed_of l n)) (passed_look (passed_of l n)) passed) e

  pub seconds_waiting : l.state ≡ Waiting → seconds_look l n ≡ passed_look (passed_of l n)
  unfolding seconds_look
  seconds_waiting e = ap (λ (t : State). by_state t (Done (Left Nothing)) (passed_look (passed_of l n)) (passed_look (passed_of l n)) passed) e

  pub seconds_inside : l.state ≡ Inside → seconds_look l n ≡ passed_look (passed_of l n)
  unfolding seconds_look
  seconds_inside e = ap (λ (t : State). by_state t (Done (Left Nothing)) (passed_look (passed_of l n)) (passed_look (passed_of l n)) passed) e

  pub seconds_out : (s : Sending) → l.state ≡ Out s → seconds_look l n ≡ onward_look (seconds_onward l s n)
  unfolding seconds_look
  seconds_out s e = ap (λ (t : State). by_state t (Done (Left Nothing)) (passed_look (passed_of l n)) (passed_look (passed_of l n)) passed) e
