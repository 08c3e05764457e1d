-- What is written of a trace that comes in pieces is its listing, however it is cut.
-- Assumes nothing.
use mathlib.Core.Path.{◌≡◌, refl, sym, ap, subst, ◌∙◌}
use mathlib.Core.Bool.{Bool, true, false}
use mathlib.Core.List.{List, [], ◌++◌}
use Prim.Native.Nat.{ℕ, zero, suc, ◌-◌, ◌≤◌, ◌<◌}
use native.Mathlib.Omega.{arith}
use lib.ListN.{length, take, drop}
use Rattle.streaming.specs.Stages.{wants}
use Rattle.streaming.specs.Streams.{Stream, waiting, shown, turned}
use Rattle.streaming.specs.declared.Stage.{Stage}
use Rattle.streaming.specs.declared.Stage.TheVariants.{Begins, Runs, Wants, Total, Fault, Over}
use Rattle.streaming_laws.specs.Listings.{listing_text}
use Rattle.streaming_laws.specs.Loop.{given, arrived, next, looped, started, WritesTheListing}
use Rattle.streaming_laws.proofs.Due.{due_at, due, running, turns_at, turns, Wanting, Fine, Fewer}
use Rattle.streaming_laws.proofs.Turning.{one_turn}
use Rattle.streaming_laws.proofs.Arriving.{arrives}

-- where no turn is left, nothing is due
nothing_due : (stage : Stage) (s : Stream) (more : List ℕ) (left : ℕ) → turns_at stage s.kept.ended (s.kept.end - s.kept.from) left ≤ 0
    → [] ≡ due_at stage s.kept (waiting s.kept s.input) more s.desk
nothing_due Begins s more left h = absurd (omega (arith, h))
nothing_due Runs s more left h = absurd (never s.kept.ended h)
  where
    never : (ended : Bool) → running ended (s.kept.end - s.kept.from) left ≤ 0 → ⊥
    never false k = absurd (omega (arith, k))
    never true k = absurd (omega (arith, k))
nothing_due Wants s more left h = absurd (omega (arith, h))
nothing_due Total s more left h = absurd (omega (arith, h))
nothing_due Fault s more left h = absurd (omega (arith, h))
nothing_due Over s more left h = refl

-- behind a turn
module _ (pleases : ℕ → ℕ) (most : ℕ) (go : (s : Stream) (left : List ℕ) → Fine s → turns s (length left) ≤ most → looped pleases most s left ≡ due s left)
    (t : Stream) (f : Fine t) (left : List ℕ) (before : ℕ) (enough : before ≤ suc most) where
  abbrev Goes : Stage → Type 0
  Goes stage = next stage (pleases most) t left (λ u rest. looped pleases most u rest) ≡ due_at stage t.kept (waiting t.kept t.input) left t.desk

  -- the next turn
  again : (stage : Stage) → t.kept.stage ≡ stage → turns t (length left) < before → looped pleases most t left ≡ due_at stage t.kept (waiting t.kept t.input) left t.desk
  again stage e h =
      go t left f (omega (arith, h, enough)) ∙ ap (λ (x : Stage). due_at x t.kept (waiting t.kept t.input) left t.desk) e

  -- a read, and the next turn
  reads : t.kept.stage ≡ Wants → turns t (length left) ≤ before → Goes Wants
  reads e h =
      let wanting = subst (λ (x : Stage). Wanting (wants x) t.kept t.input) e f.wanting in
      let a = arrives t f wanting (pleases most) left in
      let piece = given (pleases most) (length t.input - t.kept.end) left in
      let same : turns t (length left) ≡ running false (t.kept.end - t.kept.from) (length left) = ap (λ (x : Stage). turns_at x t.kept.ended (t.kept.end - t.kept.from) (length left)) e in
      go (arrived piece t) (drop (length piece) left) a.fine (omega (arith, a.fewer, same, h, enough)) ∙ sym a.same

  goes : (stage : Stage) → t.kept.stage ≡ stage → Fewer stage (turns t (length left)) before → Goes stage
  goes Begins e h = again Begins e h
  goes Runs e h = again Runs e h
  goes Wants e h = reads e h
  goes Total e h = again Total e h
  goes Fault e h = again Fault e h
  goes Over e h = refl

-- all that is due is written
all_written : (pleases : ℕ → ℕ) (most : ℕ) (s : Stream) (left : List ℕ) → Fine s → turns s (length left) ≤ most → looped pleases most s left ≡ due s left
unfolding looped
all_written pleases zero s left f h = nothing_due s.kept.stage s left (length left) h
all_written pleases (suc most) s left f h =
    let t = turned s in
    let one = one_turn s f in
    ap (λ (rest : List ℕ). shown t ++ rest)
    (goes pleases most (all_written pleases most) t one.fine left (turns s (length left)) h t.kept.stage refl (one.fewer (length left)))
    ∙ sym (one.writes left)

pub streams : WritesTheListing
streams pleases most n input out d left h i o m =
    let fine : Fine (started n input out d) = record { lies = (omega arith, h); long_input = i; long_out = o; counted = omega arith; wanting = tt } in
    let first : n - 0 ≡ n = omega arith in
    all_written pleases most (started n input out d) left fine (omega (arith, m)) ∙ ap (λ (k : ℕ). listing_text (take k input ++ left) d) first
