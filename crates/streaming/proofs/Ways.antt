-- A turn that has run what waits, and one that has not.
-- Assumes nothing.
use Rattle.std.specs.Prelude.{ℕ}
use Rattle.std.proofs.Common.{◌≡◌, ℕ, ◌+◌, ◌-◌, Bool, true, false, cond, ◌&&◌, ltb, leb, List, length, refl, ap, true≢false, le-leb, leb-true}
use Rattle.memory.proofs.Tests.{and_left, and_right}
use Rattle.listing.specs.Items.{line_limit}
use Rattle.replaying.specs.Desk.{Desk}
use Rattle.replaying.specs.Runs.{AfterRun, run_leaves, piece_of}
use Rattle.replaying.specs.declared.Progress.{Progress}
use Rattle.replaying.specs.declared.Stop.{Stop}
use Rattle.replaying.specs.declared.Stop.TheVariants.{Input, Output, NotAnEvent}
use Rattle.streaming.specs.Stages.{is_running, nothing, closes}
use Rattle.streaming.specs.Handed.{onward, by_stop, handed, moved}
use Rattle.streaming.specs.Said.{said_of}
use Rattle.streaming.specs.Inner.Places.{LiesIn}
use Rattle.streaming.specs.Inner.Ready.{is_ready, instead_of}
use Rattle.streaming.specs.Streams.{stream_of, waiting, handed_on, ran, spoken, turned}
use Rattle.streaming.specs.declared.Kept.{Kept}
use Rattle.streaming.specs.declared.Stage.TheVariants.{Wants, Total, Fault}

-- what is to be written are the rows
pub rows_shown : (k : Kept) (p : Progress) → (handed k p).written ≡ p.written
unfolding handed onward
rows_shown k p = by_stop_law p.stop
  where
    by_tests : (a b : Bool) (x y z : Kept) → x.written ≡ p.written → y.written ≡ p.written → z.written ≡ p.written → (cond a x (cond b y z)).written ≡ p.written
    by_tests true b x y z h i j = h
    by_tests false true x y z h i j = i
    by_tests false false x y z h i j = j

    by_stop_law : (s : Stop) → (by_stop s k p).written ≡ p.written
    by_stop_law Output = refl
    by_stop_law NotAnEvent = refl
    by_stop_law Input =
        by_tests k.ended (ltb line_limit (k.end - (k.from + p.read))) (closes p.events p.written Total) (closes p.events p.written Fault)
        (record { from = 0; end = k.end - (k.from + p.read); events = p.events; ended = false; written = p.written; stage = Wants }) refl refl refl

-- ---- a turn

pub is_running_law : (k : Kept) (most : ℕ) → is_ready k most ≡ true → is_running k.stage ≡ true
unfolding is_ready
is_running_law k most e = and_left (is_running k.stage) (leb k.from k.end && leb k.end most) e

pub ready_lies : (k : Kept) (most : ℕ) → is_ready k most ≡ true → LiesIn k most
unfolding is_ready
ready_lies k most e =
    let lies = and_right (is_running k.stage) (leb k.from k.end && leb k.end most) e in
    (leb-true k.from k.end (and_left (leb k.from k.end) (leb k.end most) lies), leb-true k.end most (and_right (leb k.from k.end) (leb k.end most) lies))

module _ (k : Kept) (input out : List ℕ) (d : Desk) where
  pub has_run : {p : Progress} {r : Kept} {input' out' : List ℕ} {d' : Desk} → is_ready k (length input) ≡ true
      → run_leaves p out' d' ≡ piece_of k.events (waiting k input) out d → r ≡ handed k p → input' ≡ moved k p input
      → stream_of r input' out' d' ≡ turned (stream_of k input out d)
  unfolding ran turned
  has_run t q e m =
      let (lies, ends) = ready_lies k (length input) t in
      rw (is_running_law k (length input) t, le-leb k.from k.end lies, le-leb k.end (length input) ends, e, m) (ap (λ (x : AfterRun). handed_on (stream_of k input out d) x) q)

  pub has_said : {r : Kept} {out' : List ℕ} → is_ready k (length input) ≡ false → r ≡ (instead_of k out).kept → out' ≡ (instead_of k out).out
      → stream_of r input out' d ≡ turned (stream_of k input out d)
  unfolding is_ready instead_of said_of ran turned
  has_said {r} {out'} t e o = by_tests (is_running k.stage) (leb k.from k.end && leb k.end (length input)) t e o
    where
      by_tests : (a b : Bool) → a && b ≡ false → r ≡ (cond a (record { kept = nothing; out = out }) (said_of k out)).kept → out' ≡ (cond a (record { kept = nothing; out = out }) (said_of k out)).out
          → stream_of r input out' d ≡ cond a (cond b (handed_on (stream_of k input out d) (piece_of k.events (waiting k input) out d)) (stream_of nothing input out d)) (spoken (stream_of k input out d))
      by_tests true true f p q = absurd (true≢false f)
      by_tests true false f p q = rw (p, q)
      by_tests false b f p q = rw (p, q)
