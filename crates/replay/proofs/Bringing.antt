-- What a read brings is the next piece of the trace, and the same is due behind it.
-- Assumes nothing.
use Rattle.std.proofs.Common.{ℕ, zero, suc, ◌+◌, ◌-◌, ◌≤◌, ◌<◌, ◌≡◌, true, Option, Some, None, List, [], ◌++◌, length, take, drop, min, max, refl, sym, ap, subst, ◌∙◌, arith, length-take, length-drop, take-append-drop}
use lib.Seq.{take_at, take-nil, drop_at, drop-drop}
use Rattle.std.specs.Io.KnownBytes.{Consumes, IsAtEnd}
use Rattle.memory.specs.Parts.{splice}
use Rattle.replaying.specs.Desk.{Desk}
use Rattle.streaming.specs.Fed.{fed_of}
use Rattle.streaming.specs.Stages.{wants}
use Rattle.streaming.specs.Streams.{Stream, stream_of, waiting}
use Rattle.streaming.specs.declared.Kept.{Kept}
use Rattle.streaming.specs.declared.Stage.{Stage}
use Rattle.streaming.specs.declared.Stage.TheVariants.{Begins, Runs, Wants, Total, Fault, Over}
use Rattle.streaming_laws.specs.Loop.{given, arrived}
use Rattle.streaming_laws.proofs.Due.{due_at, due, turns_at, turns, Wanting, Fine}
use Rattle.streaming_laws.proofs.Arriving.{Arrives, arrives}
use Rattle.replay.specs.Inner.Passing.{Brings}

-- a piece that lies in its place already
splice_same : (d : List ℕ) (at n : ℕ) → at + n ≤ length d → splice d at (take n (drop at d)) ≡ d
unfolding splice
splice_same d at n h =
    let long : length (take n (drop at d)) ≡ n = rw (length-take, length-drop) (omega arith) in
    rw (long, ← drop-drop n at d, take-append-drop n (drop at d)) (take-append-drop at d)

-- the piece that a read of n bytes gives
given_some : (n room : ℕ) (piece rest : List ℕ) → 0 < n → n ≤ room → length piece ≡ n → given n room (piece ++ rest) ≡ piece
given_some n room piece rest h i e =
    let all : max 1 (min n room) ≡ n = omega arith in
    rw all (take_at piece rest n e)

-- only one stage wants more
pub wants_more : (stage : Stage) → wants stage ≡ true → stage ≡ Wants
wants_more Begins e = absurd (cc)
wants_more Runs e = absurd (cc)
wants_more Wants e = refl
wants_more Total e = absurd (cc)
wants_more Fault e = absurd (cc)
wants_more Over e = absurd (cc)

-- what is left behind a piece, where the trace's bytes are known
pub record Splits (rest : List ℕ) (left' : Option (List ℕ)) (piece : List ℕ) : Type 0 where
  pub rest' : List ℕ
  pub known : left' ≡ Some rest'
  pub split : rest ≡ piece ++ rest'

splits : (rest : List ℕ) (left' : Option (List ℕ)) (piece : List ℕ) → Consumes (Some rest) left' piece → Splits rest left' piece
splits rest None piece h = absurd h
splits rest (Some rest') piece h = record { rest' = rest'; known = refl; split = h }

at_end : (left' : Option (List ℕ)) (rest' : List ℕ) → left' ≡ Some rest' → IsAtEnd left' → rest' ≡ []
at_end left' rest' e h = subst IsAtEnd e h

-- behind a read
pub record Brought (t : Stream) (rest : List ℕ) (t' : Stream) (left' : Option (List ℕ)) : Type 0 where
  pub fine : Fine t'
  pub rest' : List ℕ
  pub known : left' ≡ Some rest'
  pub same : due t rest ≡ due t' rest'
  pub fewer : turns t' (length rest') < turns t (length rest)

module _ (k : Kept) (input out : List ℕ) (d : Desk) (f : Fine (stream_of k input out d)) (wanting : k.stage ≡ Wants) (rest : List ℕ) (left' : Option (List ℕ)) (n : ℕ) (filled : List ℕ)
    (b : Brings k input (Some rest) left' n filled) where
  abbrev piece : List ℕ
  piece = take n (drop k.end filled)

  piece_long : length piece ≡ n
  piece_long = rw (length-take, length-drop) (omega (arith, b.fits))

  w : Wanting true k input
  w = subst (λ (x : Stage). Wanting (wants x) k input) wanting f.wanting

  -- what waits stands where it stood
  waits_same : waiting k filled ≡ waiting k input
  waits_same =
      let all : k.end - 0 ≡ k.end = omega arith in
      rw (w.0, all) b.front

  abbrev before : Stream
  before = stream_of k filled out d

  w_before : Wanting true k filled
  w_before = (w.0, w.1, rw waits_same w.2)

  fine_before : Fine before
  fine_before = record {
    lies = (f.lies.0, omega (arith, f.lies.1, b.long));
    long_input = omega (arith, f.long_input, b.long);
    long_out = f.long_out;
    counted = f.counted;
    wanting = subst (λ (x : Stage). Wanting (wants x) k filled) (sym wanting) w_before;
  }

  s : Splits rest left' piece
  s = splits rest left' piece b.next

  -- a read gives what came
  came : (n' : ℕ) → n ≡ n' → given n' (length filled - k.end) rest ≡ piece
  came zero e =
      let none : s.rest' ≡ [] = at_end left' s.rest' s.known (b.ends e (omega (arith, w.1, f.long_input))) in
      let empty : piece ≡ [] = rw e in
      let all : rest ≡ [] = s.split ∙ ap (λ (x : List ℕ). x ++ s.rest') empty ∙ none in
      rw (all, empty) (take-nil (max 1 (min 0 (length filled - k.end))))
  came (suc m) e = rw s.split (given_some (suc m) (length filled - k.end) piece s.rest' (omega arith) (omega (arith, b.fits, e)) (piece_long ∙ e))

  -- what the read left is fed
  abbrev after : Stream
  after = stream_of (fed_of k n filled).kept (fed_of k n filled).input out d

  arrived_after : arrived piece before ≡ after
  arrived_after = rw (piece_long, splice_same filled k.end n b.fits)

  arrives_after : Arrives before after rest s.rest'
  arrives_after =
      let behind : drop (length piece) rest ≡ s.rest' = ap (drop (length piece)) s.split ∙ drop_at piece s.rest' (length piece) refl in
      let a : Arrives before (arrived piece before) rest (drop (length piece) rest) =
      subst (λ (x : List ℕ). Arrives before (arrived x before) rest (drop (length x) rest)) (came n refl) (arrives before fine_before w_before n rest) in
      subst (λ (x : List ℕ). Arrives before after rest x) behind (subst (λ (x : Stream). Arrives before x rest (drop (length piece) rest)) arrived_after a)

  pub brought : Brought (stream_of k input out d) rest after left'
  brought =
      let a = arrives_after in
      record {
        fine = a.fine;
        rest' = s.rest';
        known = s.known;
        same =
            ap (λ (x : Stage). due_at x k (waiting k input) rest d) wanting
            ∙ ap (λ (x : List ℕ). due_at Wants k x rest d) (sym waits_same)
            ∙ a.same;
        fewer = subst (λ (x : Stage). turns after (length s.rest') < turns_at x k.ended (k.end - k.from) (length rest)) (sym wanting) a.fewer;
      }
