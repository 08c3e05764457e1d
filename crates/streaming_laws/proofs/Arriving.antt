-- A read changes nothing of what is due.
-- Assumes nothing.
use mathlib.Core.Path.{◌≡◌, refl, sym, ap, subst, ◌∙◌}
use mathlib.Core.Bool.{Bool, true, false, cond}
use mathlib.Core.List.{List, [], ◌∷◌, ◌++◌, append_assoc, append-nil}
use Prim.Native.Nat.{ℕ, zero, suc, ◌+◌, ◌-◌, ◌≤◌, ◌<◌, min, max}
use native.Mathlib.Omega.{arith}
use borrow.Author.Tests.{le-leb, lt-ltb, ne_eqb, eqb-true, eqb-false}
use lib.Dec.{eqb}
use lib.ListN.{length, take, drop, set, length-take, length-drop, length-append, length-set}
use lib.Seq.{take-nil, take-suc-set}
use Rattle.memory.specs.Parts.{splice}
use Rattle.memory.proofs.Parts.{length_splice, splice_nil, take_through}
use Rattle.listing.specs.Texts.{newline}
use Rattle.replaying.specs.Listed.{Listed, listing_of}
use Rattle.streaming.specs.Stages.{closes}
use Rattle.streaming.specs.Fed.{Held, holds, grown, finished, fed_of}
use Rattle.streaming.specs.Streams.{Stream, stream_of, waiting}
use Rattle.streaming.specs.declared.Kept.{Kept}
use Rattle.streaming.specs.declared.Stage.TheVariants.{Runs, Wants, Total, Fault}
use Rattle.streaming_laws.specs.Listings.{with_last, whole_of, text_of}
use Rattle.streaming_laws.specs.Loop.{given, arrived}
use Rattle.streaming_laws.proofs.Whole.{no_line, last_whole}
use Rattle.streaming_laws.proofs.Due.{due_at, due, running, turns, Wanting, Fine}

no_bytes : (t : List ℕ) → length t ≤ 0 → t ≡ []
no_bytes [] h = refl
no_bytes (b ∷ t) h = absurd (omega (arith, h))

-- what waits, with bytes behind it
waits_more : (input piece : List ℕ) (from end : ℕ) → from ≡ 0 → end + length piece ≤ length input
    → take (end + length piece - from) (drop from (splice input end piece)) ≡ take (end - from) (drop from input) ++ piece
waits_more input piece from end e h =
    let all : end + length piece - 0 ≡ end + length piece = omega arith in
    let front : end - 0 ≡ end = omega arith in
    rw (e, all, front) (take_through input end piece h)

-- and with its newline
waits_ended : (input : List ℕ) (from end : ℕ) → from ≡ 0 → end < length input → take (end + 1 - from) (drop from (set input end newline)) ≡ take (end - from) (drop from input) ++ (newline ∷ [])
waits_ended input from end e h =
    let all : end + 1 - 0 ≡ suc end = omega arith in
    let front : end - 0 ≡ end = omega arith in
    rw (e, all, front) (take-suc-set input end newline h)

-- a read gives the front of what is left
given_front : (n : ℕ) (left : List ℕ) → take n left ++ drop (length (take n left)) left ≡ left
given_front zero left = refl
given_front (suc n) [] = refl
given_front (suc n) (b ∷ left) = ap (λ (t : List ℕ). b ∷ t) (given_front n left)

-- bytes come, or the trace ends
grows : (k : Kept) (n : ℕ) (input : List ℕ) → k.end + n ≤ length input → 0 < n → fed_of k n input ≡ holds (grown k n) input
unfolding fed_of
grows k n input h i = rw (le-leb (k.end + n) (length input) h, lt-ltb 0 n i)

ends : (k : Kept) (input : List ℕ) → k.end ≤ length input → fed_of k 0 input ≡ finished k input
unfolding fed_of
ends k input h = rw (le-leb (k.end + 0) (length input) (omega (arith, h)))

-- behind a read: the same is due, and fewer turns are left
pub record Arrives (s t : Stream) (left rest : List ℕ) : Type 0 where
  pub fine : Fine t
  pub same : due_at Wants s.kept (waiting s.kept s.input) left s.desk ≡ due t rest
  pub fewer : turns t (length rest) < running false (s.kept.end - s.kept.from) (length left)

module _ (s : Stream) (f : Fine s) (w : Wanting true s.kept s.input) where
  abbrev k : Kept
  k = s.kept

  -- what a read leaves
  abbrev left_by : Held → Stream
  left_by h = stream_of h.kept h.input s.out s.desk

  some : (piece rest : List ℕ) → 0 < length piece → k.end + length piece ≤ length s.input → Arrives s (arrived piece s) (piece ++ rest) rest
  some piece rest h i = subst (λ (x : Held). Arrives s (left_by x) (piece ++ rest) rest) (sym fed) (record {
    fine = record { lies = (omega (arith, f.lies), omega (arith, long, i)); long_input = omega (arith, long, f.long_input); long_out = f.long_out; counted = f.counted; wanting = tt };
    same =
        ap (λ (t : List ℕ). text_of (whole_of t k.events s.desk)) (sym (append_assoc (waiting k s.input) piece rest))
        ∙ ap (λ (t : List ℕ). text_of (whole_of (t ++ rest) k.events s.desk)) (sym (waits_more s.input piece k.from k.end w.0 i));
    fewer = rw length-append (omega (arith, h, f.lies));
  })
    where
      long : length (splice s.input k.end piece) ≡ length s.input
      long = length_splice s.input k.end piece i

      fed : fed_of k (length piece) (splice s.input k.end piece) ≡ holds (grown k (length piece)) (splice s.input k.end piece)
      fed = grows k (length piece) (splice s.input k.end piece) (omega (arith, long, i)) h

  -- what is kept where a last line gets its newline
  abbrev last : Kept
  last = record { from = k.from; end = k.end + 1; events = k.events; ended = true; written = 0; stage = Runs }

  abbrev waits : List ℕ
  waits = waiting k s.input

  waits_length : length waits ≡ k.end - k.from
  waits_length = rw (length-take, length-drop) (omega (arith, f.lies))

  -- nothing waits
  closes_total : k.from ≡ k.end → Arrives s (left_by (holds (closes k.events 0 Total) s.input)) [] []
  closes_total e =
      let empty : waits ≡ [] = no_bytes waits (omega (arith, waits_length, e)) in
      record {
        fine = record { lies = (omega arith, omega arith); long_input = f.long_input; long_out = f.long_out; counted = f.counted; wanting = tt };
        same = ap (λ (t : List ℕ). text_of (whole_of (t ++ []) k.events s.desk)) empty ∙ ap (λ (l : Listed). text_of (with_last l)) (no_line [] k.events s.desk refl);
        fewer = omega arith;
      }

  -- a last line waits, without its newline
  gets_newline : (k.from ≡ k.end → ⊥) → Arrives s (left_by (holds last (set s.input k.end newline))) [] []
  gets_newline n =
      let long : length (set s.input k.end newline) ≡ length s.input = length-set s.input k.end newline in
      let inside : k.end < length s.input = omega (arith, w.1, f.long_input) in
      let some : 0 < length waits = omega (arith, waits_length, n, f.lies) in
      record {
        fine = record { lies = (omega (arith, f.lies), omega (arith, long, inside)); long_input = omega (arith, long, f.long_input); long_out = f.long_out; counted = f.counted; wanting = tt };
        same =
            ap (λ (t : List ℕ). text_of (whole_of t k.events s.desk)) (append-nil waits)
            ∙ last_whole waits k.events s.desk w.2 some
            ∙ ap (λ (t : List ℕ). text_of (listing_of t k.events s.desk)) (sym (waits_ended s.input k.from k.end w.0 inside));
        fewer = omega (arith, f.lies);
      }

  at_end : Arrives s (left_by (finished k s.input)) [] []
  unfolding finished
  at_end = by_end (eqb k.from k.end) refl
    where
      long : k.end ≡ length s.input → ⊥
      long e = absurd (omega (arith, e, w.1, f.long_input))

      by_end : (b : Bool) → eqb k.from k.end ≡ b
          → Arrives s (left_by (cond b (holds (closes k.events 0 Total) s.input) (cond (eqb k.end (length s.input)) (holds (closes k.events 0 Fault) s.input)
          (holds last (set s.input k.end newline))))) [] []
      by_end true e = closes_total (eqb-true k.from k.end e)
      by_end false e = rw (ne_eqb k.end (length s.input) long) (gets_newline (eqb-false k.from k.end e))

  none : Arrives s (arrived [] s) [] []
  none =
      subst (λ (t : List ℕ). Arrives s (left_by (fed_of k 0 t)) [] []) (sym (splice_nil s.input k.end))
      (subst (λ (x : Held). Arrives s (left_by x) [] []) (sym (ends k s.input f.lies.1)) at_end)

  -- whatever a read gives
  pub arrives : (pleases : ℕ) (left : List ℕ) → let piece = given pleases (length s.input - k.end) left in Arrives s (arrived piece s) left (drop (length piece) left)
  arrives pleases [] =
      subst (λ (t : List ℕ). Arrives s (arrived t s) [] (drop (length t) [])) (sym (take-nil (max 1 (min pleases (length s.input - k.end))))) none
  arrives pleases (b ∷ left) =
      let n = max 1 (min pleases (length s.input - k.end)) in
      let piece = take n (b ∷ left) in
      let one : 0 < length piece = rw length-take (omega arith) in
      let fits : k.end + length piece ≤ length s.input = rw length-take (omega (arith, w.1, f.long_input)) in
      subst (λ (t : List ℕ). Arrives s (arrived piece s) t (drop (length piece) (b ∷ left))) (given_front n (b ∷ left)) (some piece (drop (length piece) (b ∷ left)) one fits)
