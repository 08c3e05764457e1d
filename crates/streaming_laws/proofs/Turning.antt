-- One turn writes the first of what is due, and leaves the rest due.
-- Assumes nothing.
use mathlib.Core.Path.{◌≡◌, refl, sym, ap, subst, ◌∙◌}
use mathlib.Core.Bool.{Bool, true, false, cond}
use mathlib.Core.List.{List, [], ◌++◌, append-nil}
use Prim.Native.Nat.{ℕ, ◌+◌, ◌-◌, ◌^◌, ◌≤◌, ◌<◌}
use native.Mathlib.Nat.{zero-add}
use native.Mathlib.Omega.{arith}
use borrow.Author.Tests.{le-leb, ltb-true, ltb-false}
use lib.Dec.{ltb}
use lib.ListN.{length, take, drop, length-take, length-drop}
use lib.Seq.{drop-drop}
use Rattle.memory.specs.Parts.{part, splice}
use Rattle.memory.specs.Moves.{copied, later, closed_up}
use Rattle.memory.specs.Tests.{is, find}
use Rattle.memory.proofs.Parts.{drop_take, length_part, length_splice, take_through}
use Rattle.decimal.proofs.Digits.{twenty}
use Rattle.listing.specs.Items.{line_limit}
use Rattle.listing.specs.Texts.{newline, header_text, total_text, fault_text, end_of}
use Rattle.listing.proofs.Columns.{length_total, length_fault}
use Rattle.replaying.specs.Desk.{row_room, Desk}
use Rattle.replaying.specs.Runs.{AfterRun, following, piece_of}
use Rattle.replaying.specs.Listed.{Listed, listing_of}
use Rattle.replaying.specs.Inner.Pieces.{Because, Goes}
use Rattle.replaying.specs.declared.Progress.{Progress}
use Rattle.replaying.specs.declared.Stop.{Stop}
use Rattle.replaying.specs.declared.Stop.TheVariants.{Input, Output, NotAnEvent}
use Rattle.replaying.proofs.InPieces.{in_pieces}
use Rattle.streaming.specs.Stages.{wants, closes}
use Rattle.streaming.specs.Handed.{onward, by_stop, handed, moved}
use Rattle.streaming.specs.Said.{behind, said_of}
use Rattle.streaming.specs.Inner.Places.{LiesIn}
use Rattle.streaming.specs.Streams.{Stream, stream_of, waiting, handed_on, ran, turned}
use Rattle.streaming.specs.declared.Kept.{Kept}
use Rattle.streaming.specs.declared.Stage.{Stage}
use Rattle.streaming.specs.declared.Stage.TheVariants.{Begins, Runs, Wants, Total, Fault, Over}
use Rattle.streaming.proofs.Places.{closed_length, read_within}
use Rattle.streaming_laws.specs.Listings.{with_last, text_of}
use Rattle.streaming_laws.proofs.Whole.{text_front, whole_front, no_line, long_line}
use Rattle.streaming_laws.proofs.Due.{rows_due, due, running, turns, Wanting, Fine, Fewer, Turns}

-- ---- a line that is no row

-- what is kept, at another stage
abbrev at : Kept → ℕ → Stage → Kept
at k n stage = record { from = k.from; end = k.end; events = k.events; ended = k.ended; written = n; stage = stage }

module _ (k : Kept) (input out : List ℕ) (d : Desk) (text : List ℕ) (short : length text ≤ row_room) (room : row_room ≤ length out) where
  fits : 0 + length text ≤ length out
  fits = omega (arith, short, room)

  -- a text that has its room is written
  text_written : (next : Stage) → stream_of (behind k (end_of text out 0) next) input (copied out 0 text) d ≡ stream_of (at k (0 + length text) next) input (splice out 0 text) d
  unfolding end_of copied
  text_written next = rw (le-leb (0 + length text) (length out) fits)

  text_shown : take (0 + length text) (splice out 0 text) ≡ text
  text_shown = take_through out 0 text fits

  long_after : row_room ≤ length (splice out 0 text)
  long_after = rw (length_splice out 0 text fits) room

short_total : (n : ℕ) → n < 2 ^ 64 → length (total_text n) ≤ row_room
short_total n h = omega (arith, length_total n, twenty n h)

short_fault : (n : ℕ) → length (fault_text (following n)) ≤ row_room
short_fault n = let small : following n < 2 ^ 64 = omega arith in omega (arith, length_fault (following n), twenty (following n) small)

-- the header, and a line that closes the listing
says_header : (k : Kept) (input out : List ℕ) (d : Desk) → Fine (stream_of (at k k.written Begins) input out d)
    → Turns (stream_of (at k k.written Begins) input out d) (stream_of (behind (at k k.written Begins) (end_of header_text out 0) Runs) input (copied out 0 header_text) d)
says_header k input out d f =
    let short : length header_text ≤ row_room = omega arith in
    let room = f.long_out in
    subst (λ (t : Stream). Turns (stream_of (at k k.written Begins) input out d) t) (sym (text_written (at k k.written Begins) input out d header_text short room Runs)) (record {
      fine = record { lies = f.lies; long_input = f.long_input; long_out = long_after k input out d header_text short room; counted = f.counted; wanting = tt };
      writes = λ more. ap (λ (t : List ℕ). t ++ rows_due k.ended (waiting k input) more k.events d) (sym (text_shown k input out d header_text short room));
      fewer = λ left. omega arith;
    })

module _ (k : Kept) (input out : List ℕ) (d : Desk) (stage : Stage) (f : Fine (stream_of (at k k.written stage) input out d)) (text : List ℕ) (short : length text ≤ row_room)
    (all_due : (more : List ℕ) → due (stream_of (at k k.written stage) input out d) more ≡ text) where
  says_last : Turns (stream_of (at k k.written stage) input out d) (stream_of (behind (at k k.written stage) (end_of text out 0) Over) input (copied out 0 text) d)
  says_last =
      let room = f.long_out in
      subst (λ (t : Stream). Turns (stream_of (at k k.written stage) input out d) t) (sym (text_written (at k k.written stage) input out d text short room Over)) (record {
        fine = record { lies = f.lies; long_input = f.long_input; long_out = long_after k input out d text short room; counted = f.counted; wanting = tt };
        writes = λ more. all_due more ∙ sym (text_shown k input out d text short room) ∙ sym (append-nil (take (0 + length text) (splice out 0 text)));
        fewer = λ left. tt;
      })

-- ---- a run of what waits

-- the bytes behind those that were read
rest_waits : (input : List ℕ) (from end read : ℕ) → take (end - (from + read)) (drop (from + read) input) ≡ drop read (take (end - from) (drop from input))
rest_waits input from end read =
    let fewer : end - (from + read) ≡ end - from - read = omega arith in
    ap (λ (n : ℕ). take n (drop (from + read) input)) fewer
    ∙ ap (λ (t : List ℕ). take (end - from - read) t) (sym (drop-drop read from input))
    ∙ sym (drop_take read (end - from) (drop from input))

-- the same, moved to the start
moved_front : (input : List ℕ) (gap end : ℕ) → end ≤ length input → gap ≤ end → take (end - gap - 0) (drop 0 (closed_up input 0 gap end)) ≡ take (end - gap) (drop gap input)
unfolding closed_up part
moved_front input gap end h i =
    let rest = later input 0 gap end in
    let long : length rest ≡ end - (0 + gap) = length_part input (0 + gap) (end - (0 + gap)) (omega (arith, h, i)) in
    let fits : 0 + length rest ≤ length input = omega (arith, long, h, i) in
    let all : end - gap - 0 ≡ 0 + length rest = omega (arith, long) in
    rw (le-leb end (length input) h, le-leb (0 + gap) end (omega (arith, i)), all) (take_through input 0 rest fits ∙ ap (λ (n : ℕ). take (end - n) (drop n input)) (zero-add gap))

module _ (k : Kept) (input out : List ℕ) (d : Desk) (f : Fine (stream_of (at k k.written Runs) input out d)) (r : AfterRun)
    (g : Goes r (waiting k input) 0 0 out k.events d) where
  abbrev p : Progress
  p = r.progress

  abbrev rest : List ℕ
  rest = drop p.read (waiting k input)

  inside : k.from + p.read ≤ k.end
  inside = read_within k input p.read f.lies g.within

  -- the rows are what is shown
  rows_shown : take p.written r.out ≡ g.rows
  rows_shown = ap (λ (n : ℕ). take n r.out) g.written ∙ g.shows (omega arith)

  -- the rows first, and the rest is due
  rows_first : (ended : Bool) (more : List ℕ) → rows_due ended (waiting k input) more k.events d ≡ g.rows ++ rows_due ended rest more p.events r.desk
  rows_first false more = whole_front g.rows _ _ (g.goes_on more)
  rows_first true more =
      ap (λ (t : List ℕ). text_of (listing_of t k.events d)) (sym (append-nil (waiting k input)))
      ∙ ap text_of (g.goes_on [])
      ∙ text_front g.rows (listing_of (rest ++ []) p.events r.desk)
      ∙ ap (λ (t : List ℕ). g.rows ++ text_of (listing_of t p.events r.desk)) (append-nil rest)

  -- a turn whose rest is due as it should be
  handed_turns : (k' : Kept) (input' : List ℕ) → k'.written ≡ p.written → LiesIn k' (length input') → length input' ≡ length input → k'.events ≡ p.events
      → Wanting (wants k'.stage) k' input'
      → ((more : List ℕ) → rows_due k.ended rest more p.events r.desk ≡ due (stream_of k' input' r.out r.desk) more)
      → ((left : ℕ) → Fewer k'.stage (turns (stream_of k' input' r.out r.desk) left) (running k.ended (k.end - k.from) left))
      → Turns (stream_of (at k k.written Runs) input out d) (stream_of k' input' r.out r.desk)
  handed_turns k' input' w l long e n q m = record {
    fine = record { lies = l; long_input = rw long f.long_input; long_out = omega (arith, g.no_shorter, f.long_out); counted = rw e (g.counted f.counted); wanting = n };
    writes = λ more.
        rows_first k.ended more
        ∙ ap (λ (t : List ℕ). t ++ rows_due k.ended rest more p.events r.desk) (sym rows_shown)
        ∙ ap (λ (n : ℕ). take n r.out ++ rows_due k.ended rest more p.events r.desk) (sym w)
        ∙ ap (λ (t : List ℕ). take k'.written r.out ++ t) (q more);
    fewer = m;
  }

  on_output : Because Output r (waiting k input) 0 0 out
      → Turns (stream_of (at k k.written Runs) input out d) (stream_of (by_stop Output k p) input r.out r.desk)
  on_output b =
      let some : 0 < p.read = b (omega (arith, f.long_out)) in
      handed_turns (by_stop Output k p) input refl (inside, f.lies.1) refl refl tt
      (λ more. ap (λ (t : List ℕ). rows_due k.ended t more p.events r.desk) (sym (rest_waits input k.from k.end p.read)))
      (λ left. shorter k.ended left some)
    where
      shorter : (ended : Bool) (left : ℕ) → 0 < p.read → running ended (k.end - (k.from + p.read)) left < running ended (k.end - k.from) left
      shorter false left h = omega (arith, h, inside)
      shorter true left h = omega (arith, h, inside)

  -- a turn behind which the listing is closed
  closing : (stage : Stage) → wants stage ≡ false
      → ((more : List ℕ) → rows_due k.ended rest more p.events r.desk ≡ due (stream_of (closes p.events p.written stage) input r.out r.desk) more)
      → ((left : ℕ) → Fewer stage (turns (stream_of (closes p.events p.written stage) input r.out r.desk) left) (running k.ended (k.end - k.from) left))
      → Turns (stream_of (at k k.written Runs) input out d) (stream_of (closes p.events p.written stage) input r.out r.desk)
  closing stage w q m =
      handed_turns (closes p.events p.written stage) input refl (omega arith, omega arith) refl refl (subst (λ (b : Bool). Wanting b (closes p.events p.written stage) input) (sym w) tt) q m

  one_left : (ended : Bool) (left : ℕ) → 1 < running ended (k.end - k.from) left
  one_left false left = omega arith
  one_left true left = omega arith

  on_no_event : Because NotAnEvent r (waiting k input) 0 0 out
      → Turns (stream_of (at k k.written Runs) input out d) (stream_of (closes p.events p.written Fault) input r.out r.desk)
  on_no_event b = closing Fault refl (all_due k.ended) (one_left k.ended)
    where
      all_due : (ended : Bool) (more : List ℕ) → rows_due ended rest more p.events r.desk ≡ fault_text (following p.events)
      all_due false more = ap (λ (l : Listed). text_of (with_last l)) (b more)
      all_due true more = ap (λ (t : List ℕ). text_of (listing_of t p.events r.desk)) (sym (append-nil rest)) ∙ ap text_of (b [])

  rest_length : length rest ≡ k.end - (k.from + p.read)
  rest_length = rw (length-drop, length-take, length-drop) (omega (arith, f.lies, inside))

  -- what is kept where more is wanted
  abbrev wanted : Kept
  wanted = record { from = 0; end = k.end - (k.from + p.read); events = p.events; ended = false; written = p.written; stage = Wants }

  abbrev front : List ℕ
  front = closed_up input 0 (k.from + p.read) k.end

  front_waits : waiting wanted front ≡ rest
  front_waits = moved_front input (k.from + p.read) k.end f.lies.1 inside ∙ rest_waits input k.from k.end p.read

  on_input : find (is newline) rest ≡ length rest → (a b : Bool) → k.ended ≡ a → ltb line_limit (k.end - (k.from + p.read)) ≡ b
      → let next = cond a (closes p.events p.written Total) (cond b (closes p.events p.written Fault) wanted) in
      Turns (stream_of (at k k.written Runs) input out d) (stream_of next (cond (wants next.stage) front input) r.out r.desk)
  on_input none true b e l =
      closing Total refl (λ more. subst (λ (x : Bool). rows_due x rest more p.events r.desk ≡ total_text p.events) (sym e) (ap text_of (no_line rest p.events r.desk none))) (one_left k.ended)
  on_input none false true e l =
      let long : line_limit < length rest = omega (arith, rest_length, ltb-true line_limit (k.end - (k.from + p.read)) l) in
      closing Fault refl (λ more. subst (λ (x : Bool). rows_due x rest more p.events r.desk ≡ fault_text (following p.events)) (sym e) (long_line rest p.events r.desk none long more)) (one_left k.ended)
  on_input none false false e l =
      let short : k.end - (k.from + p.read) ≤ line_limit = ltb-false line_limit (k.end - (k.from + p.read)) l in
      let long : length front ≡ length input = closed_length input (k.from + p.read) k.end f.lies.1 inside in
      handed_turns wanted front refl (omega arith, omega (arith, long, f.lies)) long refl (refl, short, subst (λ (t : List ℕ). find (is newline) t ≡ length t) (sym front_waits) none)
      (λ more. subst (λ (x : Bool). rows_due x rest more p.events r.desk ≡ rows_due false (waiting wanted front) more p.events r.desk) (sym e)
      (ap (λ (t : List ℕ). rows_due false t more p.events r.desk) (sym front_waits)))
      (λ left. subst (λ (x : Bool). running false (k.end - (k.from + p.read) - 0) left ≤ running x (k.end - k.from) left) (sym e) (omega (arith, inside)))

  ran_turns : Turns (stream_of (at k k.written Runs) input out d) (handed_on (stream_of (at k k.written Runs) input out d) r)
  unfolding handed moved onward
  ran_turns = by_stop_law p.stop g.because
    where
      by_stop_law : (x : Stop) → Because x r (waiting k input) 0 0 out
          → Turns (stream_of (at k k.written Runs) input out d) (stream_of (by_stop x (at k k.written Runs) p) (cond (wants (by_stop x (at k k.written Runs) p).stage) front input) r.out r.desk)
      by_stop_law Output b = on_output b
      by_stop_law NotAnEvent b = on_no_event b
      by_stop_law Input b = on_input b k.ended (ltb line_limit (k.end - (k.from + p.read))) refl refl

-- ---- any turn

turns_at : (stage : Stage) (k : Kept) (input out : List ℕ) (d : Desk) → Fine (stream_of (at k k.written stage) input out d)
    → Turns (stream_of (at k k.written stage) input out d) (turned (stream_of (at k k.written stage) input out d))
unfolding turned said_of ran
turns_at Begins k input out d f = says_header k input out d f
turns_at Runs k input out d f =
    rw (le-leb k.from k.end f.lies.0, le-leb k.end (length input) f.lies.1)
    (ran_turns k input out d f (piece_of k.events (waiting k input) out d) (in_pieces (waiting k input) k.events out d))
turns_at Wants k input out d f = record { fine = record { lies = f.lies; long_input = f.long_input; long_out = f.long_out; counted = f.counted; wanting = f.wanting }; writes = λ more. refl; fewer = λ left. omega arith }
turns_at Total k input out d f = says_last k input out d Total f (total_text k.events) (short_total k.events f.counted) (λ more. refl)
turns_at Fault k input out d f = says_last k input out d Fault f (fault_text (following k.events)) (short_fault k.events) (λ more. refl)
turns_at Over k input out d f = record { fine = record { lies = f.lies; long_input = f.long_input; long_out = f.long_out; counted = f.counted; wanting = tt }; writes = λ more. refl; fewer = λ left. tt }

pub one_turn : (s : Stream) → Fine s → Turns s (turned s)
one_turn s f = turns_at s.kept.stage s.kept s.input s.out s.desk f
