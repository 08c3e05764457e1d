-- What waits lies in the input, behind every turn and every read.
-- Assumes nothing.
use Rattle.std.specs.Prelude.{None, Option, Some, ℕ}
use Rattle.std.proofs.Common.{◌≡◌, ℕ, ◌+◌, ◌-◌, ◌≤◌, Bool, true, false, cond, eqb, ltb, leb, List, length, drop, sym, refl, subst, arith, length-drop, length-set, length-take, le-leb, leb-true}
use borrow.Author.Tests.{eqb-false}
use Rattle.memory.specs.Moves.{later, closed_up}
use Rattle.memory.proofs.Parts.{length_part, length_splice}
use Rattle.listing.specs.Items.{line_limit}
use Rattle.listing.specs.Texts.{header_text, total_text, fault_text, end_of}
use Rattle.replaying.specs.Desk.{Desk}
use Rattle.replaying.specs.Runs.{following, piece_of}
use Rattle.replaying.specs.declared.Progress.{Progress}
use Rattle.replaying.specs.declared.Stop.{Stop}
use Rattle.replaying.specs.declared.Stop.TheVariants.{Input, Output, NotAnEvent}
use Rattle.replaying.proofs.InPieces.{in_pieces}
use Rattle.streaming.specs.Stages.{is_running, wants, begun, nothing, closes}
use Rattle.streaming.specs.Fed.{Held, holds, grown, finished, fed_of}
use Rattle.streaming.specs.Handed.{onward, by_stop, handed, moved}
use Rattle.streaming.specs.Said.{behind, said_at, said_of}
use Rattle.streaming.specs.Inner.Places.{LiesIn}
use Rattle.streaming.specs.Streams.{Stream, stream_of, waiting, ran, spoken, turned}
use Rattle.streaming.specs.declared.Kept.{Kept}
use Rattle.streaming.specs.declared.Stage.{Stage}
use Rattle.streaming.specs.declared.Stage.TheVariants.{Begins, Runs, Wants, Total, Fault, Over}

-- ---- behind a read

abbrev HeldLies : Held → Type 0
HeldLies h = LiesIn h.kept (length h.input)

either : (b : Bool) (x y : Held) → (b ≡ true → HeldLies x) → (b ≡ false → HeldLies y) → HeldLies (cond b x y)
either true x y f g = f refl
either false x y f g = g refl

finished_lies : (k : Kept) (input : List ℕ) → LiesIn k (length input) → HeldLies (finished k input)
unfolding finished
finished_lies k input h =
    either (eqb k.from k.end) _ _ (λ e. (omega arith, omega arith))
    (λ e. either (eqb k.end (length input)) _ _ (λ f. (omega arith, omega arith))
    (λ f. (omega (arith, h), simp length-set (omega (arith, h, eqb-false k.end (length input) f)))))

pub fed_lies : (k : Kept) (n : ℕ) (input : List ℕ) → LiesIn k (length input) → LiesIn (fed_of k n input).kept (length (fed_of k n input).input)
unfolding fed_of
fed_lies k n input h =
    either (leb (k.end + n) (length input)) (cond (ltb 0 n) (holds (grown k n) input) (finished k input)) (holds nothing input)
    (λ e. either (ltb 0 n) (holds (grown k n) input) (finished k input) (λ f. (omega (arith, h), leb-true (k.end + n) (length input) e)) (λ f. finished_lies k input h))
    (λ e. (omega arith, omega arith))

-- ---- behind a run

-- closing up keeps the length
pub closed_length : (d : List ℕ) (gap end : ℕ) → end ≤ length d → gap ≤ end → length (closed_up d 0 gap end) ≡ length d
unfolding closed_up
closed_length d gap end h i =
    let long : length (later d 0 gap end) ≡ end - (0 + gap) = length_part d (0 + gap) (end - (0 + gap)) (omega (arith, h, i)) in
    rw (le-leb end (length d) h, le-leb (0 + gap) end (omega (arith, i))) (length_splice d 0 (later d 0 gap end) (omega (arith, long, h, i)))

module _ (k : Kept) (p : Progress) (input : List ℕ) where
  -- where the run stopped
  abbrev at : ℕ
  at = k.from + p.read

  abbrev Lies : Kept → Type 0
  Lies x = LiesIn x (length (cond (wants x.stage) (closed_up input 0 at k.end) input))

  pub handed_lies : k.end ≤ length input → k.from + p.read ≤ k.end → LiesIn (handed k p) (length (moved k p input))
  unfolding handed moved onward
  handed_lies h i = by_stop_law p.stop
    where
      by_tests : (a b : Bool)
          → Lies (cond a (closes p.events p.written Total) (cond b (closes p.events p.written Fault) (record { from = 0; end = k.end - at; events = p.events; ended = false; written = p.written; stage = Wants })))
      by_tests true b = (omega arith, omega arith)
      by_tests false true = (omega arith, omega arith)
      by_tests false false = (omega arith, omega (arith, h, closed_length input at k.end h i))

      by_stop_law : (s : Stop) → Lies (by_stop s k p)
      by_stop_law Output = (i, h)
      by_stop_law NotAnEvent = (omega arith, omega arith)
      by_stop_law Input = by_tests k.ended (ltb line_limit (k.end - at))

-- what is read of the bytes that wait lies within them
pub read_within : (k : Kept) (input : List ℕ) (n : ℕ) → LiesIn k (length input) → n ≤ length (waiting k input) → k.from + n ≤ k.end
read_within k input n h i = omega (arith, h, rw (length-take (k.end - k.from) (drop k.from input), length-drop k.from input) at i)

ran_lies : (s : Stream) → LiesIn s.kept (length s.input) → LiesIn (ran s).kept (length (ran s).input)
unfolding ran
ran_lies s h =
    let k = s.kept in
    let r = piece_of k.events (waiting k s.input) s.out s.desk in
    let within = (in_pieces (waiting k s.input) k.events s.out s.desk).within in
    rw (le-leb k.from k.end h.0, le-leb k.end (length s.input) h.1) (handed_lies k r.progress s.input h.1 (read_within k s.input r.progress.read h within))

-- ---- behind a line that is no row

behind_lies : (k : Kept) (w : Option ℕ) (next : Stage) (most : ℕ) → LiesIn k most → LiesIn (behind k w next) most
behind_lies k (Some n) next most h = h
behind_lies k None next most h = (omega arith, omega arith)

said_lies : (stage : Stage) (k : Kept) (out : List ℕ) (most : ℕ) → LiesIn k most → LiesIn (said_at stage k out).kept most
said_lies Begins k out most h = behind_lies k (end_of header_text out 0) Runs most h
said_lies Runs k out most h = h
said_lies Wants k out most h = h
said_lies Total k out most h = behind_lies k (end_of (total_text k.events) out 0) Over most h
said_lies Fault k out most h = behind_lies k (end_of (fault_text (following k.events)) out 0) Over most h
said_lies Over k out most h = h

pub turned_lies : (s : Stream) → LiesIn s.kept (length s.input) → LiesIn (turned s).kept (length (turned s).input)
unfolding turned said_of
turned_lies s h = by_stage (is_running s.kept.stage)
  where
    by_stage : (b : Bool) → LiesIn (cond b (ran s) (spoken s)).kept (length (cond b (ran s) (spoken s)).input)
    by_stage true = ran_lies s h
    by_stage false = said_lies s.kept.stage s.kept s.out (length s.input) h

-- ---- what a caller knows

pub nothing_lies : {r : Kept} (most : ℕ) → r ≡ nothing → LiesIn r most
nothing_lies most e = subst (λ (x : Kept). LiesIn x most) (sym e) (omega arith, omega arith)

pub begun_lies : {r : Kept} (n most : ℕ) → r ≡ begun n → n ≤ most → LiesIn r most
begun_lies n most e h = subst (λ (x : Kept). LiesIn x most) (sym e) (omega arith, h)

pub after_feed : (k : Kept) (n : ℕ) (input : List ℕ) {r : Kept} {input' : List ℕ} → r ≡ (fed_of k n input).kept → input' ≡ (fed_of k n input).input
    → LiesIn k (length input) → LiesIn r (length input')
after_feed k n input e i h = rw (e, i) (fed_lies k n input h)

pub after_turn : (s : Stream) {r : Kept} {input out : List ℕ} {d : Desk} → stream_of r input out d ≡ turned s → LiesIn s.kept (length s.input) → LiesIn r (length input)
after_turn s e h = subst (λ (x : Stream). LiesIn x.kept (length x.input)) (sym e) (turned_lies s h)
