-- One line replayed, one way out after the other.
-- Assumes nothing.
use Rattle.std.specs.Prelude.{None, Option, Some, ℕ, Ok, Err, Result}
use Rattle.listing.specs.declared.Item.TheVariants.{Event, Taking}
use Rattle.std.proofs.lemmas.Option.{same_Some}
use Rattle.std.proofs.Common.{◌≡◌, ℕ, zero, suc, ◌+◌, ◌^◌, ◌<◌, ◌≤◌, min, Bool, true, false, cond, leb, List, [], ◌∷◌, ◌++◌, length, take, drop, sym, refl, ap, ◌∙◌, subst, arith, le-leb, leb-true}
use native.Mathlib.Numerals.{unary_clauses}
use Rattle.memory.specs.Parts.{splice}
use Rattle.memory.specs.Moves.{copied}
use Rattle.memory.proofs.Parts.{length_splice}
use Rattle.memory.specs.Tests.{is, unless}
use Rattle.listing.specs.Texts.{taken, reply_digits, last_text, row_text, end_of, TextWritten}
use Rattle.decimal.specs.Decimal.{decimal_of}
use Rattle.listing.proofs.Columns.{length_row}
use Rattle.decimal.proofs.Digits.{most_digits_law, twenty}
use Rattle.looking.specs.declared.Event.{Event as EventOn}
use Rattle.looking.specs.declared.Kind.{Kind}
use Rattle.calls.specs.Calls.{HostState, Calling}
use Rattle.reader.specs.Takings.{TakeState, Taken}
use Rattle.answers.specs.declared.Answered.{Answered}
use Rattle.replaying.specs.Lines.{Next, Whole, Unended, next_of}
use Rattle.replaying.specs.Desk.{row_room, Desk, Asked, desk_of, lent_to_event, event_asked, lent_to_taking, taking_asked}
use Rattle.replaying.specs.Turns.{Went, AfterTurn, turn_leaves, stopped, wrote, on_line, turn_of}
use Rattle.replaying.specs.Inner.Asks.{asks_by, asks_of}
use Rattle.replaying.specs.Inner.Asking.{ask_leaves, asked_by, line_of, RowPut}
use Rattle.replaying.specs.declared.lines.Asks.{Asks}
use Rattle.replaying.specs.declared.Stop.{Stop}
use Rattle.replaying.specs.declared.Stop.TheVariants.{Output}
use Rattle.replaying.proofs.Newlines.{behind_within}

-- the first n bytes, or all where there are fewer
take_least : (n : ℕ) (b : List ℕ) → take (min n (length b)) b ≡ take n b
take_least zero b = simp unary_clauses
take_least (suc n) [] = simp unary_clauses
take_least (suc n) (x ∷ b) = simp unary_clauses (ap (λ (t : List ℕ). x ∷ t) (take_least n b))

drop_least : (n : ℕ) (b : List ℕ) → drop (min n (length b)) b ≡ drop n b
drop_least zero b = simp unary_clauses
drop_least (suc n) [] = simp unary_clauses
drop_least (suc n) (x ∷ b) = simp unary_clauses (drop_least n b)

last_fits : (answer size : ℕ) → size < 2 ^ 64 → length (last_text answer size) ≤ 20
unfolding last_text
last_fits answer size h = by_answer (is taken answer)
  where
    by_answer : (t : Bool) → length (cond t (decimal_of size) ((reply_digits answer).high ∷ (reply_digits answer).low ∷ [])) ≤ 20
    by_answer true = twenty size h
    by_answer false = omega arith

-- the longest row has its room
pub row_fits : (number line answer size put most : ℕ) → number < 2 ^ 64 → line < 256 → answer < 256 → size < 2 ^ 64 → put + row_room ≤ most → put + length (row_text number line answer size) ≤ most
row_fits number line answer size put most h i j k room =
    omega (arith, length_row number line answer size, twenty number h, most_digits_law 2 line (omega arith), most_digits_law 2 answer (omega arith), last_fits answer size k, room)

-- a text that fits is written
pub fits_written : (text out : List ℕ) (at : ℕ) {r : Option ℕ} {out' : List ℕ} → at + length text ≤ length out → TextWritten text out at r out'
    → (r ≡ Some (at + length text)) × (out' ≡ splice out at text)
unfolding end_of copied
fits_written text out at h w =
    let t = le-leb (at + length text) (length out) h in
    (rw t at w.answer, rw t at w.after)

-- a row that has its room ends behind its bytes
pub row_put : (number line answer size : ℕ) (out : List ℕ) (put : ℕ) {w : Option ℕ} {out' : List ℕ} {end : ℕ} → put + length (row_text number line answer size) ≤ length out
    → TextWritten (row_text number line answer size) out put w out' → w ≡ Some end → RowPut number line answer size out put end out'
row_put number line answer size out put {w} {out'} {end} room t e =
    let (ends, after) = fits_written (row_text number line answer size) out put room t in
    let is : end ≡ put + length (row_text number line answer size) = same_Some end (put + length (row_text number line answer size)) (sym e ∙ ends) in
    let long : length out' ≡ length out = ap length after ∙ length_splice out put (row_text number line answer size) room in
    record { ends = is; after = after; within = omega (arith, is, long, room) }

-- an event, and a taking, which is lent so much of the buffer
module _ (d : Desk) where
  pub asks_event : (e : EventOn) {k : Kind} {a : Answered} {t : HostState} → e.kind ≡ k → Calling (lent_to_event d) (record { line = e.line; kind = k }) a t
      → ask_leaves a (desk_of t.numbers t.counts t.memory.journal t.memory.unfinished t.memory.frames d.buffer) ≡ event_asked e d
  unfolding event_asked
  asks_event e q c = rw (c.result, c.state, ← q)

  pub asks_taking : (line size : ℕ) {m : ℕ} {a : Answered} {t : TakeState} {b : List ℕ} → m ≡ min size (length d.buffer)
      → Taken d.numbers line (lent_to_taking m d) a t → b ≡ t.buffer ++ drop m d.buffer
      → ask_leaves a (desk_of d.numbers t.counts t.journal d.unfinished d.frames b) ≡ taking_asked line size d
  unfolding taking_asked
  asks_taking line size {m} {a} {t} l c e =
      let behind_lent : drop m d.buffer ≡ drop size d.buffer = rw l (drop_least size d.buffer) in
      let lent : take m d.buffer ≡ take size d.buffer = rw l (take_least size d.buffer) in
      let x : Taken d.numbers line (lent_to_taking size d) a t = rw (← lent) c in
      rw (e, behind_lent, x.result, x.state)

-- what comes next, and the turn that it is
module _ (input : List ℕ) (at : ℕ) (out : List ℕ) (put : ℕ) where
  abbrev asks : Bool → Next → Result Asks Stop
  asks room x = unless room (Err Output) (asks_by x)

  -- the line behind starts within the piece
  abbrev WithinPiece : Result Asks Stop → Type 0
  WithinPiece (Ok o) = o.behind ≤ length input
  WithinPiece (Err s) = Unit {0}

  pub asks_within : {r : Result Asks Stop} → r ≡ asks_of input at put (length out) → WithinPiece r
  asks_within q = subst WithinPiece (sym q) (by_room (leb (put + row_room) (length out)) (next_of input at) refl)
    where
      by_room : (t : Bool) (x : Next) → x ≡ next_of input at → WithinPiece (asks t x)
      by_room false x e = tt
      by_room true Unended e = tt
      by_room true (Whole (Some item) behind) e = behind_within input at e
      by_room true (Whole None behind) e = tt

  -- a line asks only where there is room
  abbrev HasRoom : Result Asks Stop → Type 0
  HasRoom (Ok o) = put + row_room ≤ length out
  HasRoom (Err s) = Unit {0}

  pub asks_fits : {r : Result Asks Stop} → r ≡ asks_of input at put (length out) → HasRoom r
  asks_fits q = subst HasRoom (sym q) (by_room (leb (put + row_room) (length out)) (next_of input at) refl)
    where
      by_room : (t : Bool) (x : Next) → leb (put + row_room) (length out) ≡ t → HasRoom (asks t x)
      by_room false x e = tt
      by_room true Unended e = tt
      by_room true (Whole (Some item) behind) e = leb-true (put + row_room) (length out) e
      by_room true (Whole None behind) e = tt

  module _ (number : ℕ) (d : Desk) where
    -- a line that asks, and its row; or nothing done
    abbrev turn_by : Result Asks Stop → AfterTurn
    turn_by (Ok o) = wrote number (line_of o.item) o.behind out put (asked_by o.item d)
    turn_by (Err s) = stopped s out d

    turn_is : turn_by (asks_of input at put (length out)) ≡ turn_of number input at out put d
    unfolding turn_of
    turn_is = by_room (leb (put + row_room) (length out)) (next_of input at)
      where
        by_room : (t : Bool) (x : Next) → turn_by (asks t x) ≡ unless t (stopped Output out d) (on_line x number out put d)
        by_room false x = refl
        by_room true Unended = refl
        by_room true (Whole (Some (Event e)) behind) = refl
        by_room true (Whole (Some (Taking i n)) behind) = refl
        by_room true (Whole None behind) = refl

    pub went : {o : Asks} {a : Answered} {end : ℕ} {out' : List ℕ} {d' : Desk} → Ok o ≡ asks_of input at put (length out)
        → ask_leaves a d' ≡ asked_by o.item d → RowPut number (line_of o.item) a.number a.length out put end out'
        → turn_leaves (Went o.behind end) out' d' ≡ turn_of number input at out put d
    went {o} q asked row = rw (row.ends, row.after) (ap (λ (x : Asked). wrote number (line_of o.item) o.behind out put x) asked ∙ ap turn_by q ∙ turn_is)

    pub stops : {s : Stop} → Err s ≡ asks_of input at put (length out) → stopped s out d ≡ turn_of number input at out put d
    stops q = ap turn_by q ∙ turn_is
