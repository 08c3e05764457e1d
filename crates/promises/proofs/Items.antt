-- What an item does to one line that speaks frames: nothing; it begins a sending there; it comes on the line while that receives, and then nothing goes out; or it moves the line's sending on.
-- Assumes nothing.
use Rattle.std.specs.Prelude.{Result, Ok, Err}
use Rattle.journal.specs.declared.Refusal.{Refusal}
use mathlib.Core.Path.{◌≡◌, refl, sym, ap, subst, ◌∙◌}
use mathlib.Core.Bool.{Bool, true, false, not}
use mathlib.Core.List.{List}
use Prim.Native.Nat.{ℕ, ◌<◌}
use native.Mathlib.Decide.{ℕ_discrete}
use native.Mathlib.Omega.{arith}
use borrow.Author.Tests.{eq-eqb, ne_eqb, eqb-true, eqb-false}
use lib.Dec.{eqb}
use lib.ListN.{length}
use Rattle.memory.specs.Sizes.{lines}
use Rattle.memory.proofs.Parts.{length_part}
use Rattle.memory.proofs.Tests.{never_both, and_left, and_not_right}
use Rattle.settings.specs.Settings.{speaks_frames}
use Rattle.settings.specs.declared.Dialogue.TheVariants.{Frames}
use Rattle.room.specs.Room.{todays_shares}
use Rattle.journal.specs.Verdicts.{judge_of}
use Rattle.answers.specs.Paper.{number_of}
use Rattle.answers.proofs.Paper.{every_but}
use Rattle.line.specs.declared.Line.{Line}
use Rattle.line.specs.declared.State.{State as LineState}
use Rattle.line.specs.declared.State.TheVariants.{Neutral, Waiting, Inside, Out}
use Rattle.line.specs.declared.Sending.{Sending}
use Rattle.line.proofs.Limits.{within_facts}
use Rattle.looking.specs.Views.{joined_text}
use Rattle.looking.specs.Looks.{look_of}
use Rattle.looking.specs.declared.Kind.{Kind}
use Rattle.looking.specs.declared.Kind.TheVariants.{Byte, Seconds}
use Rattle.looking.specs.declared.Look.{Look}
use Rattle.looking.specs.declared.Look.TheVariants.{Done, Decides}
use Rattle.looking.specs.declared.Verdict.{Verdict}
use Rattle.looking.proofs.Cases.{Cases, every_look}
use Rattle.looking.proofs.Views.{own_parts}
use Rattle.deciding.specs.Decisions.{objection_to, room_outcome}
use Rattle.deciding.proofs.Decisions.{outcome_cases}
use Rattle.receiving.specs.Settled.{line_after}
use Rattle.receiving.specs.Verdicts.{outcome_verdict, decided, own_work}
use Rattle.orders.specs.Starts.{is_neutral}
use Rattle.gateway.specs.Events.{dialogue_at, take_of}
use Rattle.gateway.specs.Out.{sends}
use Rattle.gateway_laws.specs.Classes.{Class, class_of}
use Rattle.gateway_laws.proofs.Proper.{objection_against}
use Rattle.serial.specs.Serial.{event, taking}
use Rattle.promises.specs.Machine.{State, Response, Coming, happens, starts, GatewayItem, came, starting, step, is_decision, Parts, parts_of, Sound, May}
use Rattle.promises.specs.Runs.{answered}
use Rattle.promises.specs.Sending.{Intact}
use Rattle.promises.specs.Clean.{unfinished_in}
use Rattle.promises.specs.Orders.{is_sent, begins, is_tick}
use Rattle.promises.proofs.Parts.{frames_within}
use Rattle.promises.proofs.Framed.{work, ready, framed_answer, framed_own}
use Rattle.promises.proofs.Sound.{sound_intact}
use Rattle.promises.proofs.Starts.{start_refused, start_sends, start_passed}
use Rattle.promises.proofs.Stretches.{coming_others}

abbrev pub is_out : LineState → Bool
is_out Neutral = false
is_out Waiting = false
is_out Inside = false
is_out (Out t) = true

-- the state of a line
abbrev pub state_of : State → ℕ → LineState
state_of s i = (parts_of s i).line.state

-- the text of a line has as many bytes as are joined
pub text_long : (s : State) → Intact s → (i : ℕ) → i < lines → dialogue_at s.gateway i ≡ Frames → length (unfinished_in (parts_of s i)) ≡ (parts_of s i).line.joined
text_long s w i h speaks =
    let own = parts_of s i in
    let within = frames_within own.line speaks (w.within i h) in
    let parts = own_parts own.line i s.memory.unfinished s.memory.frames (record { line = h; within = within; texts = w.texts; bytes = w.frames }) in
    length_part own.texts 0 own.line.joined (omega (arith, parts.texts_long, within_facts own.line within))

-- ---- a line that receives: no event is answered 9, and none makes it send

abbrev Plain : Line → Verdict → Type 0
Plain l v = (eqb (number_of v.answer) sends ≡ false) × (is_out (line_after v.act l).state ≡ false)

abbrev LookPlain : Line → Look → Type 0
LookPlain l (Done v) = Plain l v
LookPlain l (Decides n) = Unit {0}

plain : (l : Line) → is_out l.state ≡ false → Cases (LookPlain l) l
plain l receives = record {
  ignored = (refl, receives);
  busy = (refl, receives);
  opens = (refl, refl);
  ended = (refl, refl);
  dropped = (refl, refl);
  timed_out = (refl, refl);
  begins = (refl, refl);
  counts = λ n h. (refl, receives);
  collects = λ h. (refl, receives);
  unended = (refl, refl);
  torn = (refl, refl);
  unchecked = (refl, refl);
  foreign = (refl, refl);
  unnumbered = (refl, refl);
  refused = (refl, refl);
  repeated = (refl, refl);
  missed = (refl, refl);
  overlong = (refl, refl);
  no_cr = (refl, refl);
  accepts = λ n t. (refl, refl);
  decides = λ n t. tt;
  sends = λ t e. never_both (is_out l.state) (ap is_out e) receives;
}

-- nor is a text that is complete
abbrev undecided : Class → Bool
undecided c = not (is_decision c)

module _ (l : Line) (receives : is_out l.state ≡ false) (n : ℕ) where
  room_plain : (q : Result (Unit {0}) Refusal) → Plain l (outcome_verdict (room_outcome q) n)
  room_plain (Ok tt) = (refl, refl)
  room_plain (Err Refusal.NoRoom) = (refl, refl)
  room_plain (Err Refusal.Broken) = (refl, receives)
  room_plain (Err Refusal.NoLine) = (refl, receives)
  room_plain (Err Refusal.WrongSize) = (refl, receives)
  room_plain (Err Refusal.Malformed) = (refl, refl)

  objection_plain : (text : List ℕ) → eqb (number_of (objection_to text)) sends ≡ false
  objection_plain text = every_but (λ a. undecided (class_of a)) (λ a. eqb (number_of a) sends) (λ vs. refl) (objection_to text) (ap undecided (objection_against text))

module _ (s : State) (w : Intact s) (i : ℕ) (h : i < lines) (speaks : dialogue_at s.gateway i ≡ Frames) (k : Kind) (receives : is_out (state_of s i) ≡ false) where
  abbrev own : Parts
  own = parts_of s i

  work_plain : Plain own.line (work s w i k h speaks)
  unfolding own_work
  work_plain =
      let parts = own_parts own.line i s.memory.unfinished s.memory.frames (ready s w i k h speaks) in
      by_look (look_of own.line k own.texts own.frames) (every_look (LookPlain own.line) own.line (plain own.line receives) own.texts own.frames parts k)
    where
      by_look : (x : Look) → LookPlain own.line x → Plain own.line (decided x todays_shares own.line s.gateway.ledger i s.memory.journal own.texts own.frames)
      by_look (Done v) p = p
      by_look (Decides n) p =
          let text = joined_text own.line n own.texts own.frames in
          outcome_cases todays_shares s.gateway.ledger i text s.memory.journal (λ o. Plain own.line (outcome_verdict o n)) (objection_plain own.line receives n text, refl)
          (room_plain own.line receives n (judge_of s.gateway.ledger todays_shares i (length text) s.memory.journal))

  pub received_answer : eqb (answered (step s (came i k)).0) sends ≡ false
  received_answer = ap (λ (r : Response). eqb (answered r) sends) (framed_answer s w i k h speaks) ∙ work_plain.0

  pub received_state : is_out (state_of (step s (came i k)).1 i) ≡ false
  received_state = ap (λ (p : Parts). is_out p.line.state) (framed_own s w i k h speaks) ∙ work_plain.1

-- ---- every item

pub data ItemOn (i : ℕ) (s : State) : GatewayItem → Type 0 where
  -- of another line, or a start that is refused: nothing goes out on line i, no second passes there, and it has what it had
  idle : {e : GatewayItem} → is_sent i e (answered (step s e).0) ≡ false → is_tick i e ≡ false → parts_of (step s e).1 i ≡ parts_of s i → ItemOn i s e
  -- a start that is answered 9: the line was neutral
  begun : {e : GatewayItem} → begins i e (step s e).0 ≡ true → is_neutral (state_of s i) ≡ true → ItemOn i s e
  -- an event while the line receives
  received : (k : Kind) → eqb (answered (step s (came i k)).0) sends ≡ false → is_out (state_of s i) ≡ false → is_out (state_of (step s (came i k)).1 i) ≡ false → ItemOn i s (came i k)
  -- an event while it sends
  sending : (k : Kind) (t : Sending) → state_of s i ≡ Out t → ItemOn i s (came i k)

module _ (s : State) (w : Sound s) (i : ℕ) (h : i < lines) (speaks : dialogue_at s.gateway i ≡ Frames) where
  v : Intact s
  v = sound_intact s w

  by_state : (k : Kind) (x : LineState) → state_of s i ≡ x → ItemOn i s (came i k)
  by_state k Neutral e = received k (received_answer s v i h speaks k (ap is_out e)) (ap is_out e) (received_state s v i h speaks k (ap is_out e))
  by_state k Waiting e = received k (received_answer s v i h speaks k (ap is_out e)) (ap is_out e) (received_state s v i h speaks k (ap is_out e))
  by_state k Inside e = received k (received_answer s v i h speaks k (ap is_out e)) (ap is_out e) (received_state s v i h speaks k (ap is_out e))
  by_state k (Out t) e = sending k t e

  by_start : (text : List ℕ) (b : Bool) → eqb (answered (step s (starting i text)).0) sends ≡ b → ItemOn i s (starting i text)
  by_start text true e =
      begun {e = starting i text} (rw (eq-eqb i i refl) e)
      (and_left (is_neutral (state_of s i)) (speaks_frames (parts_of s i).line.settings) (start_passed s v i text h (start_sends s v i text h (eqb-true (answered (step s (starting i text)).0) sends e))).free)
  by_start text false e =
      idle (and_not_right (eqb i i) (eqb (answered (step s (starting i text)).0) sends) e) refl
      (ap (λ (x : State). parts_of x i) (start_refused s i text (eqb-false (answered (step s (starting i text)).0) sends e)))

  here : (k : Coming) → ItemOn i s (event i k)
  here (happens k) = by_state k (state_of s i) refl
  here (starts text) = by_start text (eqb (answered (step s (starting i text)).0) sends) refl

  elsewhere : (l : ℕ) (k : Coming) → l < lines → eqb l i ≡ false → is_tick i (event l k) ≡ false → ItemOn i s (event l k)
  elsewhere l k m other still = idle {e = event l k} (rw other) still (coming_others s v l m k i (λ q. eqb-false l i other (sym q)))

  still : (l : ℕ) (k : Coming) → eqb l i ≡ false → is_tick i (event l k) ≡ false
  still l (happens (Byte b)) e = refl
  still l (happens (Seconds n)) e = rw e
  still l (starts text) e = refl

  taking_idle : (l : ℕ) (b : List ℕ) → ItemOn i s (taking l b)
  unfolding take_of
  taking_idle l b = idle refl refl refl

  pub item_on : (e : GatewayItem) → May e → ItemOn i s e
  item_on (event l k) m = elim (ℕ_discrete l i) [
    | yes q ↦ subst (λ (x : ℕ). ItemOn i s (event x k)) (sym q) (here k)
    | no n ↦ elsewhere l k m (ne_eqb l i n) (still l k (ne_eqb l i n))
  ]
  item_on (taking l b) m = taking_idle l b
