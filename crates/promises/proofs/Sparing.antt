-- In a sending our ENQ goes out six times at most, and so does each frame, whatever comes: how often each can still go out is told by where the sending is, and falls each time that it does.
-- Assumes nothing.
use mathlib.Core.Path.{◌≡◌, refl, sym, ap, subst}
use mathlib.Core.Bool.{Bool, true, false, cond, ◌&&◌}
use mathlib.Core.List.{List, [], ◌∷◌}
use Prim.Native.Nat.{ℕ, ◌+◌, ◌-◌, ◌≤◌, ◌<◌}
use native.Mathlib.Decide.{dec_lt}
use native.Mathlib.Omega.{arith}
use borrow.Author.Tests.{eq-eqb, ne_eqb, lt-ltb, le-ltb, ltb-true}
use lib.Dec.{eqb, ltb}
use lib.ListN.{length}
use Rattle.memory.specs.Sizes.{lines}
use Rattle.memory.specs.Tests.{is}
use Rattle.memory.proofs.Tests.{clash, never_both}
use Rattle.characters.specs.Control.{enq, stx}
use Rattle.answers.specs.Paper.{number_of, first_out}
use Rattle.answers.specs.InNumbers.{reply_byte}
use Rattle.line.specs.Line.{most_tries, sending_within, state_within}
use Rattle.settings.specs.declared.Dialogue.TheVariants.{Frames}
use Rattle.gateway.specs.Events.{dialogue_at}
use Rattle.line.specs.declared.State.{State as LineState}
use Rattle.line.specs.declared.State.TheVariants.{Neutral, Waiting, Inside, Out}
use Rattle.line.specs.declared.Sending.{Sending}
use Rattle.line.specs.declared.Sending.TheVariants.{Asking, Pausing, Offering}
use Rattle.line.proofs.Limits.{within_facts}
use Rattle.sending.specs.declared.Onward.{Onward}
use Rattle.looking.specs.declared.Kind.{Kind}
use Rattle.gateway.specs.Out.{sends}
use Rattle.serial.specs.Serial.{Every}
use Rattle.promises.specs.Machine.{State, Response, GatewayItem, came, starting, step, Parts, parts_of, Sound, May}
use Rattle.promises.specs.Runs.{answered}
use Rattle.promises.specs.Clean.{unfinished_in}
use Rattle.promises.specs.Orders.{is_sent, sends_on, offers_at, count_until, begins, first_of, enquiries, frames_at, SendsSparingly}
use Rattle.promises.proofs.Sound.{sound_intact}
use Rattle.promises.proofs.Starts.{start_sends, asks_own, starts_frames}
use Rattle.promises.proofs.Parts.{frames_within}
use Rattle.promises.proofs.Dialogues.{still_frames}
use Rattle.promises.proofs.Kept.{keeps}
use Rattle.promises.proofs.Onward.{answer_on, state_on, onward, out_answer, out_state, said_on}
use Rattle.promises.proofs.Moves.{place_behind, Moves, offers_first, pauses, ignores, asks_again, offers_next, offers_again, waits, ends_whole, ends_short, ends_past, gives_up, place_grows, moves}
use Rattle.promises.proofs.Items.{is_out, state_of, text_long, ItemOn, idle, begun, received, sending, item_on}

-- ---- how often something can still go out

-- our ENQ: the one that awaits its reply has gone out already
abbrev asks_left : LineState → ℕ
asks_left Neutral = 0
asks_left Waiting = 0
asks_left Inside = 0
asks_left (Out (Asking n)) = most_tries - (n + 1)
asks_left (Out (Pausing n)) = most_tries - n
asks_left (Out (Offering n place)) = 0

-- the frame at this place: six times before its turn, and never once it is past
abbrev frames_left : ℕ → LineState → ℕ
frames_left at Neutral = 0
frames_left at Waiting = 0
frames_left at Inside = 0
frames_left at (Out (Asking n)) = most_tries
frames_left at (Out (Pausing n)) = most_tries
frames_left at (Out (Offering n place)) = cond (eqb place at) (most_tries - n) (cond (ltb place at) most_tries 0)

at_most : (stop : Bool) (now rest before after : ℕ) → (stop ≡ false → now + after ≤ before) → rest ≤ after → cond stop 0 (now + rest) ≤ before
at_most true now rest before after p q = omega arith
at_most false now rest before after p q = omega (arith, p refl, q)

-- where nothing goes out that is not answered 9, no item raises what is left and each that counts lowers it, as often goes out as was left at most
module _ (i : ℕ) (h : i < lines) (test : GatewayItem → Response → State → Bool) (left : LineState → ℕ)
    (receiving : (x : LineState) → is_out x ≡ false → left x ≡ 0)
    (only-9 : (e : GatewayItem) (r : Response) (t : State) → is_sent i e (answered r) ≡ false → test e r t ≡ false)
    (falls : (s : State) → Sound s → dialogue_at s.gateway i ≡ Frames → (k : Kind) (t : Sending) → state_of s i ≡ Out t
    → cond (test (came i k) (step s (came i k)).0 (step s (came i k)).1) 1 0 + left (state_of (step s (came i k)).1 i) ≤ left (Out t)) where
  item_falls : (s : State) (w : Sound s) → dialogue_at s.gateway i ≡ Frames → (e : GatewayItem) → ItemOn i s e → begins i e (step s e).0 ≡ false
      → cond (test e (step s e).0 (step s e).1) 1 0 + left (state_of (step s e).1 i) ≤ left (state_of s i)
  item_falls s w speaks e (idle quiet still same) n =
      let after : left (state_of (step s e).1 i) ≡ left (state_of s i) = ap (λ (p : Parts). left p.line.state) same in
      rw (only-9 e (step s e).0 (step s e).1 quiet) (omega (arith, after))
  item_falls s w speaks e (begun now neutral) n = never_both (begins i e (step s e).0) now n
  item_falls s w speaks e (received k quiet before after) n =
      let none : left (state_of (step s e).1 i) ≡ 0 = receiving (state_of (step s e).1 i) after in
      rw (only-9 e (step s e).0 (step s e).1 (rw (eq-eqb i i refl) quiet)) (omega (arith, none))
  item_falls s w speaks e (sending k t out) n = subst (λ (x : LineState). cond (test e (step s e).0 (step s e).1) 1 0 + left (state_of (step s e).1 i) ≤ left x) (sym out) (falls s w speaks k t out)

  count_left : (s : State) (es : List GatewayItem) → Sound s → dialogue_at s.gateway i ≡ Frames → Every May es → count_until step (begins i) test s es ≤ left (state_of s i)
  count_left s [] w speaks may = omega arith
  count_left s (e ∷ es) w speaks may =
      let t = (step s e).1 in
      at_most (begins i e (step s e).0) (cond (test e (step s e).0 t) 1 0) (count_until step (begins i) test t es) (left (state_of s i)) (left (state_of t i))
      (item_falls s w speaks e (item_on s w i h speaks e may.0)) (count_left t es (keeps s e w may.0) (still_frames s e i speaks) may.1)

-- ---- row by row

-- whether this byte goes out first with what is made of a sending
abbrev sends_first : ℕ → Onward → Bool
sends_first b o = eqb (number_of (answer_on o)) sends && is b (reply_byte (first_out (answer_on o)))

module _ (p : Parts) where
  asks_fall : (k : Kind) (t : Sending) (o : Onward) → sending_within t ≡ true → Moves p k t o → cond (sends_first enq o) 1 0 + asks_left (state_on o t) ≤ asks_left (Out t)
  asks_fall k t o in_limits (offers_first acked some) = omega arith
  asks_fall k t o in_limits (pauses few) = omega arith
  asks_fall k t o in_limits ignores = omega arith
  asks_fall k (Pausing n) o in_limits (asks_again late) = omega (arith, ltb-true n most_tries in_limits)
  asks_fall k t o in_limits (offers_next acked there more) = omega arith
  asks_fall k t o in_limits (offers_again refused few) = omega arith
  asks_fall k t o in_limits (waits short) = omega arith
  asks_fall k t o in_limits (ends_whole acked there past) = omega arith
  asks_fall k t o in_limits (ends_short refused) = omega arith
  asks_fall k t o in_limits (ends_past past) = omega arith
  asks_fall k t o in_limits gives_up = omega arith

  module _ (at : ℕ) (long : length (unfinished_in p) ≡ p.line.joined) where
    -- what is left for a frame at a place that is offered so often, by how the places lie
    left_before : (n place : ℕ) → place < at → frames_left at (Out (Offering n place)) ≡ most_tries
    left_before n place before = rw (ne_eqb place at (λ q. absurd (omega (arith, q))), lt-ltb place at before)

    -- a frame that is offered for the first time
    first_falls : (place : ℕ) → cond (eqb place at) 1 0 + frames_left at (Out (Offering 1 place)) ≤ most_tries
    first_falls place = by_tests (eqb place at) (ltb place at)
      where
        by_tests : (a b : Bool) → cond a 1 0 + cond a (most_tries - 1) (cond b most_tries 0) ≤ most_tries
        by_tests true b = omega arith
        by_tests false true = omega arith
        by_tests false false = omega arith

    -- one that comes behind another
    next_falls : (n place next : ℕ) → place < next → cond (eqb next at) 1 0 + frames_left at (Out (Offering 1 next)) ≤ frames_left at (Out (Offering n place))
    next_falls n place next grows = elim (dec_lt place at) [
      | yes before ↦ rw (left_before n place before) (first_falls next)
      | no behind ↦ rw (ne_eqb next at (λ q. absurd (omega (arith, q))), le-ltb next at (omega arith)) (omega arith)
    ]

    -- and one that is offered again
    again_falls : (n place : ℕ) → n < most_tries → cond (eqb place at) 1 0 + frames_left at (Out (Offering (n + 1) place)) ≤ frames_left at (Out (Offering n place))
    again_falls n place few = by_test_law (eqb place at) (cond (ltb place at) most_tries 0)
      where
        by_test_law : (a : Bool) (rest : ℕ) → cond a 1 0 + cond a (most_tries - (n + 1)) rest ≤ cond a (most_tries - n) rest
        by_test_law true rest = omega arith
        by_test_law false rest = omega arith

    frames_fall : (k : Kind) (t : Sending) (o : Onward) → Moves p k t o → cond (sends_first stx o && offers_at at (state_on o t)) 1 0 + frames_left at (state_on o t) ≤ frames_left at (Out t)
    frames_fall k t o (offers_first acked some) = first_falls 0
    frames_fall k t o (pauses few) = omega arith
    frames_fall k t o ignores = omega arith
    frames_fall k t o (asks_again late) = omega arith
    frames_fall k (Offering n place) o (offers_next acked there more) = next_falls n place (place_behind p place) (place_grows p long place there)
    frames_fall k (Offering n place) o (offers_again refused few) = again_falls n place few
    frames_fall k t o (waits short) = omega arith
    frames_fall k t o (ends_whole acked there past) = omega arith
    frames_fall k t o (ends_short refused) = omega arith
    frames_fall k t o (ends_past past) = omega arith
    frames_fall k t o gives_up = omega arith

-- ---- a sending

receiving_asks : (x : LineState) → is_out x ≡ false → asks_left x ≡ 0
receiving_asks Neutral e = refl
receiving_asks Waiting e = refl
receiving_asks Inside e = refl
receiving_asks (Out t) e = clash cc

receiving_frames : (at : ℕ) (x : LineState) → is_out x ≡ false → frames_left at x ≡ 0
receiving_frames at Neutral e = refl
receiving_frames at Waiting e = refl
receiving_frames at Inside e = refl
receiving_frames at (Out t) e = clash cc

module _ (i : ℕ) (h : i < lines) where
  module _ (s : State) (w : Sound s) (speaks : dialogue_at s.gateway i ≡ Frames) (k : Kind) (t : Sending) (out : state_of s i ≡ Out t) where
    abbrev o : Onward
    o = onward s (sound_intact s w) i h speaks t out k

    abbrev own : Parts
    own = parts_of s i

    in_limits : sending_within t ≡ true
    in_limits = subst (λ (x : LineState). state_within x ≡ true) out (within_facts own.line (frames_within own.line speaks (w.within i h))).state

    -- what falls by the row falls by the step
    by_row : (test : Response → LineState → Bool) (left : LineState → ℕ) → cond (test (said_on o own) (state_on o t)) 1 0 + left (state_on o t) ≤ left (Out t)
        → cond (test (step s (came i k)).0 (state_of (step s (came i k)).1 i)) 1 0 + left (state_of (step s (came i k)).1 i) ≤ left (Out t)
    by_row test left row =
        let v = sound_intact s w in
        subst (λ (r : Response). cond (test r (state_of (step s (came i k)).1 i)) 1 0 + left (state_of (step s (came i k)).1 i) ≤ left (Out t)) (sym (out_answer s v i h speaks t out k))
        (subst (λ (x : LineState). cond (test (said_on o own) x) 1 0 + left x ≤ left (Out t)) (sym (out_state s v i h speaks t out k)) row)

    asks_step : cond (sends_on enq i (came i k) (answered (step s (came i k)).0) (first_of (step s (came i k)).0)) 1 0 + asks_left (state_of (step s (came i k)).1 i) ≤ asks_left (Out t)
    asks_step = by_row (λ r x. sends_on enq i (came i k) (answered r) (first_of r)) asks_left (rw (eq-eqb i i refl) (asks_fall own k t o in_limits (moves own k t)))

    frames_step : (at : ℕ) → cond (sends_on stx i (came i k) (answered (step s (came i k)).0) (first_of (step s (came i k)).0) && offers_at at (state_of (step s (came i k)).1 i)) 1 0 + frames_left at (state_of (step s (came i k)).1 i) ≤ frames_left at (Out t)
    frames_step at =
        by_row (λ r x. sends_on stx i (came i k) (answered r) (first_of r) && offers_at at x) (frames_left at)
        (rw (eq-eqb i i refl) (frames_fall own at (text_long s (sound_intact s w) i h speaks) k t o (moves own k t)))

-- a sending begins with our ENQ, which has then gone out once
pub six_sends : (s : State) → Sound s → (i : ℕ) → i < lines → (m : List ℕ) → answered (step s (starting i m)).0 ≡ 9 → (es : List GatewayItem) → Every May es
    → SendsSparingly i (step s (starting i m)).1 es
six_sends s w i h m e es may =
    let v = sound_intact s w in
    let t = (step s (starting i m)).1 in
    let asks = start_sends s v i m h e in
    let speaks = still_frames s (starting i m) i (starts_frames s v i m h asks) in
    let asking : state_of t i ≡ Out (Asking 0) = ap (λ (p : Parts). p.line.state) (asks_own s v i m h asks) in
    let sound = keeps s (starting i m) w h in
    let asked = count_left i h (λ e r t. sends_on enq i e (answered r) (first_of r)) asks_left receiving_asks (λ e r t n. rw n) (asks_step i h) t es sound speaks may in
    record {
      asked = subst (λ (x : LineState). 1 + enquiries i t es ≤ 1 + asks_left x) asking (omega (arith, asked));
      offered = λ at.
          subst (λ (x : LineState). frames_at i at t es ≤ frames_left at x) asking
          (count_left i h (λ e r t. sends_on stx i e (answered r) (first_of r) && offers_at at (state_of t i)) (frames_left at) (receiving_frames at) (λ e r t n. rw n) (λ s w f k t out. frames_step i h s w f k t out at) t es sound speaks may);
    }
