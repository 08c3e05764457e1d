-- What our EOT tells: in answer to an ACK, that our ENQ and every frame were acknowledged; else that not all were. How many acknowledgements are still to come is told by where
-- the sending is, and one less with each.
-- Assumes nothing.
use mathlib.Core.Path.{◌≡◌, refl, sym, ap, subst, ◌∙◌}
use mathlib.Core.Bool.{Bool, true, false, cond, not, ◌&&◌}
use mathlib.Core.List.{List, [], ◌∷◌, ◌++◌}
use Prim.Native.Nat.{ℕ, ◌+◌, ◌<◌}
use native.Mathlib.Omega.{arith}
use borrow.Author.Tests.{eq-eqb}
use lib.Dec.{eqb}
use lib.ListN.{length, drop}
use Rattle.memory.specs.Sizes.{lines, frame_limit}
use Rattle.memory.proofs.Tests.{clash, never_both}
use Rattle.characters.specs.Control.{eot}
use Rattle.faults.proofs.Messages.{message_some}
use Rattle.frame.specs.Piece.{Piece}
use Rattle.pieces.specs.Pieces.{pieces_of}
use Rattle.answers.specs.Paper.{number_of, reply_of, first_out}
use Rattle.answers.specs.InNumbers.{reply_byte}
use Rattle.settings.specs.declared.Dialogue.TheVariants.{Frames}
use Rattle.gateway.specs.Events.{dialogue_at}
use Rattle.line.specs.declared.State.TheVariants.{Out}
use Rattle.line.specs.declared.Sending.{Sending}
use Rattle.line.specs.declared.Sending.TheVariants.{Asking, Pausing, Offering}
use Rattle.sending.specs.declared.Onward.{Onward}
use Rattle.sending.proofs.Pieces.{pieces_past}
use Rattle.looking.specs.declared.Kind.{Kind}
use Rattle.orders.specs.Starts.{is_neutral}
use Rattle.gateway.specs.Out.{sends}
use Rattle.serial.specs.Serial.{event, taking, final, Every}
use Rattle.promises.specs.Machine.{State, Response, happens, starts, GatewayItem, came, starting, step, Parts, parts_of, Sound, May}
use Rattle.promises.specs.Runs.{answered}
use Rattle.promises.specs.Clean.{unfinished_in}
use Rattle.promises.specs.Orders.{is_sent, begins, first_of, is_ack, acknowledges, acknowledgements, EotTells, neutral_along}
use Rattle.promises.proofs.Sound.{sound_intact}
use Rattle.promises.proofs.Starts.{start_sends, start_passed, asks_own, asks_text, starts_frames}
use Rattle.promises.proofs.Dialogues.{still_frames}
use Rattle.promises.proofs.Kept.{keeps}
use Rattle.promises.proofs.Onward.{answer_on, parts_on, onward, out_answer, out_own}
use Rattle.promises.proofs.Moves.{place_in, place_behind, Moves, offers_first, pauses, ignores, asks_again, offers_next, offers_again, waits, ends_whole, ends_short, ends_past, gives_up, moves}
use Rattle.promises.proofs.Items.{is_out, state_of, text_long, ItemOn, idle, begun, received, sending, item_on}
use Rattle.promises.proofs.Ending.{frames_from, one_less, neutral_here}

-- that of our ENQ, and one for each frame from the place on
abbrev to_come : List ℕ → Sending → ℕ
to_come text (Asking n) = 1 + frames_from text 0
to_come text (Pausing n) = 1 + frames_from text 0
to_come text (Offering n at) = frames_from text at

-- a line that sends, and has a byte at the place
record UnderWay (p : Parts) (t : Sending) : Type 0 where
  out : p.line.state ≡ Out t
  there : place_in t < p.line.joined

-- whether an event that is made this of acknowledges
abbrev acks : Kind → Onward → Bool
acks k o = eqb (number_of (answer_on o)) sends && (not (eqb (reply_byte (first_out (answer_on o))) 0) && is_ack k)

-- the sending is over, or goes on with what is to come
data Further (acked : Bool) (p : Parts) (t : Sending) (q : Parts) : Type 0 where
  over : is_neutral q.line.state ≡ true → Further acked p t q
  further : (u : Sending) → UnderWay q u → cond acked 1 0 + to_come (unfinished_in q) u ≡ to_come (unfinished_in p) t → Further acked p t q

-- ---- row by row

module _ (p : Parts) (long : length (unfinished_in p) ≡ p.line.joined) where
  row_further : (k : Kind) (t : Sending) (o : Onward) → UnderWay p t → Moves p k t o → Further (acks k o) p t (parts_on o p)
  row_further k t o w (offers_first acked some) = rw acked (further (Offering 1 0) (record { out = refl; there = some }) (omega arith))
  row_further k (Asking n) o w (pauses few) = further (Pausing (n + 1)) (record { out = refl; there = w.there }) (omega arith)
  row_further k t o w ignores = further t w (omega arith)
  row_further k (Pausing n) o w (asks_again late) = rw late (further (Asking n) (record { out = refl; there = w.there }) (omega arith))
  row_further k (Offering n at) o w (offers_next acked there more) =
      rw acked (further (Offering 1 (place_behind p at)) (record { out = refl; there = more }) (omega (arith, one_less p long at there)))
  row_further k (Offering n at) o w (offers_again refused few) = rw refused (further (Offering (n + 1) at) (record { out = refl; there = w.there }) (omega arith))
  row_further k t o w (waits short) = further t (record { out = w.out; there = w.there }) (omega arith)
  row_further k t o w (ends_whole acked there past) = over refl
  row_further k t o w (ends_short refused) = over refl
  row_further k t o w (ends_past past) = over refl
  row_further k t o w gives_up = over refl

  some_to_come : (t : Sending) → UnderWay p t → 0 < to_come (unfinished_in p) t
  some_to_come (Asking n) w = omega arith
  some_to_come (Pausing n) w = omega arith
  some_to_come (Offering n at) w = omega (arith, one_less p long at w.there)

  -- the row with which our EOT goes out
  row_tells : (k : Kind) (t : Sending) (o : Onward) → UnderWay p t → Moves p k t o → reply_byte (first_out (answer_on o)) ≡ eot
      → EotTells (is_ack k) (cond (acks k o) 1 0 + 0) (to_come (unfinished_in p) t)
  unfolding reply_of
  row_tells k t o w (offers_first acked some) e = absurd (omega (arith, e))
  row_tells k t o w (pauses few) e = absurd (omega (arith, e))
  row_tells k t o w ignores e = absurd (omega (arith, e))
  row_tells k t o w (asks_again late) e = absurd (omega (arith, e))
  row_tells k t o w (offers_next acked there more) e = absurd (omega (arith, e))
  row_tells k t o w (offers_again refused few) e = absurd (omega (arith, e))
  row_tells k t o w (waits short) e = absurd (omega (arith, e))
  row_tells k (Offering n at) o w (ends_whole acked there past) e = record {
    whole = λ q. rw acked (omega (arith, one_less p long at there, ap (λ (ps : List Piece). length ps) (pieces_past frame_limit (place_behind p at) (unfinished_in p) (omega (arith, long, past)))));
    short = λ q. never_both (is_ack k) acked q;
  }
  row_tells k t o w (ends_short refused) e = record { whole = λ q. never_both (is_ack k) q refused; short = λ q. rw refused (omega (arith, some_to_come t w)) }
  row_tells k t o w (ends_past past) e = absurd (omega (arith, past, w.there))
  row_tells k t o w gives_up e = absurd (omega (arith, e))

-- ---- items and runs

tells_more : (acked : Bool) (now count left all : ℕ) → now + left ≡ all → EotTells acked count left → EotTells acked (now + count) all
tells_more acked now count left all sum x = record { whole = λ e. omega (arith, sum, x.whole e); short = λ e. omega (arith, sum, x.short e) }

module _ (i : ℕ) (h : i < lines) where
  -- what is not answered 9 begins no sending
  not_begun : (e : GatewayItem) (r : Response) → is_sent i e (answered r) ≡ false → begins i e r ≡ false
  not_begun (event l (happens k)) r q = refl
  not_begun (event l (starts text)) r q = q
  not_begun (taking l b) r q = refl

  -- whether an item acknowledges
  abbrev is_acked : State → GatewayItem → Bool
  is_acked s e = acknowledges i e (answered (step s e).0) (first_of (step s e).0)

  record Step (s : State) (e : GatewayItem) (t : Sending) : Type 0 where
    same_sending : begins i e (step s e).0 ≡ false
    goes : Further (is_acked s e) (parts_of s i) t (parts_of (step s e).1 i)

  item_further : (s : State) (w : Sound s) → dialogue_at s.gateway i ≡ Frames → (e : GatewayItem) (t : Sending) → UnderWay (parts_of s i) t → ItemOn i s e → Step s e t
  item_further s w speaks e t g (idle quiet still same) = record {
    same_sending = not_begun e (step s e).0 quiet;
    goes = subst (Further (is_acked s e) (parts_of s i) t) (sym same) (rw quiet (further t g (omega arith)));
  }
  item_further s w speaks e t g (begun now neutral) = let z : false ≡ true = sym (ap is_neutral g.out) ∙ neutral in clash cc
  item_further s w speaks e t g (received k quiet before after) = never_both (is_out (state_of s i)) (ap is_out g.out) before
  item_further s w speaks e t g (sending k u out) =
      let v = sound_intact s w in
      let o = onward s v i h speaks t g.out k in
      record {
        same_sending = refl;
        goes =
            subst (λ (r : Response). Further (acknowledges i (came i k) (answered r) (first_of r)) (parts_of s i) t (parts_of (step s (came i k)).1 i)) (sym (out_answer s v i h speaks t g.out k))
            (subst (Further (acknowledges i (came i k) (number_of (answer_on o)) (reply_byte (first_out (answer_on o)))) (parts_of s i) t) (sym (out_own s v i h speaks t g.out k))
            (rw (eq-eqb i i refl) (row_further (parts_of s i) (text_long s v i h speaks) k t o g (moves (parts_of s i) k t))));
      }

  -- the item with which it goes out
  last_tells : (s : State) (w : Sound s) → dialogue_at s.gateway i ≡ Frames → (k : Kind) (t : Sending) → UnderWay (parts_of s i) t → first_of (step s (came i k)).0 ≡ eot
      → EotTells (is_ack k) (acknowledgements i s (came i k ∷ [])) (to_come (unfinished_in (parts_of s i)) t)
  last_tells s w speaks k t g e =
      let v = sound_intact s w in
      let o = onward s v i h speaks t g.out k in
      let r = out_answer s v i h speaks t g.out k in
      subst (λ (x : Response). EotTells (is_ack k) (cond (acknowledges i (came i k) (answered x) (first_of x)) 1 0 + 0) (to_come (unfinished_in (parts_of s i)) t)) (sym r)
      (rw (eq-eqb i i refl) (row_tells (parts_of s i) (text_long s v i h speaks) k t o g (moves (parts_of s i) k t) (sym (ap first_of r) ∙ e)))

  module _ (k : Kind) where
    -- what is told by the event k, behind the run es
    abbrev Tells : State → Sending → List GatewayItem → Type 0
    Tells s t es = EotTells (is_ack k) (acknowledgements i s (es ++ (came i k ∷ []))) (to_come (unfinished_in (parts_of s i)) t)

    along : (s : State) (es : List GatewayItem) → Sound s → dialogue_at s.gateway i ≡ Frames → Every May es → (t : Sending) → UnderWay (parts_of s i) t → neutral_along i s es ≡ false
        → first_of (step (final step s es) (came i k)).0 ≡ eot → Tells s t es
    along s [] w speaks may t g on e = last_tells s w speaks k t g e
    along s (x ∷ es) w speaks may t g on e =
        let later : neutral_along i (step s x).1 es ≡ false = rw (ap is_neutral g.out) at on in
        let y = item_further s w speaks x t g (item_on s w i h speaks x may.0) in
        rw y.same_sending (by_step y.goes later (λ u v. along (step s x).1 es (keeps s x w may.0) (still_frames s x i speaks) may.1 u v later e))
      where
        by_step : Further (is_acked s x) (parts_of s i) t (parts_of (step s x).1 i) → neutral_along i (step s x).1 es ≡ false
            → ((u : Sending) → UnderWay (parts_of (step s x).1 i) u → Tells (step s x).1 u es)
            → EotTells (is_ack k) (cond (is_acked s x) 1 0 + acknowledgements i (step s x).1 (es ++ (came i k ∷ []))) (to_come (unfinished_in (parts_of s i)) t)
        by_step (over n) later rest = never_both (neutral_along i (step s x).1 es) (neutral_here i h (step s x).1 es n) later
        by_step (further u v sum) later rest = tells_more (is_ack k) _ _ _ _ sum (rest u v)

-- a sending that is not over yet, and an event with which our EOT goes out
pub eot_tells : (s : State) → Sound s → (i : ℕ) → i < lines → (m : List ℕ) → answered (step s (starting i m)).0 ≡ 9 → (es : List GatewayItem) → Every May es
    → neutral_along i (step s (starting i m)).1 es ≡ false → (k : Kind) → first_of (step (final step (step s (starting i m)).1 es) (came i k)).0 ≡ eot
    → EotTells (is_ack k) (acknowledgements i (step s (starting i m)).1 (es ++ (came i k ∷ []))) (1 + length (pieces_of frame_limit m))
eot_tells s w i h m nine es may on k e =
    let v = sound_intact s w in
    let t = (step s (starting i m)).1 in
    let asks = start_sends s v i m h nine in
    let own = asks_own s v i m h asks in
    let text : unfinished_in (parts_of t i) ≡ m = ap unfinished_in own ∙ asks_text s v i m h asks in
    let some = message_some _ m (start_passed s v i m h asks).message in
    let joined = ap (λ (p : Parts). p.line.joined) own in
    let way : UnderWay (parts_of t i) (Asking 0) = record { out = ap (λ (p : Parts). p.line.state) own; there = omega (arith, some, joined) } in
    subst (λ (x : List ℕ). EotTells (is_ack k) (acknowledgements i t (es ++ (came i k ∷ []))) (1 + length (pieces_of frame_limit (drop 0 x)))) text
    (along i h k t es (keeps s (starting i m) w h) (still_frames s (starting i m) i (starts_frames s v i m h asks)) may (Asking 0) way on e)
