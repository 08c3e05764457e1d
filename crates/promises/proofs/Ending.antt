-- A sending ends: each told second brings it nearer to its end, and no other item takes it away from there. So behind as many as it lasts at most the line was neutral.
-- Assumes nothing.
use mathlib.Core.Path.{◌≡◌, refl, sym, ap, subst, ◌∙◌}
use mathlib.Core.Bool.{Bool, true, false, cond}
use mathlib.Core.List.{List, [], ◌∷◌}
use Prim.Native.Nat.{ℕ, ◌+◌, ◌*◌, ◌-◌, ◌≤◌, ◌<◌}
use native.Mathlib.Omega.{arith}
use borrow.Author.Tests.{eq-eqb, leb-true}
use lib.Dec.{leb}
use lib.ListN.{length, drop}
use Rattle.memory.specs.Sizes.{lines, frame_limit}
use Rattle.memory.proofs.Tests.{clash, never_both}
use Rattle.pieces.specs.Pieces.{pieces_of}
use Rattle.frame.specs.Piece.{Piece}
use Rattle.settings.specs.declared.Dialogue.TheVariants.{Frames}
use Rattle.gateway.specs.Events.{dialogue_at}
use Rattle.line.specs.declared.State.TheVariants.{Out}
use Rattle.line.specs.declared.Sending.{Sending}
use Rattle.line.specs.declared.Sending.TheVariants.{Asking, Pausing, Offering}
use Rattle.line.specs.Line.{most_tries}
use Rattle.sending.specs.Onward.{piece_at, reply_seconds, pause_seconds, wait_of}
use Rattle.sending.specs.declared.Onward.{Onward}
use Rattle.sending.proofs.Pieces.{piece_first}
use Rattle.looking.specs.declared.Kind.{Kind}
use Rattle.looking.specs.declared.Kind.TheVariants.{Byte, Seconds}
use Rattle.orders.specs.Starts.{is_neutral}
use Rattle.serial.specs.Serial.{Every}
use Rattle.promises.specs.Machine.{State, GatewayItem, came, starting, step, Parts, parts_of, Sound, May}
use Rattle.promises.specs.Runs.{answered}
use Rattle.promises.specs.Clean.{unfinished_in}
use Rattle.promises.specs.Orders.{is_tick, ticks, neutral_along, longest}
use Rattle.promises.proofs.Sound.{sound_intact}
use Rattle.promises.proofs.Starts.{start_sends, asks_own, asks_text, starts_frames}
use Rattle.promises.proofs.Dialogues.{still_frames}
use Rattle.promises.proofs.Kept.{keeps}
use Rattle.promises.proofs.Onward.{parts_on, onward, out_own}
use Rattle.promises.proofs.Moves.{place_behind, Moves, offers_first, pauses, ignores, asks_again, offers_next, offers_again, waits, ends_whole, ends_short, ends_past, gives_up, moves}
use Rattle.promises.proofs.Items.{is_out, state_of, text_long, ItemOn, idle, begun, received, sending, item_on}

-- ---- how long a sending can still last, in seconds told one by one

-- a frame: six waits
abbrev frame_seconds : ℕ
frame_seconds = most_tries * reply_seconds

-- our ENQ, with the pause behind its refusal
abbrev ask_seconds : ℕ
ask_seconds = reply_seconds + pause_seconds

-- how many frames the text has from this place on
abbrev pub frames_from : List ℕ → ℕ → ℕ
frames_from text at = length (pieces_of frame_limit (drop at text))

abbrev behind : List ℕ → Sending → ℕ
behind text (Asking n) = ask_seconds * (most_tries - (n + 1)) + frame_seconds * frames_from text 0
behind text (Pausing n) = reply_seconds + ask_seconds * (most_tries - (n + 1)) + frame_seconds * frames_from text 0
behind text (Offering n at) = reply_seconds * (most_tries - n) + frame_seconds * frames_from text (at + piece_at frame_limit at text)

-- what is left of this wait, and what can come behind it
abbrev lasts : Parts → Sending → ℕ
lasts p t = (wait_of t - p.line.seconds) + behind (unfinished_in p) t

-- a line that sends, and has not waited long enough
record Going (p : Parts) (t : Sending) : Type 0 where
  out : p.line.state ≡ Out t
  waiting : p.line.seconds < wait_of t

-- it goes on, and lasts so much less; or the line is neutral
data Nearer (tick : Bool) (p : Parts) (t : Sending) (q : Parts) : Type 0 where
  over : is_neutral q.line.state ≡ true → Nearer tick p t q
  nearer : (u : Sending) → Going q u → cond tick 1 0 + lasts q u ≤ lasts p t → Nearer tick p t q

-- whether seconds pass with an event
abbrev passes : Kind → Bool
passes (Byte b) = false
passes (Seconds n) = leb 1 n

-- one more frame behind, one less from its place on
pub one_less : (p : Parts) → length (unfinished_in p) ≡ p.line.joined → (at : ℕ) → at < p.line.joined → frames_from (unfinished_in p) at ≡ frames_from (unfinished_in p) (place_behind p at) + 1
one_less p long at there =
    omega (arith, ap (λ (ps : List Piece). length ps) (piece_first frame_limit at (unfinished_in p) (omega arith) (omega (arith, long))))

tick_most : (tick : Bool) → cond tick 1 0 ≤ 1
tick_most true = omega arith
tick_most false = omega arith

tick_seconds : (n : ℕ) → cond (leb 1 n) 1 0 ≤ n
tick_seconds n = by_test_law (leb 1 n) refl
  where
    by_test_law : (b : Bool) → leb 1 n ≡ b → cond b 1 0 ≤ n
    by_test_law true e = leb-true 1 n e
    by_test_law false e = omega arith

-- ---- row by row

module _ (p : Parts) (long : length (unfinished_in p) ≡ p.line.joined) where
  row_nearer : (k : Kind) (t : Sending) (o : Onward) → Going p t → Moves p k t o → Nearer (passes k) p t (parts_on o p)
  row_nearer k t o g (offers_first acked some) =
      nearer (Offering 1 0) (record { out = refl; waiting = omega arith }) (omega (arith, tick_most (passes k), g.waiting, one_less p long 0 some))
  row_nearer k (Asking n) o g (pauses few) =
      nearer (Pausing (n + 1)) (record { out = refl; waiting = omega arith }) (omega (arith, tick_most (passes k), g.waiting))
  row_nearer k t o g ignores = nearer t g (omega arith)
  row_nearer k (Pausing n) o g (asks_again late) = nearer (Asking n) (record { out = refl; waiting = omega arith }) (omega (arith, tick_most (passes k), g.waiting))
  row_nearer k (Offering n at) o g (offers_next acked there more) =
      nearer (Offering 1 (place_behind p at)) (record { out = refl; waiting = omega arith }) (omega (arith, tick_most (passes k), g.waiting, one_less p long (place_behind p at) more))
  row_nearer k (Offering n at) o g (offers_again refused few) =
      nearer (Offering (n + 1) at) (record { out = refl; waiting = omega arith }) (omega (arith, tick_most (passes k), g.waiting))
  row_nearer (Seconds n) t o g (waits short) =
      nearer t (record { out = g.out; waiting = short }) (omega (arith, tick_seconds n, short))
  row_nearer k t o g (ends_whole acked there past) = over refl
  row_nearer k t o g (ends_short refused) = over refl
  row_nearer k t o g (ends_past past) = over refl
  row_nearer k t o g gives_up = over refl

-- ---- items and runs

module _ (i : ℕ) (h : i < lines) where
  event_tick : (k : Kind) → is_tick i (came i k) ≡ passes k
  event_tick (Byte b) = refl
  event_tick (Seconds n) = rw (eq-eqb i i refl)

  item_nearer : (s : State) (w : Sound s) → dialogue_at s.gateway i ≡ Frames → (e : GatewayItem) (t : Sending) → Going (parts_of s i) t → ItemOn i s e → Nearer (is_tick i e) (parts_of s i) t (parts_of (step s e).1 i)
  item_nearer s w speaks e t g (idle quiet still same) =
      subst (Nearer (is_tick i e) (parts_of s i) t) (sym same) (rw still (nearer t g (omega arith)))
  item_nearer s w speaks e t g (begun now neutral) = let z : false ≡ true = sym (ap is_neutral g.out) ∙ neutral in clash cc
  item_nearer s w speaks e t g (received k quiet before after) = never_both (is_out (state_of s i)) (ap is_out g.out) before
  item_nearer s w speaks e t g (sending k u out) =
      let v = sound_intact s w in
      subst (λ (q : Parts). Nearer (is_tick i (came i k)) (parts_of s i) t q) (sym (out_own s v i h speaks t g.out k))
      (rw (event_tick k) (row_nearer (parts_of s i) (text_long s v i h speaks) k t (onward s v i h speaks t g.out k) g (moves (parts_of s i) k t)))

  pub neutral_here : (s : State) (es : List GatewayItem) → is_neutral (state_of s i) ≡ true → neutral_along i s es ≡ true
  neutral_here s [] e = e
  neutral_here s (x ∷ es) e = rw e

  going_ends : (s : State) (es : List GatewayItem) → Sound s → dialogue_at s.gateway i ≡ Frames → Every May es → (t : Sending) → Going (parts_of s i) t → lasts (parts_of s i) t ≤ ticks i es → neutral_along i s es ≡ true
  going_ends s [] w speaks may t g enough = absurd (omega (arith, g.waiting))
  going_ends s (e ∷ es) w speaks may t g enough = rw (ap is_neutral g.out) (by_step (item_nearer s w speaks e t g (item_on s w i h speaks e may.0)) (λ u r le. going_ends (step s e).1 es (keeps s e w may.0) (still_frames s e i speaks) may.1 u r le))
    where
      by_step : Nearer (is_tick i e) (parts_of s i) t (parts_of (step s e).1 i) → ((u : Sending) → Going (parts_of (step s e).1 i) u → lasts (parts_of (step s e).1 i) u ≤ ticks i es → neutral_along i (step s e).1 es ≡ true)
          → neutral_along i (step s e).1 es ≡ true
      by_step (over n) later = neutral_here (step s e).1 es n
      by_step (nearer u r less) later = later u r (omega (arith, less, enough))

-- told so many seconds, one by one or more at once, the line is neutral somewhere along the run, whatever else comes
pub sending_ends : (s : State) → Sound s → (i : ℕ) → i < lines → (m : List ℕ) → answered (step s (starting i m)).0 ≡ 9 → (es : List GatewayItem) → Every May es
    → longest (length (pieces_of frame_limit m)) ≤ ticks i es → neutral_along i (step s (starting i m)).1 es ≡ true
sending_ends s w i h m e es may enough =
    let v = sound_intact s w in
    let t = (step s (starting i m)).1 in
    let asks = start_sends s v i m h e in
    let own = asks_own s v i m h asks in
    let text : unfinished_in (parts_of t i) ≡ m = ap unfinished_in own ∙ asks_text s v i m h asks in
    let seconds = ap (λ (p : Parts). p.line.seconds) own in
    let going : Going (parts_of t i) (Asking 0) = record { out = ap (λ (p : Parts). p.line.state) own; waiting = omega (arith, seconds) } in
    let frames = ap (λ (x : List ℕ). length (pieces_of frame_limit (drop 0 x))) text in
    going_ends i h t es (keeps s (starting i m) w h) (still_frames s (starting i m) i (starts_frames s v i m h asks)) may (Asking 0) going (omega (arith, enough, seconds, frames))

-- the figures
pub longest_figures : (frames : ℕ) → longest frames ≡ 140 + 90 * frames
longest_figures frames = omega arith
