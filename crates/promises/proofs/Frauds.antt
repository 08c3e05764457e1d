-- The frauds of rule P4, and the promise that each breaks. They are told of any runner, so that no particular one is meant.
-- Assumes nothing.
use Rattle.std.specs.Prelude.{None, Option, Some}
use mathlib.Core.Path.{◌≡◌, refl, sym, ap, subst, ◌∙◌}
use mathlib.Core.Logic.{◌≢◌, ◌⊎◌, inl, inr}
use mathlib.Core.Bool.{Bool, true, false, true≢false}
use mathlib.Core.List.{List, [], ◌∷◌, ◌++◌}
use Prim.Native.Nat.{ℕ, ◌<◌}
use native.Mathlib.Omega.{arith}
use lib.ListN.{length, get_or, replicate, length-append, length-replicate}
use Rattle.settings.specs.Settings.{standard_settings}
use Rattle.memory.specs.Sizes.{lines, frame_limit, journal_size, unfinished_size, frames_size}
use Rattle.digits.specs.Check.{check_of, hex_digit, digits_of, total}
use Rattle.digits.specs.Number.{next_number}
use Rattle.framing.specs.Writing.{body_of, tail_of, collected_of, frame_of}
use Rattle.faults.specs.Message.{is_message}
use Rattle.cutting.specs.Frames.{cut_of}
use Rattle.pieces.specs.Pieces.{pieces_of}
use Rattle.header.specs.Header.{head_size}
use Rattle.header.specs.Entry.{Entry}
use Rattle.room.specs.Room.{todays_shares, claims}
use Rattle.journal_laws.specs.Held.{Held}
use Rattle.journal.specs.declared.Ledger.{Ledger}
use Rattle.characters.specs.Control.{enq}
use Rattle.answers.specs.Paper.{values_of, reply_of}
use Rattle.answers.specs.declared.Answer.{Answer}
use Rattle.answers.specs.declared.Answer.TheVariants.{Nothing, Taken}
use Rattle.receiving.specs.Steps.{Memory, memory_of}
use Rattle.looking.specs.declared.Kind.TheVariants.{Byte}
use Rattle.serial.specs.Serial.{taking, final}
use Rattle.promises.specs.Machine.{State, Response, response, GatewayItem, came}
use Rattle.promises.specs.Runs.{Right, fresh, standard_beginning, replied, is_ack}
use Rattle.promises.specs.Examples.{both, holds}
use Rattle.promises.specs.Sending.{Runner, bytes_on, sending, sending_replies, new_entries, HasRoom, Intact, DeliversBy, Demand2, GivesBackBy}
use Rattle.promises.proofs.Sound.{sound_intact}
use Rattle.promises.proofs.Kept.{fresh_sound}
use Rattle.promises.proofs.Rooms.{room_held}
use Rattle.promises.proofs.Examples.{shown}

-- ---- one message, sent to line 0 of a fresh gateway

abbrev memory : Memory
memory = memory_of (replicate journal_size 0) (replicate unfinished_size 0) (replicate frames_size 0)

abbrev began : State
began = fresh (standard_beginning memory)

right : Right (standard_beginning memory)
right = record {
  settings = length-replicate lines standard_settings;
  sizes = record { journal = length-replicate {A = ℕ} journal_size 0; texts = length-replicate {A = ℕ} unfinished_size 0; frames = length-replicate {A = ℕ} frames_size 0 };
}

holds_true : (b : Bool) → holds b ≡ 1 ∷ [] → b ≡ true
holds_true true e = refl
holds_true false e = absurd (omega (arith, ap (λ (xs : List ℕ). get_or xs 0 0) e))

is_message_law : is_message both ≡ true
is_message_law = holds_true (is_message both) (ap (λ (xs : List (List ℕ)). get_or xs 6 []) shown)

room : HasRoom began 0 (both ∷ [])
unfolding claims head_size
room = refl

intact : Intact began
intact = sound_intact began (fresh_sound (standard_beginning memory) right)

module _ (f : Runner) (promise : Demand2 f) where
  delivered : DeliversBy f began 0 (sending frame_limit both) (sending_replies frame_limit both) (both ∷ []) intact.entries
  delivered = promise 0 (omega arith) began intact refl both is_message_law room

abbrev ack_at : ℕ → List Response → Bool
ack_at n ts = is_ack (replied (get_or ts n (response Nothing [])))

-- one journal holds one list of entries
abbrev entries_of : Option (List Entry) → List Entry
entries_of None = []
entries_of (Some es) = es

pub held_once : (d : Ledger) (j : List ℕ) (es fs : List Entry) → Held todays_shares d j es → Held todays_shares d j fs → es ≡ fs
held_once d j es fs h g = ap entries_of (sym h.whole ∙ g.whole)

longer : (es fs gs : List Entry) → length fs < length gs → es ++ fs ≡ es ++ gs → ⊥
longer es fs gs h e = omega (arith, h, length-append es fs, length-append es gs, ap (λ (xs : List Entry). length xs) e)

-- ---- the frauds

-- NAK to all, or no reply at all: ENQ on a fresh line is to be acknowledged
pub never_acknowledges : (f : Runner) → ((s : State) (e : GatewayItem) → is_ack (replied (f s e).0) ≡ false) → Demand2 f → ⊥
unfolding reply_of
never_acknowledges f fraud promise = true≢false (sym (ap (ack_at 0) (delivered f promise).answered) ∙ fraud began (came 0 (Byte enq)))

-- ACK to all: the bytes within a frame are not to be answered
pub always_acknowledges : (f : Runner) → ((s : State) (e : GatewayItem) → is_ack (replied (f s e).0) ≡ true) → Demand2 f → ⊥
unfolding reply_of total check_of hex_digit digits_of next_number body_of tail_of collected_of frame_of cut_of pieces_of
always_acknowledges f fraud promise =
    true≢false (sym (fraud (f began (came 0 (Byte enq))).1 (came 0 (Byte 0x02))) ∙ ap (ack_at 1) (delivered f promise).answered)

-- doing nothing, whatever is answered, and so acknowledging without storing: the message is to be in the journal
stays : (f : Runner) → ((s : State) (e : GatewayItem) → (f s e).1 ≡ s) → (es : List GatewayItem) (s : State) → final f s es ≡ s
stays f fraud [] s = refl
stays f fraud (e ∷ es) s = ap (λ (t : State). final f t es) (fraud s e) ∙ stays f fraud es s

pub changes_nothing : (f : Runner) → ((s : State) (e : GatewayItem) → (f s e).1 ≡ s) → Demand2 f → ⊥
changes_nothing f fraud promise =
    let d = began.gateway.ledger in
    let held_then = subst (λ (t : State). Held todays_shares t.gateway.ledger t.memory.journal (intact.entries ++ new_entries d 0 (both ∷ []))) (stays f fraud (bytes_on 0 (sending frame_limit both)) began) (delivered f promise).held in
    let same = held_once d began.memory.journal intact.entries (intact.entries ++ new_entries d 0 (both ∷ [])) (room_held began intact 0 (omega arith) (both ∷ []) room) held_then in
    omega (arith, length-append intact.entries (new_entries d 0 (both ∷ [])), ap (λ (xs : List Entry). length xs) same)

-- storing the first message and only acknowledging the second: then the journal does not hold both
pub first_only : (f : Runner) (s : State) (i : ℕ) (bs : List ℕ) (ts : List Response) (m n : List ℕ) (es : List Entry) → DeliversBy f s i bs ts (m ∷ n ∷ []) es → (x : Entry)
    → Held todays_shares (final f s (bytes_on i bs)).gateway.ledger (final f s (bytes_on i bs)).memory.journal (es ++ x ∷ []) → ⊥
first_only f s i bs ts m n es promise x fraud =
    longer es (x ∷ []) (new_entries s.gateway.ledger i (m ∷ n ∷ [])) (omega arith)
    (held_once (final f s (bytes_on i bs)).gateway.ledger (final f s (bytes_on i bs)).memory.journal (es ++ x ∷ []) (es ++ new_entries s.gateway.ledger i (m ∷ n ∷ [])) fraud promise.held)

-- an invented length or serial: whoever tells another length than the text's, or another serial than its own, does not give the text back
pub invented : (f : Runner) (s : State) (i : ℕ) (b : List ℕ) (serial : ℕ) (m : List ℕ) (n x : ℕ) → (f s (taking i b)).0.answer ≡ Taken n x
    → (n ≢ length m) ⊎ (x ≢ serial) → GivesBackBy f s i b serial m → ⊥
invented f s i b serial m n x tells (inl other) promise = other (ap (λ (a : Answer). get_or (values_of a) 0 0) (sym tells ∙ ap (λ (t : Response). t.answer) promise))
invented f s i b serial m n x tells (inr other) promise = other (ap (λ (a : Answer). get_or (values_of a) 1 0) (sym tells ∙ ap (λ (t : Response). t.answer) promise))
