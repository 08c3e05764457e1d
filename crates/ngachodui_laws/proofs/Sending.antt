-- Demand 2, of a host's calls: a message that we cut and send to a fresh line is stored, and given back in its turn.
-- Assumes nothing.
use mathlib.Core.Path.{◌≡◌, refl, sym, ap, subst, ◌∙◌}
use mathlib.Core.Logic.{◌≢◌}
use mathlib.Core.List.{List, [], ◌∷◌, ◌++◌, map}
use Prim.Native.Nat.{ℕ, zero, suc, ◌+◌, ◌≤◌}
use native.Mathlib.Nat.{add-zero}
use lib.ListN.{length, get_or, replicate}
use Rattle.memory.specs.Sizes.{frame_limit}
use Rattle.memory.specs.Parts.{splice}
use Rattle.frame.specs.Shape.{least_collected}
use Rattle.frame.specs.Piece.{Piece}
use Rattle.pieces.specs.Pieces.{pieces_of}
use Rattle.header.specs.Header.{entry_size}
use Rattle.room.specs.Room.{todays_shares}
use Rattle.journal_laws.specs.Held.{Held}
use Rattle.journal_laws.specs.Runs.{waiting}
use Rattle.answers.specs.Paper.{ack, reply_of}
use Rattle.answers.specs.declared.Answer.TheVariants.{Nothing}
use Rattle.line.specs.Line.{fresh_line}
use Rattle.gateway.specs.Events.{line_at}
use Rattle.serial.specs.Serial.{taking, annotate, final, Every}
use Rattle.promises.specs.Machine.{State, Response, response, GatewayItem, step, May}
use Rattle.promises.specs.Sending.{bytes_on, sending, replies, sending_replies, HasRoom}
use Rattle.promises.specs.Sending as there
use Rattle.promises.specs.Queue as queue
use Rattle.promises.proofs.Transfers as transfers
use Rattle.promises.proofs.InTurn as turns
use Rattle.layout.specs.Layout.{serial_at, number_at}
use Rattle.ledger.proofs.Ledgers.{serial_at_law}
use Rattle.calls.specs.Calls.{HostState}
use Rattle.ngachodui_laws.specs.HostRuns.{gateway_state, InOrder, HostResponse, host_step}
use Rattle.ngachodui_laws.specs.Outcomes.{line_in}
use Rattle.ngachodui_laws.specs.Sound.{Holds}
use Rattle.ngachodui_laws.specs.Queue.{all_taken}
use Rattle.ngachodui_laws.specs.Sending.{CanSend, sent_to, says, gives, to_frames, Delivered, GivesBack}
use Rattle.ngachodui_laws.specs.Inner.Hosting.{in_numbers_of, seen_of}
use Rattle.ngachodui_laws.proofs.PutBack.{line_at_law}
use Rattle.ngachodui_laws.proofs.HostRuns.{one_call, runs_alike, ends_alike, stays_in_order}
use Rattle.ngachodui_laws.proofs.Sound.{intact}
use Rattle.ngachodui_laws.proofs.Outcomes.{run_keeps}
use Rattle.ngachodui_laws.proofs.Queue.{taken_alike}

-- the responses of a history as a host sees them
pub seen_responses : (ys : List (GatewayItem × Response))
    → map (λ (x : GatewayItem × HostResponse). x.1) (map seen_of ys) ≡ map in_numbers_of (map (λ (x : GatewayItem × Response). x.1) ys)
seen_responses [] = refl
seen_responses (y ∷ ys) = ap (λ (xs : List HostResponse). in_numbers_of y.1 ∷ xs) (seen_responses ys)

within_frame : (n : ℕ) (rs : List Response) → map in_numbers_of (replicate n (response Nothing []) ++ rs) ≡ replicate n (says 0 0) ++ map in_numbers_of rs
unfolding reply_of
within_frame zero rs = refl
within_frame (suc n) rs = ap (λ (xs : List HostResponse). says 0 0 ∷ xs) (within_frame n rs)

pub seen_replies : (ps : List Piece) → map in_numbers_of (replies ps) ≡ to_frames ps
unfolding reply_of
seen_replies [] = refl
seen_replies (p ∷ []) = within_frame (length p.bytes + least_collected) _
seen_replies (p ∷ q ∷ ps) =
    within_frame (length p.bytes + least_collected) _
    ∙ ap (λ (xs : List HostResponse). replicate (length p.bytes + least_collected) (says 0 0) ++ (says 2 ack ∷ xs)) (seen_replies (q ∷ ps))

seen_sending : (m : List ℕ) → map in_numbers_of (sending_replies frame_limit m) ≡ says 1 ack ∷ to_frames (pieces_of frame_limit m)
unfolding reply_of
seen_sending m = ap (λ (xs : List HostResponse). says 1 ack ∷ xs) (seen_replies (pieces_of frame_limit m))

-- bytes on one line leave the others what they have
bytes_apart : (i : ℕ) (bs : List ℕ) (l : ℕ) → l ≢ i → Every (λ e. l ≢ line_in e) (bytes_on i bs)
bytes_apart i [] l n = tt
bytes_apart i (b ∷ bs) l n = (n, bytes_apart i bs l n)

module _ (s : HostState) (i : ℕ) (m : List ℕ) (c : CanSend s i m) where
  abbrev g : State
  g = gateway_state s

  abbrev o : InOrder s
  o = c.intact.in_order

  fresh : line_at g.gateway i ≡ fresh_line
  fresh = line_at_law s.numbers i c.line ∙ c.fresh

  room : HasRoom g i (m ∷ [])
  room = rw (add-zero (entry_size (length m))) c.room

  serial_is : get_or g.gateway.ledger.serials i 0 ≡ number_at s.numbers i serial_at
  serial_is = serial_at_law s.numbers s.counts i c.line

  ends : gateway_state (sent_to s i m) ≡ final step g (bytes_on i (sending frame_limit m))
  ends = ends_alike s o (bytes_on i (sending frame_limit m))

  pub sent : Delivered s i m c.intact.entries
  sent =
      let d = transfers.sent i c.line g (intact s c.intact) fresh m c.message room in
      let es = c.intact.entries in
      record {
        answers =
            ap (map (λ (x : GatewayItem × HostResponse). x.1)) (runs_alike s o (bytes_on i (sending frame_limit m)))
            ∙ seen_responses (annotate step g (bytes_on i (sending frame_limit m))) ∙ ap (map in_numbers_of) d.answered ∙ seen_sending m;
        holds = subst (λ (n : ℕ). Holds (sent_to s i m) (es ++ (record { line = i; serial = n; text = m } ∷ []))) serial_is
            (subst (λ (x : State). Held todays_shares x.gateway.ledger x.memory.journal (es ++ there.new_entries g.gateway.ledger i (m ∷ []))) (sym ends) d.held);
        others = λ l h n. run_keeps s (bytes_on i (sending frame_limit m)) l h (bytes_apart i (sending frame_limit m) l n);
      }

  module _ (es : List GatewayItem) (may : Every May es) (as_many : length (all_taken i (annotate host_step (sent_to s i m) es)) ≡ length (waiting i c.intact.entries))
      (b : List ℕ) (long : length m ≤ length b) where
    sent_in_order : InOrder (sent_to s i m)
    sent_in_order = stays_in_order s o (bytes_on i (sending frame_limit m))

    abbrev then : State
    then = final step (final step g (bytes_on i (sending frame_limit m))) es

    then_is : gateway_state (final host_step (sent_to s i m) es) ≡ then
    then_is = ends_alike (sent_to s i m) sent_in_order es ∙ ap (λ (x : State). final step x es) ends

    taken_is : all_taken i (annotate host_step (sent_to s i m) es) ≡ queue.all_taken i (final step g (bytes_on i (sending frame_limit m))) es
    taken_is = taken_alike i (sent_to s i m) sent_in_order es ∙ ap (λ (x : State). queue.all_taken i x es) ends

    pub given_back : GivesBack (final host_step (sent_to s i m) es) i b (number_at s.numbers i serial_at) m
    unfolding reply_of
    given_back =
        let back = turns.given_back i c.line g (intact s c.intact) fresh m c.message room es may (ap length (sym taken_is) ∙ as_many) b long in
        (one_call (final host_step (sent_to s i m) es) (stays_in_order (sent_to s i m) sent_in_order es) (taking i b)).response
        ∙ ap (λ (x : State). in_numbers_of (step x (taking i b)).0) then_is
        ∙ ap in_numbers_of back
        ∙ ap (λ (n : ℕ). gives (length m) n (splice b 0 m)) serial_is
