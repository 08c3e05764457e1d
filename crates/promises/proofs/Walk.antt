-- The walk over the frames of a message: 0 to every byte but the last of each frame, 2 to each frame but the last, 4 to the last, and the message is stored.
-- Assumes nothing.
use Rattle.std.specs.Prelude.{Ok}
use mathlib.Core.Path.{◌≡◌, refl, sym, ap, ap₂, subst, ◌∙◌}
use mathlib.Core.Bool.{true}
use mathlib.Core.List.{List, [], ◌∷◌, ◌++◌, map, append_assoc, append-nil}
use Prim.Native.Nat.{ℕ, zero, suc, ◌+◌, ◌-◌, ◌≤◌, ◌<◌}
use native.Mathlib.Omega.{arith}
use lib.ListN.{length, get_or, take, drop, replicate, take-append-drop, length-drop}
use lib.Seq.{length-take-le, get_or-take}
use Rattle.memory.specs.Parts.{part, splice}
use Rattle.characters.specs.Control.{stx, lf}
use Rattle.digits.specs.Number.{next_number}
use Rattle.frame.specs.Shape.{around_text}
use Rattle.framing.specs.Writing.{frame_of}
use Rattle.frame.specs.declared.End.{End}
use Rattle.framing.proofs.ReadBack.{early, long}
use Rattle.faults.specs.Message.{is_message}
use Rattle.frame.specs.Piece.{Piece, piece}
use Rattle.pieces.specs.Pieces.{piece_size, pieces_of, end_after, through_cr, first_piece}
use Rattle.framing.specs.Frames.{frames_from}
use Rattle.pieces.proofs.Laws.{no_pieces}
use Rattle.pieces.proofs.Steps.{turn}
use Rattle.records.proofs.Scans.{tail_at, rest_part}
use Rattle.line.specs.declared.Line.{Line}
use Rattle.answers.specs.declared.Answer.{Answer}
use Rattle.answers.specs.declared.Answer.TheVariants.{Nothing, Accepted, Stored}
use Rattle.strips.specs.Readers.{Memo}
use Rattle.room.specs.Room.{todays_shares}
use Rattle.journal.specs.Verdicts.{judge_of}
use Rattle.journal_laws.specs.Runs.{State as Store}
use Rattle.looking.specs.Views.{joined_text}
use Rattle.deciding.specs.Decisions.{outcome_of}
use Rattle.receiving.specs.Verdicts.{decision_of, decided}
use Rattle.looking.specs.declared.Kind.TheVariants.{Byte}
use Rattle.looking.specs.declared.Verdict.{Verdict}
use Rattle.looking.specs.Verdicts.{Stores}
use Rattle.looking.specs.declared.Look.{Look}
use Rattle.looking.specs.declared.Look.TheVariants.{Decides}
use Rattle.promises.specs.Machine.{Response, response, Parts}
use Rattle.promises.specs.Inner.ByParts.{left}
use Rattle.promises.specs.Inner.Came.{stored_in}
use Rattle.promises.specs.Sending.{last_answer, replies, Usable}
use Rattle.promises.proofs.Looked.{look_on, look_last}
use Rattle.promises.proofs.Feeding.{feed, feed_append, ended, unanswered, inside, ready, own_text, last}
use Rattle.promises.proofs.Delivered.{Open, accepted_open, Going, clean, one_sent, accepted, line_then, texts_then, frames_then, going_on}

-- the number of the frame behind these
abbrev pub number_after : ℕ → List Piece → ℕ
number_after number [] = number
number_after number (p ∷ ps) = number_after (next_number number) ps

all_nothing : (bs : List ℕ) → map unanswered bs ≡ replicate (length bs) (response Nothing [])
all_nothing [] = refl
all_nothing (b ∷ bs) = ap (λ (ts : List Response). response Nothing [] ∷ ts) (all_nothing bs)

-- the frames of ps were answered and the message m is stored, and the line is open for a frame with this number
pub record Delivered (i : ℕ) (j : Store) (m : List ℕ) (ps : List Piece) (number : ℕ) (r : List Response × Parts × Store) : Type 0 where
  pub answers : r.0 ≡ replies ps
  pub store : r.2 ≡ stored_in i m j
  pub line : Open number r.1.line

module _ (limit : ℕ) (usable : Usable limit) (i : ℕ) (j : Store) (memo : Memo) where
  module _ (x t : List ℕ) (number : ℕ) (l : Line) (texts frames : List ℕ) (some : 0 < length t) (room : length t + around_text ≤ limit) where
    quiet_frame : map unanswered (stx ∷ early number (end_after (get_or t (length t - 1) 0)) t) ≡ replicate (length t + 6) (response Nothing [])
    quiet_frame =
        let size : suc (length (early number (end_after (get_or t (length t - 1) 0)) t)) ≡ length t + 6 = omega (arith, long number (end_after (get_or t (length t - 1) 0)) t) in
        all_nothing (stx ∷ early number (end_after (get_or t (length t - 1) 0)) t) ∙ ap (λ (k : ℕ). replicate k (response Nothing [])) size

    -- the last frame stores the message
    module _ (g : Going x (t ++ []) number l texts frames) (fits : judge_of j.ledger todays_shares i (length (x ++ t)) j.journal ≡ Ok tt) where
      abbrev end : End
      end = end_after (get_or t (length t - 1) 0)

      abbrev at_lf : Look → Response × Parts × Store
      at_lf look = last i j memo l texts limit usable number end t frames room g.low (clean limit usable i j memo x t [] number end l texts frames g room) g.frames_long look

      abbrev inner : Parts
      inner = inside i j memo l texts (length (early number end t)) (splice frames 0 (early number end t))

      joined_is : joined_text inner.line (length t) texts inner.frames ≡ x ++ t
      joined_is =
          ap₂ ◌++◌ (ap (part texts 0) g.joined ∙ g.held)
          (own_text i j memo l texts limit usable number end t frames room g.low (clean limit usable i j memo x t [] number end l texts frames g room) g.frames_long)

      message : is_message (x ++ t) ≡ true
      message = ap (λ (u : List ℕ). is_message (x ++ u)) (sym (append-nil t)) ∙ g.message

      decided_is : decision_of todays_shares j.ledger i (length t) (x ++ t) j.journal ≡ Stores (length t)
      unfolding outcome_of
      decided_is = rw (message, fits)

      stored_is : decided (Decides (length t)) todays_shares inner.line j.ledger i j.journal texts inner.frames ≡ Stores (length t)
      stored_is = ap (λ (u : List ℕ). decision_of todays_shares j.ledger i (length t) u j.journal) joined_is ∙ decided_is

      last_sent : feed i (ready i j memo l texts frames) j (frame_of number end t) ≡ ended (replicate (length t + 6) (response Nothing [])) (left (Stores (length t)) i inner (Byte lf) j)
      last_sent =
          one_sent limit usable i j memo x t [] number end l texts frames g room
          ∙ ap (λ (look : Look). ended (map unanswered (stx ∷ early number end t)) (at_lf look)) (look_last x t some message)
          ∙ ap₂ (λ (ts : List Response) (v : Verdict). ended ts (left v i inner (Byte lf) j)) quiet_frame stored_is

      last_delivered : (p : Piece) → p.bytes ≡ t → Delivered i j (x ++ t) (p ∷ []) (next_number number) (feed i (ready i j memo l texts frames) j (frame_of number end t))
      last_delivered p q =
          subst (Delivered i j (x ++ t) (p ∷ []) (next_number number)) (sym last_sent)
          (record {
            answers = ap (λ (u : List ℕ). replicate (length u + 6) (response Nothing []) ++ (response Stored [] ∷ [])) (sym q);
            store = ap (λ (u : List ℕ). stored_in i u j) joined_is;
            line = accepted_open inner.line number g.speaks g.refusing g.next g.low;
          })

    -- any other frame is joined
    module _ (b : ℕ) (y : List ℕ) (g : Going x (t ++ b ∷ y) number l texts frames) where
      abbrev end_on : End
      end_on = end_after (get_or t (length t - 1) 0)

      abbrev ready_then : Parts
      ready_then =
          ready i j memo (line_then limit usable i j memo x t (b ∷ y) number end_on l texts frames g room) (texts_then limit usable i j memo x t (b ∷ y) number end_on l texts frames g room)
          (frames_then limit usable i j memo x t (b ∷ y) number end_on l texts frames g room)

      joined_sent : feed i (ready i j memo l texts frames) j (frame_of number end_on t) ≡ ended (replicate (length t + 6) (response Nothing [])) (response Accepted [], ready_then, j)
      joined_sent =
          one_sent limit usable i j memo x t (b ∷ y) number end_on l texts frames g room
          ∙ ap
          (λ (look : Look). ended (map unanswered (stx ∷ early number end_on t)) (last i j memo l texts limit usable number end_on t frames room g.low (clean limit usable i j memo x t (b ∷ y) number end_on l texts frames g room) g.frames_long look))
          (look_on x t some b y (rw (append_assoc x t (b ∷ y)) g.message))
          ∙ ap₂ ended quiet_frame (accepted limit usable i j memo x t (b ∷ y) number end_on l texts frames g room)

      on_delivered : (m bs : List ℕ) (p : Piece) (ps : List Piece) (then : ℕ) → p.bytes ≡ t → last_answer ps ≡ Accepted → Delivered i j m ps then (feed i ready_then j bs)
          → Delivered i j m (p ∷ ps) then (feed i (ready i j memo l texts frames) j (frame_of number end_on t ++ bs))
      on_delivered m bs p ps then q a d =
          subst (Delivered i j m (p ∷ ps) then)
          (sym (feed_append i (frame_of number end_on t) bs (ready i j memo l texts frames) j ∙ ap behind joined_sent))
          (record {
            answers =
                append_assoc (replicate (length t + 6) (response Nothing [])) (response Accepted [] ∷ []) (feed i ready_then j bs).0
                ∙ ap₂ (λ (u : List ℕ) (ts : List Response). replicate (length u + 6) (response Nothing []) ++ ts) (sym q)
                (ap₂ (λ (c : Answer) (ts : List Response). response c [] ∷ ts) (sym a) d.answers);
            store = d.store;
            line = d.line;
          })
        where
          behind : List Response × Parts × Store → List Response × Parts × Store
          behind r = (r.0 ++ (feed i r.1 r.2 bs).0, (feed i r.1 r.2 bs).1, (feed i r.1 r.2 bs).2)

  -- the first piece of what is left, and what comes behind it
  record Cut (y : List ℕ) : Type 0 where
    n : ℕ
    some : 1 ≤ n
    within : n ≤ length y
    short : n + around_text ≤ limit
    pieces : pieces_of limit y ≡ first_piece n y ∷ pieces_of limit (drop n y)

  cut : (y : List ℕ) → 0 < length y → Cut y
  cut y h =
      let n = through_cr (take (piece_size limit) (tail_at y 0)) in
      let t = turn limit y 0 n usable.some h refl in
      let from_start : 0 + n ≡ n = omega arith in
      record {
        n = n;
        some = t.some;
        within = omega (arith, t.within);
        short = t.short;
        pieces = t.cut ∙ ap₂ (λ (u : List ℕ) (k : ℕ). first_piece n u ∷ pieces_of limit (drop k y)) (rest_part y 0) from_start;
      }

  goes_on : (z : List ℕ) → 0 < length z → last_answer (pieces_of limit z) ≡ Accepted
  goes_on z h = ap last_answer (cut z h).pieces

  -- what the walk says of at most k bytes
  abbrev Walks : ℕ → Type 0
  Walks k =
      (x y : List ℕ) (number : ℕ) (l : Line) (texts frames : List ℕ) → length y ≤ k → 0 < length y → Going x y number l texts frames
      → judge_of j.ledger todays_shares i (length (x ++ y)) j.journal ≡ Ok tt
      → Delivered i j (x ++ y) (pieces_of limit y) (number_after number (pieces_of limit y)) (feed i (ready i j memo l texts frames) j (frames_from number (pieces_of limit y)))

  module _ (k : ℕ) (behind : Walks k) (x t : List ℕ) (number : ℕ) (l : Line) (texts frames : List ℕ) (some : 0 < length t) (room : length t + around_text ≤ limit) where
    by_rest_law : (z : List ℕ) → length z ≤ k → Going x (t ++ z) number l texts frames → judge_of j.ledger todays_shares i (length (x ++ (t ++ z))) j.journal ≡ Ok tt
        → Delivered i j (x ++ (t ++ z)) (piece (end_after (get_or t (length t - 1) 0)) t ∷ pieces_of limit z) (number_after (next_number number) (pieces_of limit z))
        (feed i (ready i j memo l texts frames) j (frame_of number (end_after (get_or t (length t - 1) 0)) t ++ frames_from (next_number number) (pieces_of limit z)))
    by_rest_law [] low g fits =
        let p = piece (end_after (get_or t (length t - 1) 0)) t in
        let f = frame_of number (end_after (get_or t (length t - 1) 0)) t in
        let fits-now = ap (λ (u : List ℕ). judge_of j.ledger todays_shares i (length (x ++ u)) j.journal) (sym (append-nil t)) ∙ fits in
        let now = last_delivered x t number l texts frames some room g fits-now p refl in
        let whole = subst (λ (u : List ℕ). Delivered i j (x ++ u) (p ∷ []) (next_number number) (feed i (ready i j memo l texts frames) j f)) (sym (append-nil t)) now in
        let sent = subst (λ (bs : List ℕ). Delivered i j (x ++ (t ++ [])) (p ∷ []) (next_number number) (feed i (ready i j memo l texts frames) j bs)) (sym (append-nil f)) whole in
        subst (λ (ps : List Piece). Delivered i j (x ++ (t ++ [])) (p ∷ ps) (number_after (next_number number) ps) (feed i (ready i j memo l texts frames) j (f ++ frames_from (next_number number) ps))) (sym (no_pieces limit)) sent
    by_rest_law (b ∷ z) low g fits =
        let p = piece (end_after (get_or t (length t - 1) 0)) t in
        let ps = pieces_of limit (b ∷ z) in
        let fits-then = ap (λ (u : List ℕ). judge_of j.ledger todays_shares i (length u) j.journal) (append_assoc x t (b ∷ z)) ∙ fits in
        let e = end_after (get_or t (length t - 1) 0) in
        let rest =
        behind (x ++ t) (b ∷ z) (next_number number) (line_then limit usable i j memo x t (b ∷ z) number e l texts frames g room) (texts_then limit usable i j memo x t (b ∷ z) number e l texts frames g room)
        (frames_then limit usable i j memo x t (b ∷ z) number e l texts frames g room) low (omega arith) (going_on limit usable i j memo x t (b ∷ z) number e l texts frames g room) fits-then in
        let all-of-it = subst (λ (m : List ℕ). Delivered i j m ps (number_after (next_number number) ps) (feed i (ready_then x t number l texts frames some room b z g) j (frames_from (next_number number) ps))) (append_assoc x t (b ∷ z)) rest in
        on_delivered x t number l texts frames some room b z g (x ++ (t ++ b ∷ z)) (frames_from (next_number number) ps) p ps (number_after (next_number number) ps) refl (goes_on (b ∷ z) (omega arith)) all-of-it

  pub walk : (k : ℕ) → Walks k
  walk zero x y number l texts frames h some g fits = absurd (omega arith)
  walk (suc k) x y number l texts frames h some g fits =
      let c = cut y some in
      let n = c.n in
      let size : length (take n y) ≡ n = length-take-le n y c.within in
      let is : take n y ++ drop n y ≡ y = take-append-drop n y in
      let end_is : get_or y (n - 1) 0 ≡ get_or (take n y) (length (take n y) - 1) 0 = sym (ap (λ (a : ℕ). get_or (take n y) (a - 1) 0) size ∙ get_or-take n y (n - 1) 0 (omega (arith, c.some))) in
      let first_is : first_piece n y ≡ piece (end_after (get_or (take n y) (length (take n y) - 1) 0)) (take n y) = ap (λ (b : ℕ). piece (end_after b) (take n y)) end_is in
      let cut-is = c.pieces ∙ ap (λ (p : Piece). p ∷ pieces_of limit (drop n y)) first_is in
      let parted = subst (λ (w : List ℕ). Going x w number l texts frames) (sym is) g in
      let fits-so = ap (λ (w : List ℕ). judge_of j.ledger todays_shares i (length (x ++ w)) j.journal) is ∙ fits in
      let rest = by_rest_law k (walk k) x (take n y) number l texts frames (omega (arith, size, c.some)) (omega (arith, size, c.short)) (drop n y) (omega (arith, length-drop n y, c.some, c.within)) parted fits-so in
      subst (λ (ps : List Piece). Delivered i j (x ++ y) ps (number_after number ps) (feed i (ready i j memo l texts frames) j (frames_from number ps))) (sym cut-is)
      (subst
      (λ (w : List ℕ). Delivered i j (x ++ w) (piece (end_after (get_or (take n y) (length (take n y) - 1) 0)) (take n y) ∷ pieces_of limit (drop n y)) (number_after (next_number number) (pieces_of limit (drop n y)))
      (feed i (ready i j memo l texts frames) j (frame_of number (end_after (get_or (take n y) (length (take n y) - 1) 0)) (take n y) ++ frames_from (next_number number) (pieces_of limit (drop n y)))))
      is rest)
