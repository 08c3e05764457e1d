-- Each way out of a call: a start that is refused or asks, and a frame that is fetched.
-- Assumes nothing.
use Rattle.std.proofs.lemmas.Option.{same_Some}
use Rattle.strips.specs.declared.Reply.{Reply}
use Rattle.std.specs.Prelude.{Option, Result, Some, None}
use Rattle.framing.specs.declared.Refusal.{Refusal}
use Rattle.answers.specs.declared.Answer.{Answer}
use mathlib.Core.Path.{◌≡◌, refl, sym, ap, subst, ◌∙◌}
use mathlib.Core.Bool.{Bool, true, false, cond}
use mathlib.Core.List.{List, []}
use Prim.Native.Nat.{ℕ, ◌≤◌, ◌<◌}
use native.Mathlib.Omega.{arith}
use borrow.Author.Tests.{lt-ltb, le-ltb, eq-eqb, ne_eqb, le-leb, lt-leb}
use native.Mathlib.Decide.{dec_le}
use lib.Dec.{leb, eqb}
use lib.ListN.{length}
use Rattle.memory.specs.Sizes.{lines, frame_limit, unfinished_size}
use Rattle.settings.specs.Settings.{by_dialogue}
use Rattle.settings.specs.declared.Patient.TheVariants.{Ten, Thirteen}
use Rattle.settings.specs.declared.Dialogue.TheVariants.{Frames, Blocks}
use Rattle.line.specs.Line.{within_limits}
use Rattle.line.specs.declared.Line.{Line}
use Rattle.line.proofs.Limits.{within_facts}
use Rattle.answers.specs.InNumbers.{done, refused_with}
use Rattle.answers.specs.declared.Answer.TheVariants.{NotFitting, NoLine, WrongSize, BeyondLimits}
use Rattle.answers.specs.declared.Answered.{Answered}
use Rattle.answers.specs.declared.Made.{Made}
use Rattle.looking.specs.Views.{texts_of, unfinished_text}
use Rattle.sending.specs.Offered.{piece_now, PiecePut}
use Rattle.sending.proofs.Offered.{offered_written, offered_unwritten}
use Rattle.memory.specs.Parts.{splice}
use Rattle.memory.proofs.Tests.{clash}
use Rattle.memory.specs.Moves.{copied}
use Rattle.block.specs.Judged.{control_length}
use Rattle.block.specs.Controls.{control_bytes, ControlPut}
use Rattle.block.proofs.Controls.{control_long}
use Rattle.strips.specs.Replies.{replied_of, reply_block}
use Rattle.layout.specs.Layout.{number_at}
use Rattle.numbers.specs.Plain.{dialogue_of, line_of, within_numbers}
use Rattle.numbers.specs.Changes.{is_within, record_of}
use Rattle.orders.specs.Calls.{SentBy, frame_on, outgoing_on, PutOut, made_by_writing, fetch_answer, fetched_over, Fetched}

-- where numbers are within their limits, the record that is read is the one that they stand for
pub record_there : (ns : List ℕ) (i : ℕ) → is_within ns i ≡ true → record_of ns i ≡ line_of ns i
record_there ns i e = rw e

-- a start, by what it comes to
pub sent_as : {x y : Result (Unit {0}) Answer} {ns : List ℕ} {i : ℕ} {text u : List ℕ} {r : Answered} {ns' u' : List ℕ} → x ≡ y → SentBy y ns i text u r ns' u' → SentBy x ns i text u r ns' u'
sent_as {x} {y} {ns} {i} {text} {u} {r} {ns'} {u'} e s = subst (λ (z : Result (Unit {0}) Answer). SentBy z ns i text u r ns' u') (sym e) s

-- what goes out, test by test
module _ (ns : List ℕ) (i : ℕ) (u out : List ℕ) where
  -- by what the line speaks
  frames_out_law : number_at ns i 10 ≡ 0 → outgoing_on ns i u ≡ frame_on (line_of ns i) i u
  frames_out_law n = ap (λ (x : ℕ). by_dialogue (dialogue_of x) (frame_on (line_of ns i) i u) (λ p. reply_block (replied_of (number_at ns i 11)))) n

  reply_out : eqb (number_at ns i 10) 0 ≡ false → outgoing_on ns i u ≡ reply_block (replied_of (number_at ns i 11))
  reply_out n = by_patient (eqb (number_at ns i 10) 10) n
    where
      by_patient : (b : Bool) {a : Bool} → a ≡ false
          → by_dialogue (cond a Frames (cond b (Blocks Ten) (Blocks Thirteen))) (frame_on (line_of ns i) i u) (λ p. reply_block (replied_of (number_at ns i 11))) ≡ reply_block (replied_of (number_at ns i 11))
      by_patient true q = rw q
      by_patient false q = rw q

  pub fetch_no_line : {r : Made} → lines ≤ i → r ≡ refused_with NoLine → Fetched ns i u out r out
  unfolding fetch_answer fetched_over
  fetch_no_line h q = record { answer = rw (le-ltb i lines h) q; after = rw (le-ltb i lines h) }

  module _ (h : i < lines) where
    pub fetch_size : {r : Made} → (length u ≡ unfinished_size → ⊥) → r ≡ refused_with WrongSize → Fetched ns i u out r out
    unfolding fetch_answer fetched_over
    fetch_size z q = record { answer = rw (lt-ltb i lines h, ne_eqb (length u) unfinished_size z) q; after = rw (lt-ltb i lines h, ne_eqb (length u) unfinished_size z) }

    module _ (z : length u ≡ unfinished_size) where
      pub fetch_beyond : {r : Made} → within_numbers ns i ≡ false → r ≡ refused_with BeyondLimits → Fetched ns i u out r out
      unfolding fetch_answer fetched_over
      fetch_beyond w q = record {
        answer = rw (lt-ltb i lines h, eq-eqb (length u) unfinished_size z, w) q;
        after = rw (lt-ltb i lines h, eq-eqb (length u) unfinished_size z, w);
      }

      fetched : {r : Made} {out' : List ℕ} → within_numbers ns i ≡ true → PutOut (outgoing_on ns i u) out r out' → Fetched ns i u out r out'
      unfolding fetch_answer fetched_over
      fetched w p = record {
        answer = rw (lt-ltb i lines h, eq-eqb (length u) unfinished_size z, w) p.answer;
        after = rw (lt-ltb i lines h, eq-eqb (length u) unfinished_size z, w) p.after;
      }

      -- on a line of frames by the record that was read
      pub fetched_from : {l : Line} {r : Made} {out' : List ℕ} → within_numbers ns i ≡ true → number_at ns i 10 ≡ 0 → l ≡ line_of ns i → PutOut (frame_on l i u) out r out' → Fetched ns i u out r out'
      fetched_from {l} {r} {out'} w n e p =
          let frame : frame_on l i u ≡ outgoing_on ns i u = ap (λ (x : Line). frame_on x i u) e ∙ sym (frames_out_law n) in
          fetched w (subst (λ (x : List ℕ). PutOut x out r out') frame p)

      -- and on a reader's by our last reply
      pub fetched_reply : {q : Option Reply} {r : Made} {out' : List ℕ} → within_numbers ns i ≡ true → eqb (number_at ns i 10) 0 ≡ false → q ≡ replied_of (number_at ns i 11) → PutOut (reply_block q) out r out' → Fetched ns i u out r out'
      fetched_reply {q} {r} {out'} w n e p =
          let block : reply_block q ≡ outgoing_on ns i u = ap reply_block e ∙ sym (reply_out n) in
          fetched w (subst (λ (x : List ℕ). PutOut x out r out') block p)

-- what was written of the frame that a line offers, told by the answer of the writer
module _ (l : Line) (i : ℕ) (u out : List ℕ) (w : within_limits l ≡ true) where
  abbrev frame : List ℕ
  frame = frame_on l i u

  written_out : {t : Result ℕ Refusal} {r : Made} {out' : List ℕ} → PiecePut l.next (piece_now frame_limit l (unfinished_text l (texts_of i u))) out t out' → r ≡ made_by_writing t → PutOut frame out r out'
  written_out {t} {r} {out'} put q = elim (dec_le (length frame) (length out)) [
    | yes p ↦
        let (is, after) = offered_written frame_limit l (unfinished_text l (texts_of i u)) out (within_facts l w).next p put in
        record { answer = rw (le-leb (length frame) (length out) p) (q ∙ ap made_by_writing is); after = rw (le-leb (length frame) (length out) p) after }
    | no p ↦
        let (is, after) = offered_unwritten frame_limit l (unfinished_text l (texts_of i u)) out (within_facts l w).next (omega arith) put in
        record { answer = rw (lt-leb (length frame) (length out) (omega arith)) (q ∙ ap made_by_writing is); after = rw (lt-leb (length frame) (length out) (omega arith)) after }
  ]

  -- of the text that was lent
  pub put_out : {text : List ℕ} {t : Result ℕ Refusal} {r : Made} {out' : List ℕ} → text ≡ unfinished_text l (texts_of i u) → PiecePut l.next (piece_now frame_limit l text) out t out' → r ≡ made_by_writing t
      → PutOut frame out r out'
  put_out {text} {t} {r} {out'} same put q = written_out (subst (λ (x : List ℕ). PiecePut l.next (piece_now frame_limit l x) out t out') same put) q

-- a control block that was put out, by the length that its writer tells
abbrev Fit : ℕ → List ℕ → Bool → Type 0
Fit code out t = leb (length (control_bytes code)) (length out) ≡ t

-- so much of it was written
written : (code : ℕ) (out : List ℕ) {n : Option ℕ} {out' : List ℕ} → ControlPut code out n out' → (t : Bool) → Fit code out t → (n ≡ cond t (Some control_length) None) × (out' ≡ cond t (splice out 0 (control_bytes code)) out)
unfolding copied control_bytes
written code out put t fit = (put.answer ∙ rw fit, put.after ∙ rw fit)

module _ (code : ℕ) (out : List ℕ) {n : Option ℕ} {out' : List ℕ} (put : ControlPut code out n out') (r : Made) where
  pub reply_refused : n ≡ None → r ≡ refused_with NotFitting → PutOut (control_bytes code) out r out'
  reply_refused none q = by_fit (leb (length (control_bytes code)) (length out)) refl
    where
      by_fit : (t : Bool) → Fit code out t → PutOut (control_bytes code) out r out'
      by_fit true fit = let z = sym none ∙ (written code out put true fit).0 in clash cc
      by_fit false fit = record { answer = rw fit q; after = rw fit (written code out put false fit).1 }

  pub reply_put : {k : ℕ} → n ≡ Some k → r ≡ done k → PutOut (control_bytes code) out r out'
  reply_put {k = k} some q = by_fit (leb (length (control_bytes code)) (length out)) refl
    where
      by_fit : (t : Bool) → Fit code out t → PutOut (control_bytes code) out r out'
      by_fit true fit = let (six, after) = written code out put true fit in record { answer = rw fit (q ∙ ap done (same_Some _ _ (sym some ∙ six) ∙ sym (control_long code))); after = rw fit after }
      by_fit false fit = let z = sym some ∙ (written code out put false fit).0 in clash cc

-- nothing to put out
pub none_put : (out : List ℕ) {r : Made} → r ≡ done 0 → PutOut [] out r out
unfolding splice
none_put out q = record { answer = rw (le-leb 0 (length out) (omega arith)) q; after = rw (le-leb 0 (length out) (omega arith)) }
