-- Bytes that come one behind the other on one line of frames, told of its parts and the store: a frame that is sent is collected and judged at its LF.
-- Assumes nothing.
use mathlib.Core.Path.{◌≡◌, refl, sym, ap, ◌∙◌}
use mathlib.Core.Bool.{Bool, true, false, not, cond, ◌&&◌, true≢false}
use mathlib.Core.List.{List, [], ◌∷◌, ◌++◌, map}
use Prim.Native.Nat.{ℕ, suc, ◌+◌, ◌-◌, ◌/◌, ◌%◌, ◌≤◌, ◌<◌}
use native.Mathlib.Decide.{ℕ_discrete}
use native.Mathlib.Omega.{arith}
use borrow.Author.Tests.{ne_eqb, eq-eqb, le-leb}
use lib.Dec.{ltb}
use lib.ListN.{length}
use Rattle.memory.specs.Sizes.{frame_limit, frame_part, message_limit}
use Rattle.memory.specs.Parts.{part, splice}
use Rattle.memory.specs.Tests.{is, all}
use Rattle.memory.proofs.Parts.{part_part, part_splice, splice_nil, splice_join, length_splice}
use Rattle.memory.proofs.Tests.{and_left, and_right, and_both, all_append}
use Rattle.characters.specs.Control.{stx, lf, cr}
use Rattle.characters.specs.Allowed.{allowed}
use Rattle.digits.specs.Check.{check_of, hex_digit, digits_of}
use Rattle.digits.specs.Number.{most_number}
use Rattle.frame.specs.Shape.{around_text, shape_of}
use Rattle.framing.specs.Writing.{end_byte, body_of, frame_of}
use Rattle.frame.specs.declared.End.{End}
use Rattle.frame.specs.declared.End.TheVariants.{Etb, Etx}
use Rattle.framing.proofs.ReadBack.{early, spelt, long, the_text, read_back}
use Rattle.line.specs.Line.{most_collected}
use Rattle.line.specs.Turn.{is_last, turn_of}
use Rattle.line.specs.declared.Line.{Line}
use Rattle.line.specs.declared.State.TheVariants.{Waiting, Inside}
use Rattle.answers.specs.declared.Answer.TheVariants.{Nothing}
use Rattle.strips.specs.Readers.{Memo}
use Rattle.room.specs.Room.{todays_shares}
use Rattle.journal_laws.specs.Runs.{State as Store}
use Rattle.looking.specs.Looks.{waiting_look, inside_look, byte_look, frame_look, end_look, look_of}
use Rattle.receiving.specs.Verdicts.{decided, own_work}
use Rattle.looking.specs.declared.Kind.TheVariants.{Byte}
use Rattle.looking.specs.declared.Look.{Look}
use Rattle.promises.specs.Machine.{Response, response, Parts}
use Rattle.promises.specs.Inner.ByParts.{left, on_frames}
use Rattle.promises.specs.Sending.{Usable}

-- bytes on line i, one behind the other: the answers, and what is left
abbrev pub feed : ℕ → Parts → Store → List ℕ → List Response × Parts × Store
feed i p j [] = ([], p, j)
feed i p j (b ∷ bs) =
    let r = on_frames i p (Byte b) j in
    let q = feed i r.1 r.2 bs in
    (r.0 ∷ q.0, q.1, q.2)

abbrev onto : Response → List Response × Parts × Store → List Response × Parts × Store
onto t q = (t ∷ q.0, q.1, q.2)

-- the answers, and behind them the last event
abbrev pub ended : List Response → Response × Parts × Store → List Response × Parts × Store
ended ts r = (ts ++ (r.0 ∷ []), r.1, r.2)

pub feed_append : (i : ℕ) (xs ys : List ℕ) (p : Parts) (j : Store)
    → feed i p j (xs ++ ys) ≡ ((feed i p j xs).0 ++ (feed i (feed i p j xs).1 (feed i p j xs).2 ys).0, (feed i (feed i p j xs).1 (feed i p j xs).2 ys).1, (feed i (feed i p j xs).1 (feed i p j xs).2 ys).2)
feed_append i [] ys p j = refl
feed_append i (b ∷ xs) ys p j =
    let r = on_frames i p (Byte b) j in
    ap (onto r.0) (feed_append i xs ys r.1 r.2)

abbrev pub unanswered : ℕ → Response
unanswered b = response Nothing []

abbrev pub not_lf : ℕ → Bool
not_lf b = not (is lf b)

not_true : (b : Bool) → not b ≡ true → b ≡ false
not_true false e = refl
not_true true e = sym e

-- ---- no LF stands in a frame before its end

lf_not_allowed : allowed lf ≡ false
unfolding allowed
lf_not_allowed = refl

allowed_clear : (b : ℕ) → allowed b ≡ true → not_lf b ≡ true
allowed_clear b h = elim (ℕ_discrete b lf) [
  | yes e ↦ absurd (true≢false (sym h ∙ ap allowed e ∙ lf_not_allowed))
  | no n ↦ rw (ne_eqb b lf n)
]

text_clear : (t : List ℕ) → all allowed t ≡ true → all not_lf t ≡ true
text_clear [] h = refl
text_clear (b ∷ t) h = rw (allowed_clear b (and_left (allowed b) (all allowed t) h)) (text_clear t (and_right (allowed b) (all allowed t) h))

digit_clear : (n : ℕ) → not_lf (hex_digit n) ≡ true
unfolding hex_digit
digit_clear n = by_test_law (ltb n 10)
  where
    by_test_law : (t : Bool) → not_lf (cond t (0x30 + n) (0x37 + n)) ≡ true
    by_test_law true = rw (ne_eqb (0x30 + n) lf (λ e. absurd (omega (arith, e))))
    by_test_law false = rw (ne_eqb (0x37 + n) lf (λ e. absurd (omega (arith, e))))

end_clear : (end : End) → not_lf (end_byte end) ≡ true
end_clear Etb = refl
end_clear Etx = refl

both_clear : (xs ys : List ℕ) → all not_lf xs ≡ true → all not_lf ys ≡ true → all not_lf (xs ++ ys) ≡ true
both_clear xs ys p q = all_append not_lf xs ys ∙ and_both (all not_lf xs) (all not_lf ys) p q

body_clear : (number : ℕ) (end : End) (text : List ℕ) → all allowed text ≡ true → all not_lf (body_of number end text) ≡ true
unfolding body_of
body_clear number end text h =
    let first : not_lf (0x30 + number) ≡ true = rw (ne_eqb (0x30 + number) lf (λ e. absurd (omega (arith, e)))) in
    and_both (not_lf (0x30 + number)) (all not_lf (text ++ (end_byte end ∷ []))) first
    (both_clear text (end_byte end ∷ []) (text_clear text h) (and_both (not_lf (end_byte end)) true (end_clear end) refl))

digits_clear : (check : ℕ) → all not_lf ((digits_of check).high ∷ (digits_of check).low ∷ cr ∷ []) ≡ true
unfolding digits_of
digits_clear check =
    and_both (not_lf (hex_digit (check / 16))) _ (digit_clear (check / 16)) (and_both (not_lf (hex_digit (check % 16))) (not_lf cr && true) (digit_clear (check % 16)) refl)

pub early_clear : (number : ℕ) (end : End) (text : List ℕ) → all allowed text ≡ true → all not_lf (early number end text) ≡ true
early_clear number end text h = both_clear (body_of number end text) _ (body_clear number end text h) (digits_clear (check_of (body_of number end text)))

module _ (i : ℕ) (j : Store) (memo : Memo) (l : Line) (texts : List ℕ) where
  -- the line inside a frame, with c bytes collected
  abbrev pub inside : ℕ → List ℕ → Parts
  inside c frames = record {
    line = record { state = Inside; collected = c; joined = l.joined; seconds = l.seconds; next = l.next; last = l.last; refusing = l.refusing; settings = l.settings };
    texts = texts;
    frames = frames;
    memo = memo;
  }

  -- the line waiting for a frame
  abbrev pub ready : List ℕ → Parts
  ready frames = record {
    line = record { state = Waiting; collected = 0; joined = l.joined; seconds = l.seconds; next = l.next; last = l.last; refusing = l.refusing; settings = l.settings };
    texts = texts;
    frames = frames;
    memo = memo;
  }

  pub begins : (frames : List ℕ) → on_frames i (ready frames) (Byte stx) j ≡ (unanswered stx, inside 0 frames, j)
  unfolding own_work byte_look waiting_look
  begins frames = refl

  -- a byte is collected
  pub collects : (b c : ℕ) (frames : List ℕ) → c < most_collected l → is lf b ≡ false
      → on_frames i (inside c frames) (Byte b) j ≡ (unanswered b, inside (c + 1) (splice frames c (b ∷ [])), j)
  unfolding own_work byte_look inside_look most_collected
  collects b c frames h n = rw (n, ne_eqb c (most_collected l) (λ e. absurd (omega (arith, e))))

  -- and so are bytes of which none is LF
  pub collected_all : (bs : List ℕ) (c : ℕ) (frames : List ℕ) → all not_lf bs ≡ true → c + length bs ≤ most_collected l → c + length bs ≤ length frames
      → feed i (inside c frames) j bs ≡ (map unanswered bs, inside (c + length bs) (splice frames c bs), j)
  collected_all [] c frames n h s = λ z. ([], inside (zero_more c z) ((sym (splice_nil frames c)) z), j)
    where
      zero_more : (k : ℕ) → k ≡ k + 0
      zero_more k = omega arith
  collected_all (b ∷ bs) c frames n h s =
      let one = collects b c frames (omega arith) (not_true (is lf b) (and_left (not_lf b) (all not_lf bs) n)) in
      let long = length_splice frames c (b ∷ []) (omega arith) in
      let rest = collected_all bs (c + 1) (splice frames c (b ∷ [])) (and_right (not_lf b) (all not_lf bs) n) (omega arith) (omega (arith, long)) in
      let count : c + 1 + length bs ≡ c + suc (length bs) = omega arith in
      let joined = splice_join frames c (b ∷ []) bs (omega arith) in
      ap (λ (r : Response × Parts × Store). onto r.0 (feed i r.1 r.2 bs)) one ∙ ap (onto (unanswered b)) rest
      ∙ (λ z. (unanswered b ∷ map unanswered bs, inside (count z) (joined z), j))

  -- at its LF a frame that was written by us and is next in turn is whole: its end and the line's text with its own say what comes of it
  module _ (limit : ℕ) (usable : Usable limit) (number : ℕ) (end : End) (text frames : List ℕ) (room : length text + around_text ≤ limit) (low : number ≤ most_number) (clean : all allowed text ≡ true)
      (size : length frames ≡ frame_part) where
    abbrev held : List ℕ
    held = splice frames 0 (early number end text)

    fits : 0 + length (early number end text) ≤ length frames
    fits = omega (arith, usable, long number end text)

    -- no more comes before its LF than the line collects
    few : 0 + length (early number end text) ≤ most_collected l
    unfolding most_collected
    few = omega (arith, usable, long number end text)

    all_held : part held 0 (length (early number end text)) ≡ early number end text
    all_held = part_splice frames 0 (early number end text) fits

    pub own_text : part held 1 (length text) ≡ text
    own_text =
        let n = length (early number end text) in
        let same : n - 5 ≡ length text = omega (arith, long number end text) in
        sym (part_part held 0 n 1 (length text) (omega (arith, long number end text))) ∙ ap (λ (x : List ℕ). part x 1 (length text)) all_held
        ∙ ap (part (early number end text) 1) (sym same) ∙ the_text number end text

    pub judged : l.refusing ≡ false → is_last l.last number ≡ false → number ≡ l.next → l.joined + length text ≤ message_limit
        → look_of (inside (length (early number end text)) held).line (Byte lf) texts held ≡ end_look end (length text) (part texts 0 l.joined ++ text)
    unfolding byte_look inside_look frame_look turn_of
    judged kind new next most =
        let shape = ap (shape_of frame_limit) (sym (spelt number end text)) ∙ read_back number end text frame_limit low clean (omega (arith, usable)) in
        rw (all_held, shape, kind, new, eq-eqb number l.next next, le-leb (l.joined + length text) message_limit most)
        (ap (λ (x : List ℕ). end_look end (length text) (part texts 0 l.joined ++ x)) own_text)

    -- what the LF comes to, and the whole frame
    abbrev pub last : Look → Response × Parts × Store
    last x =
        let p = inside (length (early number end text)) held in
        left (decided x todays_shares p.line j.ledger i j.journal texts held) i p (Byte lf) j

    pub sent : l.refusing ≡ false → is_last l.last number ≡ false → number ≡ l.next → l.joined + length text ≤ message_limit
        → feed i (ready frames) j (frame_of number end text)
        ≡ ended (map unanswered (stx ∷ early number end text)) (last (end_look end (length text) (part texts 0 l.joined ++ text)))
    unfolding frame_of own_work
    sent kind new next most =
        let n = length (early number end text) in
        let opened = begins frames in
        let all-of-it = collected_all (early number end text) 0 frames (early_clear number end text clean) few fits in
        let from_none : 0 + n ≡ n = omega arith in
        let look = judged kind new next most in
        ap (λ (bs : List ℕ). feed i (ready frames) j (stx ∷ bs)) (spelt number end text)
        ∙ ap (λ (r : Response × Parts × Store). onto r.0 (feed i r.1 r.2 (early number end text ++ (lf ∷ [])))) opened
        ∙ ap (onto (unanswered stx)) (feed_append i (early number end text) (lf ∷ []) (inside 0 frames) j)
        ∙ ap (λ (r : List Response × Parts × Store). onto (unanswered stx) (ended r.0 (on_frames i r.1 (Byte lf) r.2))) all-of-it
        ∙ ap (λ (k : ℕ). onto (unanswered stx) (ended (map unanswered (early number end text)) (on_frames i (inside k held) (Byte lf) j))) from_none
        ∙ ap (λ (x : Look). ended (map unanswered (stx ∷ early number end text)) (last x)) look
