-- A trace replayed piece by piece has the listing of the whole, wherever the pieces are cut.
-- Assumes nothing.
use Rattle.std.specs.Prelude.{None, Option, Some}
use Rattle.listing.specs.declared.Item.TheVariants.{Event, Taking}
use Rattle.listing.specs.declared.Item.{Item}
use Rattle.std.proofs.Common.{◌≡◌, ℕ, zero, suc, ◌+◌, ◌-◌, ◌<◌, ◌≤◌, Bool, true, false, ltb, leb, List, [], ◌∷◌, ◌++◌, length, take, drop, sym, refl, ap, ◌∙◌, true≢false, append_assoc, append-nil, add-zero, arith, length-append, length-drop, length-take, length-take-le, take_all, drop-drop, ltb-false, ltb-true, lt-ltb, le-leb}
use lib.Seq.{take-append-le, drop-append-le}
use Rattle.memory.specs.Parts.{splice}
use Rattle.memory.specs.Tests.{is, find, unless}
use Rattle.memory.proofs.Parts.{length_splice, splice_nil, splice_join}
use Rattle.memory.proofs.Tests.{find_le}
use Rattle.listing.specs.Texts.{newline}
use Rattle.listing.specs.Items.{item_of}
use Rattle.replaying.specs.Lines.{Next, Whole, Unended, first_line, next_of}
use Rattle.replaying.specs.Desk.{row_room, Desk, Asked, event_asked, taking_asked}
use Rattle.replaying.specs.Turns.{AfterTurn, stopped, row_of, acted, on_line, turn_of}
use Rattle.replaying.specs.Runs.{AfterRun, following, left, by_turn, run_of, piece_of}
use Rattle.replaying.specs.Listed.{Listed, no_rows, in_front, row_then, by_item, by_line, listed, listing_of}
use Rattle.replaying.specs.Inner.Pieces.{Because, Goes}
use Rattle.replaying.specs.declared.Stop.{Stop}
use Rattle.replaying.specs.declared.Stop.TheVariants.{Input, Output, NotAnEvent}

-- ---- the first line, where more stands behind it

-- a byte that is found in front is found there
find_front : (p : ℕ → Bool) (a b : List ℕ) → find p a < length a → find p (a ++ b) ≡ find p a
find_front p [] b h = absurd (omega arith)
find_front p (x ∷ a) b h = by_first (p x) refl (λ e. find_front p a b (omega (arith, rw e at h)))
  where
    by_first : (t : Bool) → p x ≡ t → (p x ≡ false → find p (a ++ b) ≡ find p a) → find p (x ∷ (a ++ b)) ≡ find p (x ∷ a)
    by_first true e g = rw e
    by_first false e g = rw e (ap suc (g e))

-- what a whole first line tells
record FirstIs (text : List ℕ) (at : ℕ) (item : Option Item) (behind : ℕ) : Type 0 where
  inside : find (is newline) text < length text
  asks : item ≡ item_of (take (find (is newline) text) text)
  ends : behind ≡ at + find (is newline) text + 1

abbrev item_in : Next → Option Item
item_in Unended = None
item_in (Whole item behind) = item

abbrev behind_in : Next → ℕ
behind_in Unended = 0
behind_in (Whole item behind) = behind

abbrev is_whole : Next → Bool
is_whole Unended = false
is_whole (Whole item behind) = true

first_is : (text : List ℕ) (at : ℕ) (item : Option Item) (behind : ℕ) → first_line text at ≡ Whole item behind → FirstIs text at item behind
unfolding first_line
first_is text at item behind e = by_end (ltb (find (is newline) text) (length text)) refl e
  where
    by_end : (t : Bool) → ltb (find (is newline) text) (length text) ≡ t
        → unless t Unended (Whole (item_of (take (find (is newline) text) text)) (at + find (is newline) text + 1)) ≡ Whole item behind → FirstIs text at item behind
    by_end true l q = record { inside = ltb-true (find (is newline) text) (length text) l; asks = sym (ap item_in q); ends = sym (ap behind_in q) }
    by_end false l q = absurd (true≢false (sym (ap is_whole q)))

-- no whole first line: no newline
no_newline : (text : List ℕ) (at : ℕ) → first_line text at ≡ Unended → find (is newline) text ≡ length text
unfolding first_line
no_newline text at e = by_end (ltb (find (is newline) text) (length text)) refl e
  where
    by_end : (t : Bool) → ltb (find (is newline) text) (length text) ≡ t
        → unless t Unended (Whole (item_of (take (find (is newline) text) text)) (at + find (is newline) text + 1)) ≡ Unended → find (is newline) text ≡ length text
    by_end true l q = absurd (true≢false (ap is_whole q))
    by_end false l q = omega (arith, find_le (is newline) text, ltb-false (find (is newline) text) (length text) l)

-- and it is the first line of a longer text
first_front : (text more : List ℕ) (at : ℕ) {item : Option Item} {behind : ℕ} → FirstIs text at item behind → first_line (text ++ more) 0 ≡ Whole item (0 + find (is newline) text + 1)
unfolding first_line
first_front text more at f =
    let n = find (is newline) text in
    let long : n < length (text ++ more) = rw length-append (omega (arith, f.inside)) in
    rw (find_front (is newline) text more f.inside, lt-ltb n (length (text ++ more)) long, take-append-le n text more (omega (arith, f.inside)), ← f.asks)

-- ---- as much fuel as there are bytes is enough

shorter : (b : ℕ) (text : List ℕ) (m : ℕ) → 1 ≤ b → length text ≤ suc m → length (drop b text) ≤ m
shorter b text m p h = rw length-drop (omega (arith, p, h))

same_item : (item : Option Item) (text : List ℕ) (n : ℕ) (d : Desk) (go go' : Desk → Listed) → ((e : Desk) → go e ≡ go' e) → by_item item text n d go ≡ by_item item text n d go'
same_item (Some (Event e)) text n d go go' q = ap (λ (l : Listed). in_front (row_of (following n) e.line (event_asked e d).answered) l) (q (event_asked e d).desk)
same_item (Some (Taking i k)) text n d go go' q = ap (λ (l : Listed). in_front (row_of (following n) i (taking_asked i k d).answered) l) (q (taking_asked i k d).desk)
same_item None text n d go go' q = refl

empty_listed : (m : ℕ) (n : ℕ) (d : Desk) → listed m [] n d ≡ no_rows Input [] n d
unfolding listed first_line
empty_listed zero n d = refl
empty_listed (suc m) n d = refl

no_bytes : (text : List ℕ) → length text ≤ 0 → text ≡ []
no_bytes [] h = refl
no_bytes (x ∷ text) h = absurd (omega arith)

enough : (m m' : ℕ) (text : List ℕ) (n : ℕ) (d : Desk) → length text ≤ m → length text ≤ m' → listed m text n d ≡ listed m' text n d
unfolding listed
enough zero m' text n d h k =
    let e = no_bytes text h in
    ap (λ (t : List ℕ). listed 0 t n d) e ∙ empty_listed 0 n d ∙ sym (empty_listed m' n d) ∙ ap (λ (t : List ℕ). listed m' t n d) (sym e)
enough (suc m) zero text n d h k =
    let e = no_bytes text k in
    ap (λ (t : List ℕ). listed (suc m) t n d) e ∙ empty_listed (suc m) n d ∙ sym (empty_listed 0 n d) ∙ ap (λ (t : List ℕ). listed 0 t n d) (sym e)
enough (suc m) (suc m') text n d h k = by_line_law (first_line text 0) refl (λ b e p. enough m m' (drop b text) (following n) e (shorter b text m p h) (shorter b text m' p k))
  where
    by_line_law : (x : Next) → first_line text 0 ≡ x → ((b : ℕ) (e : Desk) → 1 ≤ b → listed m (drop b text) (following n) e ≡ listed m' (drop b text) (following n) e)
        → by_line x text n d (λ b e. listed m (drop b text) (following n) e) ≡ by_line x text n d (λ b e. listed m' (drop b text) (following n) e)
    by_line_law Unended q g = refl
    by_line_law (Whole item behind) q g = same_item item text n d _ _ (λ e. g behind e (omega (arith, (first_is text 0 item behind q).ends)))

-- a listing is its first row and the listing of what stands behind the line
listing_step : (text : List ℕ) (item : Option Item) (behind n : ℕ) (d : Desk) → first_line text 0 ≡ Whole item behind
    → listing_of text n d ≡ by_item item text n d (λ e. listing_of (drop behind text) (following n) e)
unfolding listed
listing_step text item behind n d q =
    let f = first_is text 0 item behind q in
    let m = length text - 1 in
    let long : length text ≡ suc m = omega (arith, f.inside) in
    ap (λ (k : ℕ). listed k text n d) long
    ∙ ap (λ (x : Next). by_line x text n d (λ b e. listed m (drop b text) (following n) e)) q
    ∙ same_item item text n d _ _ (λ e. enough m (length (drop behind text)) (drop behind text) (following n) e (shorter behind text m (omega (arith, f.ends)) (omega (arith, long))) (omega arith))

-- ---- a run of a piece

-- a row written over a listing is there, behind what stood before it, and the listing is no shorter
module _ (put : ℕ) (out row : List ℕ) where
  kept_long : length out ≤ length (splice out put row)
  unfolding splice
  kept_long = simp (length-append, length-take, length-drop) (omega arith)

  module _ (h : put ≤ length out) where
    reached : put + length row ≤ length (splice out put row)
    unfolding splice
    reached = simp (length-append, length-take, length-drop) (omega arith)

    through : take (put + length row) (splice out put row) ≡ take put out ++ row
    unfolding splice
    through =
        let front : length (take put out) ≡ put = length-take-le put out h in
        let long : put + length row ≡ length (take put out ++ row) = rw (length-append, front) in
        rw (← append_assoc (take put out) row (drop (put + length row) out), long) (take-append-le (length (take put out ++ row)) (take put out ++ row) _ (omega arith) ∙ take_all (length (take put out ++ row)) (take put out ++ row) (omega arith))

  shown : (rows out' : List ℕ) → put ≤ length out → take (put + length row + length rows) out' ≡ take (put + length row) (splice out put row) ++ rows
      → take (put + length (row ++ rows)) out' ≡ take put out ++ (row ++ rows)
  shown rows out' h e =
      let both : put + length (row ++ rows) ≡ put + length row + length rows = rw length-append (omega arith) in
      ap (λ (k : ℕ). take k out') both ∙ e ∙ ap (λ (t : List ℕ). t ++ rows) (through h) ∙ append_assoc (take put out) row rows

module _ (input : List ℕ) where
  stays : (s : Stop) (at put : ℕ) (out : List ℕ) (n : ℕ) (d : Desk) → at ≤ length input → Because s (left s n at put out d) input at put out → Goes (left s n at put out d) input at put out n d
  stays s at put out n d h why = record {
    rows = [];
    forward = omega arith;
    within = h;
    written = omega arith;
    goes_on = λ more. refl;
    writes = λ p. sym (splice_nil out put);
    shows = λ p. rw (add-zero, append-nil);
    no_shorter = omega arith;
    counted = λ p. p;
    because = why;
  }

  -- what stopped the run behind a line stopped the whole
  carried : (s : Stop) (r : AfterRun) (at put : ℕ) (out : List ℕ) (behind put' : ℕ) (out' : List ℕ) → at < behind → behind ≤ r.progress.read
      → Because s r input behind put' out' → Because s r input at put out
  carried Input r at put out behind put' out' h k b = b
  carried Output r at put out behind put' out' h k b = λ room. omega (arith, h, k)
  carried NotAnEvent r at put out behind put' out' h k b = b

  -- a line that asks, and what the run behind it does
  one_row : (at put : ℕ) (out : List ℕ) (n : ℕ) (d : Desk) (item : Option Item) (behind line : ℕ) (a : Asked) (r : AfterRun) → at ≤ length input → FirstIs (drop at input) at item behind
      → ((text : List ℕ) (go : Desk → Listed) → by_item item text n d go ≡ row_then (following n) line a go)
      → Goes r input behind (put + length (row_of (following n) line a.answered)) (splice out put (row_of (following n) line a.answered)) (following n) a.desk
      → Goes r input at put out n d
  one_row at put out n d item behind line a r h f asks g =
      let row = row_of (following n) line a.answered in
      let k = find (is newline) (drop at input) in
      record {
        rows = row ++ g.rows;
        forward = omega (arith, g.forward, f.ends);
        within = g.within;
        written = g.written ∙ rw length-append (omega arith);
        goes_on = λ more.
            listing_step (drop at input ++ more) item (0 + k + 1) n d (first_front (drop at input) more at f)
            ∙ asks (drop at input ++ more) (λ e. listing_of (drop (0 + k + 1) (drop at input ++ more)) (following n) e)
            ∙ ap (λ (t : List ℕ). in_front row (listing_of t (following n) a.desk)) (behind_is more)
            ∙ ap (λ (l : Listed). in_front row l) (g.goes_on more)
            ∙ in_front_twice row g.rows (listing_of (drop r.progress.read input ++ more) r.progress.events r.desk);
        writes = λ p.
            let q : put + length row + length g.rows ≤ length out = omega (arith, p, length-append row g.rows) in
            let fits : put + length row ≤ length out = omega (arith, q) in
            g.writes (rw (length_splice out put row fits) q) ∙ splice_join out put row g.rows q;
        shows = λ p. shown put out row g.rows r.out p (g.shows (reached put out row p));
        no_shorter = omega (arith, g.no_shorter, kept_long put out row);
        counted = λ p. g.counted (omega arith);
        because = carried r.progress.stop r at put out behind _ _ (omega (arith, f.ends)) g.forward g.because;
      }
    where
      behind_is : (more : List ℕ) → drop (0 + find (is newline) (drop at input) + 1) (drop at input ++ more) ≡ drop behind input ++ more
      behind_is more =
          let k = find (is newline) (drop at input) in
          let end : at + (0 + k + 1) ≡ behind = omega (arith, f.ends) in
          drop-append-le (0 + k + 1) (drop at input) more (omega (arith, f.inside))
          ∙ ap (λ (t : List ℕ). t ++ more) (drop-drop (0 + k + 1) at input ∙ ap (λ (k : ℕ). drop k input) end)

      in_front_twice : (a b : List ℕ) (l : Listed) → in_front a (in_front b l) ≡ in_front (a ++ b) l
      in_front_twice a b l = ap (λ (t : List ℕ). record { rows = t; events = l.events; desk = l.desk; rest = l.rest; stop = l.stop }) (sym (append_assoc a b l.rows))

  -- after a turn
  abbrev after_turn : ℕ → ℕ → ℕ → ℕ → AfterTurn → AfterRun
  after_turn most n at put t = by_turn t.turn (λ behind end. run_of most input (following n) behind end t.out t.desk) (λ s. left s n at put t.out t.desk)

  module _ (most : ℕ) (at put : ℕ) (out : List ℕ) (n : ℕ) (d : Desk) (h : at ≤ length input) (k : length input ≤ at + suc most)
      (ih : (at put : ℕ) (out : List ℕ) (n : ℕ) (d : Desk) → at ≤ length input → length input ≤ at + most → Goes (run_of most input n at put out d) input at put out n d) where
    reaches : {item : Option Item} {behind : ℕ} → FirstIs (drop at input) at item behind → behind ≤ length input
    reaches f = omega (arith, f.ends, f.inside, length-drop at input, h)

    fewer : {item : Option Item} {behind : ℕ} → FirstIs (drop at input) at item behind → length input ≤ behind + most
    fewer f = omega (arith, f.ends, k)

    on_item : (item : Option Item) (behind : ℕ) → FirstIs (drop at input) at item behind → Goes (after_turn most n at put (acted item (following n) behind out put d)) input at put out n d
    on_item (Some (Event e)) behind f =
        one_row at put out n d (Some (Event e)) behind e.line (event_asked e d) _ h f (λ text go. refl) (ih behind _ _ (following n) _ (reaches f) (fewer f))
    on_item (Some (Taking i m)) behind f =
        one_row at put out n d (Some (Taking i m)) behind i (taking_asked i m d) _ h f (λ text go. refl) (ih behind _ _ (following n) _ (reaches f) (fewer f))
    on_item None behind f = stays NotAnEvent at put out n d h (λ more. listing_step (drop at input ++ more) None _ n d (first_front (drop at input) more at f))

    on_next : (x : Next) → next_of input at ≡ x → Goes (after_turn most n at put (on_line x (following n) out put d)) input at put out n d
    on_next Unended q = stays Input at put out n d h (no_newline (drop at input) at q)
    on_next (Whole item behind) q = on_item item behind (first_is (drop at input) at item behind q)

    on_room : (b : Bool) → leb (put + row_room) (length out) ≡ b
        → Goes (after_turn most n at put (unless b (stopped Output out d) (on_line (next_of input at) (following n) out put d))) input at put out n d
    on_room true q = on_next (next_of input at) refl
    on_room false q = stays Output at put out n d h (λ room. absurd (true≢false (sym (le-leb (put + row_room) (length out) room) ∙ q)))

  goes : (most at put : ℕ) (out : List ℕ) (n : ℕ) (d : Desk) → at ≤ length input → length input ≤ at + most → Goes (run_of most input n at put out d) input at put out n d
  unfolding run_of turn_of
  goes zero at put out n d h k =
      let none : drop at input ≡ [] = no_bytes (drop at input) (rw length-drop (omega (arith, k))) in
      stays Input at put out n d h (rw none)
  goes (suc most) at put out n d h k = on_room most at put out n d h k (goes most) (leb (put + row_room) (length out)) refl

  -- a piece, from its start
  pub in_pieces : (n : ℕ) (out : List ℕ) (d : Desk) → Goes (piece_of n input out d) input 0 0 out n d
  in_pieces n out d = goes (length input) 0 0 out n d (omega arith) (omega arith)
