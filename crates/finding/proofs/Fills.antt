-- A template that is filled byte by byte, and how long what comes out is.
-- Assumes nothing.
use mathlib.Core.Path.{◌≡◌, refl, sym, ap, ◌∙◌}
use mathlib.Core.Bool.{Bool, true, false, not, cond, ◌&&◌}
use mathlib.Core.List.{List, [], ◌∷◌, ◌++◌}
use Prim.Native.Nat.{ℕ, zero, suc, ◌+◌, ◌*◌, ◌<◌, ◌≤◌, zero-le}
use native.Mathlib.Numerals.{add-one}
use native.Mathlib.Omega.{arith}
use lib.Dec.{leb}
use lib.ListN.{length, get_or, take, drop, set, length-append, length-take, drop_of_length-le}
use lib.Seq.{drop-cons}
use borrow.Author.Tests.{eq-eqb, ne_eqb, leb-true}
use Rattle.memory.specs.Parts.{part, splice}
use Rattle.memory.specs.Tests.{is, all, count}
use Rattle.memory.proofs.Tests.{and_left, and_right}
use Rattle.memory.proofs.Parts.{splice_nil, splice_join, length_splice, set_splice}
use Rattle.records.proofs.RecordCount.{count_hit, count_miss}
use Rattle.kinds.specs.Delimiters.{standard}
use Rattle.escaping.proofs.RoundTrips.{escaped_most}
use Rattle.settings.specs.Settings.{results_length}
use Rattle.settings.specs.declared.Patient.{Patient}
use Rattle.settings.specs.declared.Patient.TheVariants.{Ten, Thirteen}
use Rattle.finding.specs.Trimmed.{trimmed, is_space, trimmed_front, trimmed_back}
use Rattle.finding.specs.Findings.{finding_limit, finding_of}
use Rattle.finding.specs.Inner.Templates.{mark, template, template_length, spots_of, no_spot, spot_count, saying, filled}
use Rattle.finding.specs.declared.Spot.{Spot}

-- filling the template makes the finding
filled_finding : (p : Patient) (bs : List ℕ) → filled bs template (spots_of p) ≡ finding_of p bs
unfolding template spots_of saying finding_of
filled_finding Ten bs = refl
filled_finding Thirteen bs = refl

template_long : length template ≡ template_length
unfolding template
template_long = refl

spots_long : (p : Patient) → length (spots_of p) ≡ spot_count
unfolding spots_of
spots_long Ten = refl
spots_long Thirteen = refl

marks : count (is mark) template ≡ spot_count
unfolding template
marks = refl

-- what is said of a place is at most three times as long as the place
front_short : (s : List ℕ) → length (trimmed_front s) ≤ length s
unfolding trimmed_front
front_short [] = zero-le
front_short (b ∷ s) = by_space (is_space b) (front_short s)
  where
    by_space : (a : Bool) → length (trimmed_front s) ≤ length s → length (cond a (trimmed_front s) (b ∷ s)) ≤ suc (length s)
    by_space true h = omega arith
    by_space false h = omega arith

back_short : (s : List ℕ) → length (trimmed_back s) ≤ length s
unfolding trimmed_back
back_short [] = zero-le
back_short (b ∷ s) = by_space (all is_space (b ∷ s)) (back_short s)
  where
    by_space : (a : Bool) → length (trimmed_back s) ≤ length s → length (cond a [] (b ∷ trimmed_back s)) ≤ suc (length s)
    by_space true h = omega arith
    by_space false h = omega arith

said_short : (bs : List ℕ) (at n : ℕ) → length (saying (part bs at n)) ≤ 3 * n
unfolding saying part
said_short bs at n =
    let s = part bs at n in
    let most : length (take n (drop at bs)) ≤ n = rw length-take (omega arith) in
    omega (arith, escaped_most standard (trimmed s), back_short (trimmed_front s), front_short s, most)

-- how long a filled template is: its own bytes, and three for each byte of a place
abbrev widths : List Spot → ℕ
widths [] = 0
widths (s ∷ ss) = s.width + widths ss

abbrev is_own : ℕ → Bool
is_own b = not (is mark b)

filled_short : (bs ts : List ℕ) (ss : List Spot) → length (filled bs ts ss) ≤ count is_own ts + 3 * widths ss
filled_short bs [] ss = zero-le
filled_short bs (t ∷ ts) [] = by_mark (is mark t) (filled_short bs ts [])
  where
    by_mark : (a : Bool) → length (filled bs ts []) ≤ count is_own ts + 0
        → length (cond a (filled bs ts []) (t ∷ filled bs ts [])) ≤ cond (not a) (suc (count is_own ts)) (count is_own ts) + 0
    by_mark true h = omega arith
    by_mark false h = omega arith
filled_short bs (t ∷ ts) (s ∷ ss) = by_mark (is mark t) (filled_short bs ts ss) (filled_short bs ts (s ∷ ss))
  where
    said : List ℕ
    said = saying (part bs s.at s.width)

    by_mark : (a : Bool) → length (filled bs ts ss) ≤ count is_own ts + 3 * widths ss → length (filled bs ts (s ∷ ss)) ≤ count is_own ts + 3 * widths (s ∷ ss)
        → length (cond a (said ++ filled bs ts ss) (t ∷ filled bs ts (s ∷ ss))) ≤ cond (not a) (suc (count is_own ts)) (count is_own ts) + 3 * widths (s ∷ ss)
    by_mark true h k = rw length-append (omega (arith, said_short bs s.at s.width))
    by_mark false h k = omega arith

own_bytes : count is_own template ≡ 119
unfolding template
own_bytes = refl

most_wide : (p : Patient) → widths (spots_of p) ≤ 146
unfolding spots_of
most_wide Ten = omega arith
most_wide Thirteen = omega arith

-- a finding is never longer than its limit, and never empty
pub finding_short : (p : Patient) (bs : List ℕ) → length (finding_of p bs) ≤ finding_limit
finding_short p bs =
    let whole : length (filled bs template (spots_of p)) ≡ length (finding_of p bs) = ap length (filled_finding p bs) in
    omega (arith, whole, filled_short bs template (spots_of p), own_bytes, most_wide p)

pub finding_some : (p : Patient) (bs : List ℕ) → 1 ≤ length (finding_of p bs)
unfolding finding_of
finding_some p bs = omega arith

-- every place lies within the block
abbrev inside : ℕ → List Spot → Bool
inside n [] = true
inside n (s ∷ ss) = leb (s.at + s.width) n && inside n ss

inside_at_law : (n : ℕ) (ss : List Spot) → inside n ss ≡ true → (k : ℕ) → (get_or ss k no_spot).at + (get_or ss k no_spot).width ≤ n
inside_at_law n [] h k = omega arith
inside_at_law n (s ∷ ss) h zero = leb-true (s.at + s.width) n (and_left (leb (s.at + s.width) n) (inside n ss) h)
inside_at_law n (s ∷ ss) h (suc k) = inside_at_law n ss (and_right (leb (s.at + s.width) n) (inside n ss) h) k

all_inside : (p : Patient) → inside (results_length p) (spots_of p) ≡ true
unfolding spots_of
all_inside Ten = refl
all_inside Thirteen = refl

pub spot_inside : (p : Patient) (k : ℕ) → (get_or (spots_of p) k no_spot).at + (get_or (spots_of p) k no_spot).width ≤ results_length p
spot_inside p k = inside_at_law (results_length p) (spots_of p) (all_inside p) k

-- what is still to be written when i bytes of the template are passed, and k places
abbrev pub left : Patient → List ℕ → ℕ → ℕ → List ℕ
left p bs k i = filled bs (drop i template) (drop k (spots_of p))

-- before a turn: what is still to be written, behind what is, makes the finding
pub record Filling (p : Patient) (bs out₀ out : List ℕ) (end k i : ℕ) : Type 0 where
  pub within : i ≤ template_length
  pub places : k + count (is mark) (drop i template) ≡ spot_count
  pub long : length out ≡ length out₀
  pub size : end + length (left p bs k i) ≡ length (finding_of p bs)
  pub same : splice out end (left p bs k i) ≡ splice out₀ 0 (finding_of p bs)

pub filling_begins : (p : Patient) (bs out : List ℕ) → Filling p bs out out 0 0 0
filling_begins p bs out =
    record {
      within = omega arith;
      places = omega (arith, marks);
      long = refl;
      size = omega (arith, ap length (filled_finding p bs));
      same = rw (filled_finding p bs);
    }

-- the next byte of the template: a mark, which a datum takes the place of, or one of its own
module _ (p : Patient) (bs out₀ out : List ℕ) (end k i : ℕ) (f : Filling p bs out₀ out end k i) (room : finding_limit ≤ length out₀) (more : i < template_length) where
  next : drop i template ≡ get_or template i 0 ∷ drop (i + 1) template
  next = rw add-one (drop-cons template i 0 (omega (arith, template_long)))

  -- some bytes of what is left are written
  module _ (s rest : List ℕ) (e : left p bs k i ≡ s ++ rest) where
    on_size : end + length s + length rest ≡ length (finding_of p bs)
    on_size = let both : length (left p bs k i) ≡ length s + length rest = rw (e, length-append) in omega (arith, both, f.size)

    on_fits : end + length s + length rest ≤ length out
    on_fits = omega (arith, on_size, finding_short p bs, f.long)

    on_long : length (splice out end s) ≡ length out₀
    on_long = length_splice out end s (omega (arith, on_fits)) ∙ f.long

    on_same : splice (splice out end s) (end + length s) rest ≡ splice out₀ 0 (finding_of p bs)
    on_same = splice_join out end s rest on_fits ∙ sym (ap (splice out end) e) ∙ f.same

  module _ (m : get_or template i 0 ≡ mark) where
    abbrev here : Spot
    here = get_or (spots_of p) k no_spot

    abbrev said : List ℕ
    said = saying (part bs here.at here.width)

    hit : k + 1 + count (is mark) (drop (i + 1) template) ≡ spot_count
    hit = count_hit (is mark) template i k (omega (arith, template_long)) (eq-eqb (get_or template i 0) mark m) f.places

    pub place_left : k < spot_count
    place_left = omega (arith, hit)

    left_said : left p bs k i ≡ said ++ left p bs (k + 1) (i + 1)
    left_said =
        let spots : drop k (spots_of p) ≡ here ∷ drop (k + 1) (spots_of p) = rw add-one (drop-cons (spots_of p) k no_spot (omega (arith, place_left, spots_long p))) in
        rw (next, spots, m)

    pub said_fits : end + length said ≤ length out
    said_fits = omega (arith, on_fits said (left p bs (k + 1) (i + 1)) left_said)

    pub filled_said : {out' : List ℕ} {end' : ℕ} → end' ≡ end + length said → out' ≡ splice out end said → Filling p bs out₀ out' end' (k + 1) (i + 1)
    filled_said e o =
        let rest = left p bs (k + 1) (i + 1) in
        rw (e, o)
        (record {
          within = omega arith;
          places = hit;
          long = on_long said rest left_said;
          size = on_size said rest left_said;
          same = on_same said rest left_said;
        })

  module _ (m : get_or template i 0 ≡ mark → ⊥) where
    abbrev own : List ℕ
    own = get_or template i 0 ∷ []

    left_own : left p bs k i ≡ own ++ left p bs k (i + 1)
    left_own = rw next (itself (drop k (spots_of p)))
      where
        itself : (ss : List Spot) → filled bs (get_or template i 0 ∷ drop (i + 1) template) ss ≡ get_or template i 0 ∷ filled bs (drop (i + 1) template) ss
        itself [] = rw (ne_eqb (get_or template i 0) mark m)
        itself (s ∷ ss) = rw (ne_eqb (get_or template i 0) mark m)

    pub own_fits : end < length out
    own_fits = omega (arith, on_fits own (left p bs k (i + 1)) left_own)

    pub filled_own : Filling p bs out₀ (set out end (get_or template i 0)) (end + 1) k (i + 1)
    filled_own =
        let rest = left p bs k (i + 1) in
        rw (set_splice out end (get_or template i 0) own_fits)
        (record {
          within = omega arith;
          places = count_miss (is mark) template i k (omega (arith, template_long)) (ne_eqb (get_or template i 0) mark m) f.places;
          long = on_long own rest left_own;
          size = on_size own rest left_own;
          same = on_same own rest left_own;
        })

-- behind the last byte of the template
pub filling_ends : (p : Patient) (bs out₀ out : List ℕ) (end k i : ℕ) → Filling p bs out₀ out end k i → template_length ≤ i
    → (end ≡ length (finding_of p bs)) × (out ≡ splice out₀ 0 (finding_of p bs))
filling_ends p bs out₀ out end k i f h =
    let over : length template ≤ i = omega (arith, template_long) in
    let none : left p bs k i ≡ [] = rw (drop_of_length-le template over) in
    let size : end + length (left p bs k i) ≡ length (finding_of p bs) = f.size in
    (omega (arith, size, ap length none), sym (splice_nil out end) ∙ sym (ap (splice out end) none) ∙ f.same)
