-- Laws of a chain of entries, and of one step of a walk along it.
-- Assumes nothing.
use Rattle.std.specs.Prelude.{None, Option, Some}
use Rattle.std.proofs.Common.{◌≡◌, ℕ, zero, suc, ◌+◌, ◌-◌, ◌<◌, ◌≤◌, Bool, true, false, cond, eqb, List, [], ◌∷◌, ◌++◌, length, get_or, take, drop, sym, refl, ap, ◌∙◌, append_assoc, append-nil, not-suc-le-zero, arith, length-drop, drop_of_length-le, take_all, get_or-set_other, get_or-set_same, drop-drop, eq-eqb, ne_eqb}
use native.Mathlib.Decide.{ℕ_discrete}
use Rattle.memory.specs.Sizes.{lines, message_limit}
use Rattle.header.specs.Header.{least_head, entry_size, head_of}
use Rattle.header.specs.Entry.{Entry, size, starts, first, first_head}
use Rattle.journal.specs.Entries.{sizes, total, behind, chain_in, entries}
use Rattle.room.specs.Room.{raised}
use Rattle.header.specs.declared.Header.{Header}
use Rattle.header.proofs.Heads.{head_size_low, line_below}
use Rattle.header.proofs.Starts.{starts_facts}
use Rattle.header.proofs.Single.{size_pos, size_first, first_some, first_none, too_few}

pub no_some : {A : Type 0} (a : A) (o : Option A) → o ≡ None → o ≡ Some a → ⊥
no_some a o p q = let z : ◌≡◌ {A = ℕ} 0 1 = cc in omega arith

-- ---- sizes

pub sizes_append : (ds es : List Entry) → sizes (ds ++ es) ≡ sizes ds + sizes es
sizes_append [] es = omega arith
sizes_append (d ∷ ds) es = omega (arith, sizes_append ds es)

pub total_append : (l : ℕ) (ds es : List Entry) → total l (ds ++ es) ≡ total l ds + total l es
total_append l [] es = omega arith
total_append l (d ∷ ds) es = omega (arith, total_append l ds es)

at_most : (b : Bool) (n : ℕ) → cond b n 0 ≤ n
at_most true n = omega arith
at_most false n = omega arith

pub total_le : (l : ℕ) (es : List Entry) → total l es ≤ sizes es
total_le l [] = omega arith
total_le l (e ∷ es) = omega (arith, total_le l es, at_most (eqb e.line l) (size e))

pub total_own : (l : ℕ) (e : Entry) → e.line ≡ l → total l (e ∷ []) ≡ size e
total_own l e h = rw (eq-eqb _ _ h) (omega arith)

pub total_other : (l : ℕ) (e : Entry) → (e.line ≡ l → ⊥) → total l (e ∷ []) ≡ 0
total_other l e h = rw (ne_eqb _ _ h)

-- the lines' sums after one more entry
pub sums_more : (u : List ℕ) (done : List Entry) (e : Entry) (l n : ℕ) → e.line ≡ l → size e ≡ n → length u ≡ lines → l < lines
    → ((k : ℕ) → k < lines → get_or u k 0 ≡ total k done) → (k : ℕ) → k < lines → get_or (raised u l n) k 0 ≡ total k (done ++ e ∷ [])
sums_more u done e l n el en lu lb s k kb = elim (ℕ_discrete k l) [
  | yes q ↦
      let own : total k (e ∷ []) ≡ size e = total_own k e (el ∙ sym q) in
      let a = s k kb in
      rw q (rw (get_or-set_same u l (get_or u l 0 + n) 0 (omega arith), total_append) (omega (arith, a, rw q at own, rw q at a)))
  | no q ↦
      let other : total k (e ∷ []) ≡ 0 = total_other k e (λ x. q (sym x ∙ el)) in
      rw (get_or-set_other u l k (get_or u l 0 + n) 0 q, total_append) (omega (arith, s k kb, other))
]

-- ---- the first entry and the rest

-- any number of steps that is enough gives the same
chain_steps : (n m : ℕ) (bs : List ℕ) → length bs ≤ n → length bs ≤ m → chain_in n bs ≡ chain_in m bs
chain_steps zero zero [] h k = refl
chain_steps zero (suc m) [] h k = refl
chain_steps (suc n) zero [] h k = refl
chain_steps (suc n) (suc m) [] h k = refl
chain_steps zero m (b ∷ bs) h k = absurd (not-suc-le-zero h)
chain_steps (suc n) zero (b ∷ bs) h k = absurd (not-suc-le-zero k)
chain_steps (suc n) (suc m) (b ∷ bs) h k =
    let f = first (b ∷ bs) in
    let p = size_pos f in
    let l : length (drop (size f) (b ∷ bs)) ≡ suc (length bs) - size f = length-drop (size f) (b ∷ bs) in
    ap (λ (o : Option (List Entry)). cond (starts (b ∷ bs)) (behind f o) None) (chain_steps n m (drop (size f) (b ∷ bs)) (omega arith) (omega arith))

pub entries_nil : entries [] ≡ Some []
unfolding entries
entries_nil = refl

pub entries_go : (bs : List ℕ) → starts bs ≡ true → entries bs ≡ behind (first bs) (entries (drop (size (first bs)) bs))
unfolding entries
entries_go [] t = let s = starts_facts [] t in absurd (omega (arith, s.least))
entries_go (b ∷ bs) t =
    let f = first (b ∷ bs) in
    let p = size_pos f in
    let l : length (drop (size f) (b ∷ bs)) ≡ suc (length bs) - size f = length-drop (size f) (b ∷ bs) in
    rw t (ap (behind f) (chain_steps (length bs) (length (drop (size f) (b ∷ bs))) (drop (size f) (b ∷ bs)) (omega arith) (omega arith)))

pub entries_stop : (bs : List ℕ) → 0 < length bs → starts bs ≡ false → entries bs ≡ None
unfolding entries
entries_stop [] h t = absurd (not-suc-le-zero h)
entries_stop (b ∷ bs) h t = rw t

-- entries in front of a chain
abbrev pub prepend : List Entry → Option (List Entry) → Option (List Entry)
prepend ds None = None
prepend ds (Some es) = Some (ds ++ es)

pub prepend_nil : (o : Option (List Entry)) → prepend [] o ≡ o
prepend_nil None = refl
prepend_nil (Some es) = refl

pub prepend_behind : (ds : List Entry) (e : Entry) (o : Option (List Entry)) → prepend ds (behind e o) ≡ prepend (ds ++ e ∷ []) o
prepend_behind ds e None = refl
prepend_behind ds e (Some es) = ap Some (sym (append_assoc ds (e ∷ []) es))

-- ---- a walk that has passed the entries `done` and stands at `at`

pub record Passed (bs : List ℕ) (at : ℕ) (done : List Entry) : Type 0 where
  pub passed : at ≡ sizes done
  pub within : at ≤ length bs
  pub rest : entries bs ≡ prepend done (entries (drop at bs))

pub walk_start : (bs : List ℕ) → Passed bs 0 []
walk_start bs = record { passed = refl; within = omega arith; rest = sym (prepend_nil (entries bs)) }

pub walk_end : (bs : List ℕ) (at : ℕ) (done : List Entry) → Passed bs at done → length bs ≤ at → entries bs ≡ Some done
walk_end bs at done w h = w.rest ∙ rw (drop_of_length-le bs h, entries_nil) (ap Some (append-nil done))

-- bytes that are too few for a header are no entry
pub walk_short : (bs : List ℕ) (at : ℕ) (done : List Entry) → Passed bs at done → at < length bs → length bs - at < least_head → entries bs ≡ None
walk_short bs at done w more h =
    let some_left : 0 < length (drop at bs) = rw length-drop (omega arith) in
    let few : length (drop at bs) < least_head = rw length-drop h in
    w.rest ∙ ap (prepend done) (entries_stop (drop at bs) some_left (too_few (drop at bs) few))

pub record Stepped (bs : List ℕ) (at : ℕ) (done : List Entry) (h : Header) : Type 0 where
  pub long : size (first (drop at bs)) ≡ entry_size h.count
  pub line : (first (drop at bs)).line ≡ h.line
  pub below : h.line < lines
  pub most : h.count ≤ message_limit
  pub pos : least_head ≤ entry_size h.count
  pub fits : at + entry_size h.count ≤ length bs
  pub next : Passed bs (at + entry_size h.count) (done ++ first (drop at bs) ∷ [])

module _ (bs : List ℕ) (at : ℕ) (done : List Entry) (w : Passed bs at done) (more : at < length bs) where
  pub walk_none : first_head (drop at bs) ≡ None → entries bs ≡ None
  walk_none z =
      let l : 0 < length (drop at bs) = rw length-drop (omega arith) in
      w.rest ∙ ap (prepend done) (entries_stop (drop at bs) l (first_none (drop at bs) z))

  pub walk_step : (h : Header) → first_head (drop at bs) ≡ Some h → Stepped bs at done h
  unfolding first
  walk_step h read =
      let (t, k) = first_some (drop at bs) read in
      let s = starts_facts (drop at bs) t in
      let long : size (first (drop at bs)) ≡ entry_size h.count = rw k (size_first (drop at bs) s) in
      let room : entry_size h.count ≤ length (drop at bs) = rw k s.room in
      let fits : at + entry_size h.count ≤ length bs = omega (arith, room, length-drop at bs) in
      let there : entries (drop at bs) ≡ behind (first (drop at bs)) (entries (drop (at + entry_size h.count) bs)) =
      entries_go (drop at bs) t ∙ ap (λ (l : List ℕ). behind (first (drop at bs)) (entries l)) (rw long (drop-drop (entry_size h.count) at bs)) in
      record {
        long = long;
        line = rw k;
        below = rw k (line_below (drop at bs));
        most = rw k s.high;
        pos = omega (arith, head_size_low h.count);
        fits = fits;
        next = record {
          passed = rw sizes_append (omega (arith, w.passed, long));
          within = fits;
          rest = w.rest ∙ ap (prepend done) there ∙ prepend_behind done (first (drop at bs)) (entries (drop (at + entry_size h.count) bs));
        };
      }

-- the part of a slice that is lent from `at` on
pub rest_of : (s : List ℕ) (at : ℕ) → take (length s - at) (drop at s) ≡ drop at s
rest_of s at = take_all (length s - at) (drop at s) (rw length-drop (omega arith))

-- the entry that a walk stands at, where a header was read from the rest that is lent
pub stepped_at : (bs : List ℕ) (at : ℕ) (done : List Entry) → Passed bs at done → at < length bs → (r : Option Header) (h : Header)
    → r ≡ first_head (take (length bs - at) (drop at bs)) → r ≡ Some h → Stepped bs at done h
stepped_at bs at done w more r h read is = walk_step bs at done w more h (ap first_head (sym (rest_of bs at)) ∙ sym read ∙ is)
