-- There is only one history that is a given one put in serial order (`Rearranged`): its serial form. So `serialize` is what the demand's words say, and nothing else is.
-- Assumes nothing.
use mathlib.Core.Path.{◌≡◌, refl, sym, ◌∙◌, ap}
use mathlib.Core.Logic.{◌≢◌}
use mathlib.Core.Bool.{Bool, true, false, true≢false}
use mathlib.Core.List.{List, [], ◌∷◌, ◌++◌, append-nil, append_assoc, map}
use Prim.Native.Nat.{ℕ, ◌≤◌, ◌<◌}
use native.Mathlib.Omega.{arith}
use native.Mathlib.Decide.{ℕ_discrete, dec_lt}
use borrow.Author.Tests.{eq-eqb, ne_eqb}
use Rattle.serial.specs.Serial.{Item, event, taking, items, Every, times, OrderOf, upd, stretch, out, left, rests, serial, serialize}
use Rattle.serial.specs.Kept.{only, is_end, Part, finished, took, Undecided, Proper, items_of, all_items, Rearranged}
use Rattle.serial.specs.Inner.Machine.{OnLine}
use Rattle.serial.proofs.Updates.{upd_own, upd_other, stretch_append, times_own}
use Rattle.serial.proofs.Lists.{clash, only_append, mine, own_stretch, other_stretch, rests_own}
use Rattle.serial.proofs.Kept.{shift, left_undecided, stretch_passes, rests_passes}

-- the last of a part
abbrev last_of : {K N A : Type 0} → Part K N A → Item K N × A
last_of (finished i xs k a) = (event i k, a)
last_of (took i n a) = (taking i n, a)

-- ---- stretches are told apart by what they hold

-- equal events with their answers
same_event : {K N A : Type 0} (i l : ℕ) (k m : K) (a b : A) → ◌≡◌ {A = Item K N × A} (event i k, a) (event l m, b) → (i ≡ l) × (k ≡ m) × (a ≡ b)
same_event {K} {N} {A} i l k m a b e =
    let f : ◌≡◌ {A = Item K N} (event i k) (event l m) = ap (λ (x : Item K N × A). x.0) e in
    (cc, cc, ap (λ (x : Item K N × A). x.1) e)

module _ {K N A : Type 0} (i : ℕ) where
  stretch_same : (xs ys : List (K × A)) → stretch {N = N} i xs ≡ stretch i ys → xs ≡ ys
  stretch_same [] [] e = refl
  stretch_same [] (y ∷ ys) e = clash cc
  stretch_same (x ∷ xs) [] e = clash cc
  stretch_same (x ∷ xs) (y ∷ ys) e =
      let t : stretch {N = N} i xs ≡ stretch i ys = cc in
      let (n, k, a) = same_event {N = N} i i x.0 y.0 x.1 y.1 (cc) in
      let ih : xs ≡ ys = stretch_same xs ys t in
      λ z. (k z, a z) ∷ ih z

  -- two lists of which the first event that decides is the same one agree in front of it and behind it
  module _ (decides : A → Bool) (k : K) (a : A) (d : decides a ≡ true) (us vs : List (Item K N × A)) where
    first_decision : (xs ys : List (K × A)) → Undecided decides xs → Undecided decides ys
        → stretch i xs ++ ((event i k, a) ∷ us) ≡ stretch i ys ++ ((event i k, a) ∷ vs) → (xs ≡ ys) × (us ≡ vs)
    first_decision [] [] g h e = (refl, cc)
    first_decision [] (y ∷ ys) g h e =
        let (n, p, q) = same_event {N = N} i i k y.0 a y.1 (cc) in
        absurd (true≢false (sym d ∙ ap decides q ∙ h.0))
    first_decision (x ∷ xs) [] g h e =
        let (n, p, q) = same_event {N = N} i i k x.0 a x.1 (cc) in
        absurd (true≢false (sym d ∙ ap decides q ∙ g.0))
    first_decision (x ∷ xs) (y ∷ ys) g h e =
        let t : stretch i xs ++ ((event i k, a) ∷ us) ≡ stretch i ys ++ ((event i k, a) ∷ vs) = cc in
        let (n, p, q) = same_event {N = N} i i x.0 y.0 x.1 y.1 (cc) in
        let (l, r) = first_decision xs ys g.1 h.1 t in
        (λ z. (p z, q z) ∷ l z, r)

-- ---- rests are told apart by their lines

module _ {K N A : Type 0} (rest pending : ℕ → List (K × A)) where
  same_rests : (is : List ℕ) → ((l : ℕ) → 1 ≤ times l is → rest l ≡ pending l) → rests {N = N} rest is ≡ rests pending is
  same_rests [] h = refl
  same_rests (i ∷ is) h =
      rw (h i (omega (arith, times_own i is))) (ap (λ zs. stretch i (pending i) ++ zs)
      (same_rests is (λ l g. h l (omega arith))))

module _ {K N A : Type 0} (decides : A → Bool) (lines : ℕ) (order : List ℕ) (each : OrderOf lines order)
    (rest : ℕ → List (K × A)) (still : (i : ℕ) → Undecided decides (rest i)) where
  -- the ends of a history that is made whole are the last ones of its parts
  items_ends : (b : Part K N A) → Proper decides b → only (is_end decides) (items_of b) ≡ last_of b ∷ []
  items_ends (finished i xs k a) h =
      rw (stretch_append, only_append, stretch_passes decides (is_end decides) (λ i k a q. q) i xs h.0) (rw h.1 refl)
  items_ends (took i n a) h = refl

  whole_ends : (bs : List (Part K N A)) → Every (Proper decides) bs → only (is_end decides) (all_items bs (rests rest order)) ≡ map last_of bs
  whole_ends [] h = rests_passes decides (is_end decides) (λ i k a q. q) order rest still
  whole_ends (b ∷ bs) h = rw (only_append, items_ends b h.0) (ap (λ zs. last_of b ∷ zs) (whole_ends bs h.1))

  rests_only : (pending : ℕ → List (K × A))
      → ((i : ℕ) → i < lines → only (mine {K = K} {N = N} {A = A} i) (rests rest order) ≡ stretch i (pending i))
      → rests {N = N} rest order ≡ rests pending order
  rests_only pending h =
      same_rests rest pending order (λ l g. elim (dec_lt l lines) [
        | yes p ↦ stretch_same {N = N} l (rest l) (pending l) (sym (rests_own l rest order (each.once l p)) ∙ h l p)
        | no p ↦ absurd (omega (arith, each.no_others l (omega arith)))
      ])

  -- each line's events, from what is pending on
  abbrev Lines : List (Item K N × A) → (ℕ → List (K × A)) → List (Item K N × A) → Type 0
  Lines zs pending xs = (i : ℕ) → i < lines → only (mine i) zs ≡ stretch i (pending i) ++ only (mine i) xs

  abbrev Alone : List (Item K N × A) → Type 0
  Alone xs = (pending : ℕ → List (K × A)) → ((i : ℕ) → Undecided decides (pending i)) → (bs : List (Part K N A)) → Every (Proper decides) bs
      → Lines (all_items bs (rests rest order)) pending xs → map last_of bs ≡ only (is_end decides) xs
      → all_items bs (rests rest order) ≡ serial decides order pending xs

  -- line i's events, where the first that decides is the same one
  decided : (i : ℕ) (k : K) (a : A) → decides a ≡ true → (ys ps : List (K × A)) → Undecided decides ys → Undecided decides ps
      → (zs xs : List (Item K N × A))
      → only (mine i) (stretch i (ys ++ ((k, a) ∷ [])) ++ zs) ≡ stretch i ps ++ only (mine i) ((event i k, a) ∷ xs)
      → (ys ≡ ps) × (only (mine i) zs ≡ only (mine i) xs)
  decided i k a q ys ps g h zs xs e =
      first_decision i decides k a q (only (mine i) zs) (only (mine i) xs) ys ps g h
      (sym (front zs) ∙ e ∙ rw (eq-eqb i i refl))
    where
      front : (zs : List (Item K N × A)) → only (mine i) (stretch i (ys ++ ((k, a) ∷ [])) ++ zs) ≡ stretch i ys ++ ((event i k, a) ∷ only (mine i) zs)
      front zs = rw (only_append, own_stretch, stretch_append, append_assoc)

  -- the lines behind a stretch of line i
  others : (i : ℕ) (k : K) (a : A) (ys : List (K × A)) (pending : ℕ → List (K × A)) (zs xs : List (Item K N × A))
      → only (mine i) zs ≡ only (mine i) xs
      → Lines (stretch i (ys ++ ((k, a) ∷ [])) ++ zs) pending ((event i k, a) ∷ xs) → Lines zs (upd pending i []) xs
  others i k a ys pending zs xs rear moved l g = elim (ℕ_discrete l i) [
    | yes p ↦ rw (p, upd_own) rear
    | no n ↦
        let m : i ≢ l = λ p. n (sym p) in
        rw (upd_other pending i [] l n)
        (simp (only_append, other_stretch {K = K} {N = N} {A = A} l i (ys ++ ((k, a) ∷ [])) m, ne_eqb i l m) at (moved l g))
  ]

  -- an item that puts out nothing
  waits : (xs : List (Item K N × A)) → Alone xs → (i : ℕ) (k : K) (a : A) → decides a ≡ false → (pending : ℕ → List (K × A))
      → ((l : ℕ) → Undecided decides (pending l)) → (bs : List (Part K N A)) → Every (Proper decides) bs
      → Lines (all_items bs (rests rest order)) pending ((event i k, a) ∷ xs) → map last_of bs ≡ only (is_end decides) ((event i k, a) ∷ xs)
      → all_items bs (rests rest order) ≡ serial decides order (left {N = N} pending (event i k) a false) xs
  waits xs ih i k a q pending h bs proper line ends =
      ih (left {N = N} pending (event i k) a false) (left_undecided {N = N} decides pending h (event i k) a false q) bs proper
      (λ l g. line l g ∙ sym (shift l pending (event i k) a false xs))
      (rw q at ends)

  -- a taking
  takes : (xs : List (Item K N × A)) → Alone xs → (i : ℕ) (n : N) (a : A) → (pending : ℕ → List (K × A))
      → ((l : ℕ) → Undecided decides (pending l)) → (bs : List (Part K N A)) → Every (Proper decides) bs
      → Lines (all_items bs (rests rest order)) pending ((taking i n, a) ∷ xs) → map last_of bs ≡ (taking i n, a) ∷ only (is_end decides) xs
      → all_items bs (rests rest order) ≡ (taking i n, a) ∷ serial decides order pending xs
  takes xs ih i n a pending h [] proper line ends = clash cc
  takes xs ih i n a pending h (finished l ys k b ∷ bs) proper line ends =
      let e : ◌≡◌ {A = Item K N × A} (event l k, b) (taking i n, a) = cc in
      let f : ◌≡◌ {A = Item K N} (event l k) (taking i n) = ap (λ (x : Item K N × A). x.0) e in
      clash cc
  takes xs ih i n a pending h (took l m b ∷ bs) proper line ends =
      let e : ◌≡◌ {A = Item K N × A} (taking l m, b) (taking i n, a) = cc in
      let behind : map last_of bs ≡ only (is_end decides) xs = cc in
      let same : all_items bs (rests rest order) ≡ serial decides order pending xs = ih pending h bs proper.1 line behind in
      λ z. e z ∷ same z

  -- an event that decides
  stops : (xs : List (Item K N × A)) → Alone xs → (i : ℕ) (k : K) (a : A) → decides a ≡ true → i < lines → (pending : ℕ → List (K × A))
      → ((l : ℕ) → Undecided decides (pending l)) → (bs : List (Part K N A)) → Every (Proper decides) bs
      → Lines (all_items bs (rests rest order)) pending ((event i k, a) ∷ xs) → map last_of bs ≡ (event i k, a) ∷ only (is_end decides) xs
      → all_items bs (rests rest order) ≡ stretch i (pending i ++ ((k, a) ∷ [])) ++ serial decides order (upd pending i []) xs
  stops xs ih i k a q o pending h [] proper line ends = clash cc
  stops xs ih i k a q o pending h (took l n b ∷ bs) proper line ends =
      let e : ◌≡◌ {A = Item K N × A} (taking l n, b) (event i k, a) = cc in
      let f : ◌≡◌ {A = Item K N} (taking l n) (event i k) = ap (λ (x : Item K N × A). x.0) e in
      clash cc
  stops xs ih i k a q o pending h (finished l ys m b ∷ bs) proper line ends =
      let e : ◌≡◌ {A = Item K N × A} (event l m, b) (event i k, a) = cc in
      let (line_same, kind-same, answer-same) = same_event {N = N} l i m k b a e in
      let behind : map last_of bs ≡ only (is_end decides) xs = cc in
      let zs : List (Item K N × A) = all_items bs (rests rest order) in
      let moved : Lines (stretch i (ys ++ ((k, a) ∷ [])) ++ zs) pending ((event i k, a) ∷ xs) = rw (line_same, kind-same, answer-same) at line in
      let (front, rear) = decided i k a q ys (pending i) proper.0.0 (h i) zs xs (moved i o) in
      let same : zs ≡ serial decides order (upd pending i []) xs =
      ih (upd pending i []) (left_undecided {N = N} decides pending h (event i k) a true q) bs proper.1 (others i k a ys pending zs xs rear moved) behind in
      rw (line_same, kind-same, answer-same, front, same)

  alone : (xs : List (Item K N × A)) → Every (OnLine lines) (items xs) → Alone xs
  alone [] o pending h [] proper line ends = rests_only pending (λ i g. line i g ∙ append-nil _)
  alone [] o pending h (b ∷ bs) proper line ends = clash cc
  alone (x ∷ xs) o pending h bs proper line ends = go x.0 x.1 (decides x.1) refl o.0 (alone xs o.1) line ends
    where
      go : (e : Item K N) (a : A) (d : Bool) → decides a ≡ d → OnLine lines e → Alone xs
          → Lines (all_items bs (rests rest order)) pending ((e, a) ∷ xs) → map last_of bs ≡ only (is_end decides) ((e, a) ∷ xs)
          → all_items bs (rests rest order) ≡ out pending e a d ++ serial decides order (left pending e a d) xs
      go (event i k) a true q p ih line ends = stops xs ih i k a q p pending h bs proper line (rw q at ends)
      go (event i k) a false q p ih line ends = waits xs ih i k a q pending h bs proper line ends
      go (taking i n) a d q p ih line ends = takes xs ih i n a pending h bs proper line ends

pub rearranged_is : {K N A : Type 0} (decides : A → Bool) (lines : ℕ) (order : List ℕ) → OrderOf lines order
    → (xs zs : List (Item K N × A)) → Every (OnLine lines) (items xs) → Rearranged decides lines order xs zs → zs ≡ serialize decides order xs
rearranged_is decides lines order each xs zs o r =
    let v = r.whole in
    v.made
    ∙ alone decides lines order each v.rest v.unfinished xs o (λ i. []) (λ i. tt) v.parts v.proper
    (rw v.made at r.each_line)
    (sym (whole_ends decides lines order each v.rest v.unfinished v.parts v.proper) ∙ (rw v.made at r.ends))
