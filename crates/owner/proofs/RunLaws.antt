-- The runs of records that the two readers go through.
-- Assumes nothing.
use mathlib.Core.Path.{◌≡◌, refl, sym, ◌∙◌}
use mathlib.Core.List.{List}
use Prim.Native.Nat.{ℕ, zero, suc, ◌+◌, ◌<◌, ◌≤◌}
use native.Mathlib.Omega.{arith}
use native.Mathlib.Numerals.{add-one}
use native.Mathlib.Decide.{dec_lt}
use lib.ListN.{length, get_or, set}
use lib.Seq.{get_or-set_same, get_or-set_other}
use borrow.Author.Tests.{lt-ltb, le-ltb}
use Rattle.owner.specs.Inner.Nearest.{depth_at, nearest, nearest_owner, Ready, Ran}

-- records that do not stand less deep than l are passed over
near_skip : (ts : List ℕ) (l n m : ℕ) → n ≤ m → ((k : ℕ) → n ≤ k → k < m → l ≤ depth_at ts k) → nearest ts m l ≡ nearest ts n l
near_skip ts l n zero h f = let e : n ≡ 0 = omega arith in rw e
near_skip ts l n (suc k) h f =
    elim (dec_lt k n) [
      | yes q ↦ let e : n ≡ suc k = omega arith in rw e
      | no q ↦
          let b : l ≤ depth_at ts k = f k (omega arith) (omega arith) in
          rw (le-ltb (depth_at ts k) l b) (near_skip ts l n k (omega arith) (λ j p r. f j p (omega arith)))
    ]

-- what stands deeper than `over` is a record: behind the last one the depth is 0
pub inside : (ts : List ℕ) (at over d : ℕ) → (length ts ≤ at → d ≡ 0) → over < d → at < length ts
inside ts at over d none h = elim (dec_lt at (length ts)) [ yes p ↦ p | no p ↦ let z = none (omega arith) in absurd (omega arith) ]

-- right behind record n, what stands deeper than it belongs to it
pub ready_child : (ts : List ℕ) (n : ℕ) → Ready ts (depth_at ts n) (n + 1) (n + 1)
ready_child ts n in-it l h k = rw (add-one, lt-ltb (depth_at ts n) l h)

-- behind what record n owns, the run of n's owner goes on
pub ready_on : (ts os os' : List ℕ) (over n m owner : ℕ) → Ready ts over n owner → n < length ts
    → Ran ts os os' (depth_at ts n) n (n + 1) m → Ready ts over m owner
ready_on ts os os' over n m owner ready in-n r in-m l h k =
    let a : depth_at ts m ≤ depth_at ts n = r.stops in-m in
    let u : n + 1 ≤ m = r.up in
    near_skip ts l n m (omega arith) each ∙ ready in-n l h (omega arith)
  where
    each : (j : ℕ) → n ≤ j → j < m → l ≤ depth_at ts j
    each j p q =
        elim (dec_lt n j) [
          | yes g ↦ let b : depth_at ts n < depth_at ts j = r.deeper j (omega arith) q in let a : depth_at ts m ≤ depth_at ts n = r.stops in-m in omega arith
          | no g ↦ let e : j ≡ n = omega arith in rw e (let a : depth_at ts m ≤ depth_at ts n = r.stops in-m in omega arith)
        ]

-- an empty run
pub ran_none : (ts os : List ℕ) (over n : ℕ) → n ≤ length ts → (n < length ts → depth_at ts n ≤ over) → Ran ts os os over n n n
ran_none ts os over n h s =
    record {
      up = omega arith;
      within = h;
      deeper = λ k p q. absurd (omega arith);
      stops = s;
      done = λ k p q. absurd (omega arith);
      before = λ k p. refl;
      behind = λ k p. refl;
    }

-- an owner and the rest of its run
pub ran_on : (ts os os₁ os₂ : List ℕ) (over n m₁ m₂ : ℕ) → over < depth_at ts n
    → Ran ts os os₁ (depth_at ts n) n (n + 1) m₁ → Ran ts os₁ os₂ over m₁ m₁ m₂ → Ran ts os os₂ over n n m₂
ran_on ts os os₁ os₂ over n m₁ m₂ d a b =
    let u₁ : n + 1 ≤ m₁ = a.up in
    let u₂ : m₁ ≤ m₂ = b.up in
    record {
      up = omega arith;
      within = b.within;
      deeper = deeper;
      stops = b.stops;
      done = done;
      before = λ k p. b.before k (omega arith) ∙ a.before k p;
      behind = λ k p. b.behind k p ∙ a.behind k (omega arith);
    }
  where
    deeper : (k : ℕ) → n ≤ k → k < m₂ → over < depth_at ts k
    deeper k p q =
        elim (dec_lt k m₁) [
          | no g ↦ b.deeper k (omega arith) q
          | yes g ↦ elim (dec_lt n k) [
            | yes z ↦ let f : depth_at ts n < depth_at ts k = a.deeper k (omega arith) g in omega arith
            | no z ↦ let e : k ≡ n = omega arith in rw e d
          ]
        ]

    done : (k : ℕ) → n ≤ k → k < m₂ → get_or os₂ k 0 ≡ nearest_owner ts k
    done k p q =
        elim (dec_lt k m₁) [
          | no g ↦ b.done k (omega arith) q
          | yes g ↦ b.before k g ∙ a.done k p g
        ]

-- record n with its owner, and its run
pub ran_owner : (ts os os' : List ℕ) (n m owner : ℕ) → n < length os → nearest ts n (depth_at ts n) ≡ owner
    → Ran ts (set os n owner) os' (depth_at ts n) (n + 1) (n + 1) m → Ran ts os os' (depth_at ts n) n (n + 1) m
unfolding nearest_owner
ran_owner ts os os' n m owner h e r =
    let u : n + 1 ≤ m = r.up in
    record {
      up = u;
      within = r.within;
      deeper = r.deeper;
      stops = r.stops;
      done = done;
      before = λ k p. r.before k (omega arith) ∙ get_or-set_other os n k owner 0 (λ q. omega arith);
      behind = λ k p. r.behind k p ∙ get_or-set_other os n k owner 0 (λ q. omega arith);
    }
  where
    done : (k : ℕ) → n ≤ k → k < m → get_or os' k 0 ≡ nearest_owner ts k
    done k p q =
        elim (dec_lt n k) [
          | yes z ↦ r.done k (omega arith) q
          | no z ↦ let f : k ≡ n = omega arith in rw f (r.before n (omega arith) ∙ get_or-set_same os n owner 0 h ∙ sym e)
        ]
