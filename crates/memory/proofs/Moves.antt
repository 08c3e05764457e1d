-- What a loop that copies or closes up has done after i turns, and what each way out of it says.
-- Assumes nothing.
use mathlib.Core.Path.{◌≡◌, refl, sym, ap, ◌∙◌}
use mathlib.Core.Bool.{Bool, true, false}
use mathlib.Core.List.{List, ◌++◌, append-nil}
use Prim.Native.Nat.{ℕ, ◌+◌, ◌-◌, ◌≤◌, ◌<◌}
use native.Mathlib.Nat.{add-zero, zero-add}
use native.Mathlib.Decide.{dec_le}
use native.Mathlib.Omega.{arith}
use lib.ListN.{length, take, drop, length-take, length-drop, drop_of_length-le}
use lib.Seq.{take_all, length-take-le, drop-drop}
use borrow.Rule.Slice.PartMut.{put_mid}
use borrow.Author.Tests.{le-leb, lt-leb}
use Rattle.memory.specs.Parts.{part, splice}
use Rattle.memory.specs.Moves.{copied, has_gap, later, closed_up, Copied, ClosedUp}
use Rattle.memory.proofs.Parts.{length_part, part_start, part_lent, part_part, part_add, part_behind, take_through, splice_from, splice_join}

-- what was laid over the start of a buffer is there
pub held : (b s : List ℕ) {b' : List ℕ} → length s ≤ length b → b' ≡ splice b 0 s → take (length s) b' ≡ s
held b s h e = rw e (rw zero-add at (take_through b 0 s (rw zero-add h)))

-- the same of n bytes of d from `at` on, which were lent
pub piece_held : (b d : List ℕ) (at n : ℕ) {b' : List ℕ} → n ≤ length b → at + n ≤ length d → b' ≡ splice b 0 (take (at + n - at) (drop at d)) → take n b' ≡ part d at n
piece_held b d at n h k e =
    let long : length (part d at n) ≡ n = length_part d at n k in
    rw long at (held b (part d at n) (rw long h) (e ∙ ap (splice b 0) (part_lent d at n)))

-- the n bytes of d from `at` on were lent, and are s now
pub put_splice : (d : List ℕ) (at n : ℕ) {s x : List ℕ} → x ≡ s → length s ≡ n → put_mid at (at + n - at) d x ≡ splice d at s
unfolding splice
put_splice d at n {s} h e =
    let long : at + n - at ≡ length s = omega arith in
    rw (long, h, drop-drop)

-- a piece more of s is copied
pub copy_on : (d : List ℕ) (at : ℕ) (s : List ℕ) (i n : ℕ) → at + length s ≤ length d → i + n ≤ length s
    → splice (splice d at (take i s)) (at + i) (part s i n) ≡ splice d at (take (i + n) s)
copy_on d at s i n h k =
    let front : length (take i s) ≡ i = length-take-le i s (omega arith) in
    let long : length (part s i n) ≡ n = length_part s i n k in
    let both : take (i + n) s ≡ take i s ++ part s i n = rw (← part_start s (i + n), part_add s 0 i n, part_start s i, zero-add) in
    ap (λ (m : ℕ). splice (splice d at (take i s)) (at + m) (part s i n)) (sym front)
    ∙ splice_join d at (take i s) (part s i n) (omega arith)
    ∙ ap (splice d at) (sym both)

module _ (d : List ℕ) (at : ℕ) (s : List ℕ) where
  pub copied_no : length d < at + length s → Copied d at s false d
  unfolding copied
  copied_no h = record { answer = rw (lt-leb (at + length s) (length d) h); after = rw (lt-leb (at + length s) (length d) h) }

  pub copied_yes : {r : Bool} {d' : List ℕ} → at + length s ≤ length d → r ≡ true → d' ≡ splice d at s → Copied d at s r d'
  unfolding copied
  copied_yes h e k = record { answer = rw (le-leb (at + length s) (length d) h) e; after = rw (le-leb (at + length s) (length d) h) k }

  -- what copying did where s fits
  pub copied_fits : {r : Bool} {d' : List ℕ} → Copied d at s r d' → at + length s ≤ length d → (r ≡ true) × (d' ≡ splice d at s)
  unfolding copied
  copied_fits c h = (c.answer ∙ le-leb (at + length s) (length d) h, c.after ∙ rw (le-leb (at + length s) (length d) h))

-- s was laid over the start of d
pub laid_start : (d s : List ℕ) {x : List ℕ} → length s ≤ length d → x ≡ s → Copied d 0 s true (x ++ drop (length s) d)
unfolding splice
laid_start d s h e =
    let fits : 0 + length s ≤ length d = omega arith in
    copied_yes d 0 s fits refl (rw (e, zero-add))

-- the bytes of s from k on were laid over those of d from k on: that copies s where k is 0, since the bytes of d before k stay
pub laid_from : (d s : List ℕ) (k : ℕ) {x : List ℕ} → length s ≤ length d → k ≡ 0 → x ≡ take (length s - k) (drop k s) → Copied d 0 s true (put_mid k (length s - k) d x)
laid_from d s k h z e =
    let all : length s - 0 ≡ length s = omega arith in
    rw (z, all) (laid_start d s h (rw (z, all) at e ∙ take_all (length s) s (omega arith)))

-- the two ways to lay s over the start of d
pub ruleset laid = (laid_start, laid_from)

-- the part from `at` on was lent, s was laid over its start, and it is back in its place
pub laid_back : (d : List ℕ) (at : ℕ) (s m b : List ℕ) → at + length s ≤ length d → m ≡ take (length d - at) (drop at d) → b ≡ splice m 0 s
    → take at d ++ (b ++ drop (length d - at) (drop at d)) ≡ splice d at s
laid_back d at s m b h e laid =
    let whole : m ≡ drop at d = e ∙ take_all (length d - at) (drop at d) (rw length-drop (omega arith)) in
    let over : length (drop at d) ≤ length d - at = rw length-drop (omega arith) in
    rw (drop_of_length-le (drop at d) over, append-nil, laid, whole, ← splice_from d at 0 s (omega arith), add-zero)

-- the same of the part that was lent to the copier
pub lent_back : (d : List ℕ) (at : ℕ) (s m b : List ℕ) (r : Bool) → at + length s ≤ length d → m ≡ take (length d - at) (drop at d) → Copied m 0 s r b
    → Copied d at s r (take at d ++ (b ++ drop (length d - at) (drop at d)))
lent_back d at s m b r h e c =
    let fits : 0 + length s ≤ length m = rw (e, length-take, length-drop) (omega arith) in
    let (done, laid) = copied_fits m 0 s c fits in
    copied_yes d at s h done (laid_back d at s m b h e laid)

-- the later bytes are where they were until their turn comes
pub close_on : (d : List ℕ) (at gap end j n : ℕ) → end ≤ length d → at + gap + j + n ≤ end
    → splice (splice d at (take j (later d at gap end))) (at + j) (part (splice d at (take j (later d at gap end))) (at + j + gap) n)
    ≡ splice d at (take (j + n) (later d at gap end))
close_on d at gap end j n h k =
    let long : length (later d at gap end) ≡ end - (at + gap) = length_part d (at + gap) (end - (at + gap)) (omega arith) in
    let moved : length (take j (later d at gap end)) ≡ j = length-take-le j (later d at gap end) (omega arith) in
    let same : at + j + gap ≡ at + gap + j = omega arith in
    let still : part (splice d at (take j (later d at gap end))) (at + j + gap) n ≡ part (later d at gap end) j n =
    part_behind d at (take j (later d at gap end)) (omega arith) (at + j + gap) n (omega arith)
    ∙ ap (λ (i : ℕ). part d i n) same
    ∙ sym (part_part d (at + gap) (end - (at + gap)) j n (omega arith)) in
    rw still (copy_on d at (later d at gap end) j n (omega arith) (omega arith))

module _ (d : List ℕ) (at gap end : ℕ) where
  pub closed_no : (end ≤ length d → at + gap ≤ end → ⊥) → ClosedUp d at gap end false d
  unfolding closed_up
  closed_no n = record { answer = sym none; after = rw none }
    where
      none : has_gap d at gap end ≡ false
      none = elim (dec_le end (length d)) [
        | yes h ↦ rw (le-leb end (length d) h, lt-leb (at + gap) end (elim (dec_le (at + gap) end) [ yes k ↦ absurd (n h k) | no k ↦ omega arith ]))
        | no h ↦ rw (lt-leb end (length d) (omega arith))
      ]

  pub closed_yes : {d' : List ℕ} → end ≤ length d → at + gap ≤ end → d' ≡ splice d at (later d at gap end) → ClosedUp d at gap end true d'
  unfolding closed_up
  closed_yes h k e = record { answer = rw (le-leb end (length d) h, le-leb (at + gap) end k); after = rw (le-leb end (length d) h, le-leb (at + gap) end k) e }

  -- what closing up did where there is a gap
  pub closed_fits : {r : Bool} {d' : List ℕ} → ClosedUp d at gap end r d' → end ≤ length d → at + gap ≤ end → (r ≡ true) × (d' ≡ splice d at (later d at gap end))
  unfolding closed_up
  closed_fits c h k = (c.answer ∙ rw (le-leb end (length d) h, le-leb (at + gap) end k), c.after ∙ rw (le-leb end (length d) h, le-leb (at + gap) end k))
