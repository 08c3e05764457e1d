-- What each test of the numbers decides.
-- Assumes nothing.
use mathlib.Core.Path.{◌≡◌, refl, sym, ap, ◌∙◌}
use mathlib.Core.Bool.{Bool, true, false, not, ◌&&◌}
use mathlib.Core.List.{List}
use Prim.Native.Nat.{ℕ, ◌+◌, ◌-◌, ◌≤◌, ◌<◌}
use native.Mathlib.Omega.{arith}
use borrow.Author.Tests.{lt-ltb, le-ltb, ltb-true, leb-true, le-leb, eqb-true, eqb-false, eq-eqb, ne_eqb}
use lib.Dec.{leb, ltb, eqb}
use lib.ListN.{length, set}
use Rattle.memory.specs.Sizes.{lines, frame_limit, frames_size}
use Rattle.memory.specs.Tests.{is}
use Rattle.characters.specs.Control.{lf}
use Rattle.line.specs.Line.{most_collected}
use Rattle.memory.proofs.Tests.{and_left, and_right, and_both, and_not_right}
use Rattle.looking.specs.Views.{frame_start}
use Rattle.looking.specs.declared.Kind.{Kind}
use Rattle.layout.specs.Layout.{first_at, number_at}
use Rattle.numbers.specs.Plain.{inside, quick, only_collects, sending_fits, counts_fit, speech_fits, within_numbers, one_more, begins, inside_at}
use Rattle.numbers.proofs.Numbers.{within_others, within_unfit}
use Rattle.numbers.specs.Inner.Quick.{receives}
use Rattle.numbers.specs.Changes.{is_within, is_collected, Collected, is_begun, Begun}

and_yes : (a b : Bool) → a && (b && true) ≡ a && b
and_yes true true = refl
and_yes true false = refl
and_yes false b = refl

-- a byte is quick by the line's limits, and by what is collected
module _ (ns : List ℕ) (i b : ℕ) where
  pub quick_beyond : within_numbers ns i ≡ false → false ≡ quick ns i b
  quick_beyond w = rw w (sym (and_false (only_collects ns i b)))
    where
      and_false : (a : Bool) → a && false ≡ false
      and_false true = refl
      and_false false = refl

  -- a strip reader's byte is not quick, nor one on a line that refuses
  pub quick_reader : (number_at ns i 10 ≡ 0 → ⊥) → false ≡ quick ns i b
  unfolding only_collects
  quick_reader e = rw (ne_eqb (number_at ns i 10) 0 e) (sym (both_false (eqb (first_at ns i) inside) (not (is lf b)) (within_numbers ns i)))
    where
      both_false : (a c d : Bool) → (a && (c && false)) && d ≡ false
      both_false true true d = refl
      both_false true false d = refl
      both_false false c d = refl

  pub quick_refusing : (number_at ns i 6 ≡ 0 → ⊥) → false ≡ quick ns i b
  unfolding only_collects
  quick_refusing e = rw (ne_eqb (number_at ns i 6) 0 e) (sym (all_false (eqb (first_at ns i) inside) (not (is lf b)) (eqb (number_at ns i 10) 0) (within_numbers ns i)))
    where
      all_false : (a c d f : Bool) → (a && (c && (d && false))) && f ≡ false
      all_false true true true f = refl
      all_false true true false f = refl
      all_false true false d f = refl
      all_false false c d f = refl

  -- a line that sends, or a reader's, or one that refuses
  pub quick_busy : first_at ns i ≡ inside → receives (number_at ns i 8) (number_at ns i 9) (number_at ns i 10) (number_at ns i 6) ≡ false → false ≡ quick ns i b
  quick_busy s r = by_speech (eqb (number_at ns i 10) 0) refl (eqb (number_at ns i 6) 0) refl
    where
      by_speech : (t : Bool) → eqb (number_at ns i 10) 0 ≡ t → (u : Bool) → eqb (number_at ns i 6) 0 ≡ u → false ≡ quick ns i b
      by_speech true q true p = quick_beyond (sym (within_unfit ns i (omega (arith, s)) (rw s (sym (and_yes (eqb (number_at ns i 8) 0) (eqb (number_at ns i 9) 0)) ∙ rw (q, p) at r))))
      by_speech true q false p = quick_refusing (eqb-false (number_at ns i 6) 0 p)
      by_speech false q u p = quick_reader (eqb-false (number_at ns i 10) 0 q)

  -- one that receives
  pub record Idle : Type 0 where
    pub speaks : number_at ns i 10 ≡ 0
    pub willing : number_at ns i 6 ≡ 0
    pub fits : sending_fits (first_at ns i) (number_at ns i 8) (number_at ns i 9) ≡ true

  pub quick_idle : first_at ns i ≡ inside → receives (number_at ns i 8) (number_at ns i 9) (number_at ns i 10) (number_at ns i 6) ≡ true → Idle
  quick_idle s r =
      let rest = and_right (eqb (number_at ns i 8) 0) _ r in
      let last = and_right (eqb (number_at ns i 9) 0) _ rest in
      record {
        speaks = eqb-true (number_at ns i 10) 0 (and_left (eqb (number_at ns i 10) 0) _ last);
        willing = eqb-true (number_at ns i 6) 0 (and_right (eqb (number_at ns i 10) 0) _ last);
        fits = rw s (and_both (eqb (number_at ns i 8) 0) (eqb (number_at ns i 9) 0) (and_left (eqb (number_at ns i 8) 0) _ r) (and_left (eqb (number_at ns i 9) 0) _ rest));
      }

  module _ (s : first_at ns i ≡ inside) (n : b ≡ lf → ⊥) (x : Idle) where
    within_speech : within_numbers ns i ≡ counts_fit ns i && leb (number_at ns i 1) (frame_limit - 2)
    unfolding speech_fits most_collected
    within_speech = within_others ns i (omega (arith, s)) x.fits ∙ ap (λ (y : Bool). counts_fit ns i && y) (rw (x.speaks, x.willing))

    pub quick_full : frame_limit - 2 ≤ number_at ns i 1 → false ≡ quick ns i b
    unfolding only_collects most_collected
    quick_full c = by_count (leb (number_at ns i 1) (frame_limit - 2)) refl
      where
        by_count : (t : Bool) → leb (number_at ns i 1) (frame_limit - 2) ≡ t → false ≡ quick ns i b
        by_count true q =
            let same : number_at ns i 1 ≡ frame_limit - 2 = omega (arith, leb-true (number_at ns i 1) (frame_limit - 2) q) in
            rw (s, ne_eqb b lf n, x.speaks, x.willing, eq-eqb (number_at ns i 1) (frame_limit - 2) same)
        by_count false q = quick_beyond (within_speech ∙ and_not_right (counts_fit ns i) _ q)

    only : number_at ns i 1 < frame_limit - 2 → only_collects ns i b ≡ true
    unfolding only_collects most_collected
    only c = rw (s, ne_eqb b lf n, x.speaks, x.willing, ne_eqb (number_at ns i 1) (frame_limit - 2) (λ q. absurd (omega arith)))

    pub quick_rest : number_at ns i 1 < frame_limit - 2 → quick ns i b ≡ counts_fit ns i
    quick_rest c =
        ap (λ (y : Bool). y && within_numbers ns i) (only c) ∙ within_speech ∙ ap (λ (y : Bool). counts_fit ns i && y) (le-leb (number_at ns i 1) (frame_limit - 2) (omega arith))
        ∙ and_true (counts_fit ns i)
      where
        and_true : (a : Bool) → a && true ≡ a
        and_true true = refl
        and_true false = refl

-- a byte: not collected on no line, in frames of another size, or where it is not quick
module _ (ns : List ℕ) (i b : ℕ) (f : List ℕ) where
  left : is_collected ns i b f ≡ false → Collected ns i b f false ns f
  left e = record { result = sym e; numbers = rw e; frames = rw e }

  pub left_nowhere : lines ≤ i → Collected ns i b f false ns f
  unfolding is_collected
  left_nowhere h = left (rw (le-ltb i lines h))

  pub left_size : i < lines → (length f ≡ frames_size → ⊥) → Collected ns i b f false ns f
  unfolding is_collected
  left_size h s = left (rw (lt-ltb i lines h, ne_eqb (length f) frames_size s))

  module _ (h : i < lines) (s : length f ≡ frames_size) where
    test : {t : Bool} → quick ns i b ≡ t → is_collected ns i b f ≡ t
    unfolding is_collected
    test q = rw (lt-ltb i lines h, eq-eqb (length f) frames_size s) q

    pub left_other : quick ns i b ≡ false → Collected ns i b f false ns f
    left_other q = left (test q)

    pub collected : {ns' f' : List ℕ} → quick ns i b ≡ true → ns' ≡ one_more ns i → f' ≡ set f (frame_start i + number_at ns i 1) b → Collected ns i b f true ns' f'
    collected q n g = record { result = sym (test q); numbers = rw (test q) n; frames = rw (test q) g }

  pub quick_frames : quick ns i b ≡ true → number_at ns i 10 ≡ 0
  unfolding only_collects
  quick_frames q =
      let all = and_left (only_collects ns i b) (within_numbers ns i) q in
      let past = and_right (eqb (first_at ns i) inside) _ all in
      eqb-true (number_at ns i 10) 0 (and_left (eqb (number_at ns i 10) 0) _ (and_right (not (is lf b)) _ past))

  pub quick_within : quick ns i b ≡ true → within_numbers ns i ≡ true
  quick_within q = and_right (only_collects ns i b) (within_numbers ns i) q

-- an event that begins a frame, or none
module _ (ns : List ℕ) (i : ℕ) (k : Kind) where
  pub begun_nowhere : lines ≤ i → Begun ns i k false ns
  unfolding is_begun
  begun_nowhere h = record { result = rw (le-ltb i lines h); numbers = rw (le-ltb i lines h) }

  pub not_begun : i < lines → begins ns i k ≡ false → Begun ns i k false ns
  unfolding is_begun
  not_begun h q = record { result = rw (lt-ltb i lines h, q); numbers = rw (lt-ltb i lines h, q) }

  pub begun : i < lines → begins ns i k ≡ true → Begun ns i k true (inside_at ns i)
  unfolding is_begun
  begun h q = record { result = rw (lt-ltb i lines h, q); numbers = rw (lt-ltb i lines h, q) }

-- numbers that stand for a record, or none
module _ (ns : List ℕ) (i : ℕ) where
  pub within_nowhere : lines ≤ i → false ≡ is_within ns i
  unfolding is_within
  within_nowhere h = rw (le-ltb i lines h)

  pub within_there : {r : Bool} → i < lines → r ≡ within_numbers ns i → r ≡ is_within ns i
  unfolding is_within
  within_there h w = rw (lt-ltb i lines h) w

  pub within_facts : is_within ns i ≡ true → (i < lines) × (within_numbers ns i ≡ true)
  unfolding is_within
  within_facts e = (ltb-true i lines (and_left (ltb i lines) (within_numbers ns i) e), and_right (ltb i lines) (within_numbers ns i) e)

  pub not_within : i < lines → is_within ns i ≡ false → within_numbers ns i ≡ false
  not_within h e = within_there h refl ∙ e
