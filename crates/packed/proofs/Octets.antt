-- A number as bytes, the highest first: what a loop has read or written after some turns, and that what was written is read back.
-- Assumes nothing.
use Rattle.std.specs.Prelude.{None, Some}
use mathlib.Core.Path.{◌≡◌, refl, sym, ap, ◌∙◌}
use mathlib.Core.Bool.{Bool, true, false, cond, ◌&&◌}
use mathlib.Core.List.{List, [], ◌∷◌}
use Prim.Native.Nat.{ℕ, zero, suc, ◌+◌, ◌*◌, ◌/◌, ◌%◌, ◌^◌, ◌≤◌, ◌<◌}
use native.Mathlib.Nat.{add_comm, mod-eq_of_lt, div-eq_of_lt, div-eq-sub-div}
use native.Mathlib.Numerals.{add-one}
use native.Mathlib.Decide.{dec_le}
use native.Mathlib.Omega.{arith}
use lib.ListN.{length, get_or, set, replicate-append-replicate, length-replicate}
use lib.Seq.{drop-cons}
use lib.Pow.{pow_pos, pow_mono, pow-add, shr-shr}
use lib.Dec.{leb, ltb}
use borrow.Author.Tests.{le-leb, lt-leb, lt-ltb, le-ltb, leb-true}
use Rattle.memory.specs.Parts.{part, splice}
use Rattle.packed.specs.Fields.{width, pack, unpack, octets, longest_field, is_field, field_at, holds, with_field, FieldWritten}
use Rattle.memory.proofs.Parts.{part_add, part_splice, length_part, set_splice, splice_join_front, length_splice}
use Rattle.memory.proofs.Tests.{and_right}
use Rattle.packed.proofs.Packing.{pack_append, length_unpack, pack_unpack}

pub width_octets : (n : ℕ) → width (octets n) ≡ n * 8
width_octets zero = refl
width_octets (suc n) = omega (arith, width_octets n)

-- a byte more behind those read
one_byte : (d : List ℕ) (at : ℕ) → at < length d → part d at 1 ≡ get_or d at 0 ∷ []
unfolding part
one_byte d at h = rw (drop-cons d at 0 h)

pub read_more : (d : List ℕ) (at i : ℕ) → at + i < length d
    → pack (octets i) (part d at i) * 256 + get_or d (at + i) 0 ≡ pack (octets (i + 1)) (part d at (i + 1))
read_more d at i h =
    let n : length (octets i) ≡ length (part d at i) = length-replicate i 8 ∙ sym (length_part d at i (omega arith)) in
    rw (part_add d at i 1, one_byte d (at + i) h, ← replicate-append-replicate {A = ℕ} i 1 8)
    (omega (arith, pack_append (octets i) (part d at i) (8 ∷ []) (get_or d (at + i) 0 ∷ []) n))

-- a number of i bytes with a byte more behind it is one of i + 1, and one of up to 7 bytes leaves room for another
pub byte_more : (n b i : ℕ) → n < 2 ^ width (octets i) → b < 256 → n * 256 + b < 2 ^ width (octets (i + 1))
byte_more n b i h k = rw (add-one i, pow-add 2 8 (width (octets i))) (omega arith)

pub room_for_byte : (n i : ℕ) → n < 2 ^ width (octets i) → i < longest_field → n < 2 ^ 56
room_for_byte n i h k =
    let most : width (octets i) ≤ 56 = omega (arith, width_octets i) in
    omega (arith, pow_mono most)

-- a byte more in front of those written, which begin at `next`
pub write_more : (d : List ℕ) (at next k n : ℕ) → next ≡ at + 1 → at + (k + 1) ≤ length d
    → set (splice d next (unpack (octets k) n)) at (n / 2 ^ width (octets k) % 256) ≡ splice d at (unpack (octets (k + 1)) n)
write_more d at next k n e h =
    let bytes : length (unpack (octets k) n) ≡ k = length_unpack (octets k) n ∙ length-replicate k 8 in
    let long : length (splice d (at + 1) (unpack (octets k) n)) ≡ length d = length_splice d (at + 1) (unpack (octets k) n) (omega arith) in
    rw (e, set_splice (splice d (at + 1) (unpack (octets k) n)) at (n / 2 ^ width (octets k) % 256) (omega arith), add-one k)
    (splice_join_front d at (n / 2 ^ width (octets k) % 256 ∷ []) (unpack (octets k) n) (omega arith))

-- what is left of a number after one byte more is taken off it
pub rest_more : (n k : ℕ) → n / 2 ^ width (octets k) / 256 ≡ n / 2 ^ width (octets (k + 1))
rest_more n k = rw (add-one k, add_comm 8 (width (octets k))) (shr-shr n (width (octets k)) 8)

-- something is left exactly if the number is too large for its bytes
pub something_left : (n size : ℕ) → ltb 0 (n / 2 ^ width (octets size)) ≡ leb (2 ^ width (octets size)) n
something_left n size = elim (dec_le (2 ^ width (octets size)) n) [
  | yes h ↦
      let some : 0 < n / 2 ^ width (octets size) = rw (div-eq-sub-div (pow_pos (width (octets size))) h) (omega arith) in
      lt-ltb 0 (n / 2 ^ width (octets size)) some ∙ sym (le-leb (2 ^ width (octets size)) n h)
  | no h ↦
      let below : n < 2 ^ width (octets size) = omega arith in
      rw (div-eq_of_lt below) (sym (lt-leb (2 ^ width (octets size)) n below))
]

-- where there is a packed field, and where there is none
module _ (d : List ℕ) (at size : ℕ) where
  pub is_field_law : size ≤ longest_field → at + size ≤ length d → is_field d at size ≡ true
  is_field_law h k = rw (le-leb size longest_field h, le-leb (at + size) (length d) k)

  pub no_field : (size ≤ longest_field → at + size ≤ length d → ⊥) → is_field d at size ≡ false
  no_field n = elim (dec_le size longest_field) [
    | yes h ↦ rw (le-leb size longest_field h, lt-leb (at + size) (length d) (elim (dec_le (at + size) (length d)) [ yes k ↦ absurd (n h k) | no k ↦ omega arith ]))
    | no h ↦ rw (lt-leb size longest_field (omega arith))
  ]

  -- what each way out of writing a packed field says
  no_hold : (n : ℕ) → holds d at size n ≡ false → FieldWritten d at size n false d
  unfolding with_field
  no_hold n e = record { answer = sym e; after = rw e }

  pub written_outside : (n : ℕ) → (size ≤ longest_field → at + size ≤ length d → ⊥) → FieldWritten d at size n false d
  written_outside n f = no_hold n (rw (no_field f))

  pub written_large : (n : ℕ) → 2 ^ width (octets size) ≤ n → FieldWritten d at size n false d
  written_large n h = no_hold n (rw (le-ltb n (2 ^ width (octets size)) h) (never (is_field d at size)))
    where
      never : (b : Bool) → b && false ≡ false
      never true = refl
      never false = refl

  pub written_yes : (n : ℕ) {d' : List ℕ} → size ≤ longest_field → at + size ≤ length d → n < 2 ^ width (octets size)
      → d' ≡ splice d at (unpack (octets size) n) → FieldWritten d at size n true d'
  unfolding with_field
  written_yes n h k b e =
      let yes : holds d at size n ≡ true = rw (is_field_law h k, lt-ltb n (2 ^ width (octets size)) b) in
      record { answer = sym yes; after = rw yes e }

  -- what was written is read back
  pub field_read_back : (n : ℕ) → size ≤ longest_field → at + size ≤ length d → n < 2 ^ width (octets size)
      → field_at (splice d at (unpack (octets size) n)) at size ≡ Some n
  unfolding field_at
  field_read_back n h k b =
      let bytes : length (unpack (octets size) n) ≡ size = length_unpack (octets size) n ∙ length-replicate size 8 in
      let long : length (splice d at (unpack (octets size) n)) ≡ length d = length_splice d at (unpack (octets size) n) (omega arith) in
      let there : part (splice d at (unpack (octets size) n)) at size ≡ unpack (octets size) n =
      ap (part (splice d at (unpack (octets size) n)) at) (sym bytes) ∙ part_splice d at (unpack (octets size) n) (omega arith) in
      rw (long, le-leb size longest_field h, le-leb (at + size) (length d) k, there, pack_unpack (octets size) n, mod-eq_of_lt b)

  -- what writing did where the packed field holds the number
  pub written_fits : (n : ℕ) {r : Bool} {d' : List ℕ} → FieldWritten d at size n r d' → size ≤ longest_field → at + size ≤ length d → n < 2 ^ width (octets size)
      → (r ≡ true) × (d' ≡ splice d at (unpack (octets size) n))
  unfolding with_field
  written_fits n w h k b =
      let yes : holds d at size n ≡ true = rw (is_field_law h k, lt-ltb n (2 ^ width (octets size)) b) in
      (w.answer ∙ yes, w.after ∙ rw yes)

  -- what a packed field that was read says, and one that was not
  value_said : (b : Bool) (m n : ℕ) → cond b (Some m) None ≡ Some n → (b ≡ true) × (m ≡ n)
  value_said true m n e = (refl, cc)
  value_said false m n e = let z : ◌≡◌ {A = ℕ} 0 1 = cc in absurd (omega arith)

  pub field_value : (n : ℕ) → field_at d at size ≡ Some n → (at + size ≤ length d) × (pack (octets size) (part d at size) ≡ n)
  unfolding field_at
  field_value n e =
      let (t, q) = value_said (is_field d at size) (pack (octets size) (part d at size)) n e in
      (leb-true (at + size) (length d) (and_right (leb size longest_field) (leb (at + size) (length d)) t), q)

  pub field_outside : size ≤ longest_field → field_at d at size ≡ None → length d < at + size
  unfolding field_at
  field_outside h e = elim (dec_le (at + size) (length d)) [
    | yes k ↦
        let v : Some (pack (octets size) (part d at size)) ≡ None = rw (le-leb size longest_field h, le-leb (at + size) (length d) k) at e in
        let z : ◌≡◌ {A = ℕ} 0 1 = cc in
        absurd (omega arith)
    | no k ↦ omega arith
  ]
