-- The header: its size, what was written is read back, and what follows it does not matter. All that the other laws use of it.
-- Assumes nothing.
use mathlib.Core.Path.{◌≡◌, refl, sym, ap, ◌∙◌}
use mathlib.Core.List.{List, [], ◌∷◌, ◌++◌}
use Prim.Native.Nat.{ℕ, ◌/◌, ◌%◌, ◌^◌, ◌<◌, ◌≤◌}
use native.Mathlib.Nat.{div-one, mod-eq_of_lt}
use native.Mathlib.Omega.{arith}
use lib.ListN.{length, take, length-replicate}
use Rattle.memory.specs.Sizes.{lines, message_limit}
use Rattle.memory.specs.Parts.{part}
use Rattle.packed.specs.Fields.{width, pack, unpack, octets, longest_field}
use Rattle.memory.proofs.Parts.{part_append_left}
use Rattle.packed.proofs.Packing.{pack_below, unpack_pack, pack_unpack, length_unpack}
use Rattle.header.specs.Header.{head_widths, serial_count, least_head, head_size, head_number, header, fields_of, head_of}
use Rattle.header.specs.Inner.Entry.{Bytes}

pub head_size_low : (n : ℕ) → least_head ≤ head_size n
unfolding head_size
head_size_low n = omega arith

-- a header is one field of memory
pub head_size_high : (n : ℕ) → head_size n ≤ longest_field
unfolding head_size
head_size_high n = omega arith

pub length_header : (l k s : ℕ) → length (header l k s) ≡ head_size k
unfolding header
length_header l k s = length_unpack (octets (head_size k)) (head_number l k s) ∙ length-replicate (head_size k) 8

-- the fields as the code computes them
pub fields_by_number : (n : ℕ) → record { line = n / 536870912 % 8; spare = n / 268435456 % 2; count = n / 65536 % 4096; serial = n % 65536 } ≡ fields_of (unpack head_widths n)
fields_by_number n = rw (div-one n)

pub line_below : (bs : List ℕ) → (head_of bs).line < lines
unfolding head_of
line_below bs = omega arith

pub serial_below : (bs : List ℕ) → (head_of bs).serial < serial_count
unfolding head_of
serial_below bs = omega arith

module _ (l k s : ℕ) (line : l < lines) (most : k ≤ message_limit) (serial : s < serial_count) where
  -- the number fits the header's bytes
  pub head_number_below : head_number l k s < 2 ^ width (octets (head_size k))
  unfolding head_size
  head_number_below = pack_below head_widths (l ∷ 0 ∷ k ∷ s ∷ []) (omega arith, (omega arith, (omega arith, (omega arith, tt))))

  -- a header reads back as it was written, whatever follows it
  pub head_header : (rest : List ℕ) → head_of (header l k s ++ rest) ≡ record { line = l; spare = 0; count = k; serial = s }
  unfolding head_of header head_size part
  head_header rest =
      let n : ℕ = head_number l k s in
      let below : n < 4294967296 = pack_below head_widths (l ∷ 0 ∷ k ∷ s ∷ []) (omega arith, (omega arith, (omega arith, (omega arith, tt)))) in
      let same : pack (octets least_head) (unpack (octets least_head) n) ≡ n = pack_unpack (octets least_head) n ∙ mod-eq_of_lt below in
      ap (λ (m : ℕ). fields_of (unpack head_widths m)) same
      ∙ ap fields_of (unpack_pack head_widths (l ∷ 0 ∷ k ∷ s ∷ []) (omega arith, (omega arith, (omega arith, (omega arith, tt)))))

-- what follows a header does not matter to it
pub head_append : (p r : List ℕ) → least_head ≤ length p → head_of (p ++ r) ≡ head_of p
unfolding head_of
head_append p r h = rw (part_append_left p r 0 least_head h)

-- the header that was read, spelt again
four : (x y v w : ℕ) (bs : List ℕ) → x < 256 → y < 256 → v < 256 → w < 256 → (head_of (x ∷ y ∷ v ∷ w ∷ bs)).spare ≡ 0
    → header (head_of (x ∷ y ∷ v ∷ w ∷ bs)).line (head_of (x ∷ y ∷ v ∷ w ∷ bs)).count (head_of (x ∷ y ∷ v ∷ w ∷ bs)).serial ≡ take (head_size (head_of (x ∷ y ∷ v ∷ w ∷ bs)).count) (x ∷ y ∷ v ∷ w ∷ bs)
unfolding header head_of head_size part
four x y v w bs a b c d z =
    let n : ℕ = pack (octets least_head) (x ∷ y ∷ v ∷ w ∷ []) in
    let below : n < 4294967296 = pack_below (octets least_head) (x ∷ y ∷ v ∷ w ∷ []) (a, (b, (c, (d, tt)))) in
    let same : pack head_widths (unpack head_widths n) ≡ n = pack_unpack head_widths n ∙ mod-eq_of_lt below in
    let m : pack head_widths (n / 536870912 % 8 ∷ 0 ∷ n / 65536 % 4096 ∷ n / 1 % 65536 ∷ []) ≡ n =
    ap (λ (q : ℕ). pack head_widths (n / 536870912 % 8 ∷ q ∷ n / 65536 % 4096 ∷ n / 1 % 65536 ∷ [])) (sym z) ∙ same in
    ap (unpack (octets least_head)) m ∙ unpack_pack (octets least_head) (x ∷ y ∷ v ∷ w ∷ []) (a, (b, (c, (d, tt))))

pub respelt : (bs : List ℕ) → Bytes bs → (head_of bs).spare ≡ 0 → least_head ≤ length bs → header (head_of bs).line (head_of bs).count (head_of bs).serial ≡ take (head_size (head_of bs).count) bs
respelt [] b z h = absurd (omega arith)
respelt (x ∷ []) b z h = absurd (omega arith)
respelt (x ∷ y ∷ []) b z h = absurd (omega arith)
respelt (x ∷ y ∷ v ∷ []) b z h = absurd (omega arith)
respelt (x ∷ y ∷ v ∷ w ∷ bs) b z h = four x y v w bs b.0 b.1.0 b.1.1.0 b.1.1.1.0 z

-- line 5, 4,000 bytes, serial 65,535: AF A0 FF FF
pub a_header : header 5 4000 65535 ≡ 175 ∷ 160 ∷ 255 ∷ 255 ∷ []
unfolding header head_size
a_header = refl

pub a_header_back : head_of (175 ∷ 160 ∷ 255 ∷ 255 ∷ []) ≡ record { line = 5; spare = 0; count = 4000; serial = 65535 }
unfolding head_of part
a_header_back = refl
