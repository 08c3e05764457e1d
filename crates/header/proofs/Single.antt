-- One entry: its size, what was written is read back, and what follows it does not matter. All that laws of chains use of it.
-- Assumes nothing.
use mathlib.Core.Path.{◌≡◌, refl, sym, ap, ◌∙◌}
use mathlib.Core.List.{List, ◌++◌}
use mathlib.Core.Bool.{Bool, true, false}
use Prim.Native.Nat.{ℕ, ◌+◌, ◌<◌, ◌≤◌}
use Rattle.std.specs.Prelude.{cond, Some, None}
use native.Mathlib.Nat.{add-zero}
use native.Mathlib.Omega.{arith}
use lib.ListN.{length, take, drop, length-append, take-append-drop}
use lib.Seq.{length-take-le, take-add, take-length}
use borrow.Author.Tests.{lt-leb}
use Rattle.memory.specs.Sizes.{lines, message_limit}
use Rattle.memory.specs.Parts.{part, splice}
use Rattle.packed.specs.Fields.{longest_field, FieldWritten}
use Rattle.memory.proofs.Parts.{length_part, part_append_left, part_append_right, part_start}
use Rattle.packed.proofs.Octets.{written_fits}
use Rattle.memory.proofs.Tests.{clash}
use Rattle.header.specs.Header.{serial_count, least_head, head_size, entry_size, head_number, header, head_of}
use Rattle.header.specs.Entry.{Entry, encode, size, starts, first, first_head}
use Rattle.header.specs.Inner.Entry.{Bytes}
use Rattle.header.proofs.Heads.{head_size_low, head_size_high, head_number_below, head_header, head_append, length_header, line_below, serial_below, respelt}
use Rattle.header.proofs.Starts.{Starts, starts_facts}
use Rattle.header.specs.declared.Header.{Header}

-- an entry that a chain can hold
pub record Sound (e : Entry) : Type 0 where
  pub line : e.line < lines
  pub serial : e.serial < serial_count
  pub low : 1 ≤ length e.text
  pub high : length e.text ≤ message_limit

-- ---- sizes

pub size_pos : (e : Entry) → least_head ≤ size e
unfolding size
size_pos e = omega (arith, head_size_low (length e.text))

pub text_first : (bs : List ℕ) → Starts bs → length (first bs).text ≡ (head_of bs).count
unfolding first
text_first bs s = length_part bs (head_size (head_of bs).count) (head_of bs).count s.room

pub size_first : (bs : List ℕ) → Starts bs → size (first bs) ≡ entry_size (head_of bs).count
unfolding size
size_first bs s = rw (text_first bs s)

pub sound_first : (bs : List ℕ) → starts bs ≡ true → Sound (first bs)
unfolding first
sound_first bs t =
    let s = starts_facts bs t in
    let n = text_first bs s in
    record { line = line_below bs; serial = serial_below bs; low = rw n s.low; high = rw n s.high }

-- ---- what a header that was read says of the bytes

pub first_some : (cs : List ℕ) {h : Header} → first_head cs ≡ Some h → (starts cs ≡ true) × (h ≡ head_of cs)
unfolding first_head
first_some cs {h = h} e = by_start (starts cs) refl e
  where
    by_start : (b : Bool) → starts cs ≡ b → cond b (Some (head_of cs)) None ≡ Some h → (starts cs ≡ true) × (h ≡ head_of cs)
    by_start true s q = (s, cc)
    by_start false s q = clash cc

pub first_none : (cs : List ℕ) → first_head cs ≡ None → starts cs ≡ false
unfolding first_head
first_none cs e = by_start (starts cs) refl e
  where
    by_start : (b : Bool) → starts cs ≡ b → cond b (Some (head_of cs)) None ≡ None → starts cs ≡ false
    by_start true s q = clash cc
    by_start false s q = s

-- bytes that start with a whole entry have its header
pub first_is : (cs : List ℕ) → starts cs ≡ true → first_head cs ≡ Some (head_of cs)
unfolding first_head
first_is cs t = rw t

-- bytes that are too few for a header are no entry
pub too_few : (cs : List ℕ) → length cs < least_head → starts cs ≡ false
unfolding starts
too_few cs h = rw (lt-leb least_head (length cs) h)

-- ---- what follows an entry does not matter to it

pub starts_append : (p r : List ℕ) → Starts p → Starts (p ++ r)
starts_append p r s =
    let e = head_append p r s.least in
    let n = length-append p r in
    record { least = omega (arith, n, s.least); spare = rw e s.spare; low = rw e s.low; high = rw e s.high; room = rw e (omega (arith, n, s.room)) }

pub first_append : (p r : List ℕ) → Starts p → first (p ++ r) ≡ first p
unfolding first
first_append p r s =
    rw (head_append p r s.least, part_append_left p r (head_size (head_of p).count) (head_of p).count s.room)

-- the first entry's bytes alone start with it
pub starts_cut : (bs : List ℕ) (n : ℕ) → Starts bs → n ≡ size (first bs) → Starts (take n bs)
starts_cut bs n s q =
    let k : n ≡ entry_size (head_of bs).count = q ∙ size_first bs s in
    let low = head_size_low (head_of bs).count in
    let long : length (take n bs) ≡ n = length-take-le n bs (omega (arith, k, s.room)) in
    let h : head_of (take n bs) ≡ head_of bs = sym (head_append (take n bs) (drop n bs) (omega (arith, long, k, low))) ∙ ap head_of (take-append-drop n bs) in
    record { least = omega (arith, long, k, low); spare = rw h s.spare; low = rw h s.low; high = rw h s.high; room = rw h (omega (arith, long, k)) }

pub first_cut : (bs : List ℕ) (n : ℕ) → Starts bs → n ≡ size (first bs) → first (take n bs) ≡ first bs
first_cut bs n s q = sym (first_append (take n bs) (drop n bs) (starts_cut bs n s q)) ∙ ap first (take-append-drop n bs)

-- ---- an entry that was written

pub encode_long : (e : Entry) → length (encode e) ≡ size e
unfolding encode size
encode_long e = rw (length-append, length_header)

encode_head : (e : Entry) → Sound e → head_of (encode e) ≡ record { line = e.line; spare = 0; count = length e.text; serial = e.serial }
unfolding encode
encode_head e s = head_header e.line (length e.text) e.serial s.line s.high s.serial e.text

pub encode_starts : (e : Entry) → Sound e → Starts (encode e)
unfolding size
encode_starts e s =
    let h = encode_head e s in
    let n : length (encode e) ≡ entry_size (length e.text) = encode_long e in
    record { least = omega (arith, head_size_low (length e.text)); spare = rw h; low = rw h s.low; high = rw h s.high; room = rw h (omega arith) }

encode_text : (e : Entry) → part (encode e) (head_size (length e.text)) (length e.text) ≡ e.text
unfolding encode
encode_text e =
    let h = header e.line (length e.text) e.serial in
    let n : head_size (length e.text) ≡ length h + 0 = sym (length_header e.line (length e.text) e.serial) ∙ sym (add-zero (length h)) in
    rw (n, part_append_right h e.text 0 (length e.text), part_start, take-length)

-- what was written is read back
pub encode_first : (e : Entry) → Sound e → first (encode e) ≡ e
unfolding first
encode_first e s = rw (encode_head e s, encode_text e)

-- a header written as a field
pub head_written : (l k s : ℕ) → l < lines → k ≤ message_limit → s < serial_count → (d : List ℕ) (at h n : ℕ) {r : Bool} {d' : List ℕ} → h ≡ head_size k → n ≡ head_number l k s
    → at + head_size k ≤ length d → FieldWritten d at h n r d' → d' ≡ splice d at (header l k s)
unfolding header
head_written l k s line most serial d at h n hs ns room w =
    let high : h ≤ longest_field = rw hs (head_size_high k) in
    let below = rw (← hs, ← ns) at (head_number_below l k s line most serial) in
    (written_fits d at h n w high (rw hs room) below).1 ∙ rw (hs, ns)

-- ---- the bytes that were read, spelt again

text_spelt : (bs : List ℕ) (at n : ℕ) → take at bs ++ part bs at n ≡ take (at + n) bs
unfolding part
text_spelt bs at n = sym (take-add at n bs)

pub spelt_first : (bs : List ℕ) → Bytes bs → starts bs ≡ true → encode (first bs) ≡ take (size (first bs)) bs
unfolding encode first
spelt_first bs b t =
    let s = starts_facts bs t in
    rw (text_first bs s, size_first bs s, respelt bs b s.spare s.least) (text_spelt bs (head_size (head_of bs).count) (head_of bs).count)
