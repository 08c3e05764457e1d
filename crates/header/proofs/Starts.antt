-- The test of a whole entry, as facts.
-- Assumes nothing.
use Rattle.std.specs.Prelude.{None, Some}
use mathlib.Core.Path.{◌≡◌, ap, ◌∙◌}
use mathlib.Core.List.{List}
use mathlib.Core.Bool.{true, false, ◌&&◌}
use Prim.Native.Nat.{ℕ, ◌≤◌}
use native.Mathlib.Omega.{arith}
use lib.ListN.{length}
use lib.Dec.{leb, eqb}
use borrow.Author.Tests.{leb-true, eqb-true, le-leb, lt-leb, eq-eqb}
use Rattle.memory.specs.Sizes.{message_limit}
use Rattle.memory.specs.Parts.{part}
use Rattle.packed.specs.Fields.{pack, unpack, octets, field_at}
use Rattle.memory.proofs.Tests.{and_left, and_right, is_false}
use Rattle.packed.proofs.Octets.{field_value, field_outside}
use Rattle.header.specs.Header.{least_head, entry_size, head_widths, fields_of, head_of}
use Rattle.header.specs.Entry.{is_text, is_head, starts, first_head}
use Rattle.header.specs.Inner.Entry.{whole_head}
use Rattle.header.specs.declared.Header.{Header}

pub text_facts : (n : ℕ) → is_text n ≡ true → (1 ≤ n) × (n ≤ message_limit)
text_facts n e = (leb-true _ _ (and_left (leb 1 n) (leb n message_limit) e), leb-true _ _ (and_right (leb 1 n) (leb n message_limit) e))

pub text_of : (n : ℕ) → 1 ≤ n → n ≤ message_limit → is_text n ≡ true
text_of n low high = rw (le-leb 1 n low, le-leb n message_limit high)

pub no_text : (n : ℕ) → (1 ≤ n → n ≤ message_limit → ⊥) → is_text n ≡ false
no_text n f = is_false (is_text n) (λ e. let (a, b) = text_facts n e in f a b)

pub record Head (h : Header) (n : ℕ) : Type 0 where
  pub spare : h.spare ≡ 0
  pub low : 1 ≤ h.count
  pub high : h.count ≤ message_limit
  pub room : entry_size h.count ≤ n

pub head_facts : (h : Header) (n : ℕ) → is_head h n ≡ true → Head h n
head_facts h n e =
    let r = and_right (eqb h.spare 0) (is_text h.count && leb (entry_size h.count) n) e in
    let (low, high) = text_facts h.count (and_left (is_text h.count) (leb (entry_size h.count) n) r) in
    record {
      spare = eqb-true _ _ (and_left (eqb h.spare 0) (is_text h.count && leb (entry_size h.count) n) e);
      low = low;
      high = high;
      room = leb-true _ _ (and_right (is_text h.count) (leb (entry_size h.count) n) r);
    }

pub head_of_law : (h : Header) (n : ℕ) → Head h n → is_head h n ≡ true
head_of_law h n f = rw (eq-eqb _ _ f.spare, le-leb _ _ f.low, le-leb _ _ f.high, le-leb _ _ f.room)

-- what the tests of a header say
pub no_whole : (h : Header) (n : ℕ) → (Head h n → ⊥) → None ≡ whole_head h n
unfolding whole_head
no_whole h n f = rw (is_false (is_head h n) (λ t. f (head_facts h n t)))

pub a_whole : (h : Header) (n : ℕ) → Head h n → Some h ≡ whole_head h n
unfolding whole_head
a_whole h n f = rw (head_of_law h n f)

-- bytes that start with a whole entry
pub record Starts (bs : List ℕ) : Type 0 where
  pub least : least_head ≤ length bs
  pub spare : (head_of bs).spare ≡ 0
  pub low : 1 ≤ (head_of bs).count
  pub high : (head_of bs).count ≤ message_limit
  pub room : entry_size (head_of bs).count ≤ length bs

pub starts_facts : (bs : List ℕ) → starts bs ≡ true → Starts bs
unfolding starts
starts_facts bs e =
    let h = head_facts (head_of bs) (length bs) (and_right (leb least_head (length bs)) (is_head (head_of bs) (length bs)) e) in
    record { least = leb-true _ _ (and_left (leb least_head (length bs)) (is_head (head_of bs) (length bs)) e); spare = h.spare; low = h.low; high = h.high; room = h.room }

pub starts_of : (bs : List ℕ) → Starts bs → starts bs ≡ true
unfolding starts
starts_of bs s = rw (le-leb _ _ s.least) (head_of_law (head_of bs) (length bs) (record { spare = s.spare; low = s.low; high = s.high; room = s.room }))

-- the header that the code read of them, and none where they are too short for one
head_read : (bs : List ℕ) (n : ℕ) → pack (octets least_head) (part bs 0 least_head) ≡ n → fields_of (unpack head_widths n) ≡ head_of bs
unfolding head_of
head_read bs n e = rw (← e)

pub first_read : (bs : List ℕ) (n : ℕ) → field_at bs 0 least_head ≡ Some n → whole_head (fields_of (unpack head_widths n)) (length bs) ≡ first_head bs
unfolding whole_head first_head starts
first_read bs n e =
    let (room, is) = field_value bs 0 least_head n e in
    ap (λ (h : Header). whole_head h (length bs)) (head_read bs n is) ∙ rw (le-leb least_head (length bs) room)

pub first_unread : (bs : List ℕ) → field_at bs 0 least_head ≡ None → None ≡ first_head bs
unfolding first_head starts
first_unread bs e = rw (lt-leb least_head (length bs) (field_outside bs 0 least_head (omega arith) e))
