-- Chains joined and cut, and an entry that was written read back.
-- Assumes nothing.
use Rattle.std.specs.Prelude.{None, Option, Some}
use Rattle.std.proofs.Common.{◌≡◌, ℕ, zero, suc, ◌≤◌, true, List, [], ◌∷◌, ◌++◌, length, take, drop, sym, refl, ap, ◌∙◌, arith, take-append-drop, drop_of_length-le, length-take-le, take-add}
use lib.Seq.{drop-append-le}
use Rattle.header.specs.Entry.{Entry, encode, size, starts, first}
use Rattle.header.specs.Inner.Entry.{Bytes}
use Rattle.journal.specs.Entries.{sizes, behind, entries}
use Rattle.journal.specs.Inner.Entries.{flatten}
use Rattle.header.proofs.Starts.{Starts, starts_facts, starts_of}
use Rattle.header.proofs.Single.{Sound, starts_append, first_append, starts_cut, first_cut, encode_long, encode_starts, encode_first, spelt_first}
use Rattle.journal.proofs.Chains.{entries_nil, entries_go, prepend, prepend_nil}
use Rattle.journal.proofs.Inside.{Opens, entries_cons, entries_end}

behind_prepend : (e : Entry) (es : List Entry) (o : Option (List Entry)) → behind e (prepend es o) ≡ prepend (e ∷ es) o
behind_prepend e es None = refl
behind_prepend e es (Some fs) = refl

-- a whole chain in front of bytes
pub entries_append : (es : List Entry) (bs cs : List ℕ) → entries bs ≡ Some es → entries (bs ++ cs) ≡ prepend es (entries cs)
entries_append [] bs cs q = rw (entries_end bs q) (sym (prepend_nil (entries cs)))
entries_append (e ∷ es) bs cs q =
    let o = entries_cons bs e es q in
    let s = starts_facts bs o.here in
    let t : starts (bs ++ cs) ≡ true = starts_of (bs ++ cs) (starts_append bs cs s) in
    let f : first (bs ++ cs) ≡ e = first_append bs cs s ∙ o.is in
    let d : drop (size e) (bs ++ cs) ≡ drop (size e) bs ++ cs = drop-append-le (size e) bs cs o.fits in
    entries_go (bs ++ cs) t ∙ rw (f, d, entries_append es (drop (size e) bs) cs o.more) (behind_prepend e es (entries cs))

-- ---- one entry

-- bytes that are one entry
one : (bs : List ℕ) (e : Entry) → Starts bs → first bs ≡ e → length bs ≡ size e → entries bs ≡ Some (e ∷ [])
one bs e s f n =
    let k : length bs ≤ size e = omega arith in
    let z : drop (size e) bs ≡ [] = drop_of_length-le bs k in
    entries_go bs (starts_of bs s) ∙ rw (f, z, entries_nil)

-- what was written is read back
pub entries_encode : (e : Entry) → Sound e → entries (encode e) ≡ Some (e ∷ [])
entries_encode e s = one (encode e) e (encode_starts e s) (encode_first e s) (encode_long e)

-- ---- cut

single : (bs : List ℕ) (e : Entry) (es : List Entry) → Opens bs e es → entries (take (size e) bs) ≡ Some (e ∷ [])
single bs e es o =
    let s = starts_facts bs o.here in
    let k : size e ≡ size (first bs) = ap size (sym o.is) in
    one (take (size e) bs) e (starts_cut bs (size e) s k) (first_cut bs (size e) s k ∙ o.is) (length-take-le (size e) bs o.fits)

pub entries_take : (ds es : List Entry) (bs : List ℕ) → entries bs ≡ Some (ds ++ es) → entries (take (sizes ds) bs) ≡ Some ds
entries_take [] es bs q = entries_nil
entries_take (d ∷ ds) es bs q =
    let o = entries_cons bs d (ds ++ es) q in
    let r = entries_take ds es (drop (size d) bs) o.more in
    ap entries (take-add (size d) (sizes ds) bs)
    ∙ entries_append (d ∷ []) (take (size d) bs) (take (sizes ds) (drop (size d) bs)) (single bs d (ds ++ es) o)
    ∙ rw r

-- ---- spelt

bytes_drop : (n : ℕ) (bs : List ℕ) → Bytes bs → Bytes (drop n bs)
bytes_drop zero bs b = b
bytes_drop (suc n) [] b = tt
bytes_drop (suc n) (x ∷ bs) b = bytes_drop n bs b.1

-- a whole chain's bytes are its entries', header and text, one behind the other: the header rule leaves no byte in use open
pub spelt : (es : List Entry) (bs : List ℕ) → Bytes bs → entries bs ≡ Some es → bs ≡ flatten es
spelt [] bs b q = entries_end bs q
spelt (e ∷ es) bs b q =
    let o = entries_cons bs e es q in
    let f : take (size e) bs ≡ encode e = rw o.is at (sym (spelt_first bs b o.here)) in
    sym (take-append-drop (size e) bs) ∙ rw (f, ← (spelt es (drop (size e) bs) (bytes_drop (size e) bs b) o.more))
