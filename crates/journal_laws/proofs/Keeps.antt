-- A fresh journal is held, and storing and taking keep it held, over any shares.
-- Assumes nothing.
use Rattle.std.specs.Prelude.{Some}
use mathlib.Core.Path.{◌≡◌, refl, sym, ap, ◌∙◌}
use mathlib.Core.List.{List, [], ◌∷◌, ◌++◌, append_assoc}
use mathlib.Core.Bool.{true}
use Prim.Native.Nat.{ℕ, ◌+◌, ◌-◌, ◌%◌, ◌<◌, ◌≤◌}
use native.Mathlib.Nat.{le_trans}
use native.Mathlib.Omega.{arith}
use native.Mathlib.Decide.{ℕ_discrete, dec_lt}
use lib.ListN.{length, take, get_or, set, get_or-replicate, length-set}
use lib.Seq.{take-take, set_out, get_or-set_same, get_or-set_other}
use borrow.Author.Tests.{eq-eqb, ne_eqb, leb-true}
use Rattle.memory.specs.Sizes.{lines, message_limit, journal_size}
use Rattle.memory.specs.Parts.{part, splice}
use Rattle.memory.specs.Moves.{later}
use Rattle.memory.proofs.Parts.{drop_take, length_part, length_splice, take_through}
use Rattle.header.specs.Header.{serial_count, entry_size}
use Rattle.header.specs.Entry.{Entry, encode, size}
use Rattle.journal.specs.Entries.{sizes, total, entries, before, from}
use Rattle.journal.specs.Chain.{fresh_ledger}
use Rattle.room.specs.Room.{sum_to, claim, claims, fits, raised}
use Rattle.journal.specs.Storage.{new_entry, grown, appended}
use Rattle.journal.specs.Removal.{shrunk, without}
use Rattle.journal_laws.specs.Held.{Held}
use Rattle.journal.specs.declared.Ledger.{Ledger}
use Rattle.journal.proofs.Chains.{entries_nil, sizes_append, total_append, sums_more}
use Rattle.journal.proofs.Oldest.{before_from, from_line}
use Rattle.room.proofs.Totals.{sum_same, lowered_own, lowered_other, claims_le}
use Rattle.header.proofs.Single.{Sound, encode_long}
use Rattle.journal.proofs.Inside.{entries_drop}
use Rattle.journal.proofs.Joined.{entries_append, entries_encode, entries_take}
use Rattle.journal.proofs.Wholes.{whole_of, whole_facts, in_use_is, kept_some}
use Rattle.journal.proofs.Judged.{fits_journal}

-- ---- fresh

-- with nothing used every line claims its share
fresh_claims : (sh : List ℕ) → claims sh fresh_ledger.used ≡ sum_to lines (λ l. get_or sh l 0)
unfolding claims
fresh_claims sh =
    sum_same lines (claim sh fresh_ledger.used) (λ l. get_or sh l 0)
    (λ l q. let z : get_or fresh_ledger.used l 0 ≡ 0 = get_or-replicate lines l 0 0 q in rw z (omega arith))

pub fresh_held : (sh j : List ℕ) → length j ≡ journal_size → sum_to lines (λ l. get_or sh l 0) ≤ journal_size → Held sh fresh_ledger j []
fresh_held sh j n s =
    record {
      long = n;
      lines_used = refl;
      lines_serials = refl;
      serials = λ l q. let z : get_or fresh_ledger.serials l 0 ≡ 0 = get_or-replicate lines l 0 0 q in omega arith;
      whole = whole_of fresh_ledger j [] (record { room = omega arith; there = entries_nil; sums = λ l q. get_or-replicate lines l 0 0 q });
      claimed = rw (fresh_claims sh) s;
    }

-- ---- a storing

-- the next serial is one too
set_below : (s : List ℕ) (l k n : ℕ) → get_or s k 0 < serial_count → get_or (set s l (n % serial_count)) k 0 < serial_count
set_below s l k n h = elim (ℕ_discrete k l) [
  | yes q ↦ elim (dec_lt l (length s)) [
    | yes w ↦ rw (q, get_or-set_same s l (n % serial_count) 0 w) (omega arith)
    | no w ↦
        let o : length s ≤ l = omega arith in
        rw (set_out s l (n % serial_count) o) h
  ]
  | no q ↦ rw (get_or-set_other s l k (n % serial_count) 0 q) h
]

module _ (sh : List ℕ) (d : Ledger) (l : ℕ) (t j : List ℕ) (es : List Entry) (h : Held sh d j es) (line : l < lines) (low : 1 ≤ length t) (high : length t ≤ message_limit)
    (room : fits sh (raised d.used l (entry_size (length t))) ≡ true) where
  sound : Sound (new_entry d l t)
  sound = record { line = line; serial = h.serials l line; low = low; high = high }

  long : length (encode (new_entry d l t)) ≡ entry_size (length t)
  unfolding size
  long = encode_long (new_entry d l t)

  fit : d.in_use + entry_size (length t) ≤ length j
  fit = omega (arith, fits_journal d sh j l (entry_size (length t)) (kept_some d j es h.whole) h.lines_used line room, h.long)

  within : d.in_use + length (encode (new_entry d l t)) ≤ length j
  within = omega (arith, fit, long)

  bytes : take (d.in_use + entry_size (length t)) (splice j d.in_use (encode (new_entry d l t))) ≡ take d.in_use j ++ encode (new_entry d l t)
  bytes = rw (← long) (take_through j d.in_use (encode (new_entry d l t)) within)

  chained : entries (take (d.in_use + entry_size (length t)) (splice j d.in_use (encode (new_entry d l t)))) ≡ Some (es ++ new_entry d l t ∷ [])
  chained =
      ap entries bytes
      ∙ entries_append es (take d.in_use j) (encode (new_entry d l t)) (whole_facts d j es h.whole).there
      ∙ rw (entries_encode (new_entry d l t) sound)

  same_long : length (splice j d.in_use (encode (new_entry d l t))) ≡ length j
  same_long = length_splice j d.in_use (encode (new_entry d l t)) within

  -- the entries are those before, and the new one behind them
  pub store_held : Held sh (grown d l (length t)) (appended d l t j) (es ++ new_entry d l t ∷ [])
  unfolding grown appended size
  store_held =
      record {
        long = same_long ∙ h.long;
        lines_used = length-set d.used l _ ∙ h.lines_used;
        lines_serials = length-set d.serials l _ ∙ h.lines_serials;
        serials = λ k q. set_below d.serials l k (get_or d.serials l 0 + 1) (h.serials k q);
        whole = whole_of _ (splice j d.in_use (encode (new_entry d l t))) (es ++ new_entry d l t ∷ []) (record {
          room = omega (arith, fit, same_long);
          there = chained;
          sums = sums_more d.used es (new_entry d l t) l (entry_size (length t)) refl refl h.lines_used line (whole_facts d j es h.whole).sums;
        });
        claimed = leb-true _ _ room;
      }

-- ---- a taking

less : (u : List ℕ) (l n k : ℕ) → length u ≡ lines → l < lines → get_or (set u l (get_or u l 0 - n)) k 0 ≤ get_or u k 0
less u l n k h q = elim (ℕ_discrete k l) [
  | yes e ↦ rw e (omega (arith, lowered_own u l n h q))
  | no e ↦ rw (lowered_other u l n h q k e) (omega arith)
]

sums_less : (u : List ℕ) (l : ℕ) (ds fs : List Entry) (e : Entry) → length u ≡ lines → l < lines → e.line ≡ l
    → ((k : ℕ) → k < lines → get_or u k 0 ≡ total k (ds ++ e ∷ fs)) → (k : ℕ) → k < lines → get_or (set u l (get_or u l 0 - size e)) k 0 ≡ total k (ds ++ fs)
sums_less u l ds fs e h q el s k kb = elim (ℕ_discrete k l) [
  | yes x ↦
      let a : get_or u l 0 ≡ total l (ds ++ e ∷ fs) = s l q in
      let b : total l (ds ++ e ∷ fs) ≡ total l ds + total l (e ∷ fs) = total_append l ds (e ∷ fs) in
      let o : total l (e ∷ fs) ≡ size e + total l fs = rw (eq-eqb _ _ el) in
      rw (x, total_append) (omega (arith, lowered_own u l (size e) h q, a, b, o))
  | no x ↦
      let b : total k (ds ++ e ∷ fs) ≡ total k ds + total k (e ∷ fs) = total_append k ds (e ∷ fs) in
      let o : total k (e ∷ fs) ≡ 0 + total k fs = rw (ne_eqb _ _ (λ y. x (sym y ∙ el))) in
      rw (lowered_other u l (size e) h q k x, total_append) (omega (arith, s k kb, b, o))
]

module _ (sh : List ℕ) (d : Ledger) (l : ℕ) (j : List ℕ) (es : List Entry) (h : Held sh d j es) (line : l < lines) (e : Entry) (fs : List Entry) (is : from l es ≡ e ∷ fs) where
  split : es ≡ before l es ++ e ∷ fs
  split = sym (before_from l es) ∙ ap (λ (x : List Entry). before l es ++ x) is

  in_use : d.in_use ≡ sizes (before l es) + size e + sizes fs
  in_use =
      let a : sizes es ≡ sizes (before l es) + sizes (e ∷ fs) = ap sizes split ∙ sizes_append (before l es) (e ∷ fs) in
      omega (arith, in_use_is d j es h.whole, a)

  there : entries (take d.in_use j) ≡ Some (before l es ++ e ∷ fs)
  there = (whole_facts d j es h.whole).there ∙ ap Some split

  front : entries (take (sizes (before l es)) j) ≡ Some (before l es)
  front =
      let n : sizes (before l es) ≤ d.in_use = omega (arith, in_use) in
      rw (take-take (sizes (before l es)) d.in_use j n) at (entries_take (before l es) (e ∷ fs) (take d.in_use j) there)

  -- what moves down is the chain behind the entry
  back : entries (later j (sizes (before l es)) (size e) d.in_use) ≡ Some fs
  unfolding part
  back =
      let b : before l es ++ e ∷ fs ≡ (before l es ++ e ∷ []) ++ fs = sym (append_assoc (before l es) (e ∷ []) fs) in
      let n : sizes (before l es ++ e ∷ []) ≡ sizes (before l es) + size e = sizes_append (before l es) (e ∷ []) ∙ omega arith in
      rw (← (drop_take (sizes (before l es) + size e) d.in_use j), ← n) (entries_drop (before l es ++ e ∷ []) fs (take d.in_use j) (there ∙ ap Some b))

  moved_long : length (later j (sizes (before l es)) (size e) d.in_use) ≡ sizes fs
  moved_long =
      let room = (whole_facts d j es h.whole).room in
      length_part j (sizes (before l es) + size e) (d.in_use - (sizes (before l es) + size e)) (omega (arith, in_use)) ∙ omega (arith, in_use)

  new_end : sizes (before l es) + length (later j (sizes (before l es)) (size e) d.in_use) ≡ d.in_use - size e
  new_end = omega (arith, moved_long, in_use)

  in_journal : sizes (before l es) + length (later j (sizes (before l es)) (size e) d.in_use) ≤ length j
  in_journal = omega (arith, new_end, (whole_facts d j es h.whole).room)

  closed : entries (take (d.in_use - size e) (splice j (sizes (before l es)) (later j (sizes (before l es)) (size e) d.in_use))) ≡ Some (before l es ++ fs)
  closed =
      let bytes = take_through j (sizes (before l es)) (later j (sizes (before l es)) (size e) d.in_use) in_journal in
      rw (← new_end)
      (ap entries bytes ∙ entries_append (before l es) (take (sizes (before l es)) j) (later j (sizes (before l es)) (size e) d.in_use) front ∙ rw back)

  same : length (splice j (sizes (before l es)) (later j (sizes (before l es)) (size e) d.in_use)) ≡ length j
  same = length_splice j (sizes (before l es)) (later j (sizes (before l es)) (size e) d.in_use) in_journal

  -- the entries are those before, without the line's oldest
  pub take_held : Held sh (shrunk d l e) (without d (sizes (before l es)) e j) (before l es ++ fs)
  unfolding shrunk without
  take_held =
      let w = whole_facts d j es h.whole in
      record {
        long = same ∙ h.long;
        lines_used = length-set d.used l _ ∙ h.lines_used;
        lines_serials = h.lines_serials;
        serials = h.serials;
        whole = whole_of _ (splice j (sizes (before l es)) (later j (sizes (before l es)) (size e) d.in_use)) (before l es ++ fs) (record {
          room = omega (arith, same, w.room);
          there = closed;
          sums = sums_less d.used l (before l es) fs e h.lines_used line (from_line l es e fs is) (λ i q. w.sums i q ∙ ap (total i) split);
        });
        claimed = le_trans (claims_le sh (set d.used l (get_or d.used l 0 - size e)) d.used (λ k q. less d.used l (size e) k h.lines_used line)) h.claimed;
      }
