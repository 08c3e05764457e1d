-- Taking: what the code did is what the definition says.
-- Assumes nothing.
use Rattle.std.proofs.lemmas.Option.{same_Some}
use Rattle.std.specs.Option.{is_some}
use Rattle.std.specs.Prelude.{Err, None, Ok, Option, Some}
use Rattle.journal.specs.declared.NotTaken.TheVariants.{Broken, BufferShort, NoLine, NothingWaiting, WrongSize}
use Rattle.std.proofs.Common.{◌≡◌, ℕ, ◌+◌, ◌-◌, ◌<◌, ◌≤◌, Bool, true, false, leb, List, [], ◌∷◌, ◌++◌, length, get_or, take, drop, sym, refl, ap, ◌∙◌, true≢false, arith, length-drop, length-take-le, take-take, drop-drop, le-ltb, lt-ltb, eq-eqb, ne_eqb, le-leb}
use borrow.Author.Tests.{lt-leb}
use Rattle.memory.specs.Sizes.{lines, message_limit, journal_size}
use Rattle.memory.specs.Parts.{part, splice}
use Rattle.memory.specs.Moves.{later, copied, Copied, ClosedUp}
use Rattle.memory.proofs.Parts.{drop_take, part_lent}
use Rattle.memory.proofs.Moves.{copied_fits, closed_fits}
use Rattle.header.specs.Header.{head_size, entry_size, head_of}
use Rattle.header.specs.Entry.{Entry, size, first, first_head}
use Rattle.journal.specs.Entries.{sizes, entries, before, from}
use Rattle.journal.specs.Chain.{chain}
use Rattle.journal.specs.Removal.{shrunk_by, shrunk, without, take_at, take_of, TakenFrom}
use Rattle.journal.specs.Inner.Removal.{rest, Stands, TakenOut, TakenAt}
use Rattle.header.specs.declared.Header.{Header}
use Rattle.journal.specs.declared.Ledger.{Ledger}
use Rattle.journal.specs.declared.Taking.{Taking}
use Rattle.header.proofs.Starts.{starts_facts}
use Rattle.header.proofs.Single.{size_pos, size_first, text_first, first_is}
use Rattle.journal.proofs.Chains.{sizes_append}
use Rattle.journal.proofs.Oldest.{before_from, total_oldest}
use Rattle.journal.proofs.Inside.{entries_cons, entries_drop}
use Rattle.journal.proofs.Wholes.{Kept}

-- ---- at a place

pub head_there : (d : Ledger) (l at : ℕ) (j : List ℕ) → Stands d l at j → first_head (take (d.in_use - at) (drop at j)) ≡ Some (head_of (rest d at j))
head_there d l at j s = ap first_head (sym (drop_take at d.in_use j)) ∙ first_is (rest d at j) s.whole

module _ (d : Ledger) (l at : ℕ) (j : List ℕ) (s : Stands d l at j) (h : Header) (read : first_head (take (d.in_use - at) (drop at j)) ≡ Some h) where
  head : h ≡ head_of (rest d at j)
  head = same_Some _ _ (sym read ∙ head_there d l at j s)

  pub record Bounds : Type 0 where
    pub long : size (first (rest d at j)) ≡ entry_size h.count
    pub most : h.count ≤ message_limit
    pub fits : at + entry_size h.count ≤ d.in_use
    pub inside : d.in_use ≤ length j
    pub used : entry_size h.count ≤ get_or d.used l 0

  pub bounds : Bounds
  bounds =
      let f = starts_facts (rest d at j) s.whole in
      let n : size (first (rest d at j)) ≡ entry_size h.count = rw head (size_first (rest d at j) f) in
      record { long = n; most = rw head f.high; fits = omega (arith, n, s.within); inside = s.room; used = omega (arith, n, s.counted) }

  text_long : length (first (rest d at j)).text ≡ h.count
  text_long = rw head (text_first (rest d at j) (starts_facts (rest d at j) s.whole))

  -- the text, where the code reads it
  text_is : (start : ℕ) → start ≡ at + head_size h.count → (first (rest d at j)).text ≡ take (start + h.count - start) (drop start j)
  unfolding first part
  text_is start e =
      let b = bounds in
      let n : start + h.count - start ≡ h.count = omega arith in
      let m : h.count ≤ d.in_use - start = omega (arith, b.fits, e) in
      rw (n, ← head, drop-drop (head_size h.count) at (take d.in_use j), ← e, drop_take start d.in_use j) (take-take h.count (d.in_use - start) (drop start j) m)

  pub taken_short : (b : List ℕ) → length b < h.count → TakenAt d l at j b (record { ledger = d; answer = Err BufferShort }) j b
  unfolding take_at
  taken_short b k =
      let e : leb (length (first (rest d at j)).text) (length b) ≡ false = lt-leb (length (first (rest d at j)).text) (length b) (omega (arith, text_long)) in
      record { result = rw e; after = rw e; lent = rw e }

  pub taken_at : (b j' b' : List ℕ) (d' : Ledger) (n : ℕ) → n ≡ entry_size h.count → h.count ≤ length b → TakenOut at h.count d.in_use j b j' b' → d' ≡ shrunk_by d l n
      → TakenAt d l at j b (record { ledger = d'; answer = Ok (h.count, h.serial) }) j' b'
  unfolding take_at shrunk without first
  taken_at b j' b' d' n q k out less =
      let x = bounds in
      let y : leb (length (first (rest d at j)).text) (length b) ≡ true = le-leb (length (first (rest d at j)).text) (length b) (omega (arith, text_long)) in
      let start : ℕ = at + head_size h.count in
      let text : part j start h.count ≡ (first (rest d at j)).text = sym (text_is start refl ∙ part_lent j start h.count) in
      let lent : b' ≡ copied b 0 (first (rest d at j)).text = out.lent ∙ ap (copied b 0) text in
      let z : (first (rest d at j)).serial ≡ h.serial = rw head in
      let m : size (first (rest d at j)) ≡ n = x.long ∙ sym q in
      record {
        result = rw (less, y, m, text_long, z);
        after = rw (y, x.long) out.after;
        lent = rw y (copied_fits b 0 (first (rest d at j)).text (record { answer = refl; after = lent }) (omega (arith, text_long))).1;
      }

-- the text copied and the gap closed up
pub taken_out : (at n end : ℕ) (j b : List ℕ) (head : ℕ) (r₁ r₂ : Bool) (j' b' : List ℕ) → head ≡ head_size n → at + entry_size n ≤ end → end ≤ length j
    → Copied b 0 (take (at + head + n - (at + head)) (drop (at + head) j)) r₁ b' → ClosedUp j at (head + n) end r₂ j' → TakenOut at n end j b j' b'
taken_out at n end j b head r₁ r₂ j' b' e fits inside c₁ c₂ = record {
  after = (closed_fits j at (head + n) end c₂ inside (omega arith)).1 ∙ ap (λ (k : ℕ). splice j at (later j at (k + n) end)) e;
  lent = c₁.after ∙ ap (copied b 0) (part_lent j (at + head) n ∙ ap (λ (k : ℕ). part j (at + k) n) e);
}

-- ---- the oldest entry

module _ (d : Ledger) (l at : ℕ) (j : List ℕ) (line : l < lines) (long : length j ≡ journal_size) (k : Kept d j) (p : at ≡ sizes (before l k.es)) where
  both : sizes (before l k.es) + sizes (from l k.es) ≡ d.in_use
  both = sym (sizes_append (before l k.es) (from l k.es)) ∙ ap sizes (before_from l k.es) ∙ sym k.in_use

  no_oldest : (fs : List Entry) → from l k.es ≡ fs → at ≡ d.in_use → fs ≡ []
  no_oldest [] e q = refl
  no_oldest (f ∷ fs) e q =
      let z : sizes (from l k.es) ≡ size f + sizes fs = ap sizes e in
      absurd (omega (arith, both, z, size_pos f))

  pub record Oldest : Type 0 where
    pub e : Entry
    pub later : List Entry
    pub is : from l k.es ≡ e ∷ later
    pub read : first (rest d at j) ≡ e
    pub stands : Stands d l at j

  oldest : (fs : List Entry) → from l k.es ≡ fs → (at ≡ d.in_use → ⊥) → Oldest
  oldest [] e n =
      let z : sizes (from l k.es) ≡ 0 = ap sizes e in
      absurd (n (omega (arith, both, z)))
  oldest (f ∷ fs) e n =
      let w = k.whole in
      let split : before l k.es ++ f ∷ fs ≡ k.es = ap (λ (x : List Entry). before l k.es ++ x) (sym e) ∙ before_from l k.es in
      let there : entries (take d.in_use j) ≡ Some (before l k.es ++ f ∷ fs) = w.there ∙ ap Some (sym split) in
      let o = entries_cons (rest d at j) f fs (rw p (entries_drop (before l k.es) (f ∷ fs) (take d.in_use j) there)) in
      let m : length (rest d at j) ≡ d.in_use - at = rw (length-drop, length-take-le d.in_use j w.room) in
      record {
        e = f;
        later = fs;
        is = e;
        read = o.is;
        stands = record {
          line = line;
          room = w.room;
          whole = o.here;
          within = rw o.is (omega (arith, o.fits, m, size_pos f));
          counted = rw (o.is, w.sums l line) (total_oldest l k.es f fs e);
        };
      }

  pub an_oldest : (at ≡ d.in_use → ⊥) → Oldest
  an_oldest n = oldest (from l k.es) refl n

  pub none_waits : (b : List ℕ) → at ≡ d.in_use → TakenFrom d l j b (record { ledger = d; answer = Err NothingWaiting }) j b
  unfolding take_of
  none_waits b q =
      let e₀ = lt-ltb l lines line in
      let e₁ = eq-eqb (length j) journal_size long in
      let e₂ = k.is in
      let e₃ = no_oldest (from l k.es) refl q in
      record { result = rw (e₀, e₁, e₂, e₃); after = rw (e₀, e₁, e₂, e₃); lent = rw (e₀, e₁, e₂, e₃) }

  pub one_waits : (b : List ℕ) (r : Taking) (j' b' : List ℕ) → Oldest → TakenAt d l at j b r j' b' → TakenFrom d l j b r j' b'
  unfolding take_of
  one_waits b r j' b' o g =
      let e₀ = lt-ltb l lines line in
      let e₁ = eq-eqb (length j) journal_size long in
      let e₂ = k.is in
      let e₃ = o.is in
      let e₄ = o.read in
      record {
        result = rw (e₀, e₁, e₂, e₃, ← p, ← e₄) g.result;
        after = rw (e₀, e₁, e₂, e₃, ← p, ← e₄) g.after;
        lent = rw (e₀, e₁, e₂, e₃, ← p, ← e₄) g.lent;
      }

-- ---- the tests in front

module _ (d : Ledger) (l : ℕ) (j b : List ℕ) where
  pub taken_line : lines ≤ l → TakenFrom d l j b (record { ledger = d; answer = Err NoLine }) j b
  unfolding take_of
  taken_line h = record { result = rw (le-ltb l lines h); after = rw (le-ltb l lines h); lent = rw (le-ltb l lines h) }

  pub taken_size : l < lines → (length j ≡ journal_size → ⊥) → TakenFrom d l j b (record { ledger = d; answer = Err WrongSize }) j b
  unfolding take_of
  taken_size h n =
      let e₀ = lt-ltb l lines h in
      let e₁ = ne_eqb (length j) journal_size n in
      record { result = rw (e₀, e₁); after = rw (e₀, e₁); lent = rw (e₀, e₁) }

  is_none : (o : Option (List Entry)) → is_some o ≡ false → o ≡ None
  is_none None e = refl
  is_none (Some es) e = absurd (true≢false e)

  pub taken_broken : l < lines → length j ≡ journal_size → is_some (chain d j) ≡ false → TakenFrom d l j b (record { ledger = d; answer = Err Broken }) j b
  unfolding take_of
  taken_broken h s n =
      let e₀ = lt-ltb l lines h in
      let e₁ = eq-eqb (length j) journal_size s in
      let e₂ = is_none (chain d j) n in
      record { result = rw (e₀, e₁, e₂); after = rw (e₀, e₁, e₂); lent = rw (e₀, e₁, e₂) }
