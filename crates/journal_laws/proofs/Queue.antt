-- Each line is a queue: in any run of storings and takings, what went in on a line is what came out, oldest first, and then what still waits.
-- Assumes nothing.
use Rattle.std.specs.Result.{is_ok}
use mathlib.Core.Path.{◌≡◌, refl, sym, ap, ◌∙◌, subst}
use mathlib.Core.Logic.{◌⊎◌, inl, inr}
use mathlib.Core.List.{List, [], ◌∷◌, ◌++◌, append_assoc, append-nil}
use mathlib.Core.Bool.{Bool, true, false, cond, ◌&&◌}
use Prim.Native.Nat.{ℕ, zero, suc, ◌+◌, ◌%◌, ◌<◌, ◌≤◌}
use native.Mathlib.Nat.{mod-eq_of_lt, add-zero}
use native.Mathlib.Omega.{arith}
use native.Mathlib.Decide.{ℕ_discrete}
use lib.ListN.{length, take, get_or, get_or-replicate, set}
use lib.Dec.{eqb}
use lib.Seq.{get_or-set_same, get_or-set_other}
use borrow.Author.Tests.{eq-eqb, ne_eqb, eqb-true, eqb-false}
use Rattle.memory.specs.Sizes.{lines, journal_size}
use Rattle.memory.specs.Parts.{splice}
use Rattle.memory.proofs.Parts.{part_start, part_splice}
use Rattle.header.specs.Header.{serial_count}
use Rattle.header.specs.Entry.{Entry}
use Rattle.journal.specs.Entries.{before, from}
use Rattle.journal.specs.Chain.{fresh_ledger}
use Rattle.room.specs.Room.{sum_to}
use Rattle.journal.specs.Storage.{new_entry, grown, AfterStoring}
use Rattle.journal.specs.Removal.{shrunk, AfterTaking}
use Rattle.journal_laws.specs.Held.{Held}
use Rattle.journal_laws.specs.Runs.{Operation, put, get, State, Numbered, numbered, only, texts, waiting, given, next, after, goes_in, comes_out, all_in, all_out}
use Rattle.journal.specs.declared.Ledger.{Ledger}
use Rattle.journal.proofs.Oldest.{before_from, from_line}
use Rattle.journal_laws.proofs.Keeps.{fresh_held}
use Rattle.journal_laws.proofs.Cases.{Stores, Stays, Gives, Keeps, store_cases, take_cases}

-- ---- a line's entries

cond_append : (b : Bool) (e : Entry) (xs ys : List Entry) → cond b (e ∷ (xs ++ ys)) (xs ++ ys) ≡ cond b (e ∷ xs) xs ++ ys
cond_append true e xs ys = refl
cond_append false e xs ys = refl

pub only_append : (k : ℕ) (ds es : List Entry) → only k (ds ++ es) ≡ only k ds ++ only k es
only_append k [] es = refl
only_append k (d ∷ ds) es = rw (only_append k ds es) (cond_append (eqb d.line k) d (only k ds) (only k es))

pub texts_append : (ds es : List Entry) → texts (ds ++ es) ≡ texts ds ++ texts es
texts_append [] es = refl
texts_append (d ∷ ds) es = ap (λ (x : List Numbered). record { serial = d.serial; text = d.text } ∷ x) (texts_append ds es)

-- before a line's oldest entry stands none of the line
none_before : (b : Bool) (l : ℕ) (e : Entry) (ds : List Entry) → eqb e.line l ≡ b → only l ds ≡ [] → only l (cond b [] (e ∷ ds)) ≡ []
none_before true l e ds q h = refl
none_before false l e ds q h = rw q h

only_before : (l : ℕ) (es : List Entry) → only l (before l es) ≡ []
only_before l [] = refl
only_before l (e ∷ es) = none_before (eqb e.line l) l e (before l es) refl (only_before l es)

pub only_from : (l : ℕ) (es : List Entry) → only l es ≡ only l (from l es)
only_from l es = ap (only l) (sym (before_from l es)) ∙ only_append l (before l es) (from l es) ∙ rw (only_before l es)

module _ (l : ℕ) (es : List Entry) (e : Entry) (fs : List Entry) (is : from l es ≡ e ∷ fs) where
  -- a taking removes the first of the line's entries
  pub taken_own : only l es ≡ e ∷ only l (before l es ++ fs)
  taken_own = only_from l es ∙ rw (is, eq-eqb _ _ (from_line l es e fs is), only_append, only_before)

  -- and leaves the entries of every other line as they were, in their order
  pub taken_other : (k : ℕ) → (k ≡ l → ⊥) → only k (before l es ++ fs) ≡ only k es
  taken_other k n =
      let s : es ≡ before l es ++ e ∷ fs = sym (before_from l es) ∙ ap (λ (x : List Entry). before l es ++ x) is in
      let o : only k (e ∷ fs) ≡ only k fs = rw (ne_eqb _ _ (λ y. n (sym y ∙ from_line l es e fs is))) in
      only_append k (before l es) fs ∙ ap (λ (x : List Entry). only k (before l es) ++ x) (sym o) ∙ sym (ap (only k) s ∙ only_append k (before l es) (e ∷ fs))

-- ---- serials

numbered_from : (a b : ℕ) (ts : List (List ℕ)) → a % serial_count ≡ b % serial_count → numbered a ts ≡ numbered b ts
numbered_from a b [] e = refl
numbered_from a b (t ∷ ts) e =
    let n : suc a % serial_count ≡ suc b % serial_count = omega arith in
    rw (e, numbered_from (suc a) (suc b) ts n)

numbered_append : (n : ℕ) (ss ts : List (List ℕ)) → numbered n (ss ++ ts) ≡ numbered n ss ++ numbered (n + length ss) ts
numbered_append n [] ts = rw (add-zero n)
numbered_append n (s ∷ ss) ts =
    let e : suc n + length ss ≡ n + suc (length ss) = omega arith in
    rw (numbered_append (suc n) ss ts, e)

-- the m-th of them, counted from 0, has the m-th serial
pub numbered_serial : (n m : ℕ) (ts : List (List ℕ)) (z : Numbered) → m < length ts → (get_or (numbered n ts) m z).serial ≡ (n + m) % serial_count
numbered_serial n m [] z h = absurd (omega arith)
numbered_serial n zero (t ∷ ts) z h = rw (add-zero n)
numbered_serial n (suc m) (t ∷ ts) z h =
    let e : suc n + m ≡ n + suc m = omega arith in
    numbered_serial (suc n) m ts z (omega arith) ∙ rw e

pub numbered_text : (n m : ℕ) (ts : List (List ℕ)) (z : Numbered) → m < length ts → (get_or (numbered n ts) m z).text ≡ get_or ts m []
numbered_text n m [] z h = absurd (omega arith)
numbered_text n zero (t ∷ ts) z h = refl
numbered_text n (suc m) (t ∷ ts) z h = numbered_text (suc n) m ts z (omega arith)

-- ---- one operation

module _ (sh : List ℕ) where
  pub record Moves (s : State) (o : Operation) (es : List Entry) : Type 0 where
    pub es' : List Entry
    pub held : Held sh (next sh s o).ledger (next sh s o).journal es'
    pub queue : (k : ℕ) → k < lines → waiting k es ++ numbered (get_or s.ledger.serials k 0) (goes_in sh k s o) ≡ comes_out sh k s o ++ waiting k es'
    pub serial : (k : ℕ) → k < lines → get_or (next sh s o).ledger.serials k 0 ≡ (get_or s.ledger.serials k 0 + length (goes_in sh k s o)) % serial_count

  -- the text stored, as the line's newest; the line's serial afterwards
  one_text : (b : Bool) (d : Ledger) (l k : ℕ) (t : List ℕ) → eqb l k ≡ b → get_or d.serials k 0 < serial_count
      → texts (cond b (new_entry d l t ∷ []) []) ≡ numbered (get_or d.serials k 0) (cond (b && true) (t ∷ []) [])
  one_text true d l k t e h =
      let q : l ≡ k = eqb-true _ _ e in
      rw (q, mod-eq_of_lt h)
  one_text false d l k t e h = refl

  one_serial : (b : Bool) (d : Ledger) (l k : ℕ) (t : List ℕ) → eqb l k ≡ b → l < length d.serials → get_or d.serials k 0 < serial_count
      → get_or (set d.serials l ((get_or d.serials l 0 + 1) % serial_count)) k 0 ≡ (get_or d.serials k 0 + length (cond (b && true) (t ∷ []) [])) % serial_count
  one_serial true d l k t e w h =
      let q : l ≡ k = eqb-true _ _ e in
      rw (← q) (get_or-set_same d.serials l ((get_or d.serials l 0 + 1) % serial_count) 0 w)
  one_serial false d l k t e w h =
      rw (get_or-set_other d.serials l k ((get_or d.serials l 0 + 1) % serial_count) 0 (λ x. eqb-false _ _ e (sym x)), add-zero) (sym (mod-eq_of_lt h))

  no_text : (b : Bool) (t : List ℕ) → cond (b && false) (t ∷ []) [] ≡ []
  no_text true t = refl
  no_text false t = refl

  same_serial : (n : ℕ) → n < serial_count → n ≡ (n + 0) % serial_count
  same_serial n h = omega arith

  put_moves : (s : State) (l : ℕ) (t : List ℕ) (es : List Entry) → Stores sh s.ledger l t s.journal es ⊎ Stays sh s.ledger l t s.journal
      → Held sh s.ledger s.journal es → Moves s (put l t) es
  unfolding grown
  put_moves s l t es (inl p) h =
      record {
        es' = es ++ new_entry s.ledger l t ∷ [];
        held = subst (λ (x : AfterStoring). Held sh x.storing.ledger x.journal (es ++ new_entry s.ledger l t ∷ [])) (sym p.is) p.held;
        queue = λ k q. rw (p.is, only_append, texts_append, one_text (eqb l k) s.ledger l k t refl (h.serials k q));
        serial = λ k q.
            subst (λ (x : AfterStoring). get_or x.storing.ledger.serials k 0 ≡ (get_or s.ledger.serials k 0 + length (cond (eqb l k && is_ok x.storing.answer) (t ∷ []) [])) % serial_count) (sym p.is)
            (one_serial (eqb l k) s.ledger l k t refl (rw h.lines_serials p.line) (h.serials k q));
      }
  put_moves s l t es (inr p) h =
      record {
        es' = es;
        held = subst (λ (x : AfterStoring). Held sh x.storing.ledger x.journal es) (sym p.is) h;
        queue = λ k q. rw (p.is, p.no, no_text (eqb l k) t) (append-nil (waiting k es));
        serial = λ k q.
            subst (λ (x : AfterStoring). get_or x.storing.ledger.serials k 0 ≡ (get_or s.ledger.serials k 0 + length (cond (eqb l k && is_ok x.storing.answer) (t ∷ []) [])) % serial_count) (sym p.is)
            (rw (p.no, no_text (eqb l k) t) (same_serial (get_or s.ledger.serials k 0) (h.serials k q)));
      }

  -- the buffer's start is the text
  copied_text : (b t : List ℕ) → length t ≤ length b → take (length t) (splice b 0 t) ≡ t
  copied_text b t h = sym (part_start (splice b 0 t) (length t)) ∙ part_splice b 0 t (omega arith)

  nothing : (b : Bool) (xs : List Numbered) → xs ≡ [] → cond b xs [] ≡ []
  nothing true xs e = e
  nothing false xs e = refl

  get_moves : (s : State) (l : ℕ) (b : List ℕ) (es : List Entry) → Gives sh s.ledger l s.journal b es ⊎ Keeps s.ledger l s.journal b
      → Held sh s.ledger s.journal es → Moves s (get l b) es
  unfolding shrunk
  get_moves s l b es (inl p) h =
      record {
        es' = before l es ++ p.fs;
        held = subst (λ (x : AfterTaking). Held sh x.taking.ledger x.journal (before l es ++ p.fs)) (sym p.is) p.held;
        queue = λ k q. elim (ℕ_discrete k l) [
          | yes x ↦
              rw (x, p.is, eq-eqb l l refl, copied_text b p.e.text p.fits, taken_own l es p.e p.fs p.oldest)
              (append-nil (record { serial = p.e.serial; text = p.e.text } ∷ waiting l (before l es ++ p.fs)))
          | no x ↦ rw (p.is, ne_eqb l k (λ y. x (sym y)), taken_other l es p.e p.fs p.oldest k x) (append-nil (waiting k es))
        ];
        serial = λ k q.
            subst (λ (x : AfterTaking). get_or x.taking.ledger.serials k 0 ≡ (get_or s.ledger.serials k 0 + 0) % serial_count) (sym p.is)
            (same_serial (get_or s.ledger.serials k 0) (h.serials k q));
      }
  get_moves s l b es (inr p) h =
      record {
        es' = es;
        held = subst (λ (x : AfterTaking). Held sh x.taking.ledger x.journal es) (sym p.is) h;
        queue = λ k q. rw (p.is, nothing (eqb l k) (given p.answer b) (p.no b)) (append-nil (waiting k es));
        serial = λ k q.
            subst (λ (x : AfterTaking). get_or x.taking.ledger.serials k 0 ≡ (get_or s.ledger.serials k 0 + 0) % serial_count) (sym p.is)
            (same_serial (get_or s.ledger.serials k 0) (h.serials k q));
      }

  pub moves : (s : State) (o : Operation) (es : List Entry) → Held sh s.ledger s.journal es → Moves s o es
  moves s (put l t) es h = put_moves s l t es (store_cases sh s.ledger l t s.journal es h) h
  moves s (get l b) es h = get_moves s l b es (take_cases sh s.ledger l s.journal b es h) h

  -- ---- any run

  pub record Runs (s : State) (os : List Operation) (es : List Entry) : Type 0 where
    pub es' : List Entry
    pub held : Held sh (after sh s os).ledger (after sh s os).journal es'
    pub queue : (k : ℕ) → k < lines → waiting k es ++ numbered (get_or s.ledger.serials k 0) (all_in sh k s os) ≡ all_out sh k s os ++ waiting k es'

  renumbered : (n m : ℕ) (ss ts : List (List ℕ)) → m ≡ (n + length ss) % serial_count → numbered n (ss ++ ts) ≡ numbered n ss ++ numbered m ts
  renumbered n m ss ts e =
      let r : (n + length ss) % serial_count ≡ m % serial_count = omega arith in
      numbered_append n ss ts ∙ ap (λ (x : List Numbered). numbered n ss ++ x) (numbered_from (n + length ss) m ts r)

  pub runs : (os : List Operation) (s : State) (es : List Entry) → Held sh s.ledger s.journal es → Runs s os es
  runs [] s es h = record { es' = es; held = h; queue = λ k q. append-nil (waiting k es) }
  runs (o ∷ os) s es h =
      let m = moves s o es h in
      let r = runs os (next sh s o) m.es' m.held in
      record {
        es' = r.es';
        held = r.held;
        queue = λ k q.
            let n = get_or s.ledger.serials k 0 in
            let n' = get_or (next sh s o).ledger.serials k 0 in
            let rest = all_in sh k (next sh s o) os in
            ap (λ (x : List Numbered). waiting k es ++ x) (renumbered n n' (goes_in sh k s o) rest (m.serial k q))
            ∙ sym (append_assoc (waiting k es) (numbered n (goes_in sh k s o)) (numbered n' rest))
            ∙ ap (λ (x : List Numbered). x ++ numbered n' rest) (m.queue k q)
            ∙ append_assoc (comes_out sh k s o) (waiting k m.es') (numbered n' rest)
            ∙ ap (λ (x : List Numbered). comes_out sh k s o ++ x) (r.queue k q)
            ∙ sym (append_assoc (comes_out sh k s o) (all_out sh k (next sh s o) os) (waiting k r.es'));
      }

  -- from fresh: the texts stored on a line, with serials from 0, are those taken from it, in order and byte for byte, and then those that wait
  pub record FreshRun (j : List ℕ) (os : List Operation) : Type 0 where
    pub es : List Entry
    pub held : Held sh (after sh (record { ledger = fresh_ledger; journal = j }) os).ledger (after sh (record { ledger = fresh_ledger; journal = j }) os).journal es
    pub queue : (k : ℕ) → k < lines
        → numbered 0 (all_in sh k (record { ledger = fresh_ledger; journal = j }) os) ≡ all_out sh k (record { ledger = fresh_ledger; journal = j }) os ++ waiting k es

  pub fresh_runs : (os : List Operation) (j : List ℕ) → length j ≡ journal_size → sum_to lines (λ l. get_or sh l 0) ≤ journal_size → FreshRun j os
  fresh_runs os j n f =
      let s : State = record { ledger = fresh_ledger; journal = j } in
      let r = runs os s [] (fresh_held sh j n f) in
      record {
        es = r.es';
        held = r.held;
        queue = λ k q. let z : get_or fresh_ledger.serials k 0 ≡ 0 = get_or-replicate lines k 0 0 q in rw z at (r.queue k q);
      }
