-- What a storing and a taking do to a journal that is held: its entries afterwards, and the answer. 41 and 43 never come.
-- Assumes nothing.
use Rattle.std.specs.Option.{is_some}
use Rattle.std.specs.Result.{is_ok}
use Rattle.std.specs.Prelude.{Err, Ok, Result, ℕ}
use Rattle.journal.specs.declared.Refusal.TheVariants.{Malformed, NoLine, NoRoom}
use Rattle.journal.specs.declared.Refusal.{Refusal}
use Rattle.journal.specs.declared.NotTaken.TheVariants.{BufferShort, NothingWaiting}
use Rattle.journal.specs.declared.NotTaken.{NotTaken}
use mathlib.Core.Path.{◌≡◌, refl, ap, ◌∙◌}
use mathlib.Core.Logic.{◌⊎◌, inl, inr}
use mathlib.Core.List.{List, [], ◌∷◌, ◌++◌}
use mathlib.Core.Bool.{Bool, true, false, cond}
use Prim.Native.Nat.{ℕ, ◌<◌, ◌≤◌}
use native.Mathlib.Omega.{arith}
use native.Mathlib.Decide.{dec_lt, dec_le}
use lib.ListN.{length, get_or}
use lib.Dec.{eqb}
use borrow.Author.Tests.{le-leb, lt-leb, lt-ltb, le-ltb, eq-eqb}
use Rattle.memory.specs.Sizes.{lines, message_limit, journal_size}
use Rattle.memory.specs.Parts.{splice}
use Rattle.header.specs.Header.{entry_size}
use Rattle.header.specs.Entry.{Entry}
use Rattle.journal.specs.Entries.{sizes, before, from}
use Rattle.room.specs.Room.{fits, raised}
use Rattle.journal.specs.Answers.{verdict_number, took_paper}
use Rattle.journal.specs.Verdicts.{judge_of}
use Rattle.journal.specs.Storage.{new_entry, grown, appended, after_storing, store_of}
use Rattle.journal.specs.Removal.{shrunk, without, after_taking, take_at, take_of}
use Rattle.journal_laws.specs.Held.{Held}
use Rattle.journal_laws.specs.Runs.{given}
use Rattle.journal.specs.declared.Ledger.{Ledger}
use Rattle.journal.proofs.Judged.{judged_line_law, judged_text, judged_room}
use Rattle.journal_laws.proofs.Keeps.{store_held, take_held}

-- ---- a storing: one more entry at the end, or nothing changes

pub record Stores (sh : List ℕ) (d : Ledger) (l : ℕ) (t j : List ℕ) (es : List Entry) : Type 0 where
  pub line : l < lines
  pub is : store_of d sh l t j ≡ after_storing (grown d l (length t)) (Ok tt) (appended d l t j)
  pub held : Held sh (grown d l (length t)) (appended d l t j) (es ++ new_entry d l t ∷ [])

pub record Stays (sh : List ℕ) (d : Ledger) (l : ℕ) (t j : List ℕ) : Type 0 where
  pub verdict : Result (Unit {0}) Refusal
  pub is : store_of d sh l t j ≡ after_storing d verdict j
  pub no : is_ok verdict ≡ false
  pub sized : eqb (verdict_number verdict) 41 ≡ false
  pub whole : eqb (verdict_number verdict) 43 ≡ false

module _ (sh : List ℕ) (d : Ledger) (l : ℕ) (t j : List ℕ) (es : List Entry) (h : Held sh d j es) where
  stays : (v : Result (Unit {0}) Refusal) → v ≡ judge_of d sh l (length t) j → is_ok v ≡ false → eqb (verdict_number v) 41 ≡ false → eqb (verdict_number v) 43 ≡ false → Stays sh d l t j
  unfolding store_of
  stays v e f a b = record { verdict = v; is = rw (← e, f); no = f; sized = a; whole = b }

  module _ (line : l < lines) (low : 1 ≤ length t) (high : length t ≤ message_limit) where
    -- the verdict is room's alone
    pub held_judged : (b : Bool) → fits sh (raised d.used l (entry_size (length t))) ≡ b → cond b (Ok tt) (Err NoRoom) ≡ judge_of d sh l (length t) j
    held_judged b f = judged_room d sh l (length t) j line h.long low high b (ap is_some h.whole) f

    -- stored exactly if the claims then fit
    pub store_fits : fits sh (raised d.used l (entry_size (length t))) ≡ true → Stores sh d l t j es
    unfolding store_of
    store_fits f = record { line = line; is = rw (← (held_judged true f)); held = store_held sh d l t j es h line low high f }

    decided : (b : Bool) → fits sh (raised d.used l (entry_size (length t))) ≡ b → Stores sh d l t j es ⊎ Stays sh d l t j
    decided true f = inl (store_fits f)
    decided false f = inr (stays (Err NoRoom) (held_judged false f) refl refl refl)

  pub store_cases : Stores sh d l t j es ⊎ Stays sh d l t j
  store_cases = elim (dec_lt l lines) [
    | yes line ↦ elim (dec_le 1 (length t)) [
      | yes low ↦ elim (dec_le (length t) message_limit) [
        | yes high ↦ decided line low high (fits sh (raised d.used l (entry_size (length t)))) refl
        | no high ↦ inr (stays (Err Malformed) (judged_text d sh l (length t) j line h.long (λ p q. high q)) refl refl refl)
      ]
      | no low ↦ inr (stays (Err Malformed) (judged_text d sh l (length t) j line h.long (λ p q. low p)) refl refl refl)
    ]
    | no line ↦ inr (stays (Err NoLine) (judged_line_law d sh l (length t) j (omega arith)) refl refl refl)
  ]

-- ---- a taking: the line's oldest entry, or nothing changes

pub record Gives (sh : List ℕ) (d : Ledger) (l : ℕ) (j b : List ℕ) (es : List Entry) : Type 0 where
  pub e : Entry
  pub fs : List Entry
  pub oldest : from l es ≡ e ∷ fs
  pub fits : length e.text ≤ length b
  pub is : take_of d l j b ≡ after_taking (shrunk d l e) (Ok (length e.text, e.serial)) (without d (sizes (before l es)) e j) (splice b 0 e.text)
  pub held : Held sh (shrunk d l e) (without d (sizes (before l es)) e j) (before l es ++ fs)

pub record Keeps (d : Ledger) (l : ℕ) (j b : List ℕ) : Type 0 where
  pub answer : Result (ℕ × ℕ) NotTaken
  pub is : take_of d l j b ≡ after_taking d answer j b
  pub no : (c : List ℕ) → given answer c ≡ []
  pub sized : eqb (get_or (took_paper answer) 0 0) 41 ≡ false
  pub whole : eqb (get_or (took_paper answer) 0 0) 43 ≡ false

module _ (sh : List ℕ) (d : Ledger) (l : ℕ) (j b : List ℕ) (es : List Entry) (h : Held sh d j es) where
  no_line : lines ≤ l → Keeps d l j b
  unfolding take_of
  no_line n = record { answer = Err NotTaken.NoLine; is = rw (le-ltb l lines n); no = λ c. refl; sized = refl; whole = refl }

  pub take_empty : l < lines → from l es ≡ [] → take_of d l j b ≡ after_taking d (Err NothingWaiting) j b
  unfolding take_of
  take_empty line q = rw (lt-ltb l lines line, eq-eqb (length j) journal_size h.long, h.whole, q)

  module _ (line : l < lines) (e : Entry) (fs : List Entry) (q : from l es ≡ e ∷ fs) where
    take_reaches : take_of d l j b ≡ take_at d l (sizes (before l es)) e j b
    unfolding take_of
    take_reaches = rw (lt-ltb l lines line, eq-eqb (length j) journal_size h.long, h.whole, q)

    pub take_gives : length e.text ≤ length b → Gives sh d l j b es
    unfolding take_at
    take_gives n =
        record { e = e; fs = fs; oldest = q; fits = n; is = take_reaches ∙ rw (le-leb (length e.text) (length b) n); held = take_held sh d l j es h line e fs q }

    pub take_short : length b < length e.text → take_of d l j b ≡ after_taking d (Err BufferShort) j b
    unfolding take_at
    take_short n = take_reaches ∙ rw (lt-leb (length e.text) (length b) n)

    by_length : Gives sh d l j b es ⊎ Keeps d l j b
    by_length = elim (dec_le (length e.text) (length b)) [
      | yes n ↦ inl (take_gives n)
      | no n ↦ inr (record { answer = Err BufferShort; is = take_short (omega arith); no = λ c. refl; sized = refl; whole = refl })
    ]

  by_oldest : (line : l < lines) (fs : List Entry) → from l es ≡ fs → Gives sh d l j b es ⊎ Keeps d l j b
  by_oldest line [] q = inr (record { answer = Err NothingWaiting; is = take_empty line q; no = λ c. refl; sized = refl; whole = refl })
  by_oldest line (e ∷ fs) q = by_length line e fs q

  pub take_cases : Gives sh d l j b es ⊎ Keeps d l j b
  take_cases = elim (dec_lt l lines) [
    | yes line ↦ by_oldest line (from l es) refl
    | no line ↦ inr (no_line (omega arith))
  ]
