-- An event and a taking change what the ledger has of their own line, and of no other.
-- Assumes nothing.
use Rattle.std.specs.Prelude.{None, Option, Some}
use mathlib.Core.Path.{◌≡◌, refl, sym, ap}
use mathlib.Core.Bool.{Bool, true, false}
use mathlib.Core.List.{List, [], ◌∷◌}
use Prim.Native.Nat.{ℕ, ◌<◌}
use native.Mathlib.Omega.{arith}
use lib.Dec.{leb, ltb, eqb}
use lib.ListN.{length, get_or, set}
use lib.Seq.{set-get_or, get_or-set_same}
use Rattle.memory.specs.Sizes.{lines, journal_size}
use Rattle.memory.specs.Tests.{unless}
use Rattle.header.specs.Entry.{Entry}
use Rattle.journal.specs.Entries.{sizes, before, from}
use Rattle.journal.specs.Chain.{chain}
use Rattle.journal.specs.Storage.{grown}
use Rattle.journal.specs.Removal.{AfterTaking, shrunk, take_at, take_oldest, take_from, take_of}
use Rattle.journal.specs.declared.Ledger.{Ledger}
use Rattle.line.specs.declared.Line.{Line}
use Rattle.looking.specs.Views.{frames_of, texts_of, joined_text}
use Rattle.receiving.specs.Settled.{ledger_after}
use Rattle.receiving.specs.Verdicts.{verdict_of}
use Rattle.receiving.specs.Steps.{Memory, step_of}
use Rattle.looking.specs.declared.Event.{Event}
use Rattle.looking.specs.declared.Act.{Act}
use Rattle.settings.specs.declared.Patient.{Patient}
use Rattle.finding.specs.Findings.{finding_of}
use Rattle.strips.specs.Readers.{Memo}
use Rattle.uploads.specs.Uploads.{Deed, leave, add, settle, file, ledger_by, block_of, ruling_on, upload_of}
use Rattle.gateway_laws.proofs.Rows.{store_rows}

-- one line's used count and serial are set, and nothing of another line
pub record Touched (d : Ledger) (i : ℕ) (d' : Ledger) : Type 0 where
  pub used : d'.used ≡ set d.used i (get_or d'.used i 0)
  pub serials : d'.serials ≡ set d.serials i (get_or d'.serials i 0)

-- the used count alone
pub record Lowered (d : Ledger) (i : ℕ) (d' : Ledger) : Type 0 where
  pub used : d'.used ≡ set d.used i (get_or d'.used i 0)
  pub serials : d'.serials ≡ d.serials

-- a list of eight, one of it set
one_set : (xs : List ℕ) (i v : ℕ) → length xs ≡ lines → i < lines → set xs i v ≡ set xs i (get_or (set xs i v) i 0)
one_set xs i v n h = ap (set xs i) (sym (get_or-set_same xs i v 0 (omega arith)))

module _ (d : Ledger) (i : ℕ) (h : i < lines) (u : length d.used ≡ lines) (s : length d.serials ≡ lines) where
  as_it_was : Touched d i d
  as_it_was = record { used = sym (set-get_or d.used i 0); serials = sym (set-get_or d.serials i 0) }

  by_storing : (n : ℕ) → Touched d i (grown d i n)
  unfolding grown
  by_storing n = record { used = one_set d.used i _ u h; serials = one_set d.serials i _ s h }

  by_act : (x : Act) (text : ℕ → List ℕ) → Touched d i (ledger_after x d i text)
  by_act x text = store_rows d i text [] (λ y ledger journal. Touched d i ledger) (λ y. as_it_was) (λ n. by_storing (length (text n))) x

  by_deed : (x : Deed) (text : List ℕ) → Touched d i (ledger_by x d i text)
  by_deed leave text = as_it_was
  by_deed add text = as_it_was
  by_deed (settle r) text = as_it_was
  by_deed file text = by_storing (length text)

-- a taking: no serial moves
module _ (d : Ledger) (i : ℕ) (h : i < lines) (u : length d.used ≡ lines) where
  kept : Lowered d i d
  kept = record { used = sym (set-get_or d.used i 0); serials = refl }

  by_removal : (e : Entry) → Lowered d i (shrunk d i e)
  unfolding shrunk
  by_removal e = record { used = one_set d.used i _ u h; serials = refl }

  either : (t : Bool) (a b : AfterTaking) → Lowered d i a.taking.ledger → Lowered d i b.taking.ledger → Lowered d i (unless t a b).taking.ledger
  either true a b p q = q
  either false a b p q = p

  module _ (j b : List ℕ) where
    at_lowered : (at : ℕ) (e : Entry) → Lowered d i (take_at d i at e j b).taking.ledger
    unfolding take_at
    at_lowered at e = either (leb (length e.text) (length b)) _ _ kept (by_removal e)

    oldest_lowered : (at : ℕ) (es : List Entry) → Lowered d i (take_oldest d i at es j b).taking.ledger
    oldest_lowered at [] = kept
    oldest_lowered at (e ∷ es) = at_lowered at e

    from_lowered : (o : Option (List Entry)) → Lowered d i (take_from d i o j b).taking.ledger
    from_lowered None = kept
    from_lowered (Some es) = oldest_lowered (sizes (before i es)) (from i es)

    pub taking_lowered : Lowered d i (take_of d i j b).taking.ledger
    unfolding take_of
    taking_lowered = either (ltb i lines) _ _ kept (either (eqb (length j) journal_size) _ _ kept (from_lowered (chain d j)))

-- an event on a line of frames
pub step_touched : (shares : List ℕ) (l : Line) (d : Ledger) (e : Event) (m : Memory) → e.line < lines → length d.used ≡ lines → length d.serials ≡ lines
    → Touched d e.line (step_of shares l d e m).stepped.ledger
unfolding step_of
step_touched shares l d e m h u s =
    by_act d e.line h u s (verdict_of shares l d e m.journal m.unfinished m.frames).act (λ n. joined_text l n (texts_of e.line m.unfinished) (frames_of e.line m.frames))

-- and on a reader's line
pub upload_touched : (shares : List ℕ) (p : Patient) (l : Line) (w : Memo) (d : Ledger) (e : Event) (m : Memory) → e.line < lines → length d.used ≡ lines → length d.serials ≡ lines
    → Touched d e.line (upload_of shares p l w d e m).step.stepped.ledger
unfolding upload_of
upload_touched shares p l w d e m h u s =
    by_deed d e.line h u s (ruling_on shares p l w d e m).deed (finding_of p (block_of e.kind l (frames_of e.line m.frames)))
