-- What a taking leaves: 40, 41, 43, 44 and 45 leave everything equal, and only 8 changes the ledger, the journal and the buffer.
-- Assumes nothing.
use Rattle.std.specs.Prelude.{Err, None, Ok, Option, Result, Some, ℕ}
use Rattle.journal.specs.declared.NotTaken.TheVariants.{Broken, BufferShort, NoLine, NothingWaiting, WrongSize}
use Rattle.journal.specs.declared.NotTaken.{NotTaken}
use mathlib.Core.Path.{◌≡◌, refl, ap}
use mathlib.Core.Logic.{◌⊎◌, inl, inr}
use mathlib.Core.Bool.{Bool, true, false, cond}
use mathlib.Core.List.{List, [], ◌∷◌}
use Prim.Native.Nat.{ℕ}
use lib.Dec.{leb, ltb, eqb}
use lib.ListN.{length}
use Rattle.memory.specs.Sizes.{lines, journal_size}
use Rattle.memory.proofs.Tests.{clash}
use Rattle.header.specs.Entry.{Entry}
use Rattle.journal.specs.Entries.{sizes, before, from}
use Rattle.journal.specs.Chain.{chain}
use Rattle.journal.specs.Removal.{AfterTaking, after_taking, take_at, take_oldest, take_from, take_of as take_entry}
use Rattle.journal.specs.declared.Ledger.{Ledger}
use Rattle.gateway.specs.Events.{AfterTake, take_of}
use Rattle.taking.specs.Taking.{took_answer}
use Rattle.gateway.specs.Gateway.{Gateway}
use Rattle.gateway_laws.specs.Classes.{class_of, quiet, taking}

module _ (d : Ledger) (j b : List ℕ) where
  -- a refusal is only an answer
  abbrev Unmoved : AfterTaking → Type 0
  Unmoved x = class_of (took_answer x.taking.answer) ≡ quiet → x ≡ after_taking d x.taking.answer j b

  by_test_law : (t : Bool) (x y : AfterTaking) → Unmoved x → Unmoved y → Unmoved (cond t x y)
  by_test_law true x y p q = p
  by_test_law false x y p q = q

  module _ (l : ℕ) where
    unmoved_at : (at : ℕ) (e : Entry) → Unmoved (take_at d l at e j b)
    unfolding take_at
    unmoved_at at e = by_test_law (leb (length e.text) (length b)) _ _ (λ h. clash (cc h)) (λ h. refl)

    unmoved_oldest : (at : ℕ) (es : List Entry) → Unmoved (take_oldest d l at es j b)
    unmoved_oldest at [] = λ h. refl
    unmoved_oldest at (e ∷ es) = unmoved_at at e

    unmoved_from : (es : Option (List Entry)) → Unmoved (take_from d l es j b)
    unmoved_from None = λ h. refl
    unmoved_from (Some es) = unmoved_oldest (sizes (before l es)) (from l es)

    unmoved : Unmoved (take_entry d l j b)
    unfolding take_entry
    unmoved = by_test_law (ltb l lines) _ _ (by_test_law (eqb (length j) journal_size) _ _ (unmoved_from (chain d j)) (λ h. refl)) (λ h. refl)

-- a refused taking leaves everything equal
pub taking_refused : (g : Gateway) (i : ℕ) (j b : List ℕ) → class_of (take_of g i j b).handled.answer ≡ quiet
    → take_of g i j b ≡ record { handled = record { gateway = g; answer = (take_of g i j b).handled.answer }; journal = j; buffer = b }
unfolding take_of
taking_refused g i j b h =
    ap answered (unmoved g.ledger j b i h)
  where
    answered : AfterTaking → AfterTake
    answered x = record {
      handled = record { gateway = record { lines = g.lines; memos = g.memos; ledger = x.taking.ledger }; answer = took_answer x.taking.answer };
      journal = x.journal;
      buffer = x.buffer;
    }

-- there is no third answer: a taking is refused, or gives an entry
took_class : (t : Result (ℕ × ℕ) NotTaken) → (class_of (took_answer t) ≡ quiet) ⊎ (class_of (took_answer t) ≡ taking)
took_class (Ok (n, serial)) = inr refl
took_class (Err NothingWaiting) = inl refl
took_class (Err BufferShort) = inl refl
took_class (Err Broken) = inl refl
took_class (Err NoLine) = inl refl
took_class (Err WrongSize) = inl refl

pub taking_class : (g : Gateway) (i : ℕ) (j b : List ℕ) → (class_of (take_of g i j b).handled.answer ≡ quiet) ⊎ (class_of (take_of g i j b).handled.answer ≡ taking)
unfolding take_of
taking_class g i j b = took_class (take_entry g.ledger i j b).taking.answer
