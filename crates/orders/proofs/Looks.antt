-- What a start comes to, test by test; and what has passed where it asks.
-- Assumes nothing.
use Rattle.std.specs.Prelude.{Err, Ok, Result}
use Rattle.faults.specs.declared.Flaw.TheVariants.{Faulty, NotText}
use Rattle.faults.specs.declared.Flaw.{Flaw}
use Rattle.answers.specs.declared.Answer.{Answer}
use mathlib.Core.Path.{◌≡◌, refl, sym, ◌∙◌}
use mathlib.Core.Bool.{Bool, true, false}
use mathlib.Core.List.{List}
use Prim.Native.Nat.{ℕ, ◌≤◌, ◌<◌}
use borrow.Author.Tests.{lt-ltb, le-ltb, ltb-true}
use lib.Dec.{ltb}
use lib.ListN.{length}
use Rattle.memory.specs.Sizes.{lines, message_limit, unfinished_size}
use Rattle.memory.specs.Tests.{unless}
use Rattle.memory.proofs.Tests.{clash}
use Rattle.faults.specs.Message.{is_message}
use Rattle.faults.specs.Faults.{fault_of, is_faultless}
use Rattle.faults.proofs.Messages.{message_short}
use Rattle.faults.proofs.NoFault.{no_fault}
use Rattle.answers.specs.declared.Answer.TheVariants.{NotNeutral, NoLine, WrongSize, BeyondLimits}
use Rattle.looking.specs.Lent.{right_lengths}
use Rattle.looking.proofs.Alone.{lengths_facts}
use Rattle.orders.specs.Starts.{text_look, start_look}

-- only a message is sent
pub text_asks : (text : List ℕ) → text_look (fault_of text) ≡ Ok tt → is_message text ≡ true
text_asks text e = no_fault _ text ∙ by_fault (fault_of text) e
  where
    by_fault : (x : Result (Unit {0}) Flaw) → text_look x ≡ Ok tt → is_faultless x ≡ true
    by_fault (Ok tt) q = refl
    by_fault (Err NotText) q = clash cc
    by_fault (Err (Faulty f p)) q = clash cc

-- and a message is
pub message_asks : (text : List ℕ) → is_message text ≡ true → text_look (fault_of text) ≡ Ok tt
message_asks text m = by_fault (fault_of text) (sym (no_fault _ text) ∙ m)
  where
    by_fault : (x : Result (Unit {0}) Flaw) → is_faultless x ≡ true → text_look x ≡ Ok tt
    by_fault (Ok tt) q = refl
    by_fault (Err NotText) q = clash cc
    by_fault (Err (Faulty f p)) q = clash cc

module _ (i : ℕ) (within can : Bool) (text : List ℕ) (j u f : ℕ) where
  abbrev look : Result (Unit {0}) Answer
  look = start_look i within can text j u f

  -- 40, 41, 42, 60, then the text
  pub look_no_line : lines ≤ i → Err NoLine ≡ look
  unfolding start_look
  look_no_line h = rw (le-ltb i lines h)

  module _ (h : i < lines) where
    pub look_size : right_lengths j u f ≡ false → Err WrongSize ≡ look
    unfolding start_look
    look_size z = rw (lt-ltb i lines h, z)

    module _ (z : right_lengths j u f ≡ true) where
      pub look_beyond : within ≡ false → Err BeyondLimits ≡ look
      unfolding start_look
      look_beyond w = rw (lt-ltb i lines h, z, w)

      module _ (w : within ≡ true) where
        pub look_busy : can ≡ false → Err NotNeutral ≡ look
        unfolding start_look
        look_busy n = rw (lt-ltb i lines h, z, w, n)

        pub look_text : can ≡ true → text_look (fault_of text) ≡ look
        unfolding start_look
        look_text n = rw (lt-ltb i lines h, z, w, n)

  -- where it asks, all has passed
  pub record Passed : Type 0 where
    pub line : i < lines
    pub sizes : right_lengths j u f ≡ true
    pub limits : within ≡ true
    pub free : can ≡ true
    pub message : is_message text ≡ true

  pub asks_passed : look ≡ Ok tt → Passed
  unfolding start_look
  asks_passed = by_line_law (ltb i lines) (right_lengths j u f) within can refl refl refl refl
    where
      by_line_law : (a b c d : Bool) → ltb i lines ≡ a → right_lengths j u f ≡ b → within ≡ c → can ≡ d
          → unless a (Err NoLine) (unless b (Err WrongSize) (unless c (Err BeyondLimits) (unless d (Err NotNeutral) (text_look (fault_of text))))) ≡ Ok tt → Passed
      by_line_law true true true true p q r n e = record { line = ltb-true i lines p; sizes = q; limits = r; free = n; message = text_asks text e }
      by_line_law true true true false p q r n e = clash cc
      by_line_law true true false d p q r n e = clash cc
      by_line_law true false c d p q r n e = clash cc
      by_line_law false b c d p q r n e = clash cc

  -- its text fits the line's part
  pub passed_fits : Passed → (length text ≤ message_limit) × (u ≡ unfinished_size)
  passed_fits x = (message_short _ text x.message, (lengths_facts j u f x.sizes).1)
