-- What each way out of writing a text into lent memory says.
-- Assumes nothing.
use Rattle.std.specs.Prelude.{None, Some}
use Rattle.std.proofs.Common.{◌≡◌, ℕ, ◌+◌, ◌<◌, ◌≤◌, Bool, true, false, List, length, sym, ap, ◌∙◌, le-leb, leb-true}
use borrow.Author.Tests.{lt-leb}
use Rattle.memory.specs.Parts.{splice}
use Rattle.memory.specs.Moves.{copied, Copied}
use Rattle.listing.specs.Texts.{end_of, TextWritten}

module _ (text out : List ℕ) (at : ℕ) where
  pub text_no : length out < at + length text → TextWritten text out at None out
  unfolding end_of copied
  text_no h = record { answer = rw (lt-leb (at + length text) (length out) h); after = rw (lt-leb (at + length text) (length out) h) }

  pub text_yes : {e : ℕ} {out' : List ℕ} → at + length text ≤ length out → e ≡ at + length text → out' ≡ splice out at text → TextWritten text out at (Some e) out'
  unfolding end_of copied
  text_yes h g k = record { answer = rw (le-leb (at + length text) (length out) h) (ap Some g); after = rw (le-leb (at + length text) (length out) h) k }

  -- a text that is copied as a whole
  pub copied_room : {r : Bool} {out' : List ℕ} → Copied out at text r out' → r ≡ true → at + length text ≤ length out
  copied_room c e = leb-true (at + length text) (length out) (sym c.answer ∙ e)

  pub copied_not : {r : Bool} {out' : List ℕ} → Copied out at text r out' → r ≡ false → TextWritten text out at None out'
  unfolding end_of
  copied_not c e = record { answer = rw (sym c.answer ∙ e); after = c.after }

  pub copied_all : {r : Bool} {out' : List ℕ} → Copied out at text r out' → r ≡ true → TextWritten text out at (Some (at + length text)) out'
  unfolding end_of
  copied_all c e = record { answer = rw (sym c.answer ∙ e); after = c.after }
