-- `escaping::escape` meets its contract: it writes only by an allowed four, and where the escaped text fits.
-- Assumes nothing.
use mathlib.Core.Path.{◌≡◌, sym, ◌∙◌}
use mathlib.Core.Bool.{true}
use lib.Dec.{leb}
use lib.ListN.{length}
use borrow.Author.Tests.{leb-true}
use Rattle.kinds.specs.Delimiters.{are_delimiters}
use Rattle.escaping.specs.Escape.{escaped}
use Rattle.escaping.proofs.Escapes.{escape_bad, escape_short, escape_done}
use Rattle.escaping.proofs.escape.Goals as goal

pub returns-then-not-are_delimiters : goal.returns-then-not-are_delimiters
returns-then-not-are_delimiters c = escape_bad _ _ _ (sym c.are_delimiters.ensures ∙ c.if-not-are_delimiters.true)

pub returns-then-not-fits : goal.returns-then-not-fits
returns-then-not-fits c =
    let four : are_delimiters c.args.d ≡ true = sym c.are_delimiters.ensures ∙ c.if-not-are_delimiters.false in
    let a = c.args in
    escape_short a.d a.text.now a.out.now four (sym (c.fits.ensures _ c.letters_for-letters.ensures) ∙ c.if-not-fits.true)

pub write-n-requires : goal.write-n-requires
write-n-requires c =
    let room : (let a = c.args in leb (length (escaped a.d a.text.now)) (length a.out.now) ≡ true) = sym (c.fits.ensures _ c.letters_for-letters.ensures) ∙ c.if-not-fits.false in
    (c.letters_for-letters.ensures, leb-true _ _ room)

pub returns : goal.returns
returns c =
    let four : are_delimiters c.args.d ≡ true = sym c.are_delimiters.ensures ∙ c.if-not-are_delimiters.false in
    let room : (let a = c.args in leb (length (escaped a.d a.text.now)) (length a.out.now) ≡ true) = sym (c.fits.ensures _ c.letters_for-letters.ensures) ∙ c.if-not-fits.false in
    let a = c.args in
    escape_done a.d a.text.now a.out.now four room c.write-n.ensures.0 c.write-n.ensures.1
