-- `escaping::with_escapes::letters_for` meets its contract: the letters are laid one behind the other, the field's last, since it counts first.
-- Assumes nothing.
use borrow.Author.Rules.{rules}
use Rattle.escaping.proofs.Tables.{none_laid, one_laid, letters_laid}
use Rattle.escaping.proofs.with_escapes.letters_for.Goals as goal

pub returns : goal.returns
returns c =
    let d = c.args.d in
    letters_laid
    (one_laid 0x46 d.field (search rules)
    (one_laid 0x53 d.component (search rules)
    (one_laid 0x52 d.repeat (search rules)
    (one_laid 0x45 d.escape (search rules) none_laid))))
