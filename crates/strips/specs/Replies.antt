-- Our last reply to a strip reader: as a number, and the block that it is.
-- Assumes nothing.
use Rattle.strips.specs.declared.Reply.TheVariants.{Again, More}
use Rattle.strips.specs.declared.Reply.{Reply}
use Rattle.std.specs.Prelude.{ℕ, cond, List, [], eqb, None, Option, Some}
use Rattle.block.specs.Layouts.{mor, rep}
use Rattle.block.specs.Controls.{control_bytes}

-- 0 for none, 1 for more, 2 for again [H2]
abbrev pub replied_of : ℕ → Option Reply
replied_of n = cond (eqb n 0) None (cond (eqb n 1) (Some More) (Some Again))

abbrev pub reply_number : Option Reply → ℕ
reply_number None = 0
reply_number (Some More) = 1
reply_number (Some Again) = 2

-- that the reader may send more, or is to send again [B4, B11]
abbrev pub reply_block : Option Reply → List ℕ
reply_block None = []
reply_block (Some More) = control_bytes mor
reply_block (Some Again) = control_bytes rep
