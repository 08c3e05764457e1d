-- What goes out on a line, with an answer: the very bytes of a sending, and of our reply to a strip reader.
-- Assumes nothing.
use Rattle.strips.specs.declared.Reply.{Reply}
use Rattle.std.specs.Prelude.{ℕ, cond, List, [], ◌∷◌, eqb, Option}
use Rattle.memory.specs.Tests.{is, unless}
use Rattle.characters.specs.Control.{stx}
use Rattle.strips.specs.Replies.{reply_block}

-- the number of every answer in a sending that is not given up [A9]
abbrev pub sends : ℕ
sends = 9

-- by an answer's number, the first byte that goes out with it (0 for none), and the frame that its line then offers: with STX the whole frame goes out [S2]
abbrev pub out_bytes : ℕ → ℕ → List ℕ → List ℕ
out_bytes number first frame = unless (eqb number sends) [] (cond (eqb first 0) [] (cond (is stx first) frame (first ∷ [])))

-- by the first byte that goes out with an answer on a reader's line: with STX our last reply goes out, whole, and else nothing [B11]
abbrev pub block_out : ℕ → Option Reply → List ℕ
block_out first reply = cond (is stx first) (reply_block reply) []
