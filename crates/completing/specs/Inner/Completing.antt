-- A complete text past 40 to 42: its deciding, and the whole work.
-- Assumes nothing.
use Rattle.std.specs.Prelude.{ℕ, List}
use Rattle.room.specs.Room.{todays_shares}
use Rattle.journal.specs.declared.Ledger.{Ledger}
use Rattle.line.specs.declared.Line.{Line}
use Rattle.looking.specs.Views.{frames_of, texts_of, joined_text}
use Rattle.looking.specs.declared.Event.{Event}
use Rattle.deciding.specs.Decisions.{Decision}
use Rattle.deciding.specs.declared.Decided.{Decided}
use Rattle.receiving.specs.Steps.{Memory, settle, Leaves}
use Rattle.receiving.specs.declared.Stepped.{Stepped}
use Rattle.completing.specs.Deciding.{completed}

-- what deciding a line's text says, with n bytes of its frame: the unfinished texts and the frames are read, and only the journal changes
abbrev pub Completion : Line → Ledger → ℕ → ℕ → List ℕ → List ℕ → List ℕ → Decided → List ℕ → Type 0
Completion l d i n j u f r j' = Decision d i (joined_text l n (texts_of i u) (frames_of i f)) j r j'

-- the work of deciding, past 40 to 42
abbrev pub Completing : Line → Ledger → Event → ℕ → Memory → Stepped → Memory → Type 0
Completing l d e n m r m' = Leaves (settle (completed todays_shares l d e n m) l d e m) r m'
