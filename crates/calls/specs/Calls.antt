-- What an event leaves of what a host keeps, over plain numbers.
-- Assumes nothing.
use Rattle.std.specs.Prelude.{ℕ, ltb}
use Rattle.memory.specs.Sizes.{lines}
use Rattle.memory.specs.Tests.{unless}
use Rattle.room.specs.Room.{todays_shares}
use Rattle.settings.specs.Settings.{by_dialogue}
use Rattle.answers.specs.declared.Answer.TheVariants.{NoLine, WrongSize, BeyondLimits}
use Rattle.looking.specs.Lent.{right_sizes}
use Rattle.receiving.specs.Steps.{AfterStep, step_of}
use Rattle.looking.specs.declared.Event.{Event}
use Rattle.ledger.specs.Ledgers.{ledger_of, with_serial, with_used}
use Rattle.answers.specs.InNumbers.{in_numbers}
use Rattle.numbers.specs.Plain.{within_numbers, line_of, with_line}
use Rattle.answers.specs.declared.Answered.{Answered}
use Rattle.keeping.specs.Keeping.{memo_of}
use Rattle.uploads.specs.Uploads.{upload_of}
pub use Rattle.uploads.specs.Host.{HostState, AfterCall, refused, Called}
use Rattle.uploads.specs.Calls.{put_upload}

-- the step's outcome put back into the numbers
abbrev pub put_back : HostState → ℕ → AfterStep → AfterCall
put_back s i x = record {
  answered = in_numbers x.stepped.answer;
  state = record {
    numbers = with_serial (with_line s.numbers i x.stepped.line) i x.stepped.ledger;
    counts = with_used s.counts i x.stepped.ledger;
    memory = x.memory;
  };
}

-- an event: 40, 41, 42, or the gateway's step of its line, by what that speaks [A40, O3, H3, H4, B1]
unfoldable pub call_of : HostState → Event → AfterCall
call_of s e =
    unless (ltb e.line lines) (refused NoLine s)
    (unless (right_sizes s.memory.journal s.memory.unfinished s.memory.frames) (refused WrongSize s)
    (unless (within_numbers s.numbers e.line) (refused BeyondLimits s)
    (by_dialogue (line_of s.numbers e.line).settings.dialogue
    (put_back s e.line (step_of todays_shares (line_of s.numbers e.line) (ledger_of s.numbers s.counts) e s.memory))
    (λ p. put_upload s e.line (upload_of todays_shares p (line_of s.numbers e.line) (memo_of s.numbers e.line) (ledger_of s.numbers s.counts) e s.memory)))))

-- what an event says: its answer, and every number and byte that the host keeps then [P1]
abbrev pub Calling : HostState → Event → Answered → HostState → Type 0
Calling s e r t = Called (call_of s e) r t
