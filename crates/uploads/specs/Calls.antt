-- An event on a strip reader's line, over what a host keeps.
-- Assumes nothing.
use Rattle.std.specs.Prelude.{ℕ, ltb}
use Rattle.memory.specs.Sizes.{lines}
use Rattle.memory.specs.Tests.{unless}
use Rattle.room.specs.Room.{todays_shares}
use Rattle.settings.specs.Settings.{by_dialogue}
use Rattle.answers.specs.InNumbers.{in_numbers}
use Rattle.answers.specs.declared.Answer.TheVariants.{NoLine, WrongSize, BeyondLimits}
use Rattle.answers.specs.declared.Answered.{Answered}
use Rattle.looking.specs.Lent.{right_sizes}
use Rattle.looking.specs.declared.Event.{Event}
use Rattle.ledger.specs.Ledgers.{ledger_of, with_serial, with_used}
use Rattle.numbers.specs.Plain.{within_numbers, line_of, with_line}
use Rattle.keeping.specs.Keeping.{memo_of, with_memo}
use Rattle.uploads.specs.Uploads.{AfterUpload, upload_of}
use Rattle.uploads.specs.Host.{HostState, AfterCall, refused, Called}

-- the outcome of an event put back into the numbers: the line's record, its serial and used count, what is kept of its reader
abbrev pub put_upload : HostState → ℕ → AfterUpload → AfterCall
put_upload s i x = record {
  answered = in_numbers x.step.stepped.answer;
  state = record {
    numbers = with_memo (with_serial (with_line s.numbers i x.step.stepped.line) i x.step.stepped.ledger) i x.memo;
    counts = with_used s.counts i x.step.stepped.ledger;
    memory = x.step.memory;
  };
}

-- an event: 40, 41, 42, which is also for a line of frames, or the reader's line by value [A40, O3, H3, H4]
unfoldable pub upload_call : HostState → Event → AfterCall
upload_call s e =
    unless (ltb e.line lines) (refused NoLine s)
    (unless (right_sizes s.memory.journal s.memory.unfinished s.memory.frames) (refused WrongSize s)
    (unless (within_numbers s.numbers e.line) (refused BeyondLimits s)
    (by_dialogue (line_of s.numbers e.line).settings.dialogue (refused BeyondLimits s)
    (λ p. put_upload s e.line (upload_of todays_shares p (line_of s.numbers e.line) (memo_of s.numbers e.line) (ledger_of s.numbers s.counts) e s.memory)))))

abbrev pub Uploading : HostState → Event → Answered → HostState → Type 0
Uploading s e r t = Called (upload_call s e) r t
