-- What a whole block of a strip reader comes to, before the journal is asked.
-- Assumes nothing.
use Rattle.strips.specs.declared.Reply.TheVariants.{Again, More}
use Rattle.strips.specs.declared.Reply.{Reply}
use Rattle.std.specs.Prelude.{Bool, true, false, None, Option, Some}
use Rattle.answers.specs.declared.Answer.{Answer}
use Rattle.answers.specs.declared.Answer.TheVariants as answer
use Rattle.block.specs.declared.Judged.{Judged}
use Rattle.block.specs.declared.Judged.TheVariants.{OddLength, OddTest, OddByte, Multiple, Repeat, End, Colours, Results}
use Rattle.strips.specs.declared.Hearing.{Hearing}
use Rattle.strips.specs.declared.Reader.{Reader}

-- another last reply of ours
abbrev pub replied_with : Option Reply → Reader → Reader
replied_with reply r = record { reply = reply; since = r.since; kept = r.kept }

-- the reader has asked, or wanted our reply again [B10]
abbrev pub marked_with : Reader → Reader
marked_with r = record { reply = r.reply; since = true; kept = r.kept }

-- its finding was stored [B7]
abbrev pub filed_reader : Reader
filed_reader = record { reply = Some More; since = false; kept = true }

-- not for storing: this answer, and so much is kept then
abbrev pub hears : Answer → Reader → Hearing
hears a r = record { answer = a; reader = r; stores = false }

-- our last reply goes out again, if there is one [B11]
abbrev pub reply_answer : Option Reply → Answer
reply_answer None = answer.Noted
reply_answer (Some More) = answer.Heard
reply_answer (Some Again) = answer.Heard

-- by what the block is; `again` says that it is the last stored one, repeated [A11, A70, A71, A72, B7, B10, B11]
abbrev pub hearing_of : Judged → Bool → Reader → Hearing
hearing_of OddLength again r = hears answer.OddLength (replied_with (Some Again) r)
hearing_of OddTest again r = hears answer.OddTest (replied_with (Some Again) r)
hearing_of OddByte again r = hears answer.OddByte (replied_with (Some Again) r)
hearing_of Multiple again r = hears answer.Heard (replied_with (Some More) (marked_with r))
hearing_of Repeat again r = hears (reply_answer r.reply) (marked_with r)
hearing_of End again r = hears answer.Noted r
hearing_of Colours again r = hears answer.Heard (replied_with (Some More) r)
hearing_of Results true r = hears answer.Heard (replied_with (Some More) r)
hearing_of Results false r = record { answer = answer.Filed; reader = filed_reader; stores = true }
