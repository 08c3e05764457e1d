-- The verdicts on an event: what is done with its line, and the answer.
-- Assumes nothing.
use Rattle.std.specs.Prelude.{ℕ}
use Rattle.answers.specs.declared.Answer.{Answer}
use Rattle.answers.specs.declared.Answer.TheVariants.{Nothing, Opened, Accepted, Stored, Sends}
use Rattle.answers.specs.declared.Parcel.{Parcel}
use Rattle.answers.specs.declared.Parcel.TheVariants.{Empty, Enquiry, Frame}
use Rattle.line.specs.declared.Sending.{Sending}
use Rattle.line.specs.declared.Sending.TheVariants.{Asking, Pausing, Offering}
use Rattle.looking.specs.declared.Act.{Act}
use Rattle.looking.specs.declared.Act.TheVariants.{Leave, Open, Close, Begin, Count, Collect, Refuse, Accept, Store, Object, Await, Go}
use Rattle.looking.specs.declared.Verdict.{Verdict}

abbrev pub verdict : Act → Answer → Verdict
verdict act answer = record { act = act; answer = answer }

-- everything is left as it is: an ignored event, 20 and 40 to 43 [A0]
abbrev pub Left : Answer → Verdict
Left a = verdict Leave a

-- a transfer is opened, and closed
abbrev pub Opens : Verdict
Opens = verdict Open Opened

abbrev pub Closes : Answer → Verdict
Closes a = verdict Close a

-- a frame begins; seconds are counted, n by now; a byte is collected [A0]
abbrev pub Begins : Verdict
Begins = verdict Begin Nothing

abbrev pub Counts : ℕ → Verdict
Counts n = verdict (Count n) Nothing

abbrev pub Collects : Verdict
Collects = verdict Collect Nothing

-- a judged frame: refused; or accepted, with n bytes of text
abbrev pub Refuses : Answer → Verdict
Refuses a = verdict Refuse a

abbrev pub Accepts : ℕ → Verdict
Accepts n = verdict (Accept n) Accepted

-- one that completes a text with n bytes: the text is stored, or decided against
abbrev pub Stores : ℕ → Verdict
Stores n = verdict (Store n) Stored

abbrev pub Against : Answer → ℕ → Verdict
Against a n = verdict (Object n) a

-- what is to be sent when a sending has come so far: our ENQ, nothing, a frame [S2]
abbrev pub parcel_of : Sending → Parcel
parcel_of (Asking n) = Enquiry
parcel_of (Pausing n) = Empty
parcel_of (Offering n at) = Frame

-- a sending: it waits on, n seconds by now; or it goes on, with the number of its frame [A9]
abbrev pub Awaits : ℕ → Verdict
Awaits n = verdict (Await n) (Sends Empty)

abbrev pub GoesOn : Sending → ℕ → Verdict
GoesOn s n = verdict (Go s n) (Sends (parcel_of s))
