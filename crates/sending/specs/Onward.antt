-- What a byte or seconds make of a sending: E1381's sending side, told of the line's record and the text that it sends.
-- Assumes nothing.
use Rattle.std.specs.Prelude.{ℕ, ◌+◌, cond, ◌||◌, List, ltb, take, drop}
use Rattle.memory.specs.Tests.{is, unless}
use Rattle.characters.specs.Control.{enq, eot}
use Rattle.answers.specs.Paper.{ack}
use Rattle.digits.specs.Number.{first_number, next_number}
use Rattle.pieces.specs.Pieces.{piece_size, through_cr}
use Rattle.line.specs.Line.{most_tries}
use Rattle.line.specs.declared.Line.{Line}
use Rattle.line.specs.declared.Sending.{Sending}
use Rattle.line.specs.declared.Sending.TheVariants.{Asking, Pausing, Offering}
use Rattle.sending.specs.declared.Onward.{Onward}
use Rattle.sending.specs.declared.Onward.TheVariants.{Stays, Waits, Goes, Ends, GivesUp}

-- the length of the piece that begins at a place of the text; 0 where the text has no byte there
abbrev pub piece_at : ℕ → ℕ → List ℕ → ℕ
piece_at limit at text = through_cr (take (piece_size limit) (drop at text))

-- the frame whose text begins at a place is sent for the first time; at the end of the text our EOT is [S6]
abbrev pub offer : Line → ℕ → ℕ → Onward
offer l at number = cond (ltb at l.joined) (Goes (Offering 1 at) number) Ends

-- a byte behind our ENQ, which was refused n times before: at ACK the first frame goes out; ENQ, as the analyzer wants to send itself,
-- drops the sending; any other byte is a refusal: a pause begins, and the sixth drops the sending [S5, S9]
unfoldable pub ask_reply : Line → ℕ → ℕ → Onward
ask_reply l n b =
    cond (is ack b) (offer l 0 first_number)
    (cond (is enq b) GivesUp (cond (ltb (n + 1) most_tries) (Goes (Pausing (n + 1)) l.next) GivesUp))

-- a byte behind a frame that was sent n times: at ACK or EOT the next goes out, with the next number; any other byte is a refusal: the same
-- goes out again, and behind the sixth our EOT. It does, too, at every byte where the text does not reach the frame's place [S6, S7]
unfoldable pub frame_reply : ℕ → Line → ℕ → ℕ → ℕ → List ℕ → Onward
frame_reply limit l n at b text =
    unless (ltb at l.joined) Ends
    (cond (is ack b || is eot b) (offer l (at + piece_at limit at text) (next_number l.next))
    (cond (ltb n most_tries) (Goes (Offering (n + 1) at) l.next) Ends))

-- a byte, by where the sending is: in the pause it changes nothing [S8]
abbrev pub byte_onward : ℕ → Line → Sending → ℕ → List ℕ → Onward
byte_onward limit l (Asking n) b text = ask_reply l n b
byte_onward limit l (Pausing n) b text = Stays
byte_onward limit l (Offering n at) b text = frame_reply limit l n at b text

-- so many seconds a reply is waited for [S10]
abbrev pub reply_seconds : ℕ
reply_seconds = 15

-- and so long is the pause [S8]
abbrev pub pause_seconds : ℕ
pause_seconds = 10

abbrev pub wait_of : Sending → ℕ
wait_of (Asking n) = reply_seconds
wait_of (Pausing n) = pause_seconds
wait_of (Offering n at) = reply_seconds

-- a wait that is over: no reply has come, and our EOT goes out; behind the pause our ENQ does again [S8, S10]
abbrev pub late_onward : Line → Sending → Onward
late_onward l (Asking n) = Ends
late_onward l (Pausing n) = Goes (Asking n) l.next
late_onward l (Offering n at) = Ends

-- seconds add up until the wait is over [S10]
unfoldable pub seconds_onward : Line → Sending → ℕ → Onward
seconds_onward l s k = cond (ltb (l.seconds + k) (wait_of s)) (Waits (l.seconds + k)) (late_onward l s)
