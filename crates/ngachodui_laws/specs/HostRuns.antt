-- What a call does to what a host keeps, and runs of calls from a start.
-- Assumes nothing.
use Rattle.answers.specs.declared.Answer.{Answer}
use Rattle.std.specs.Prelude.{ℕ, ◌+◌, ◌≡◌, Bool, true, not, ◌&&◌, ◌||◌, List, eqb, length, replicate, Result}
use Rattle.memory.specs.Sizes.{lines}
use Rattle.receiving.specs.Steps.{Memory}
use Rattle.serial.specs.Serial.{event, taking, annotate, final, Every}
use Rattle.promises.specs.Machine.{State, GatewayItem, happens, starts, on_line, May}
use Rattle.promises.specs.Runs.{RightSizes}
use Rattle.layout.specs.Layout.{frames, started_numbers, can_start}
use Rattle.settings.specs.Settings.{by_dialogue}
use Rattle.gateway.specs.Out.{out_bytes, block_out}
use Rattle.numbers.specs.Plain.{line_of}
use Rattle.keeping.specs.Keeping.{memo_of}
use Rattle.answers.specs.InNumbers.{in_numbers}
use Rattle.orders.specs.Starts.{start_answer, texts_started}
use Rattle.orders.specs.Calls.{look_from, numbers_started, frame_on}
use Rattle.calls.specs.Calls.{HostState, AfterCall, call_of}
use Rattle.reader.specs.Takings.{TakeState, taking_of}
use Rattle.ngachodui_laws.specs.Hosting.{gateway_of, Ordered}
use Rattle.answers.specs.Paper.{is_faulty}
use Rattle.answers.specs.declared.Answered.{Answered}

-- the state of the gateway that a host's numbers and memory stand for
abbrev pub gateway_state : HostState → State
gateway_state s = record { gateway = gateway_of s.numbers s.counts; memory = s.memory }

abbrev pub InOrder : HostState → Type 0
InOrder s = Ordered s.numbers s.counts

-- a start with what each line speaks, and one where every line speaks frames
abbrev pub started_host : List ℕ → Memory → HostState
started_host speaks m = record { numbers = started_numbers speaks; counts = replicate (lines + 1) 0; memory = m }

abbrev pub fresh_host : Memory → HostState
fresh_host m = started_host (replicate lines frames) m

-- the answer to a call, and what the buffer of a taking then holds, or what goes out in a sending
pub record HostResponse : Type 0 where
  pub answered : Answered
  pub buffer : List ℕ

-- what a taking with this buffer may write
abbrev pub lent_of : HostState → List ℕ → TakeState
lent_of s b = record { counts = s.counts; journal = s.memory.journal; buffer = b }

-- a start is a call of `ngachodui_send`: what its contract says
abbrev pub start_from : HostState → ℕ → List ℕ → Result (Unit {0}) Answer
start_from s i text = look_from s.numbers i text (length s.memory.journal) (length s.memory.unfinished) (length s.memory.frames)

abbrev pub started_by : Result (Unit {0}) Answer → HostState → ℕ → List ℕ → AfterCall
started_by x s i text = record {
  answered = in_numbers (start_answer x);
  state = record {
    numbers = numbers_started x s.numbers i text;
    counts = s.counts;
    memory = record { journal = s.memory.journal; unfinished = texts_started x i text s.memory.unfinished; frames = s.memory.frames };
  };
}

-- what a host sends where a call has left the state t: with 9 the byte that is answered, and where that is STX the frame that its line offers; on a reader's line,
-- where STX is answered, our last reply; `ngachodui_outgoing` fetches both [H5, S2, B11]
abbrev pub sent_by : HostState → ℕ → Answered → List ℕ
sent_by t i a =
    by_dialogue (line_of t.numbers i).settings.dialogue (out_bytes a.number a.reply (frame_on (line_of t.numbers i) i t.memory.unfinished))
    (λ p. block_out a.reply (memo_of t.numbers i).reader.reply)

abbrev pub response_to : ℕ → AfterCall → HostResponse × HostState
response_to i c = (record { answered = c.answered; buffer = sent_by c.state i c.answered }, c.state)

-- an event is a call of `ngachodui_byte` or `ngachodui_seconds`, a taking one of `ngachodui_take`: what their contracts say [H4]
abbrev pub host_step : HostState → GatewayItem → HostResponse × HostState
host_step s (event i (happens k)) = response_to i (call_of s (on_line i k))
host_step s (event i (starts text)) = response_to i (started_by (start_from s i text) s i text)
host_step s (taking i b) =
    let t = taking_of s.numbers i (lent_of s b) in (
      record { answered = t.answered; buffer = t.state.buffer },
      record {
        numbers = s.numbers;
        counts = t.state.counts;
        memory = record { journal = t.state.journal; unfinished = s.memory.unfinished; frames = s.memory.frames };
      },
    )

-- the number that a call is answered with, the place of a record that comes with it (0 for none), the byte that goes back to the analyzer
-- (0 for none), and what the host keeps after the call
abbrev pub number_to : HostState → GatewayItem → ℕ
number_to s e = (host_step s e).0.answered.number

abbrev pub place_to : HostState → GatewayItem → ℕ
place_to s e = (host_step s e).0.answered.place

abbrev pub reply_to : HostState → GatewayItem → ℕ
reply_to s e = (host_step s e).0.answered.reply

abbrev pub after : HostState → GatewayItem → HostState
after s e = (host_step s e).1

-- a complete text is stored (4) or finally refused (30, 31)
abbrev pub is_decision : ℕ → Bool
is_decision n = eqb n 4 || (eqb n 30 || eqb n 31)

-- or has a fault, of which its analyzer is told: a fault of a text that is not sent goes to no analyzer, and decides nothing
abbrev pub decides : HostResponse → Bool
decides r = is_decision r.answered.number || (is_faulty r.answered.number && not (eqb r.answered.reply 0))

-- a run of calls: a start with what each of the eight lines speaks and with memory of the right sizes, whatever it holds, and any calls, events and starts of sendings on
-- lines 0 to 7 and takings from any line
pub record Run : Type 0 where
  pub speaks : List ℕ
  pub eight : length speaks ≡ lines
  pub spoken : can_start speaks ≡ true
  pub memory : Memory
  pub sizes : RightSizes memory
  pub calls : List GatewayItem
  pub may : Every May calls

-- what the host keeps at its start, each call of it with its response, and what the host keeps at its end
abbrev pub begin_of : Run → HostState
begin_of r = started_host r.speaks r.memory

abbrev pub history_of : Run → List (GatewayItem × HostResponse)
history_of r = annotate host_step (begin_of r) r.calls

abbrev pub end_of : Run → HostState
end_of r = final host_step (begin_of r) r.calls
