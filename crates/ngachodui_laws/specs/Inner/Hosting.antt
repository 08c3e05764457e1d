-- A host's call beside the gateway's event or taking: what the proofs of the demands go by, and no demand names.
-- Assumes nothing.
use Rattle.std.specs.Prelude.{ℕ, ◌≡◌, cond, List, eqb, get_or}
use Rattle.answers.specs.Paper.{number_of, values_of, place_of, first_out}
use Rattle.answers.specs.declared.Answer.{Answer}
use Rattle.gateway.specs.Events.{AfterEvent, AfterTake}
use Rattle.answers.specs.InNumbers.{reply_byte, in_numbers}
use Rattle.answers.specs.declared.Answered.{Answered}
use Rattle.calls.specs.Calls.{AfterCall}
use Rattle.reader.specs.Takings.{TakeState}
use Rattle.promises.specs.Machine.{Response, GatewayItem}
use Rattle.ngachodui_laws.specs.Hosting.{gateway_of, Ordered}
use Rattle.ngachodui_laws.specs.HostRuns.{HostResponse}

-- an event on a host's numbers is the gateway's event: the numbers after it stand for the gateway after it, answer and memory are its, and the numbers are in order
pub record Hosts (c : AfterCall) (x : AfterEvent) : Type 0 where
  pub gateway : gateway_of c.state.numbers c.state.counts ≡ x.handled.gateway
  pub answer : c.answered ≡ in_numbers x.handled.answer
  pub memory : c.state.memory ≡ x.memory
  pub ordered : Ordered c.state.numbers c.state.counts

-- the value of an entry taken, at this place among its values; 0 for every other answer
abbrev pub taken_value : ℕ → Answer → ℕ
taken_value at a = cond (eqb (number_of a) 8) (get_or (values_of a) at 0) 0

-- any answer of the gateway in plain numbers: 8 has the text's length and its serial, a fault its place
abbrev pub answer_in_numbers : Answer → Answered
answer_in_numbers a = record {
  number = number_of a;
  reply = reply_byte (first_out a);
  serial = taken_value 1 a;
  place = place_of a;
  digits = 0;
  length = taken_value 0 a;
}

-- a taking on a host's numbers is the gateway's taking
pub record HostsTaking (ns : List ℕ) (t : TakeState) (r : Answered) (x : AfterTake) : Type 0 where
  pub gateway : gateway_of ns t.counts ≡ x.handled.gateway
  pub answer : r ≡ answer_in_numbers x.handled.answer
  pub journal : t.journal ≡ x.journal
  pub buffer : t.buffer ≡ x.buffer
  pub ordered : Ordered ns t.counts

-- what a host sees of the gateway's response, and of an item with its response
abbrev pub in_numbers_of : Response → HostResponse
in_numbers_of r = record { answered = answer_in_numbers r.answer; buffer = r.buffer }

abbrev pub seen_of : GatewayItem × Response → GatewayItem × HostResponse
seen_of x = (x.0, in_numbers_of x.1)
