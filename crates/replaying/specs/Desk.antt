-- What a replay lends to the gateway, and what an event and a taking make of it.
-- Assumes nothing.
use Rattle.std.specs.Prelude.{ℕ, List, ◌++◌, take, drop}
use Rattle.looking.specs.declared.Event.{Event}
use Rattle.calls.specs.Calls.{HostState, call_of}
use Rattle.reader.specs.Takings.{TakeState, taking_of}
use Rattle.answers.specs.declared.Answered.{Answered}

-- the longest row: 20 digits, 3, 3 and 20, with three spaces and the newline
abbrev pub row_room : ℕ
row_room = 50

-- the gateway's numbers, its three memories, and the buffer for takings
pub record Desk : Type 0 where
  pub numbers : List ℕ
  pub counts : List ℕ
  pub journal : List ℕ
  pub unfinished : List ℕ
  pub frames : List ℕ
  pub buffer : List ℕ

abbrev pub desk_of : List ℕ → List ℕ → List ℕ → List ℕ → List ℕ → List ℕ → Desk
desk_of numbers counts journal unfinished frames buffer = record { numbers = numbers; counts = counts; journal = journal; unfinished = unfinished; frames = frames; buffer = buffer }

pub record Asked : Type 0 where
  pub answered : Answered
  pub desk : Desk

-- an event: it is not lent the buffer [T11]
abbrev pub lent_to_event : Desk → HostState
lent_to_event d = record { numbers = d.numbers; counts = d.counts; memory = record { journal = d.journal; unfinished = d.unfinished; frames = d.frames } }

unfoldable pub event_asked : Event → Desk → Asked
event_asked e d =
    let c = call_of (lent_to_event d) e in
    let s = c.state in
    record { answered = c.answered; desk = desk_of s.numbers s.counts s.memory.journal s.memory.unfinished s.memory.frames d.buffer }

-- a taking: it is lent the first n bytes of the buffer [T11]
abbrev pub lent_to_taking : ℕ → Desk → TakeState
lent_to_taking n d = record { counts = d.counts; journal = d.journal; buffer = take n d.buffer }

unfoldable pub taking_asked : ℕ → ℕ → Desk → Asked
taking_asked i n d =
    let t = taking_of d.numbers i (lent_to_taking n d) in
    let s = t.state in
    record { answered = t.answered; desk = desk_of d.numbers s.counts s.journal d.unfinished d.frames (s.buffer ++ drop n d.buffer) }
