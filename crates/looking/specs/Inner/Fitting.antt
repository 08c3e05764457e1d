-- What acting asks: its text lies in the frame and has room, and its counts stay within the limits.
-- Assumes nothing.
use Rattle.std.specs.Prelude.{ℕ, ◌+◌, ◌≤◌, ◌<◌, ◌≡◌, Bool, true, false}
use Rattle.memory.specs.Sizes.{message_limit}
use Rattle.digits.specs.Number.{most_number}
use Rattle.frame.specs.Shape.{around_collected}
use Rattle.line.specs.Line.{most_collected, most_seconds, sending_within}
use Rattle.line.specs.declared.Line.{Line}
use Rattle.looking.specs.declared.Act.{Act}
use Rattle.looking.specs.declared.Act.TheVariants.{Leave, Open, Close, Begin, Count, Collect, Refuse, Accept, Store, Object, Await, Go}

-- what the test `text_fits` finds
abbrev pub TextFits : Line → ℕ → Type 0
TextFits l n = (n + around_collected ≤ l.collected) × (l.joined + n ≤ message_limit)

abbrev pub Fitting : Act → Line → Type 0
Fitting Leave l = Unit {0}
Fitting Open l = Unit {0}
Fitting Close l = Unit {0}
Fitting Begin l = Unit {0}
Fitting (Count n) l = n ≤ most_seconds
Fitting Collect l = l.collected < most_collected l
Fitting Refuse l = Unit {0}
Fitting (Accept n) l = TextFits l n
Fitting (Store n) l = TextFits l n
Fitting (Object n) l = TextFits l n
Fitting (Await n) l = n ≤ most_seconds
Fitting (Go s n) l = (sending_within s ≡ true) × (n ≤ most_number)

-- whether its row writes into the lent memory
abbrev pub writes : Act → Bool
writes Leave = false
writes Open = false
writes Close = false
writes Begin = false
writes (Count n) = false
writes Collect = true
writes Refuse = true
writes (Accept n) = true
writes (Store n) = true
writes (Object n) = true
writes (Await n) = false
writes (Go s n) = false

-- it decides no message: what a look comes to
abbrev pub Quiet : Act → Type 0
Quiet Leave = Unit {0}
Quiet Open = Unit {0}
Quiet Close = Unit {0}
Quiet Begin = Unit {0}
Quiet (Count n) = Unit {0}
Quiet Collect = Unit {0}
Quiet Refuse = Unit {0}
Quiet (Accept n) = Unit {0}
Quiet (Store n) = ⊥
Quiet (Object n) = ⊥
Quiet (Await n) = Unit {0}
Quiet (Go s n) = Unit {0}
