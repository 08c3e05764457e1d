-- An act that does not store keeps the ledger and the journal; and a decision fits as its text does.
-- Assumes nothing.
use mathlib.Core.Path.{◌≡◌, refl}
use mathlib.Core.List.{List}
use Prim.Native.Nat.{ℕ}
use Rattle.journal.specs.declared.Ledger.{Ledger}
use Rattle.deciding.specs.declared.Fate.{Fate}
use Rattle.line.specs.declared.Line.{Line}
use Rattle.looking.specs.Inner.Fitting.{TextFits, Fitting, Quiet}
use Rattle.looking.specs.declared.Act.{Act}
use Rattle.looking.specs.declared.Act.TheVariants.{Leave, Open, Close, Begin, Count, Collect, Refuse, Accept, Store, Object, Await, Go}
use Rattle.receiving.specs.Verdicts.{fate_act}
use Rattle.receiving.specs.Settled.{ledger_after, journal_after}

pub quiet_keeps : (a : Act) (d : Ledger) (i : ℕ) (text : ℕ → List ℕ) (j : List ℕ) → Quiet a → (ledger_after a d i text ≡ d) × (journal_after a d i text j ≡ j)
quiet_keeps Leave d i text j q = (refl, refl)
quiet_keeps Open d i text j q = (refl, refl)
quiet_keeps Close d i text j q = (refl, refl)
quiet_keeps Begin d i text j q = (refl, refl)
quiet_keeps (Count n) d i text j q = (refl, refl)
quiet_keeps Collect d i text j q = (refl, refl)
quiet_keeps Refuse d i text j q = (refl, refl)
quiet_keeps (Accept n) d i text j q = (refl, refl)
quiet_keeps (Store n) d i text j q = absurd q
quiet_keeps (Object n) d i text j q = absurd q
quiet_keeps (Await n) d i text j q = (refl, refl)
quiet_keeps (Go s n) d i text j q = (refl, refl)

-- a decision fits as its text does
pub decision_fits : (l : Line) (o : Fate) (n : ℕ) → TextFits l n → Fitting (fate_act o n) l
decision_fits l Fate.Store n t = t
decision_fits l Fate.Object n t = t
decision_fits l Fate.Leave n t = tt
