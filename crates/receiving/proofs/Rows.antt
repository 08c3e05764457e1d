-- An act and a fate are known by their case.
-- Assumes nothing.
use mathlib.Core.Path.{◌≡◌, sym, subst, ap, ◌∙◌}
use mathlib.Core.Bool.{true}
use mathlib.Core.List.{List}
use Prim.Native.Nat.{ℕ}
use Rattle.line.specs.declared.Line.{Line}
use Rattle.looking.specs.Inner.Ready.{Ready}
use Rattle.looking.specs.Inner.Fitting.{Fitting, Quiet, writes}
use Rattle.receiving.specs.Inner.Settled.{Settled}
use Rattle.deciding.specs.declared.Fate.{Fate}
use Rattle.receiving.specs.Verdicts.{fate_act}
use Rattle.looking.specs.declared.Kind.{Kind}
use Rattle.looking.specs.declared.Act.{Act}

pub settled_as : {v w : Act} {k : Kind} {l : Line} {i : ℕ} {u f : List ℕ} {r : Line} {u' f' : List ℕ} → v ≡ w → Settled w k l i u f r u' f' → Settled v k l i u f r u' f'
settled_as {v} {w} {k} {l} {i} {u} {f} {r} {u'} {f'} e s = subst (λ (x : Act). Settled x k l i u f r u' f') (sym e) s

pub fitting_as : {v w : Act} (l : Line) → v ≡ w → Fitting v l → Fitting w l
fitting_as {v} {w} l e s = subst (λ (x : Act). Fitting x l) e s

pub quiet_as : {v w : Act} → v ≡ w → Quiet v → Quiet w
quiet_as e s = subst Quiet e s

-- what acting asks, where the row of its case writes
pub ready_as : {v w : Act} {l : Line} {i : ℕ} {u f : List ℕ} → v ≡ w → writes w ≡ true → Fitting v l × Quiet v × (writes v ≡ true → Ready l i u f) → Ready l i u f
ready_as e t p = p.2 (ap writes e ∙ t)

pub closed_as : {o p : Fate} (n : ℕ) {k : Kind} {l : Line} {i : ℕ} {u f : List ℕ} {r : Line} {u' f' : List ℕ} → o ≡ p → Settled (fate_act p n) k l i u f r u' f' → Settled (fate_act o n) k l i u f r u' f'
closed_as n e s = settled_as (ap (λ (x : Fate). fate_act x n) e) s
