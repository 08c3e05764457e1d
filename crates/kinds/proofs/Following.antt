-- Nothing follows L, and H follows nothing.
-- Assumes nothing.
use mathlib.Core.Path.{◌≡◌, refl}
use mathlib.Core.Bool.{true, false}
use Rattle.memory.proofs.Tests.{never_both}
use Rattle.kinds.specs.Kinds.{may_follow, is_terminator}
use Rattle.kinds.specs.declared.Kind.{Kind}
use Rattle.kinds.specs.declared.Kind.TheVariants.{Header, Patient, Order, Result, Query, Terminator, Comment, Manufacturer}

pub l_last : (k : Kind) → may_follow Terminator k ≡ false
unfolding may_follow
l_last k = refl

pub h_first : (other : Kind) → may_follow other Header ≡ false
unfolding may_follow
h_first Header = refl
h_first Patient = refl
h_first Order = refl
h_first Result = refl
h_first Query = refl
h_first Terminator = refl
h_first Comment = refl
h_first Manufacturer = refl

-- so the last other record is not L where k may follow
pub not_behind_l : (other k : Kind) → may_follow other k ≡ true → is_terminator other ≡ false
not_behind_l Terminator k e = never_both (may_follow Terminator k) e (l_last k)
not_behind_l Header k e = refl
not_behind_l Patient k e = refl
not_behind_l Order k e = refl
not_behind_l Result k e = refl
not_behind_l Query k e = refl
not_behind_l Comment k e = refl
not_behind_l Manufacturer k e = refl
