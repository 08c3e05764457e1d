-- In a message each record's type may follow, so the owners that the readers find are those of rule R13.
-- Assumes nothing.
use Rattle.std.specs.Prelude.{Some}
use mathlib.Core.Path.{◌≡◌, refl, ap, ◌∙◌}
use mathlib.Core.Bool.{true, cond}
use mathlib.Core.List.{List, [], ◌∷◌}
use Prim.Native.Nat.{ℕ}
use lib.Dec.{ltb}
use lib.ListN.{length, get_or}
use Rattle.characters.specs.Control.{cr}
use Rattle.kinds.specs.Kinds.{letter_of, kind_of, may_follow}
use Rattle.records.specs.Records.{records}
use Rattle.faults.specs.Message.{is_message_by}
use Rattle.kinds.specs.declared.Delimiters.{Delimiters}
use Rattle.kinds.specs.declared.Kind.{Kind}
use Rattle.kinds.specs.declared.Kind.TheVariants.{Header, Patient, Order, Result, Query, Terminator, Comment, Manufacturer}
use Rattle.faults.proofs.Chain.{other_of, Chain, message_chained}
use Rattle.owner.specs.Inner.Depths.{depth_by, depth_of}
use Rattle.owner.specs.Inner.Nearest.{nearest, nearest_owner, nearest_from, nearest_owners}
use Rattle.owner.specs.Owners.{types_of, owner_by, seen_by, owners_by, owners_of, unseen}
use Rattle.owner.proofs.Agree.{Follow, owners_agree}

-- a record that begins with a type's letter is not empty
pub first_letter : (r : List ℕ) (k : Kind) → kind_of (get_or r 0 0) ≡ Some k → kind_of (get_or r 0 cr) ≡ Some k
unfolding kind_of
first_letter [] k e = cc
first_letter (b ∷ r) k e = e

pub follow_types : (t : Kind) (rs : List (List ℕ)) → Chain t rs → Follow t (types_of rs)
follow_types t [] h = tt
follow_types t (r ∷ rs) (k, first, may, rest) = (k, first_letter r k first, may, follow_types (other_of t k) rs rest)

-- right behind H
near_head : (b : ℕ) (bs : List ℕ) (l : ℕ) → kind_of b ≡ Some Header → nearest (b ∷ bs) 1 l ≡ cond (ltb 1 l) 1 0
unfolding depth_of
near_head b bs l e = rw e

agree_head : (j : Kind) → may_follow Header j ≡ true → cond (ltb 1 (depth_by (Some j))) 1 0 ≡ owner_by (seen_by unseen (Some Header) 1) (Some j)
unfolding may_follow
agree_head Header h = cc
agree_head Patient h = refl
agree_head Order h = refl
agree_head Result h = cc
agree_head Query h = refl
agree_head Terminator h = refl
agree_head Comment h = refl
agree_head Manufacturer h = refl

pub header_kind : (b : ℕ) → b ≡ letter_of Header → kind_of b ≡ Some Header
unfolding kind_of
header_kind b e = rw e

-- the owners that the readers find are those of rule R13
owners_chained : (r : List ℕ) (rs : List (List ℕ)) → get_or r 0 0 ≡ letter_of Header → Chain Header rs → nearest_owners (types_of (r ∷ rs)) ≡ owners_of (r ∷ rs)
unfolding owners_of nearest_owner
owners_chained r rs h c =
    let kind : kind_of (get_or r 0 cr) ≡ Some Header = first_letter r Header (header_kind (get_or r 0 0) h) in
    let ts : List ℕ = get_or r 0 cr ∷ types_of rs in
    let on : nearest_from ts 1 (length (types_of rs)) ≡ owners_by (seen_by unseen (Some Header) 1) 1 (types_of rs) =
    owners_agree ts 1 Header (seen_by unseen (Some Header) 1) (types_of rs) refl
    (λ j g. near_head (get_or r 0 cr) (types_of rs) (depth_by (Some j)) kind ∙ agree_head j g) (follow_types Header rs c) in
    rw kind (ap (λ (l : List ℕ). 0 ∷ l) on)

pub owners_message : (d : Delimiters) (m : List ℕ) → is_message_by d m ≡ true → nearest_owners (types_of (records m)) ≡ owners_of (records m)
owners_message d m h =
    let c = message_chained d m h in
    rw c.all (owners_chained c.first c.others c.is_header_law c.chain)
