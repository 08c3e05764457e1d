-- The rows of a table of eight record types.
-- Assumes nothing.
use mathlib.Core.Path.{◌≡◌, refl, ◌∙◌}
use mathlib.Core.Bool.{false}
use mathlib.Core.List.{[]}
use Prim.Native.Nat.{◌<◌}
use lib.Dec.{lit<}
use lib.ListN.{get_or}
use denote.Enum.Declared.{tag_of}
use Rattle.memory.proofs.Table.{values, entry_of_row}
use Rattle.kinds.specs.Kinds.{may_follow}
use Rattle.kinds.specs.Inner.Rows.{row_of, kind_at}
use Rattle.kinds.specs.declared.Kind.{Kind}
use Rattle.kinds.specs.declared.Kind.TheVariants.{Header, Patient, Order, Result, Query, Terminator, Comment, Manufacturer}
use Rattle.kinds.specs.contracts.Kind.{the_type}

pub kind_at_law : (k : Kind) → kind_at (row_of k) ≡ k
kind_at_law Header = refl
kind_at_law Patient = refl
kind_at_law Order = refl
kind_at_law Result = refl
kind_at_law Query = refl
kind_at_law Terminator = refl
kind_at_law Comment = refl
kind_at_law Manufacturer = refl

pub row_lt : (k : Kind) → row_of k < 8
row_lt Header = lit< tt
row_lt Patient = lit< tt
row_lt Order = lit< tt
row_lt Result = lit< tt
row_lt Query = lit< tt
row_lt Terminator = lit< tt
row_lt Comment = lit< tt
row_lt Manufacturer = lit< tt

-- a type's row is its place among the variants
pub variant_row : (k : Kind) → tag_of the_type k ≡ row_of k
variant_row Header = refl
variant_row Patient = refl
variant_row Order = refl
variant_row Result = refl
variant_row Query = refl
variant_row Terminator = refl
variant_row Comment = refl
variant_row Manufacturer = refl

-- a table of the rule's values has, at the rows of two types, what the rule says of them
pub follower_at : (other k : Kind) → get_or (get_or (values (λ i. values (λ j. may_follow (kind_at i) (kind_at j)) 0 8) 0 8) (row_of other) []) (row_of k) false ≡ may_follow other k
follower_at other k =
    entry_of_row (λ i j. may_follow (kind_at i) (kind_at j)) false 8 8 (row_of other) (row_of k) (row_lt other) (row_lt k)
    ∙ rw (kind_at_law other, kind_at_law k)
