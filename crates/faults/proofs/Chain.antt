-- The types of a message's records, from the first on: H, and then each may follow the last record that is neither C nor M.
-- Assumes nothing.
use Rattle.std.specs.Prelude.{Some}
use mathlib.Core.Path.{◌≡◌, refl, ap, ◌∙◌}
use mathlib.Core.Bool.{true, false}
use mathlib.Core.List.{List, [], ◌∷◌}
use Prim.Native.Nat.{ℕ}
use lib.ListN.{get_or}
use Rattle.memory.proofs.Tests.{and_left, and_right, never_both}
use Rattle.kinds.specs.Kinds.{letter_of, kind_of, may_follow}
use Rattle.records.specs.Records.{records}
use Rattle.sequence.specs.Numbers.{started, counted}
use Rattle.faults.specs.Message.{number_in, are_next, are_records, is_message_by}
use Rattle.faults.specs.Inner.Next.{comes, counts_behind}
use Rattle.kinds.specs.declared.Delimiters.{Delimiters}
use Rattle.sequence.specs.declared.Counts.{Counts}
use Rattle.kinds.specs.declared.Kind.{Kind}
use Rattle.kinds.specs.declared.Kind.TheVariants.{Header, Patient, Order, Result, Query, Terminator, Comment, Manufacturer}
use Rattle.faults.proofs.Messages.{sound, typed, header, headed}

-- the last other type behind a record of type k
abbrev pub other_of : Kind → Kind → Kind
other_of t Header = t
other_of t Patient = Patient
other_of t Order = Order
other_of t Result = Result
other_of t Query = Query
other_of t Terminator = Terminator
other_of t Comment = t
other_of t Manufacturer = t

-- each of these records begins with the letter of a type that may follow, t being the last other type before them
abbrev pub Chain : Kind → List (List ℕ) → Type 0
Chain t [] = Unit
Chain t (r ∷ rs) = (k : Kind) × (kind_of (get_or r 0 0) ≡ Some k) × (may_follow t k ≡ true) × Chain (other_of t k) rs

counted_other : (s : Counts) (k : Kind) (n : ℕ) → (counted s k n).other ≡ other_of s.other k
counted_other s Header n = refl
counted_other s Patient n = refl
counted_other s Order n = refl
counted_other s Result n = refl
counted_other s Query n = refl
counted_other s Terminator n = refl
counted_other s Comment n = refl
counted_other s Manufacturer n = refl

chain_rest : (d : Delimiters) (s : Counts) (rs : List (List ℕ)) → are_next d s rs ≡ true → Chain s.other rs
chain_rest d s [] h = tt
chain_rest d s (r ∷ rs) h =
    let t = typed d s r (and_left _ _ h) in
    let next = counts_behind d s r in
    let other : next.other ≡ other_of s.other t.kind = ap (λ (u : Counts). u.other) t.counts ∙ counted_other s t.kind (number_in d r) in
    (t.kind, t.first, t.follows, rw other at (chain_rest d next rs (and_right (comes d s r) _ h)))

-- the records of a message: H and the chain behind it
pub record Chained (rs : List (List ℕ)) : Type 0 where
  pub first : List ℕ
  pub others : List (List ℕ)
  pub all : rs ≡ first ∷ others
  pub is_header_law : get_or first 0 0 ≡ letter_of Header
  pub chain : Chain Header others

chained : (d : Delimiters) (rs : List (List ℕ)) → are_records d rs ≡ true → Chained rs
chained d [] h = never_both false h refl
chained d (r ∷ rs) h = record {
  first = r;
  others = rs;
  all = refl;
  is_header_law = (header d r (headed d r rs h).head).1;
  chain = chain_rest d started rs (headed d r rs h).others;
}

pub message_chained : (d : Delimiters) (m : List ℕ) → is_message_by d m ≡ true → Chained (records m)
message_chained d m h = chained d (records m) (sound d m h).right
