-- Any two outcomes that a contract of this crate allows are equal.
-- Assumes nothing.
use Rattle.std.specs.Prelude.{Result, ℕ}
use Rattle.faults.specs.declared.Refusal.{Refusal}
use mathlib.Core.Path.{◌≡◌, sym, ap, ◌∙◌}
use mathlib.Core.List.{List}
use Prim.Native.Nat.{ℕ}
use Rattle.records.specs.Records.{records}
use Rattle.owner.specs.Owners.{types_of, owners_of}
use Rattle.owner.specs.Reading.{offsets_of, lengths_of, laid, ReadAs}

-- `read`: the answer, and each of the four memories
pub read_once : (text ts os ls ws : List ℕ) {r q : Result ℕ Refusal} {ts₁ os₁ ls₁ ws₁ ts₂ os₂ ls₂ ws₂ : List ℕ}
    → ReadAs text ts os ls ws ts₁ os₁ ls₁ ws₁ r → ReadAs text ts os ls ws ts₂ os₂ ls₂ ws₂ q
    → (r ≡ q) × (ts₁ ≡ ts₂) × (os₁ ≡ os₂) × (ls₁ ≡ ls₂) × (ws₁ ≡ ws₂)
read_once text ts os ls ws {r} {q} a b =
    let same : r ≡ q = a.answer ∙ sym b.answer in (
      same,
      a.types ∙ ap (λ (x : Result ℕ Refusal). laid x ts (types_of (records text))) same ∙ sym b.types,
      a.offsets ∙ ap (λ (x : Result ℕ Refusal). laid x os (offsets_of 0 (records text))) same ∙ sym b.offsets,
      a.lengths ∙ ap (λ (x : Result ℕ Refusal). laid x ls (lengths_of (records text))) same ∙ sym b.lengths,
      a.owners ∙ ap (λ (x : Result ℕ Refusal). laid x ws (owners_of (records text))) same ∙ sym b.owners,
    )
