-- What a text's function says, in plain numbers: one law for each.
-- Assumes nothing.
use Rattle.std.specs.Prelude.{Result, ℕ}
use Rattle.faults.specs.declared.Refusal.{Refusal}
use Rattle.escaping.specs.declared.Refusal.{Refusal as EscapeRefusal}
use mathlib.Core.Path.{◌≡◌, ap, subst, ◌∙◌}
use mathlib.Core.List.{List}
use Prim.Native.Nat.{ℕ}
use Rattle.memory.specs.Sizes.{frame_limit}
use Rattle.kinds.specs.Delimiters.{four_at}
use Rattle.records.specs.Records.{records}
use Rattle.kinds.specs.declared.Delimiters.{Delimiters}
use Rattle.escaping.specs.Escape.{Escaping}
use Rattle.escaping.specs.Unescape.{Unescaping}
use Rattle.owner.specs.Owners.{types_of, owners_of}
use Rattle.owner.specs.Reading.{offsets_of, lengths_of, laid, ReadAs}
use Rattle.cutting.specs.Frames.{CutInto}
use Rattle.texts.specs.Texts.{made_of, made_by_putting, CutFrames, Escaped, Unescaped, RecordsRead}
use Rattle.answers.specs.declared.Made.{Made}

module _ {text out out' : List ℕ} {r : Made} where
  pub by_cutting : {q : Result ℕ Refusal} → CutInto frame_limit text out q out' → r ≡ made_of q → CutFrames text out r out'
  by_cutting c m = record { result = m ∙ ap made_of c.answer; after = c.after }

  module _ {four : List ℕ} {d : Delimiters} {q : Result ℕ EscapeRefusal} (s : d ≡ four_at 0 four) where
    pub by_escaping : Escaping d text out q out' → r ≡ made_by_putting q → Escaped four text out r out'
    by_escaping c m =
        let e = subst (λ (x : Delimiters). Escaping x text out q out') s c in
        record { result = m ∙ ap made_by_putting e.answer; after = e.after }

    pub by_unescaping : Unescaping d text out q out' → r ≡ made_by_putting q → Unescaped four text out r out'
    by_unescaping c m =
        let e = subst (λ (x : Delimiters). Unescaping x text out q out') s c in
        record { result = m ∙ ap made_by_putting e.answer; after = e.after }

pub by_reading : {text ts os ls ws ts' os' ls' ws' : List ℕ} {r : Made} {q : Result ℕ Refusal} → ReadAs text ts os ls ws ts' os' ls' ws' q → r ≡ made_of q
    → RecordsRead text ts os ls ws r ts' os' ls' ws'
by_reading {text} {ts} {os} {ls} {ws} e m = record {
  result = m ∙ ap made_of e.answer;
  types = e.types ∙ ap (λ (x : Result ℕ Refusal). laid x ts (types_of (records text))) e.answer;
  offsets = e.offsets ∙ ap (λ (x : Result ℕ Refusal). laid x os (offsets_of 0 (records text))) e.answer;
  lengths = e.lengths ∙ ap (λ (x : Result ℕ Refusal). laid x ls (lengths_of (records text))) e.answer;
  owners = e.owners ∙ ap (λ (x : Result ℕ Refusal). laid x ws (owners_of (records text))) e.answer;
}
