-- Storing: what the code did is what the definition says.
-- Assumes nothing.
use Rattle.std.specs.Result.{is_ok, is_err}
use Rattle.std.specs.Prelude.{Result, Ok, Err}
use Rattle.journal.specs.declared.Refusal.{Refusal}
use Rattle.std.proofs.Common.{◌≡◌, ℕ, ◌+◌, ◌<◌, ◌≤◌, Bool, true, false, cond, List, length, sym, refl, ap, ◌∙◌, arith, true≢false}
use Rattle.memory.specs.Sizes.{lines, message_limit, journal_size}
use Rattle.memory.specs.Parts.{splice}
use Rattle.memory.specs.Moves.{Copied}
use Rattle.packed.specs.Fields.{FieldWritten}
use Rattle.memory.proofs.Parts.{length_splice, splice_join}
use Rattle.memory.proofs.Moves.{copied_fits}
use Rattle.header.specs.Header.{serial_count, head_size, entry_size, head_number, header}
use Rattle.header.specs.Entry.{encode}
use Rattle.journal.specs.Verdicts.{judge_of}
use Rattle.journal.specs.Inner.Storage.{written, Ready, Appended}
use Rattle.journal.specs.Storage.{grown, appended, after_storing, store_of, Stored}
use Rattle.journal.specs.declared.Ledger.{Ledger}
use Rattle.header.proofs.Heads.{length_header}
use Rattle.header.proofs.Single.{head_written}
use Rattle.journal.proofs.Wholes.{kept, used_below}
use Rattle.journal.proofs.Judged.{fits_facts, fits_journal}

-- ---- the entry written

-- the header and the text behind it are the entry
pub two_writes : (l s at : ℕ) (t j : List ℕ) (bt h n : ℕ) (r₁ r₂ : Bool) (j₁ j₂ : List ℕ)
    → (l < lines) × (length t ≤ message_limit) × (length j ≡ journal_size) × (at + entry_size (length t) ≤ length j) → s < serial_count
    → h ≡ head_size (length t) → n ≡ head_number l (length t) s → bt ≡ at + h
    → FieldWritten j at h n r₁ j₁ → Copied j₁ bt t r₂ j₂ → j₂ ≡ written l s at t j
unfolding encode
two_writes l s at t j bt h n r₁ r₂ j₁ j₂ (line, most, size, fits) q hs ns bs w₁ w₂ =
    let k = length t in
    let long : length (header l k s) ≡ h = length_header l k s ∙ sym hs in
    let room : at + h + k ≤ length j = omega (arith, fits, hs) in
    let is₁ : j₁ ≡ splice j at (header l k s) = head_written l k s line most q j at h n hs ns (omega arith) w₁ in
    let long₁ : length j₁ ≡ length j = ap length is₁ ∙ length_splice j at (header l k s) (omega arith) in
    let is₂ : j₂ ≡ splice j₁ bt t = (copied_fits j₁ bt t w₂ (omega arith)).1 in
    let behind : bt ≡ at + length (header l k s) = omega arith in
    is₂ ∙ rw (is₁, behind, splice_join j at (header l k s) t (omega arith))

-- ---- the verdict and what follows it

module _ (d : Ledger) (sh : List ℕ) (l : ℕ) (t j : List ℕ) where
  pub ready : is_ok (judge_of d sh l (length t) j) ≡ true → length d.used ≡ lines → Ready d l t j
  ready q u =
      let f = fits_facts d sh l (length t) j q in
      let k = kept d j f.whole in
      record {
        line = f.line;
        most = f.high;
        long = f.long;
        room = omega (arith, fits_journal d sh j l (entry_size (length t)) k u f.line f.room, f.long);
        counted = used_below d j l k f.line;
      }

  -- a storing answers what `judge` would
  pub answer_is_verdict : (store_of d sh l t j).storing.answer ≡ judge_of d sh l (length t) j
  unfolding store_of
  answer_is_verdict = either (judge_of d sh l (length t) j) (is_ok (judge_of d sh l (length t) j))
    where
      either : (v : Result (Unit {0}) Refusal) (b : Bool) → (cond b (after_storing (grown d l (length t)) v (appended d l t j)) (after_storing d v j)).storing.answer ≡ v
      either v true = refl
      either v false = refl

  pub not_stored : (v : Result (Unit {0}) Refusal) → v ≡ judge_of d sh l (length t) j → is_ok v ≡ false → Stored d sh l t j (record { ledger = d; answer = v }) j
  unfolding store_of
  not_stored v e f = record { result = rw (← e, f); after = rw (← e, f) }

  pub is_stored : (v : Result (Unit {0}) Refusal) (d' : Ledger) (j' : List ℕ) → v ≡ judge_of d sh l (length t) j → is_ok v ≡ true → Appended d l t j d' j'
      → Stored d sh l t j (record { ledger = d'; answer = v }) j'
  unfolding store_of
  is_stored v d' j' e f a = record { result = rw (← e, f, a.result); after = rw (← e, f) a.after }

pub no_err : {A E : Type 0} (r : Result A E) → is_err r ≡ false → is_ok r ≡ true
no_err (Ok a) e = refl
no_err (Err e) q = absurd (true≢false q)

pub an_err : {A E : Type 0} (r : Result A E) → is_err r ≡ true → is_ok r ≡ false
an_err (Ok a) e = absurd (true≢false (sym e))
an_err (Err e) q = refl
