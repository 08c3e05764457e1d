-- One line alone, over runs: where messages are stored on no other, it can use 18,432 bytes of the journal, and no more.
-- Assumes nothing.
use mathlib.Core.Path.{◌≡◌, refl, sym, ap, ◌∙◌}
use mathlib.Core.Bool.{Bool, true, false, true≢false, cond}
use mathlib.Core.List.{List, [], ◌∷◌, ◌++◌}
use Prim.Native.Nat.{ℕ, ◌+◌, ◌≤◌, ◌<◌}
use native.Mathlib.Decide.{dec_le}
use native.Mathlib.Omega.{arith}
use lib.Dec.{eqb}
use lib.ListN.{length, get_or}
use Rattle.memory.specs.Sizes.{lines}
use Rattle.header.specs.Header.{entry_size}
use Rattle.header.specs.Entry.{Entry, size}
use Rattle.journal.specs.Entries.{total}
use Rattle.room.specs.Room.{raised}
use Rattle.journal_laws.specs.Runs.{Numbered, numbered, only, texts, waiting}
use Rattle.journal_laws.proofs.Guarantees.{today_reaches, today_no_more}
use Rattle.room.proofs.Totals.{raised_own, raised_other}
use Rattle.journal.proofs.Wholes.{whole_facts}
use Rattle.looking.specs.declared.Kind.{Kind}
use Rattle.serial.specs.Serial.{final, Every}
use Rattle.promises.specs.Machine.{State, GatewayItem, came, step, Sound, May}
use Rattle.promises.specs.Runs.{Beginning, Right, fresh, answered, Completes, used_by, used_with, most_alone}
use Rattle.promises.specs.Queue.{all_taken}
use Rattle.promises.specs.Freed.{Alone}
use Rattle.promises.proofs.Runs.{no_space, space, always_sound}
use Rattle.promises.proofs.Queue.{nothing_lost}

none_onto : (b : Bool) (x : Entry) (fs : List Entry) (n : ℕ) → (texts fs ≡ [] → n ≡ 0) → texts (cond b (x ∷ fs) fs) ≡ [] → cond b (size x) 0 + n ≡ 0
none_onto true x fs n rest e = absurd (omega (arith, ap (λ (zs : List Numbered). length zs) e))
none_onto false x fs n rest e = omega (arith, rest e)

none_waiting : (k : ℕ) (es : List Entry) → waiting k es ≡ [] → total k es ≡ 0
none_waiting k [] e = refl
none_waiting k (x ∷ es) e = none_onto (eqb x.line k) x (only k es) (total k es) (none_waiting k es) e

second_none : (xs ys : List Numbered) → [] ≡ xs ++ ys → ys ≡ []
second_none [] ys e = sym e
second_none (x ∷ xs) ys e = absurd (omega (arith, ap (λ (zs : List Numbered). length zs) e))

-- ---- over runs from fresh

module _ (began : Beginning) (right : Right began) (es : List GatewayItem) (may : Every May es) where
  abbrev s : State
  s = final step (fresh began) es

  w : Sound s
  w = always_sound began right es may

  module _ (i : ℕ) (line : i < lines) (alone : Alone (fresh began) es i) (k : Kind) where
    no_others : (c : ℕ) → c < lines → (c ≡ i → ⊥) → used_by s c ≡ 0
    no_others c q x =
        let lost = nothing_lost began right es may in
        let rows = ap (numbered 0) (sym (alone c q x)) ∙ lost.queue c q in
        (whole_facts s.gateway.ledger s.memory.journal lost.entries lost.held.whole).sums c q
        ∙ none_waiting c lost.entries (second_none (all_taken c (fresh began) es) (waiting c lost.entries) rows)

    module _ (n : ℕ) where
      abbrev grown : List ℕ
      grown = raised s.gateway.ledger.used i (entry_size n)

      grown_own : get_or grown i 0 ≡ used_with s i n
      grown_own = raised_own s.gateway.ledger.used i (entry_size n) w.held.lines_used line

      grown_others : (c : ℕ) → c < lines → (c ≡ i → ⊥) → get_or grown c 0 ≡ 0
      grown_others c q x = raised_other s.gateway.ledger.used i (entry_size n) w.held.lines_used line c x ∙ no_others c q x

    -- where messages are stored on one line alone, 31 comes only for what would use more than 18,432 bytes, and 4 only for what does not
    pub alone_refused : answered (step s (came i k)).0 ≡ 31 → Completes s i k (λ n. most_alone < used_with s i n)
    alone_refused e =
        let x = no_space s w i k line e in
        let n = length x.text in
        record {
          text = x.text;
          complete = x.complete;
          such = elim (dec_le (used_with s i n) most_alone) [
            | yes within ↦ absurd (true≢false (sym (today_reaches (grown n) i line (grown_others n) (omega (arith, grown_own n, within))) ∙ x.such))
            | no beyond ↦ omega arith
          ];
        }

    pub alone_stored : answered (step s (came i k)).0 ≡ 4 → Completes s i k (λ n. used_with s i n ≤ most_alone)
    alone_stored e =
        let x = space s w i k line e in
        let n = length x.text in
        record {
          text = x.text;
          complete = x.complete;
          such = elim (dec_le (used_with s i n) most_alone) [
            | yes within ↦ within
            | no beyond ↦ absurd (true≢false (sym x.such ∙ today_no_more (grown n) i line (grown_others n) (omega (arith, grown_own n, beyond))))
          ];
        }
