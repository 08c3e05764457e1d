-- While nothing is decided on a line, its events go as they would by themselves: what comes on the other lines, and what is taken, makes no difference to them.
-- Assumes nothing.
use mathlib.Core.Path.{◌≡◌, refl, sym, ap, ap₂, subst, ◌∙◌}
use mathlib.Core.Bool.{Bool, false}
use mathlib.Core.List.{List, [], ◌∷◌}
use Prim.Native.Nat.{ℕ}
use native.Mathlib.Decide.{ℕ_discrete}
use borrow.Author.Tests.{eq-eqb, ne_eqb}
use Rattle.serial.specs.Serial.{Item, event, taking, annotate, final, Every}
use Rattle.serial.specs.Kept.{only, is_of}
use Rattle.serial.specs.Inner.Machine.{Lined}
use Rattle.serial.proofs.Lists.{mine}

module _ {S P J K N A : Type 0} (line_of : S → ℕ → P) (journalOf : S → J) (on_event : ℕ → P → K → J → A × P × J) (on_taking : ℕ → N → J → A × J)
    (decides : A → Bool) (lines : ℕ) (step : S → Item K N → A × S) (Sound : S → Type 0) (May : Item K N → Type 0)
    (lined : Lined line_of journalOf on_event on_taking decides lines step Sound May) (i : ℕ) where
  -- line i's events in a run from s are answered as by themselves from u, and leave the line the same
  pub record Apart (s u : S) (es : List (Item K N)) : Type 0 where
    pub history : only (mine i) (annotate step s es) ≡ annotate step u (only (is_of i) es)
    pub line : line_of (final step s es) i ≡ line_of (final step u (only (is_of i) es)) i

  module _ (s u : S) (w : Sound s) (v : Sound u) (same : line_of s i ≡ line_of u i) (k : K) (may : May (event i k)) (undecided : decides (step u (event i k)).0 ≡ false) where
    -- what the event comes to at u's line and s's journal
    there : on_event i (line_of u i) k (journalOf s) ≡ ((on_event i (line_of u i) k (journalOf u)).0, (on_event i (line_of u i) k (journalOf u)).1, journalOf s)
    there = lined.quiet u i k v may (ap decides (sym (lined.event_answer u i k v may)) ∙ undecided) s w

    answer_alike : (step s (event i k)).0 ≡ (step u (event i k)).0
    answer_alike =
        lined.event_answer s i k w may ∙ ap (λ (p : P). (on_event i p k (journalOf s)).0) same ∙ ap (λ (x : A × P × J). x.0) there
        ∙ sym (lined.event_answer u i k v may)

    line_alike : line_of (step s (event i k)).1 i ≡ line_of (step u (event i k)).1 i
    line_alike =
        lined.event_own s i k w may ∙ ap (λ (p : P). (on_event i p k (journalOf s)).1) same ∙ ap (λ (x : A × P × J). x.1) there
        ∙ sym (lined.event_own u i k v may)

    -- with this event in front
    onto : (es : List (Item K N)) → Apart (step s (event i k)).1 (step u (event i k)).1 es → Apart s u (event i k ∷ es)
    onto es x = record {
      history = rw (eq-eqb i i refl) (ap₂ (λ (a : A) (xs : List (Item K N × A)). (event i k, a) ∷ xs) answer_alike x.history);
      line = rw (eq-eqb i i refl) x.line;
    }

  -- no answer of a history decides
  abbrev pub NoneDecides : List (Item K N × A) → Type 0
  NoneDecides xs = Every (λ x. decides x.1 ≡ false) xs

  pub by_itself : (s u : S) (es : List (Item K N)) → Sound s → Sound u → line_of s i ≡ line_of u i → Every May es → NoneDecides (annotate step u (only (is_of i) es)) → Apart s u es
  by_itself s u [] w v same may undecided = record { history = refl; line = same }
  by_itself s u (event l k ∷ es) w v same may undecided = elim (ℕ_discrete l i) [
    | yes q ↦
        let m : May (event i k) = subst (λ (x : ℕ). May (event x k)) q may.0 in
        let first : NoneDecides (annotate step u (event i k ∷ only (is_of i) es)) = rw (q, eq-eqb i i refl) at undecided in
        let rest = by_itself (step s (event i k)).1 (step u (event i k)).1 es (lined.keeps s (event i k) w m) (lined.keeps u (event i k) v m) (line_alike s u w v same k m first.0) may.1 first.1 in
        subst (λ (x : ℕ). Apart s u (event x k ∷ es)) (sym q) (onto s u w v same k m first.0 es rest)
    | no n ↦
        let none : NoneDecides (annotate step u (only (is_of i) es)) = rw (ne_eqb l i n) at undecided in
        let rest = by_itself (step s (event l k)).1 u es (lined.keeps s (event l k) w may.0) v (lined.event_others s l k w may.0 i (λ q. n (sym q)) ∙ same) may.1 none in
        record { history = rw (ne_eqb l i n) rest.history; line = rw (ne_eqb l i n) rest.line }
  ]
  by_itself s u (taking l n ∷ es) w v same may undecided =
      let rest = by_itself (step s (taking l n)).1 u es (lined.keeps s (taking l n) w may.0) v (lined.taking_lines s l n w may.0 i ∙ same) may.1 undecided in
      record { history = rest.history; line = rest.line }
