-- Why the serial form of a run is itself a run. Beside the state t, to which every item has come, goes a state s, to which the pending events have not yet come:
-- s lags behind t (`Behind`). The pending events are quiet, so that they can be done later, at whatever journal is there by then.
-- Assumes nothing.
use mathlib.Core.Path.{◌≡◌, refl, sym, ◌∙◌}
use mathlib.Core.Logic.{◌≢◌}
use mathlib.Core.Bool.{Bool, true, false}
use mathlib.Core.List.{List, [], ◌∷◌, ◌++◌}
use Prim.Native.Nat.{ℕ, suc, ◌≤◌}
use native.Mathlib.Omega.{arith}
use native.Mathlib.Decide.{ℕ_discrete, dec_lt}
use Rattle.serial.specs.Serial.{Item, event, taking, upd, annotate, final, Every, times, OrderOf, stretch, out, left, rests, serial, serialize}
use Rattle.serial.specs.Inner.Machine.{Lined, Same}
use Rattle.serial.proofs.Updates.{upd_all, stretch_append, times_own, times_other}
use Rattle.serial.proofs.Runs.{Runs, runs_append}

module _ {S P J K N A : Type 0} (line_of : S → ℕ → P) (journalOf : S → J) (on_event : ℕ → P → K → J → A × P × J) (on_taking : ℕ → N → J → A × J)
    (decides : A → Bool) (lines : ℕ) (step : S → Item K N → A × S) (Sound : S → Type 0) (May : Item K N → Type 0) where
  -- the events xs of line i, all quiet, lead what it has from p to r
  abbrev Lag : ℕ → P → List (K × A) → P → Type 0
  Lag i p [] r = p ≡ r
  Lag i p (x ∷ xs) r = (q : P) × May (event i x.0) × ((u : S) → Sound u → on_event i p x.0 (journalOf u) ≡ (x.1, q, journalOf u)) × Lag i q xs r

  -- one more quiet event
  lag_snoc : (i : ℕ) (xs : List (K × A)) (p q r : P) (k : K) (a : A) → Lag i p xs q → May (event i k) → ((u : S) → Sound u → on_event i q k (journalOf u) ≡ (a, r, journalOf u))
      → Lag i p (xs ++ ((k, a) ∷ [])) r
  lag_snoc i [] p q r k a g o h = (r, o, rw g h, refl)
  lag_snoc i (x ∷ xs) p q r k a g o h = (g.0, g.1, g.2, lag_snoc i xs g.0 q r k a g.3 o h)

  -- s lags behind t: the events that are pending are still to be done
  record Behind (s : S) (pending : ℕ → List (K × A)) (t : S) : Type 0 where
    journal : journalOf s ≡ journalOf t
    lag : (i : ℕ) → Lag i (line_of s i) (pending i) (line_of t i)
    none : (i : ℕ) → lines ≤ i → pending i ≡ []

  -- t is s, but line i has p
  record Moved (s : S) (i : ℕ) (p : P) (t : S) : Type 0 where
    sound : Sound t
    own : line_of t i ≡ p
    others : (l : ℕ) → l ≢ i → line_of t l ≡ line_of s l
    journal : journalOf t ≡ journalOf s

  module _ (L : Lined line_of journalOf on_event on_taking decides lines step Sound May) where
    -- pending events are done at last: their line comes to p, nothing else moves, and they get their answers
    flush : (i : ℕ) (xs : List (K × A)) (s : S) (p : P) → Sound s → Lag i (line_of s i) xs p → (t : S) × Runs step s (stretch i xs) t × Moved s i p t
    flush i [] s p w g = (s, refl, record { sound = w; own = g; others = λ l n. refl; journal = refl })
    flush i (x ∷ xs) s p w g =
        let s₁ : S = (step s (event i x.0)).1 in
        let c : on_event i (line_of s i) x.0 (journalOf s) ≡ (x.1, g.0, journalOf s) = g.2 s w in
        let own₁ : line_of s₁ i ≡ g.0 = cc (L.event_own s i x.0 w g.1) in
        let journal₁ : journalOf s₁ ≡ journalOf s = cc (L.event_journal s i x.0 w g.1) in
        let answer₁ : (step s (event i x.0)).0 ≡ x.1 = cc (L.event_answer s i x.0 w g.1) in
        let (t, r, m) = flush i xs s₁ p (L.keeps s (event i x.0) w g.1) (rw own₁ g.3) in (
          t,
          (answer₁, r),
          record {
            sound = m.sound;
            own = m.own;
            others = λ l n. m.others l n ∙ L.event_others s i x.0 w g.1 l n;
            journal = m.journal ∙ journal₁;
          },
        )

    -- a run keeps a state sound
    pub final_sound : (es : List (Item K N)) (s : S) → Sound s → Every May es → Sound (final step s es)
    final_sound [] s w o = w
    final_sound (e ∷ es) s w o = final_sound es (step s e).1 (L.keeps s e w o.0) o.1

    -- zs is a run from s to a state of the same lines and journal as t
    abbrev pub Reaches : S → List (Item K N × A) → S → Type 0
    Reaches s zs t = (u : S) × Runs step s zs u × Sound u × Same line_of journalOf u t

    -- the rests of lines that stand in a list once each: a line that is not in it is up to date, and one that is may lag
    rest : (is : List ℕ) (pending : ℕ → List (K × A)) (s t : S) → Sound s → journalOf s ≡ journalOf t → ((l : ℕ) → times l is ≤ 1)
        → ((l : ℕ) → times l is ≡ 0 → line_of s l ≡ line_of t l) → ((l : ℕ) → times l is ≡ 1 → Lag l (line_of s l) (pending l) (line_of t l))
        → Reaches s (rests pending is) t
    rest [] pending s t w e most done behind = (s, refl, w, record { each = λ l. done l refl; journal = e })
    rest (i ∷ is) pending s t w e most done behind =
        let own : times i (i ∷ is) ≡ suc (times i is) = times_own i is in
        let none : times i is ≡ 0 = omega (arith, most i) in
        let (u, r, v) = flush i (pending i) s (line_of t i) w (behind i (omega arith)) in
        let (x, q, y, z) = rest is pending u t v.sound (v.journal ∙ e)
        (λ l. omega (arith, most l))
        (λ l h. elim (ℕ_discrete l i) [ yes q ↦ rw q v.own | no n ↦ v.others l n ∙ done l (times_other i l is (λ p. n (sym p)) ∙ h) ])
        (λ l h. elim (ℕ_discrete l i) [
          | yes q ↦ absurd (let g : times i is ≡ 1 = rw q at h in omega arith)
          | no n ↦ rw (v.others l n) (behind l (times_other i l is (λ p. n (sym p)) ∙ h))
        ]) in
        (x, runs_append step (stretch i (pending i)) (rests pending is) s u x r q, y, z)

    -- zs is a run from s to a state that lags behind t by what is pending
    abbrev Next : S → List (Item K N × A) → (ℕ → List (K × A)) → S → Type 0
    Next s zs pending t = (s₁ : S) × Runs step s zs s₁ × Sound s₁ × Behind s₁ pending t

    module _ (s t : S) (pending : ℕ → List (K × A)) (ws : Sound s) (wt : Sound t) (h : Behind s pending t) where
      -- an event that decides: its line comes up to date
      cut : (i : ℕ) (k : K) → May (event i k)
          → Next s (stretch i (pending i ++ ((k, (step t (event i k)).0) ∷ []))) (upd pending i []) (step t (event i k)).1
      cut i k o =
          let (u, r, m) = flush i (pending i) s (line_of t i) ws (h.lag i) in
          let same : on_event i (line_of u i) k (journalOf u) ≡ on_event i (line_of t i) k (journalOf t) = cc (h.journal, m.own, m.journal) in
          let answer : (step u (event i k)).0 ≡ (step t (event i k)).0 = cc (L.event_answer u i k m.sound o, L.event_answer t i k wt o) in
          let u₁ : S = (step u (event i k)).1 in
          let t₁ : S = (step t (event i k)).1 in
          let own : line_of u₁ i ≡ line_of t₁ i = cc (L.event_own u i k m.sound o, L.event_own t i k wt o) in (
            u₁,
            rw stretch_append (runs_append step (stretch i (pending i)) _ s u u₁ r (answer, refl)),
            L.keeps u (event i k) m.sound o,
            record {
              journal = cc (L.event_journal u i k m.sound o, L.event_journal t i k wt o);
              lag =
                  upd_all (λ l xs. Lag l (line_of u₁ l) xs (line_of t₁ l)) pending i [] own
                  (λ l n. rw (L.event_others u i k m.sound o l n, L.event_others t i k wt o l n, m.others l n) (h.lag l));
              none = upd_all (λ l xs. lines ≤ l → xs ≡ []) pending i [] (λ _. refl) (λ l n. h.none l);
            },
          )

      -- an event that does not: it is pending
      wait : (i : ℕ) (k : K) → May (event i k) → decides (step t (event i k)).0 ≡ false
          → Next s [] (upd pending i (pending i ++ ((k, (step t (event i k)).0) ∷ []))) (step t (event i k)).1
      wait i k o e =
          let t₁ : S = (step t (event i k)).1 in
          let a : A = (step t (event i k)).0 in
          let answer : a ≡ (on_event i (line_of t i) k (journalOf t)).0 = L.event_answer t i k wt o in
          let own : line_of t₁ i ≡ (on_event i (line_of t i) k (journalOf t)).1 = L.event_own t i k wt o in
          let q : (u : S) → Sound u → on_event i (line_of t i) k (journalOf u) ≡ (a, line_of t₁ i, journalOf u) = λ u wu. cc (L.quiet t i k wt o (rw answer at e) u wu) in
          let journal : journalOf s ≡ journalOf t₁ = cc (q t wt, L.event_journal t i k wt o, h.journal) in (
            s,
            refl,
            ws,
            record {
              journal = journal;
              lag =
                  upd_all (λ l xs. Lag l (line_of s l) xs (line_of t₁ l)) pending i (pending i ++ ((k, a) ∷ []))
                  (lag_snoc i (pending i) (line_of s i) (line_of t i) (line_of t₁ i) k a (h.lag i) o q)
                  (λ l n. rw (L.event_others t i k wt o l n) (h.lag l));
              none =
                  upd_all (λ l xs. lines ≤ l → xs ≡ []) pending i (pending i ++ ((k, a) ∷ []))
                  (λ g. absurd (omega (arith, L.on_line i k o)))
                  (λ l n. h.none l);
            },
          )

      -- a taking: the journals are the same
      taken : (i : ℕ) (n : N) → May (taking i n) → Next s ((taking i n, (step t (taking i n)).0) ∷ []) pending (step t (taking i n)).1
      taken i n o = (
        (step s (taking i n)).1,
        (cc (L.taking_answer s i n ws o, L.taking_answer t i n wt o, h.journal), refl),
        L.keeps s (taking i n) ws o,
        record {
          journal = cc (L.taking_journal s i n ws o, L.taking_journal t i n wt o, h.journal);
          lag = λ l. rw (L.taking_lines s i n ws o l, L.taking_lines t i n wt o l) (h.lag l);
          none = h.none;
        },
      )

      -- one item: what it puts out runs, and the state that lags comes to lag behind the next one
      one : (e : Item K N) → May e → let a = (step t e).0 in Next s (out pending e a (decides a)) (left pending e a (decides a)) (step t e).1
      one (event i k) o = go (decides (step t (event i k)).0) refl
        where
          go : (d : Bool) → decides (step t (event i k)).0 ≡ d → let a = (step t (event i k)).0 in let e : Item K N = event i k in
              Next s (out pending e a d) (left pending e a d) (step t (event i k)).1
          go true e = cut i k o
          go false e = wait i k o e
      one (taking i n) o = taken i n o

    module _ (order : List ℕ) (each : OrderOf lines order) where
      -- the rests at the end
      last : (s t : S) (pending : ℕ → List (K × A)) → Sound s → Behind s pending t → Reaches s (rests pending order) t
      last s t pending ws h = rest order pending s t ws h.journal
          (λ l. elim (dec_lt l lines) [ yes p ↦ omega (arith, each.once l p) | no p ↦ omega (arith, each.no_others l (omega arith)) ])
          (λ l g. elim (dec_lt l lines) [ yes p ↦ absurd (omega (arith, each.once l p)) | no p ↦ rw (h.none l (omega arith)) at (h.lag l) ])
          (λ l g. h.lag l)

      -- a run from t, from a state that lags behind t
      lags : (es : List (Item K N)) (s t : S) (pending : ℕ → List (K × A)) → Sound s → Sound t → Every May es → Behind s pending t
          → Reaches s (serial decides order pending (annotate step t es)) (final step t es)
      lags [] s t pending ws wt o h = last s t pending ws h
      lags (e ∷ es) s t pending ws wt o h =
          let a : A = (step t e).0 in
          let t₁ : S = (step t e).1 in
          let after : ℕ → List (K × A) = left pending e a (decides a) in
          let (s₁, r, w₁, h₁) = one s t pending ws wt h e o.0 in
          let (u, q, y, z) = lags es s₁ t₁ after w₁ (L.keeps t e wt o.0) o.1 h₁ in
          (u, runs_append step (out pending e a (decides a)) (serial decides order after (annotate step t₁ es)) s s₁ u r q, y, z)

      -- a run from s, from s itself
      pub lags_run : (s : S) (es : List (Item K N)) → Sound s → Every May es
          → Reaches s (serialize decides order (annotate step s es)) (final step s es)
      lags_run s es w o = lags es s s (λ i. []) w w o (record { journal = refl; lag = λ i. refl; none = λ i h. refl })
