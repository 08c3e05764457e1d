-- What holds all along a run from fresh: the state is sound, 41, 42 and 43 never come, and 31 never comes within a line's own share.
-- Assumes nothing.
use Rattle.std.specs.Prelude.{Err, Ok, Result, ℕ}
use Rattle.journal.specs.declared.NotTaken.TheVariants.{Broken, BufferShort, NoLine, NothingWaiting, WrongSize}
use Rattle.journal.specs.declared.NotTaken.{NotTaken}
use mathlib.Core.Path.{◌≡◌, refl, sym, ap, ◌∙◌}
use mathlib.Core.Bool.{false, true≢false}
use mathlib.Core.Logic.{◌⊎◌, inl, inr}
use mathlib.Core.List.{List, [], ◌∷◌}
use Prim.Native.Nat.{ℕ, ◌+◌, ◌<◌}
use native.Mathlib.Decide.{dec_le}
use native.Mathlib.Omega.{arith}
use borrow.Author.Tests.{eq-eqb, le-leb}
use lib.Dec.{eqb}
use lib.ListN.{length, get_or, get_or-replicate}
use Rattle.memory.specs.Sizes.{lines, journal_size}
use Rattle.memory.proofs.Tests.{never_both}
use Rattle.header.specs.Header.{entry_size}
use Rattle.room.specs.Room.{share, todays_shares, claims, raised}
use Rattle.journal.specs.Removal.{AfterTaking, take_of as take_entry}
use Rattle.journal.specs.Answers.{took_paper}
use Rattle.journal_laws.proofs.Cases.{Gives, Keeps, take_cases}
use Rattle.room.proofs.Totals.{claims_own_share}
use Rattle.answers.specs.Paper.{number_of}
use Rattle.gateway.specs.Events.{take_of}
use Rattle.taking.specs.Taking.{took_answer}
use Rattle.looking.specs.declared.Kind.{Kind}
use Rattle.serial.specs.Serial.{event, taking, annotate, final, Every}
use Rattle.promises.specs.Machine.{State, Response, GatewayItem, happens, starts, came, step, Sound, May}
use Rattle.promises.specs.Runs.{Beginning, Right, fresh, answered, is_damage, Overfull, NoSpace, Space}
use Rattle.promises.specs.Inner.Came.{answer, Came, quiet, stored, crowded, against}
use Rattle.promises.proofs.Sound.{sound_intact}
use Rattle.promises.proofs.Starts.{start_mild, start_answer_law}
use Rattle.promises.proofs.Came.{comes_to, undecided_other, objected}
use Rattle.promises.proofs.Kept.{keeps, fresh_sound}

-- ---- events

-- an event is answered 41, 42 or 43 in no case
came_undamaged : (s : State) (i : ℕ) (k : Kind) → Came s i k → is_damage (answered (answer s i k)) ≡ false
came_undamaged s i k (quiet x) = x.no_damage
came_undamaged s i k (stored t m room x) = ap is_damage x.number
came_undamaged s i k (crowded t m room x) = ap is_damage x.number
came_undamaged s i k (against t m x) = (objected t (answered (answer s i k)) x.number).no_damage

-- 31 in one case, and 4 in one
came_crowded : (s : State) (i : ℕ) (k : Kind) → Came s i k → answered (answer s i k) ≡ 31 → NoSpace s i k
came_crowded s i k (quiet x) e = never_both (eqb (answered (answer s i k)) 31) (eq-eqb (answered (answer s i k)) 31 e) (undecided_other (answer s i k) x.undecided).1
came_crowded s i k (stored t m room x) e = absurd (omega (arith, x.number, e))
came_crowded s i k (crowded t m room x) e = record { text = t; complete = x.complete; such = room }
came_crowded s i k (against t m x) e = never_both (eqb (answered (answer s i k)) 31) (eq-eqb (answered (answer s i k)) 31 e) (objected t (answered (answer s i k)) x.number).not_31

came_stored : (s : State) (i : ℕ) (k : Kind) → Came s i k → answered (answer s i k) ≡ 4 → Space s i k
came_stored s i k (quiet x) e = never_both (eqb (answered (answer s i k)) 4) (eq-eqb (answered (answer s i k)) 4 e) (undecided_other (answer s i k) x.undecided).0
came_stored s i k (stored t m room x) e = record { text = t; complete = x.complete; such = room }
came_stored s i k (crowded t m room x) e = absurd (omega (arith, x.number, e))
came_stored s i k (against t m x) e = never_both (eqb (answered (answer s i k)) 4) (eq-eqb (answered (answer s i k)) 4 e) (objected t (answered (answer s i k)) x.number).not_4

module _ (s : State) (w : Sound s) (i : ℕ) (k : Kind) (h : i < lines) where
  -- 31 is given only to a message for which there is no room, and 4 only to one for which there is
  pub no_space : answered (step s (came i k)).0 ≡ 31 → NoSpace s i k
  no_space e = came_crowded s i k (comes_to s (sound_intact s w) i k h) e

  pub space : answered (step s (came i k)).0 ≡ 4 → Space s i k
  space e = came_stored s i k (comes_to s (sound_intact s w) i k h) e

  -- there is room for all that fits in what is left of a line's own share
  pub over_share : NoSpace s i k → Overfull s i k
  over_share x =
      let n = entry_size (length x.text) in
      let u = s.gateway.ledger.used in
      record {
        text = x.text;
        complete = x.complete;
        such = elim (dec_le (get_or u i 0 + n) share) [
          | yes room ↦
              let same = claims_own_share todays_shares u i n w.held.lines_used h (rw (get_or-replicate lines i share 0 h) room) in
              absurd (true≢false (sym (le-leb (claims todays_shares (raised u i n)) journal_size (rw same w.held.claimed)) ∙ x.such))
          | no room ↦ omega arith
        ];
      }

  pub own_share : answered (step s (came i k)).0 ≡ 31 → Overfull s i k
  own_share e = over_share (no_space e)

-- ---- takings

took_undamaged : (t : Result (ℕ × ℕ) NotTaken) → eqb (get_or (took_paper t) 0 0) 41 ≡ false → eqb (get_or (took_paper t) 0 0) 43 ≡ false → is_damage (number_of (took_answer t)) ≡ false
took_undamaged (Ok (n, serial)) p q = refl
took_undamaged (Err NothingWaiting) p q = refl
took_undamaged (Err BufferShort) p q = refl
took_undamaged (Err Broken) p q = absurd (true≢false q)
took_undamaged (Err NoLine) p q = refl
took_undamaged (Err WrongSize) p q = absurd (true≢false p)

taking_undamaged : (s : State) → Sound s → (i : ℕ) (b : List ℕ) → is_damage (answered (step s (taking i b)).0) ≡ false
unfolding take_of
taking_undamaged s w i b = by_case (take_cases todays_shares s.gateway.ledger i s.memory.journal b w.entries w.held)
  where
    by_case : Gives todays_shares s.gateway.ledger i s.memory.journal b w.entries ⊎ Keeps s.gateway.ledger i s.memory.journal b
        → is_damage (number_of (took_answer (take_entry s.gateway.ledger i s.memory.journal b).taking.answer)) ≡ false
    by_case (inl g) = ap (λ (x : AfterTaking). is_damage (number_of (took_answer x.taking.answer))) g.is
    by_case (inr q) = ap (λ (x : AfterTaking). is_damage (number_of (took_answer x.taking.answer))) q.is ∙ took_undamaged q.answer q.sized q.whole

-- ---- runs

undamaged : (s : State) (e : GatewayItem) → Sound s → May e → is_damage (answered (step s e).0) ≡ false
undamaged s (event i (happens k)) w m = came_undamaged s i k (comes_to s (sound_intact s w) i k m)
undamaged s (event i (starts text)) w m =
    let v = sound_intact s w in
    ap (λ (r : Response). is_damage (answered r)) (start_answer_law s v i text m) ∙ (start_mild s v i text m).no_damage
undamaged s (taking i b) w m = taking_undamaged s w i b

pub stays_sound : (s : State) (es : List GatewayItem) → Sound s → Every May es → Sound (final step s es)
stays_sound s [] w o = w
stays_sound s (e ∷ es) w o = stays_sound (step s e).1 es (keeps s e w o.0) o.1

stays_undamaged : (s : State) (es : List GatewayItem) → Sound s → Every May es → Every (λ x. is_damage (answered x.1) ≡ false) (annotate step s es)
stays_undamaged s [] w o = tt
stays_undamaged s (e ∷ es) w o = (undamaged s e w o.0, stays_undamaged (step s e).1 es (keeps s e w o.0) o.1)

module _ (began : Beginning) (right : Right began) (es : List GatewayItem) (may : Every May es) where
  -- after every run from fresh the records are within their limits, the chain is whole and every share is kept
  pub always_sound : Sound (final step (fresh began) es)
  always_sound = stays_sound (fresh began) es (fresh_sound began right) may

  -- and no item of it was answered 41, 42 or 43
  pub never_damaged : Every (λ x. is_damage (answered x.1) ≡ false) (annotate step (fresh began) es)
  never_damaged = stays_undamaged (fresh began) es (fresh_sound began right) may

  -- the next event is answered 31 only if it completes a message that does not fit in what is left of its line's share
  pub share_kept : (i : ℕ) (k : Kind) (h : i < lines) → answered (step (final step (fresh began) es) (came i k)).0 ≡ 31 → Overfull (final step (fresh began) es) i k
  share_kept i k h e = own_share (final step (fresh began) es) always_sound i k h e
