-- Nothing is acknowledged without being stored: the frame that completes a message gets ACK only with 4. And nothing but 4 stores, a repeat (3) least of all.
-- Assumes nothing.
use Rattle.std.specs.Prelude.{None, Some}
use mathlib.Core.Path.{◌≡◌, refl, sym, ap, ◌∙◌}
use mathlib.Core.Logic.{◌≢◌}
use mathlib.Core.Bool.{Bool, true, false, not, ◌||◌, true≢false}
use mathlib.Core.List.{List}
use Prim.Native.Nat.{ℕ, ◌<◌}
use Rattle.memory.specs.Sizes.{lines}
use Rattle.memory.proofs.Tests.{clash}
use lib.Dec.{eqb}
use Rattle.answers.specs.Paper.{ack, number_of, reply_of, first_out}
use Rattle.answers.specs.declared.Answer.{Answer}
use Rattle.answers.proofs.Paper.{every_but}
use Rattle.gateway_laws.specs.Classes.{class_of}
use Rattle.looking.specs.declared.Kind.{Kind}
use Rattle.serial.specs.Serial.{final, Every}
use Rattle.promises.specs.Machine.{State, Response, GatewayItem, came, step, is_decision, decides, store_of, May}
use Rattle.promises.specs.Runs.{Beginning, Right, fresh, answered, replied, is_ack, Completes}
use Rattle.promises.specs.Inner.Came.{answer, store, Came, quiet, stored, crowded, against}
use Rattle.promises.proofs.Sound.{sound_intact}
use Rattle.promises.proofs.Came.{comes_to, objected}
use Rattle.promises.proofs.Runs.{always_sound}

-- an answer that decides and is not 4 is not acknowledged
abbrev passed : Answer → Bool
passed a = not (is_decision (class_of a)) || eqb (number_of a) 4

no_ack : (a : Answer) → is_decision (class_of a) ≡ true → eqb (number_of a) 4 ≡ false → is_ack (first_out a) ≡ false
unfolding reply_of
no_ack a d n = every_but passed (λ b. is_ack (first_out b)) (λ vs. refl) a (rw (d, n))

not_acknowledged : (t : Response) → decides t ≡ true → eqb (answered t) 4 ≡ false → replied t ≡ Some ack → answered t ≡ 4
not_acknowledged t d n e = absurd (true≢false (sym (ap is_ack e) ∙ no_ack t.answer d n))

-- of the answers to a complete message, only 4 is acknowledged
came_acknowledged : (s : State) (i : ℕ) (k : Kind) → Came s i k → Completes s i k (λ n. Unit {0}) → replied (answer s i k) ≡ Some ack → answered (answer s i k) ≡ 4
came_acknowledged s i k (quiet x) c e =
    let z : None ≡ Some c.text = sym x.no_text ∙ c.complete in
    clash cc
came_acknowledged s i k (stored t m room x) c e = x.number
came_acknowledged s i k (crowded t m room x) c e = not_acknowledged (answer s i k) x.decided (ap (λ (n : ℕ). eqb n 4) x.number) e
came_acknowledged s i k (against t m x) c e = not_acknowledged (answer s i k) x.decided (objected t (answered (answer s i k)) x.number).not_4 e

-- and only 4 changes the store
came_kept : (s : State) (i : ℕ) (k : Kind) → Came s i k → answered (answer s i k) ≢ 4 → store s i k ≡ store_of s
came_kept s i k (quiet x) n = x.kept
came_kept s i k (stored t m room x) n = absurd (n x.number)
came_kept s i k (crowded t m room x) n = x.left
came_kept s i k (against t m x) n = x.left

module _ (began : Beginning) (right : Right began) (es : List GatewayItem) (may : Every May es) (i : ℕ) (k : Kind) (line : i < lines) where
  abbrev s : State
  s = final step (fresh began) es

  this : Came s i k
  this = comes_to s (sound_intact s (always_sound began right es may)) i k line

  -- after any run from fresh: an event that completes a message and is acknowledged is answered 4, and so its message is stored
  pub acknowledged_stored : Completes s i k (λ n. Unit {0}) → replied (step s (came i k)).0 ≡ Some ack → answered (step s (came i k)).0 ≡ 4
  acknowledged_stored = came_acknowledged s i k this

  -- and an event with any other answer leaves ledger and journal as they were
  pub only_4_stores : answered (step s (came i k)).0 ≢ 4 → store_of (step s (came i k)).1 ≡ store_of s
  only_4_stores = came_kept s i k this
