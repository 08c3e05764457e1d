-- After an event the bytes in use are still a number of 32 bits.
-- Assumes nothing.
use Rattle.std.specs.Result.{is_ok}
use Rattle.std.specs.Prelude.{Result, Ok, Err}
use Rattle.journal.specs.declared.Refusal.{Refusal}
use mathlib.Core.Path.{◌≡◌, refl, ap}
use mathlib.Core.Bool.{Bool, true, false, ◌&&◌}
use mathlib.Core.List.{List}
use Prim.Native.Nat.{ℕ}
use lib.Dec.{ltb}
use lib.ListN.{length}
use Rattle.memory.specs.Sizes.{lines}
use Rattle.memory.specs.Tests.{unless}
use Rattle.room.specs.Room.{todays_shares}
use Rattle.journal.specs.Verdicts.{judge_of}
use Rattle.journal.specs.declared.Ledger.{Ledger}
use Rattle.uploads.proofs.Ways.{grown_narrow}
use Rattle.ledger.specs.Ledgers.{Narrow}
use Rattle.line.specs.Line.{within_limits}
use Rattle.line.specs.declared.Line.{Line}
use Rattle.looking.specs.Views.{frames_of, texts_of, joined_text}
use Rattle.deciding.specs.Decisions.{room_outcome}
use Rattle.deciding.proofs.Decisions.{outcome_cases}
use Rattle.receiving.specs.Verdicts.{fate_act, decision_of}
use Rattle.looking.specs.Lent.{right_sizes}
use Rattle.receiving.specs.Settled.{ledger_after}
use Rattle.receiving.specs.Steps.{Memory}
use Rattle.completing.specs.Deciding.{completed, completion_of, decide_of}
use Rattle.looking.specs.declared.Event.{Event}
use Rattle.looking.specs.Verdicts.{Left}
use Rattle.looking.specs.Fitting.{text_fits}
use Rattle.answers.specs.declared.Answer.TheVariants.{NoLine, WrongSize, BeyondLimits}

module _ (d : Ledger) (i : ℕ) (j : List ℕ) (w : Narrow d) where
  module _ (text : ℕ → List ℕ) (n : ℕ) where
    room_narrow : (q : Result (Unit {0}) Refusal) → judge_of d todays_shares i (length (text n)) j ≡ q → Narrow (ledger_after (fate_act (room_outcome q).fate n) d i text)
    room_narrow (Ok tt) e = grown_narrow d i j (length (text n)) (ap is_ok e)
    room_narrow (Err Refusal.NoRoom) e = w
    room_narrow (Err Refusal.Broken) e = w
    room_narrow (Err Refusal.NoLine) e = w
    room_narrow (Err Refusal.WrongSize) e = w
    room_narrow (Err Refusal.Malformed) e = w

    decision_narrow : Narrow (ledger_after (decision_of todays_shares d i n (text n) j).act d i text)
    decision_narrow = outcome_cases todays_shares d i (text n) j (λ o. Narrow (ledger_after (fate_act o.fate n) d i text)) w (room_narrow (judge_of d todays_shares i (length (text n)) j) refl)

module _ (l : Line) (d : Ledger) (e : Event) (m : Memory) (w : Narrow d) where
  abbrev own_text : ℕ → List ℕ
  own_text n = joined_text l n (texts_of e.line m.unfinished) (frames_of e.line m.frames)

  -- a deciding
  pub decide_narrow : (n : ℕ) → Narrow (decide_of todays_shares l d e n m).stepped.ledger
  unfolding decide_of completion_of
  decide_narrow n = by_tests (ltb e.line lines) (right_sizes m.journal m.unfinished m.frames) (within_limits l && text_fits l n)
    where
      by_tests : (a b c : Bool)
          → Narrow (ledger_after (unless a (Left NoLine) (unless b (Left WrongSize) (unless c (Left BeyondLimits) (completed todays_shares l d e n m)))).act d e.line own_text)
      by_tests true true true = decision_narrow d e.line m.journal w own_text n
      by_tests true true false = w
      by_tests true false c = w
      by_tests false b c = w
