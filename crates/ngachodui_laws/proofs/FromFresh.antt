-- On a start every line of frames can be sent to: what sending assumes is met.
-- Assumes nothing.
use mathlib.Core.Path.{◌≡◌, refl, ap, ◌∙◌}
use mathlib.Core.Bool.{true}
use mathlib.Core.List.{List, []}
use Prim.Native.Nat.{ℕ, ◌<◌}
use native.Mathlib.Omega.{arith}
use lib.ListN.{length, get_or, replicate, get_or-replicate}
use Rattle.memory.specs.Sizes.{lines}
use Rattle.faults.specs.Message.{is_message}
use Rattle.faults.proofs.Messages.{message_short}
use Rattle.header.specs.Header.{entry_size}
use Rattle.header.proofs.Heads.{head_size_high}
use Rattle.room.specs.Room.{todays_shares, fits, raised}
use Rattle.room.proofs.Totals.{raised_own, raised_other}
use Rattle.journal_laws.proofs.Guarantees.{today_reaches}
use Rattle.line.specs.Line.{started_line, fresh_line}
use Rattle.receiving.specs.Steps.{Memory}
use Rattle.promises.specs.Machine.{State}
use Rattle.promises.specs.Runs.{RightSizes, has_space}
use Rattle.layout.specs.Layout.{frames, started_numbers, can_start}
use Rattle.numbers.specs.Plain.{settings_of, line_of}
use Rattle.ngachodui_laws.specs.HostRuns.{started_host, Run}
use Rattle.ngachodui_laws.specs.Sending.{CanSend}
use Rattle.ngachodui_laws.proofs.Started.{line}
use Rattle.ngachodui_laws.proofs.HostRuns.{fresh_is}
use Rattle.ngachodui_laws.proofs.Sound.{always_sound}

-- a line that is set to speak frames is fresh
line_fresh : (speaks : List ℕ) (i : ℕ) → i < lines → get_or speaks i 0 ≡ frames → line_of (started_numbers speaks) i ≡ fresh_line
line_fresh speaks i h f = line speaks i h ∙ ap (λ (n : ℕ). started_line (settings_of n)) f

-- a message takes less than what one line alone can use
room_fresh : (i : ℕ) → i < lines → (t : List ℕ) → is_message t ≡ true → fits todays_shares (raised (replicate lines 0) i (entry_size (length t))) ≡ true
room_fresh i h t message =
    let u : List ℕ = replicate lines 0 in
    let n = entry_size (length t) in
    let none : (k : ℕ) → k < lines → get_or u k 0 ≡ 0 = λ k q. get_or-replicate {A = ℕ} lines k 0 0 q in
    today_reaches (raised u i n) i h (λ k q x. raised_other u i n refl h k x ∙ none k q)
    (omega (arith, raised_own u i n refl h, none i h, head_size_high (length t), message_short _ t message))

pub can_send : (speaks : List ℕ) → length speaks ≡ lines → can_start speaks ≡ true → (m : Memory) → RightSizes m → (i : ℕ) → i < lines → get_or speaks i 0 ≡ frames
    → (t : List ℕ) → is_message t ≡ true → CanSend (started_host speaks m) i t
can_send speaks eight spoken m sizes i h f t message =
    let start : Run = record { speaks = speaks; eight = eight; spoken = spoken; memory = m; sizes = sizes; calls = []; may = tt } in
    record {
      line = h;
      intact = (always_sound start).intact;
      fresh = line_fresh speaks i h f;
      message = message;
      room = ap (λ (x : State). has_space x i (length t)) (fresh_is start) ∙ room_fresh i h t message;
    }
