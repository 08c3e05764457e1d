-- What a line speaks is set at the beginning, and nothing that comes changes it.
-- Assumes nothing.
use Rattle.std.specs.Prelude.{Err, Ok, Result}
use Rattle.answers.specs.declared.Answer.{Answer}
use mathlib.Core.Path.{◌≡◌, refl, ap, ◌∙◌}
use mathlib.Core.List.{List, [], ◌∷◌}
use Prim.Native.Nat.{ℕ, ◌<◌}
use native.Mathlib.Omega.{arith}
use lib.ListN.{get_or}
use Rattle.memory.specs.Sizes.{lines}
use Rattle.room.specs.Room.{todays_shares}
use Rattle.settings.specs.Settings.{standard_settings}
use Rattle.settings.specs.declared.Settings.{Settings}
use Rattle.settings.specs.declared.Patient.{Patient}
use Rattle.settings.specs.declared.Dialogue.TheVariants.{Frames, Blocks}
use Rattle.line.specs.declared.Line.{Line}
use Rattle.orders.specs.Starts.{line_started}
use Rattle.gateway.specs.Events.{line_at, dialogue_at, start_in, start_of, take_of}
use Rattle.gateway_laws.proofs.Gateways.{settings_set, event_settings}
use Rattle.serial.specs.Serial.{event, taking, final}
use Rattle.promises.specs.Machine.{State, GatewayItem, happens, starts, on_line, step}
use Rattle.promises.specs.Runs.{Beginning, Right, fresh}
use Rattle.promises.proofs.Kept.{started_at}

start_settings : (x : Result (Unit {0}) Answer) (l : Line) (text : List ℕ) → (line_started x l text).settings ≡ l.settings
start_settings (Ok tt) l text = refl
start_settings (Err a) l text = refl

-- whatever the state is
pub item_settings : (s : State) (e : GatewayItem) (i : ℕ) → (line_at (step s e).1.gateway i).settings ≡ (line_at s.gateway i).settings
unfolding start_of take_of
item_settings s (event l (happens k)) i = event_settings todays_shares s.gateway (on_line l k) s.memory i
item_settings s (event l (starts text)) i =
    let x = start_in s.gateway l text s.memory in
    settings_set s.gateway.lines l i (line_started x (line_at s.gateway l) text) (start_settings x (line_at s.gateway l) text)
item_settings s (taking l b) i = refl

pub run_settings : (s : State) (es : List GatewayItem) (i : ℕ) → (line_at (final step s es).gateway i).settings ≡ (line_at s.gateway i).settings
run_settings s [] i = refl
run_settings s (e ∷ es) i = run_settings (step s e).1 es i ∙ item_settings s e i

-- so a line that speaks frames goes on speaking them, and a reader's line its blocks
pub still_frames : (s : State) (e : GatewayItem) (i : ℕ) → dialogue_at s.gateway i ≡ Frames → dialogue_at (step s e).1.gateway i ≡ Frames
still_frames s e i speaks = ap (λ (t : Settings). t.dialogue) (item_settings s e i) ∙ speaks

pub still_blocks : (s : State) (e : GatewayItem) (i : ℕ) (p : Patient) → dialogue_at s.gateway i ≡ Blocks p → dialogue_at (step s e).1.gateway i ≡ Blocks p
still_blocks s e i p speaks = ap (λ (t : Settings). t.dialogue) (item_settings s e i) ∙ speaks

-- and after a run each line speaks what it was set to speak
pub dialogues_kept : (began : Beginning) → Right began → (es : List GatewayItem) (i : ℕ) → i < lines → (line_at (final step (fresh began) es).gateway i).settings ≡ get_or began.settings i standard_settings
dialogues_kept began right es i h = run_settings (fresh began) es i ∙ ap (λ (l : Line). l.settings) (started_at began.settings i (omega (arith, right.settings)))
