-- A host's run from numbers in order is the gateway's run: the same answers, and at its end the numbers stand for the gateway's state.
-- Assumes nothing.
use Rattle.strips.specs.declared.Reply.{Reply}
use Rattle.std.specs.Prelude.{Err, Ok, Option, Result}
use Rattle.faults.specs.declared.Flaw.TheVariants.{Faulty, NotText}
use Rattle.faults.specs.declared.Flaw.{Flaw}
use mathlib.Core.Path.{◌≡◌, refl, sym, ap, subst, ◌∙◌}
use mathlib.Core.Logic.{◌≢◌, inl, inr}
use mathlib.Core.Bool.{Bool, true, false}
use mathlib.Core.List.{List, [], ◌∷◌, map}
use Prim.Native.Nat.{ℕ, suc, ◌≤◌, ◌<◌}
use native.Mathlib.Decide.{dec_lt}
use native.Mathlib.Omega.{arith}
use borrow.Author.Tests.{eqb-false, le-ltb}
use lib.Dec.{eqb, ltb}
use lib.ListN.{length}
use Rattle.memory.specs.Sizes.{lines, frame_limit}
use Rattle.memory.specs.Tests.{unless}
use Rattle.room.specs.Room.{todays_shares}
use Rattle.answers.specs.Paper.{number_of, reply_of}
use Rattle.answers.specs.declared.Answer.{Answer}
use Rattle.answers.specs.declared.Answer.TheVariants.{NoLine, WrongSize, BeyondLimits, NotNeutral}
use Rattle.answers.proofs.Paper.{every_but}
use Rattle.receiving.specs.Verdicts.{verdict_of}
use Rattle.receiving.specs.Steps.{Memory, step_of}
use Rattle.settings.specs.Settings.{by_dialogue}
use Rattle.settings.specs.declared.Patient.{Patient}
use Rattle.settings.specs.declared.Dialogue.{Dialogue}
use Rattle.settings.specs.declared.Dialogue.TheVariants.{Frames, Blocks}
use Rattle.line.specs.Line.{record_within}
use Rattle.uploads.specs.Uploads.{Deed, leave, add, settle, file, ruling_on, upload_of}
use Rattle.faults.specs.Faults.{fault_of}
use Rattle.looking.specs.Lent.{right_lengths}
use Rattle.looking.specs.Views.{unfinished_text}
use Rattle.sending.specs.Offered.{frame_now}
use Rattle.numbers.specs.Plain.{settings_of, line_of}
use Rattle.keeping.specs.Keeping.{memo_of}
use Rattle.orders.specs.Starts.{can_start, text_look, start_look, start_answer}
use Rattle.orders.specs.Calls.{frame_on}
use Rattle.orders.proofs.Looks.{look_no_line}
use Rattle.gateway.specs.Out.{out_bytes, block_out}
use Rattle.gateway.specs.Events.{AfterEvent, line_at, dialogue_at, memo_at, event_of, start_of}
use Rattle.looking.specs.declared.Event.{Event}
use Rattle.gateway.specs.Gateway.{Gateway}
use Rattle.looking.specs.declared.Act.{Act}
use Rattle.gateway_laws.specs.Classes.{Class, quiet, opening, closing, refusing, accepting, storing, against, taking as gives, sending, hearing, class_of}
use Rattle.gateway_laws.specs.Inner.Classes.{act_class}
use Rattle.gateway_laws.proofs.Rows.{Of, of_class}
use Rattle.gateway_laws.specs.Inner.Hearings.{GoesWith}
use Rattle.gateway_laws.proofs.Proper.{goes_class, verdict_proper}
use Rattle.gateway_laws.proofs.Uploads.{goes}
use Rattle.gateway_laws.proofs.Gateways.{event_cases}
use Rattle.serial.specs.Serial.{event, taking, annotate, final, Every}
use Rattle.promises.specs.Machine.{State, Response, GatewayItem, happens, starts, on_line, left_by, parts_of, goes_out, after_event, step, Sound}
use Rattle.promises.specs.Runs.{Beginning, Right, fresh, answered, is_damage}
use Rattle.promises.proofs.Runs.{always_sound, never_damaged}
use Rattle.promises.proofs.Foreign.{never_30}
use Rattle.answers.specs.InNumbers.{in_numbers}
use Rattle.calls.specs.Calls.{HostState, AfterCall, call_of}
use Rattle.ngachodui_laws.specs.HostRuns.{gateway_state, InOrder, begin_of, HostResponse, lent_of, start_from, started_by, sent_by, response_to, host_step, Run, history_of, end_of}
use Rattle.ngachodui_laws.specs.Inner.Hosting.{Hosts, answer_in_numbers, in_numbers_of, seen_of}
use Rattle.ngachodui_laws.proofs.Hosts.{hosts_the_gateway, taking_hosts}
use Rattle.ngachodui_laws.proofs.Started.{started_gateway_law, started_ordered}
use Rattle.ngachodui_laws.proofs.Starts.{start_hosts}
use Rattle.ngachodui_laws.proofs.PutBack.{line_at_law, memo_at_law}

-- no event is answered 8, so an event's answer in numbers has all that its answer has
abbrev is_giving : Class → Bool
is_giving quiet = false
is_giving opening = false
is_giving closing = false
is_giving refusing = false
is_giving accepting = false
is_giving storing = false
is_giving against = false
is_giving gives = true
is_giving sending = false
is_giving hearing = false

never_gives : (c : Class) (x : Act) → Of c x → is_giving c ≡ false
never_gives quiet x o = refl
never_gives opening x o = refl
never_gives closing x o = refl
never_gives refusing x o = refl
never_gives accepting x o = refl
never_gives storing x o = refl
never_gives against x o = refl
never_gives sending x o = refl
never_gives gives x o = elim o [ ]
never_gives hearing x o = elim o [ ]

event_answer : (a : Answer) → is_giving (class_of a) ≡ false → in_numbers a ≡ answer_in_numbers a
unfolding in_numbers
event_answer a h = rw (every_but (λ b. is_giving (class_of b)) (λ b. eqb (number_of b) 8) (λ vs. refl) a h)

-- nor on a line of frames, nor on a reader's
upload_gives : (x : Deed) (a : Answer) → GoesWith x a → is_giving (class_of a) ≡ false
upload_gives leave a g = ap is_giving g
upload_gives add a g = ap (λ (b : Answer). is_giving (class_of b)) g
upload_gives (settle r) a (inl g) = ap is_giving g
upload_gives (settle r) a (inr g) = ap (λ (b : Answer). is_giving (class_of b)) g
upload_gives file a g = ap (λ (b : Answer). is_giving (class_of b)) g

event_gives : (g : Gateway) (e : Event) (m : Memory) → is_giving (class_of (event_of todays_shares g e m).handled.answer) ≡ false
unfolding step_of upload_of
event_gives g e m =
    event_cases todays_shares g e m (λ x. is_giving (class_of x.handled.answer) ≡ false) refl stepped uploaded
  where
    stepped : is_giving (class_of (step_of todays_shares (line_at g e.line) g.ledger e m).stepped.answer) ≡ false
    stepped =
        let v = verdict_of todays_shares (line_at g e.line) g.ledger e m.journal m.unfinished m.frames in
        ap is_giving (goes_class v.act v.answer (verdict_proper todays_shares (line_at g e.line) g.ledger e m.journal m.unfinished m.frames)) ∙ never_gives (act_class v.act) v.act (of_class v.act)

    uploaded : (p : Patient) → is_giving (class_of (upload_of todays_shares p (line_at g e.line) (memo_at g e.line) g.ledger e m).step.stepped.answer) ≡ false
    uploaded p =
        let x = ruling_on todays_shares p (line_at g e.line) (memo_at g e.line) g.ledger e m in
        upload_gives x.deed x.answer (goes todays_shares p (line_at g e.line) (memo_at g e.line) g.ledger e m)

-- nor is a start
start_gives : (i : ℕ) (within can : Bool) (text : List ℕ) (j u f : ℕ) → is_giving (class_of (start_answer (start_look i within can text j u f))) ≡ false
unfolding start_look
start_gives i within can text j u f = by (ltb i lines) (right_lengths j u f) within can (fault_of text)
  where
    by_text : (x : Result (Unit {0}) Flaw) → is_giving (class_of (start_answer (text_look x))) ≡ false
    by_text (Ok tt) = refl
    by_text (Err NotText) = refl
    by_text (Err (Faulty f place)) = refl

    by : (a b c d : Bool) (x : Result (Unit {0}) Flaw)
        → is_giving (class_of (start_answer (unless a (Err NoLine) (unless b (Err WrongSize) (unless c (Err BeyondLimits) (unless d (Err NotNeutral) (text_look x))))))) ≡ false
    by true true true true x = by_text x
    by true true true false x = refl
    by true true false d x = refl
    by true false c d x = refl
    by false b c d x = refl

started_gives : (g : Gateway) (i : ℕ) (text : List ℕ) (m : Memory) → is_giving (class_of (start_of g i text m).handled.answer) ≡ false
unfolding start_of
started_gives g i text m = start_gives i (record_within (line_at g i)) (can_start (line_at g i)) text (length m.journal) (length m.unfinished) (length m.frames)

-- a call beside the gateway's event or start: what the host sees and sends is the gateway's response, and its numbers stand for the gateway's state
record Alike (i : ℕ) (c : AfterCall) (x : AfterEvent) : Type 0 where
  state : gateway_state c.state ≡ left_by x
  response : (response_to i c).0 ≡ in_numbers_of (after_event i x).0
  in_order : InOrder c.state

-- on a line that is there
alike : (i : ℕ) → i < lines → (c : AfterCall) (x : AfterEvent) → Hosts c x → is_giving (class_of x.handled.answer) ≡ false → Alike i c x
alike i line c x h other =
    let a = h.answer ∙ event_answer x.handled.answer other in
    let own : line_of c.state.numbers i ≡ line_at x.handled.gateway i = sym (line_at_law c.state.numbers i line) ∙ ap (λ (g : Gateway). line_at g i) h.gateway in
    let memo : memo_of c.state.numbers i ≡ memo_at x.handled.gateway i = sym (memo_at_law c.state.numbers i line) ∙ ap (λ (g : Gateway). memo_at g i) h.gateway in
    record {
      state = λ z. record { gateway = h.gateway z; memory = h.memory z };
      response = λ z. record {
        answered = a z;
        buffer = by_dialogue (own z).settings.dialogue (out_bytes (a z).number (a z).reply (frame_on (own z) i (h.memory z).unfinished)) (λ p. block_out (a z).reply (memo z).reader.reply);
      };
      in_order = h.ordered;
    }

-- on no line nothing goes out
nothing_out : (d : Dialogue) (frame : List ℕ) (reply : Option Reply) → by_dialogue d (out_bytes (number_of NoLine) 0 frame) (λ p. block_out 0 reply) ≡ []
nothing_out Frames frame reply = refl
nothing_out (Blocks p) frame reply = refl

unlike : (i : ℕ) (c : AfterCall) (x : AfterEvent) → Hosts c x → x.handled.answer ≡ NoLine → Alike i c x
unfolding in_numbers reply_of
unlike i c x h none =
    let a = h.answer ∙ event_answer x.handled.answer (ap (λ (b : Answer). is_giving (class_of b)) none) in
    let line = line_of c.state.numbers i in
    let own = parts_of (left_by x) i in
    let out : sent_by c.state i c.answered ≡ [] =
    ap (sent_by c.state i) (h.answer ∙ ap in_numbers none) ∙ nothing_out line.settings.dialogue (frame_on line i c.state.memory.unfinished) (memo_of c.state.numbers i).reader.reply in
    let there : goes_out x.handled.answer own ≡ [] =
    ap (λ (b : Answer). goes_out b own) none ∙ nothing_out (dialogue_at x.handled.gateway i) (frame_now frame_limit own.line (unfinished_text own.line own.texts)) (memo_at x.handled.gateway i).reader.reply in
    let buffer = out ∙ sym there in
    record {
      state = λ z. record { gateway = h.gateway z; memory = h.memory z };
      response = λ z. record { answered = a z; buffer = buffer z };
      in_order = h.ordered;
    }

event_nowhere : (g : Gateway) (e : Event) (m : Memory) → lines ≤ e.line → (event_of todays_shares g e m).handled.answer ≡ NoLine
unfolding event_of
event_nowhere g e m h = rw (le-ltb e.line lines h)

start_nowhere : (g : Gateway) (i : ℕ) (text : List ℕ) (m : Memory) → lines ≤ i → (start_of g i text m).handled.answer ≡ NoLine
unfolding start_of
start_nowhere g i text m h = ap start_answer (sym (look_no_line i _ (can_start (line_at g i)) text _ _ _ h))

anywhere : (i : ℕ) (c : AfterCall) (x : AfterEvent) → Hosts c x → is_giving (class_of x.handled.answer) ≡ false → (lines ≤ i → x.handled.answer ≡ NoLine) → Alike i c x
anywhere i c x h other none = elim (dec_lt i lines) [
  | yes q ↦ alike i q c x h other
  | no q ↦ unlike i c x h (none (omega arith))
]

-- one call: what the host sees is the gateway's response, and its numbers stand for the gateway's state then
pub record OneCall (s : HostState) (e : GatewayItem) : Type 0 where
  pub state : gateway_state (host_step s e).1 ≡ (step (gateway_state s) e).1
  pub response : (host_step s e).0 ≡ in_numbers_of (step (gateway_state s) e).0
  pub in_order : InOrder (host_step s e).1

pub one_call : (s : HostState) → InOrder s → (e : GatewayItem) → OneCall s e
one_call s o (event i (happens k)) =
    let g = (gateway_state s).gateway in
    let a = anywhere i (call_of s (on_line i k)) (event_of todays_shares g (on_line i k) s.memory) (hosts_the_gateway s o (on_line i k)) (event_gives g (on_line i k) s.memory) (event_nowhere g (on_line i k) s.memory) in
    record { state = a.state; response = a.response; in_order = a.in_order }
one_call s o (event i (starts text)) =
    let g = (gateway_state s).gateway in
    let a = anywhere i (started_by (start_from s i text) s i text) (start_of g i text s.memory) (start_hosts s o i text) (started_gives g i text s.memory) (start_nowhere g i text s.memory) in
    record { state = a.state; response = a.response; in_order = a.in_order }
one_call s o (taking i b) =
    let h = taking_hosts s.numbers (lent_of s b) o i (record { result = refl; state = refl }) in
    record {
      state = λ z. record { gateway = h.gateway z; memory = record { journal = h.journal z; unfinished = s.memory.unfinished; frames = s.memory.frames } };
      response = λ z. record { answered = h.answer z; buffer = h.buffer z };
      in_order = h.ordered;
    }

-- a run of calls: the same items, and each response as the host sees it
pub runs_alike : (s : HostState) → InOrder s → (es : List GatewayItem) → annotate host_step s es ≡ map seen_of (annotate step (gateway_state s) es)
runs_alike s o [] = refl
runs_alike s o (e ∷ es) =
    let c = one_call s o e in
    let rest = runs_alike (host_step s e).1 c.in_order es ∙ ap (λ (x : State). map seen_of (annotate step x es)) c.state in
    λ z. (e, c.response z) ∷ rest z

pub ends_alike : (s : HostState) → InOrder s → (es : List GatewayItem) → gateway_state (final host_step s es) ≡ final step (gateway_state s) es
ends_alike s o [] = refl
ends_alike s o (e ∷ es) =
    let c = one_call s o e in
    ends_alike (host_step s e).1 c.in_order es ∙ ap (λ (x : State). final step x es) c.state

pub stays_in_order : (s : HostState) → InOrder s → (es : List GatewayItem) → InOrder (final host_step s es)
stays_in_order s o [] = o
stays_in_order s o (e ∷ es) = stays_in_order (host_step s e).1 (one_call s o e).in_order es

seen_not_30 : (ys : List (GatewayItem × Response)) → Every (λ y. eqb (answered y.1) 30 ≡ false) ys → Every (λ x. x.1.answered.number ≢ 30) (map seen_of ys)
seen_not_30 [] f = tt
seen_not_30 (y ∷ ys) f = (eqb-false _ _ f.0, seen_not_30 ys f.1)

seen_undamaged : (ys : List (GatewayItem × Response)) → Every (λ y. is_damage (answered y.1) ≡ false) ys → Every (λ x. is_damage x.1.answered.number ≡ false) (map seen_of ys)
seen_undamaged [] f = tt
seen_undamaged (y ∷ ys) f = (f.0, seen_undamaged ys f.1)

-- what a run of calls begins with, as the gateway's begins
abbrev pub begun : Run → Beginning
begun r = record { settings = map settings_of r.speaks; memory = r.memory }

all_set : (ts : List ℕ) → length (map settings_of ts) ≡ length ts
all_set [] = refl
all_set (t ∷ ts) = ap suc (all_set ts)

pub begun_right : (r : Run) → Right (begun r)
begun_right r = record { settings = all_set r.speaks ∙ r.eight; sizes = r.sizes }

-- from a start: a host's run is the gateway's run from its beginning
module _ (r : Run) where
  abbrev from : HostState
  from = begin_of r

  pub fresh_in_order : InOrder from
  fresh_in_order = started_ordered r.speaks r.spoken

  pub fresh_is : gateway_state from ≡ fresh (begun r)
  fresh_is = let g = started_gateway_law r.speaks r.eight in λ z. record { gateway = g z; memory = r.memory }

  pub end_in_order : InOrder (end_of r)
  end_in_order = stays_in_order from fresh_in_order r.calls

  pub end_is : gateway_state (end_of r) ≡ final step (fresh (begun r)) r.calls
  end_is = ends_alike from fresh_in_order r.calls ∙ ap (λ (x : State). final step x r.calls) fresh_is

  pub history_is : history_of r ≡ map seen_of (annotate step (fresh (begun r)) r.calls)
  history_is = runs_alike from fresh_in_order r.calls ∙ ap (λ (x : State). map seen_of (annotate step x r.calls)) fresh_is

  -- what holds of the gateway's state at the end holds of what the host's numbers then stand for
  pub at_end : (P : State → Type 0) → P (final step (fresh (begun r)) r.calls) → P (gateway_state (end_of r))
  at_end P p = subst P (sym end_is) p

  -- no call of a host is answered 41, 42 or 43
  pub host_never_damaged : Every (λ x. is_damage x.1.answered.number ≡ false) (history_of r)
  host_never_damaged = subst (Every (λ (x : GatewayItem × HostResponse). is_damage x.1.answered.number ≡ false)) (sym history_is)
      (seen_undamaged (annotate step (fresh (begun r)) r.calls) (never_damaged (begun r) (begun_right r) r.calls r.may))

  -- nor 30
  pub host_never_30 : Every (λ x. x.1.answered.number ≢ 30) (history_of r)
  host_never_30 = subst (Every (λ (x : GatewayItem × HostResponse). x.1.answered.number ≢ 30)) (sym history_is)
      (seen_not_30 (annotate step (fresh (begun r)) r.calls) (never_30 (begun r) (begun_right r) r.calls r.may))

  -- and what it keeps is sound: eight records within their limits, right sizes, a whole journal that keeps every share
  pub host_always_sound : Sound (gateway_state (end_of r))
  host_always_sound = at_end Sound (always_sound (begun r) (begun_right r) r.calls r.may)
