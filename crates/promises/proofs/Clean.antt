-- All along a run from fresh the unfinished texts are of allowed bytes. So a text that an event completes is within the limit, of allowed bytes and ended by CR,
-- and where it is no message, it is wrong at one of its records.
-- Assumes nothing.
use Rattle.std.specs.Prelude.{Err, Some}
use Rattle.faults.specs.declared.Flaw.TheVariants.{Faulty}
use mathlib.Core.Path.{◌≡◌, refl, sym, ap, subst, ◌∙◌}
use mathlib.Core.Logic.{◌≢◌}
use mathlib.Core.Bool.{true, false}
use mathlib.Core.List.{List, [], ◌∷◌, ◌++◌}
use Prim.Native.Nat.{ℕ, ◌+◌, ◌<◌, ◌≤◌}
use native.Mathlib.Omega.{arith}
use lib.ListN.{length, take}
use Rattle.memory.specs.Sizes.{lines, message_limit}
use Rattle.memory.specs.Parts.{part, splice}
use Rattle.memory.specs.Tests.{all}
use Rattle.memory.proofs.Parts.{length_part, part_start, take_through}
use Rattle.memory.proofs.Tests.{clash, and_both, all_append}
use Rattle.characters.specs.Allowed.{allowed}
use Rattle.records.specs.Records.{ends_with_cr}
use Rattle.faults.specs.Message.{is_message}
use Rattle.faults.specs.Faults.{fault_of}
use Rattle.answers.specs.declared.Fault.{Fault}
use Rattle.answers.specs.declared.Fault.TheVariants.{NoFinalCr}
use Rattle.faults.proofs.Places.{fault_place, fault_ended, has_fault}
use Rattle.pieces.proofs.Steps.{ended_some}
use Rattle.faults.proofs.Messages.{message_some, message_short, message_ends, message_allowed}
use Rattle.room.specs.Room.{todays_shares}
use Rattle.settings.specs.declared.Dialogue.{Dialogue}
use Rattle.settings.specs.declared.Dialogue.TheVariants.{Frames, Blocks}
use Rattle.journal_laws.specs.Runs.{State as Journal}
use Rattle.uploads.specs.Uploads.{Deed, leave, add, settle, file, line_by}
use Rattle.line.specs.declared.Line.{Line}
use Rattle.line.proofs.Limits.{within_facts}
use Rattle.looking.specs.Views.{unfinished_text, frame_text, joined_text}
use Rattle.looking.specs.Looks.{look_of}
use Rattle.looking.specs.Inner.Ready.{Own}
use Rattle.looking.specs.Inner.Fitting.{TextFits, Fitting}
use Rattle.looking.specs.declared.Act.{Act}
use Rattle.looking.specs.declared.Act.TheVariants.{Leave, Open, Close, Begin, Count, Collect, Refuse, Accept, Store, Object, Await, Go}
use Rattle.looking.specs.declared.Kind.{Kind}
use Rattle.looking.specs.declared.Look.{Look}
use Rattle.looking.specs.declared.Look.TheVariants.{Done, Decides}
use Rattle.looking.proofs.Joins.{Joinable, ActJoins, LookJoins, look_joins}
use Rattle.looking.proofs.Views.{own_parts}
use Rattle.deciding.specs.Decisions.{outcome_of}
use Rattle.deciding.specs.declared.Fate.{Fate}
use Rattle.receiving.specs.Verdicts.{fate_act, decided, own_work}
use Rattle.receiving.specs.Settled.{line_after}
use Rattle.gateway.specs.Events.{dialogue_at, take_of}
use Rattle.gateway_laws.specs.Inner.Own.{own_texts}
use Rattle.serial.specs.Serial.{event, taking, final, Every}
use Rattle.promises.specs.Machine.{State, Response, GatewayItem, happens, starts, came, step, Parts, parts_of, store_of, Sound, May}
use Rattle.promises.specs.Inner.ByParts.{on_frames, on_event}
use Rattle.promises.specs.Runs.{Beginning, Right, fresh, offered_by, offered}
use Rattle.promises.specs.Sending.{Intact}
use Rattle.promises.specs.Clean.{unfinished_in, Clean, CompleteText, WrongAt}
use Rattle.promises.proofs.Parts.{on_frames_law, on_blocks_law}
use Rattle.promises.proofs.Framed.{work, ready, fitting}
use Rattle.promises.proofs.Uploaded.{work as ruled}
use Rattle.promises.proofs.Findings.{offered_look, offered_finding}
use Rattle.promises.proofs.Sound.{sound_intact, event_own, event_others, each_line}
use Rattle.promises.proofs.Starts.{start_clean}
use Rattle.promises.proofs.Kept.{keeps, started_at, fresh_sound}

-- two texts of allowed bytes, joined
both_clean : (x y : List ℕ) → all allowed x ≡ true → all allowed y ≡ true → all allowed (x ++ y) ≡ true
both_clean x y p q = all_append allowed x y ∙ and_both (all allowed x) (all allowed y) p q

-- ---- a text that an event completes, in any state

-- on a line of frames it ends with n bytes of a frame, whose text has passed its tests
module _ (s : State) (i : ℕ) (k : Kind) (text : List ℕ) (speaks : dialogue_at s.gateway i ≡ Frames) (complete : offered s i k ≡ Some text) where
  abbrev own : Parts
  own = parts_of s i

  record Ends : Type 0 where
    n : ℕ
    is : joined_text own.line n own.texts own.frames ≡ text
    joins : Joinable own.line n own.texts own.frames
    ended : ends_with_cr text ≡ true

  ends : Ends
  ends = by_look (look_of own.line k own.texts own.frames) (look_joins own.line own.texts own.frames k) (sym (offered_look s i k speaks) ∙ complete)
    where
      by_look : (x : Look) → LookJoins x own.line own.texts own.frames → offered_by s i x ≡ Some text → Ends
      by_look (Done v) j e = clash cc
      by_look (Decides n) j e =
          let is : joined_text own.line n own.texts own.frames ≡ text = cc e in
          record { n = n; is = is; joins = j.0; ended = rw is at j.1 }

  framed_ended : CompleteText text
  framed_ended = record {
    some = ended_some text ends.ended;
    short = subst (λ (t : List ℕ). length t ≤ message_limit) ends.is ends.joins.short;
    ended = ends.ended;
  }

  framed_clean : all allowed (unfinished_in own) ≡ true → all allowed text ≡ true
  framed_clean c = ap (all allowed) (sym ends.is) ∙ both_clean (unfinished_in own) (frame_text ends.n own.frames) c ends.joins.clean

-- a message is such a text: on a reader's line every one is
message_ended : (text : List ℕ) → is_message text ≡ true → CompleteText text
message_ended text m = record { some = message_some _ text m; short = message_short _ text m; ended = message_ends _ text m }

module _ (s : State) (i : ℕ) (k : Kind) (text : List ℕ) (complete : offered s i k ≡ Some text) where
  pub offered_ended : CompleteText text
  offered_ended = by_dialogue_law (dialogue_at s.gateway i) refl
    where
      by_dialogue_law : (d : Dialogue) → dialogue_at s.gateway i ≡ d → CompleteText text
      by_dialogue_law Frames e = framed_ended s i k text e complete
      by_dialogue_law (Blocks p) e = message_ended text (offered_finding s i k p e text complete)

  -- so 54 is not what is wrong with it
  pub never_54 : (p : ℕ) → fault_of text ≢ Err (Faulty NoFinalCr p)
  never_54 p = fault_ended _ text p offered_ended.ended

  -- where the unfinished texts are of allowed bytes, it is too
  module _ (c : Clean s) (line : i < lines) where
    pub offered_clean : all allowed text ≡ true
    offered_clean = by_dialogue_law (dialogue_at s.gateway i) refl
      where
        by_dialogue_law : (d : Dialogue) → dialogue_at s.gateway i ≡ d → all allowed text ≡ true
        by_dialogue_law Frames e = framed_clean s i k text e complete (c i line)
        by_dialogue_law (Blocks p) e = message_allowed _ text (offered_finding s i k p e text complete)

    -- and where it is no message, it is wrong at one of its records
    pub offered_faulty : is_message text ≡ false → WrongAt text
    offered_faulty m =
        let f = has_fault _ text offered_ended.short offered_clean m in
        let (from_1, within) = fault_place _ text f.kind f.place offered_ended.some f.found in
        record {
          kind = f.kind;
          place = f.place;
          found = f.found;
          not_54 = λ e. never_54 f.place (subst (λ (x : Fault). fault_of text ≡ Err (Faulty x f.place)) e f.found);
          from_1 = from_1;
          within = within;
        }

-- ---- what an act leaves of its line's unfinished text

nothing : (texts : List ℕ) → all allowed (part texts 0 0) ≡ true
unfolding part
nothing texts = refl

module _ (l : Line) (texts frames : List ℕ) (own : Own l texts frames) where
  joined_clean : (n : ℕ) → TextFits l n → all allowed (frame_text n frames) ≡ true → all allowed (unfinished_text l texts) ≡ true
      → all allowed (part (splice texts l.joined (frame_text n frames)) 0 (l.joined + n)) ≡ true
  joined_clean n fits new old =
      let t = frame_text n frames in
      let long : length t ≡ n = length_part frames 1 n (omega (arith, fits, own, within_facts l own.within)) in
      let room : l.joined + length t ≤ length texts = omega (arith, fits, own, long) in
      let is : part (splice texts l.joined t) 0 (l.joined + n) ≡ unfinished_text l texts ++ t =
      part_start (splice texts l.joined t) (l.joined + n) ∙ ap (λ (k : ℕ). take (l.joined + k) (splice texts l.joined t)) (sym long)
      ∙ take_through texts l.joined t room ∙ ap (λ (x : List ℕ). x ++ t) (sym (part_start texts l.joined)) in
      ap (all allowed) is ∙ both_clean (unfinished_text l texts) t old new

  act_clean : (a : Act) → Fitting a l → ActJoins a l texts frames → all allowed (unfinished_text l texts) ≡ true
      → all allowed (unfinished_text (line_after a l) (own_texts a l texts frames)) ≡ true
  act_clean Leave t j c = c
  act_clean Open t j c = nothing texts
  act_clean Close t j c = nothing texts
  act_clean Begin t j c = c
  act_clean (Count n) t j c = c
  act_clean Collect t j c = c
  act_clean Refuse t j c = c
  act_clean (Accept n) t j c = joined_clean n t j.clean c
  act_clean (Store n) t j c = nothing (own_texts (Store n) l texts frames)
  act_clean (Object n) t j c = nothing (own_texts (Object n) l texts frames)
  act_clean (Await n) t j c = c
  act_clean (Go s n) t j c = c

-- what a deed on a reader's line leaves: the text that was, or none
deed_clean : (x : Deed) (l : Line) (texts : List ℕ) → all allowed (unfinished_text l texts) ≡ true → all allowed (unfinished_text (line_by x l) texts) ≡ true
deed_clean leave l texts c = c
deed_clean add l texts c = c
deed_clean (settle r) l texts c = nothing texts
deed_clean file l texts c = nothing texts

-- ---- items

abbrev IsClean : Parts → Type 0
IsClean p = all allowed (unfinished_in p) ≡ true

module _ (s : State) (w : Intact s) (c : Clean s) (i : ℕ) (k : Kind) (h : i < lines) where
  abbrev had : Parts
  had = parts_of s i

  module _ (e : dialogue_at s.gateway i ≡ Frames) where
    work_joins : ActJoins (work s w i k h e).act had.line had.texts had.frames
    unfolding own_work
    work_joins = by_look (look_of had.line k had.texts had.frames) (look_joins had.line had.texts had.frames k)
      where
        by_fate : (o : Fate) (n : ℕ) → ActJoins (fate_act o n) had.line had.texts had.frames
        by_fate Fate.Store n = tt
        by_fate Fate.Object n = tt
        by_fate Fate.Leave n = tt

        by_look : (x : Look) → LookJoins x had.line had.texts had.frames
            → ActJoins (decided x todays_shares had.line s.gateway.ledger i s.memory.journal had.texts had.frames).act had.line had.texts had.frames
        by_look (Done v) j = j
        by_look (Decides n) j = by_fate (outcome_of todays_shares s.gateway.ledger i (joined_text had.line n had.texts had.frames) s.memory.journal).fate n

    frames_clean : IsClean (on_frames i had k (store_of s)).1
    frames_clean =
        act_clean had.line had.texts had.frames (own_parts had.line i s.memory.unfinished s.memory.frames (ready s w i k h e))
        (work s w i k h e).act (fitting s w i k h e) work_joins (c i h)

  own_clean : IsClean (on_event i had k (store_of s)).1
  own_clean = by_dialogue_law (dialogue_at s.gateway i) refl
    where
      by_dialogue_law : (d : Dialogue) → dialogue_at s.gateway i ≡ d → IsClean (on_event i had k (store_of s)).1
      by_dialogue_law Frames e = subst (λ (r : Response × Parts × Journal). IsClean r.1) (sym (on_frames_law had i k (store_of s) e)) (frames_clean e)
      by_dialogue_law (Blocks p) e =
          subst (λ (r : Response × Parts × Journal). IsClean r.1) (sym (on_blocks_law had i k (store_of s) p e)) (deed_clean (ruled s w i k h p e).deed had.line had.texts (c i h))

  pub event_clean : Clean (step s (came i k)).1
  event_clean = each_line IsClean s (step s (came i k)).1 i _ (event_own s w i k h) (event_others s w i k h) own_clean c

-- a taking sees no line
taking_clean : (s : State) → Clean s → (i : ℕ) (b : List ℕ) → Clean (step s (taking i b)).1
unfolding take_of
taking_clean s c i b = c

pub keeps_clean : (s : State) (e : GatewayItem) → Sound s → Clean s → May e → Clean (step s e).1
keeps_clean s (event i (happens k)) w c m = event_clean s (sound_intact s w) c i k m
keeps_clean s (event i (starts text)) w c m = start_clean s (sound_intact s w) i text m c
keeps_clean s (taking i b) w c m = taking_clean s c i b

-- ---- runs

-- on a fresh line nothing is unfinished, whatever the memory holds
pub fresh_clean : (began : Beginning) → Right began → Clean (fresh began)
fresh_clean began right i h = rw (started_at began.settings i (omega (arith, right.settings))) (nothing (parts_of (fresh began) i).texts)

stays_clean : (s : State) (es : List GatewayItem) → Sound s → Clean s → Every May es → Clean (final step s es)
stays_clean s [] w c o = c
stays_clean s (e ∷ es) w c o = stays_clean (step s e).1 es (keeps s e w o.0) (keeps_clean s e w c o.0) o.1

module _ (began : Beginning) (right : Right began) (es : List GatewayItem) (may : Every May es) where
  -- after every run from fresh the unfinished texts are of allowed bytes
  pub always_clean : Clean (final step (fresh began) es)
  always_clean = stays_clean (fresh began) es (fresh_sound began right) (fresh_clean began right) may

  -- and where the next event completes a text, so is that, and if it is no message, it is wrong at one of its records
  module _ (i : ℕ) (k : Kind) (h : i < lines) (text : List ℕ) (complete : offered (final step (fresh began) es) i k ≡ Some text) where
    pub completed_clean : all allowed text ≡ true
    completed_clean = offered_clean (final step (fresh began) es) i k text complete always_clean h

    pub completed_faulty : is_message text ≡ false → WrongAt text
    completed_faulty = offered_faulty (final step (fresh began) es) i k text complete always_clean h
