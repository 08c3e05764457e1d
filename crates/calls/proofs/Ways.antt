-- Each way out of a call.
-- Assumes nothing.
use mathlib.Core.Path.{◌≡◌, refl, sym, ap, subst, ◌∙◌}
use mathlib.Core.Bool.{Bool, true, false, cond, not, ◌&&◌}
use mathlib.Core.List.{List}
use Prim.Native.Nat.{ℕ, ◌+◌, ◌≤◌, ◌<◌}
use borrow.Author.Tests.{lt-ltb, le-ltb, eqb-true, not-true, not-false}
use lib.Dec.{ltb, eqb}
use lib.ListN.{length, get_or, set}
use Rattle.memory.specs.Sizes.{lines, frames_size}
use Rattle.memory.specs.Tests.{is}
use Rattle.memory.proofs.Tests.{and_left, and_right, clash}
use Rattle.characters.specs.Control.{lf, stx}
use Rattle.room.specs.Room.{todays_shares}
use Rattle.settings.specs.Settings.{by_dialogue}
use Rattle.settings.specs.declared.Patient.TheVariants.{Ten, Thirteen}
use Rattle.settings.specs.declared.Dialogue.{Dialogue}
use Rattle.settings.specs.declared.Dialogue.TheVariants.{Frames, Blocks}
use Rattle.line.specs.Line.{most_collected}
use Rattle.answers.specs.declared.Answer.{Answer}
use Rattle.answers.specs.declared.Answer.TheVariants.{Nothing, NoLine, WrongSize, BeyondLimits}
use Rattle.line.specs.declared.Line.{Line}
use Rattle.looking.specs.Views.{frame_start}
use Rattle.looking.specs.Looks.{byte_look, inside_look, waiting_look}
use Rattle.receiving.specs.Verdicts.{own_work, verdict_of}
use Rattle.looking.specs.Lent.{right_sizes}
use Rattle.receiving.specs.Steps.{Memory, AfterStep, Leaves, settle, step_of}
use Rattle.receiving.specs.Alone.{SteppingAlone}
use Rattle.completing.specs.Deciding.{decide_of}
use Rattle.receiving.specs.declared.Alone.{Alone}
use Rattle.looking.specs.declared.Look.TheVariants.{Done, Decides}
use Rattle.receiving.specs.declared.Stepped.{Stepped}
use Rattle.journal.specs.declared.Ledger.{Ledger}
use Rattle.line.specs.declared.State.TheVariants.{Inside}
use Rattle.looking.specs.declared.Event.{Event}
use Rattle.looking.specs.declared.Kind.{Kind}
use Rattle.looking.specs.declared.Kind.TheVariants.{Byte, Seconds}
use Rattle.looking.specs.declared.Verdict.{Verdict}
use Rattle.looking.specs.Verdicts.{Collects, Begins}
use Rattle.layout.specs.Layout.{first_at, number_at}
use Rattle.ledger.specs.Ledgers.{with_serial, with_used, ledger_of, serial_after, counts_after, Narrow}
use Rattle.answers.specs.InNumbers.{in_numbers}
use Rattle.numbers.specs.Plain.{waiting, inside, begins, inside_at, with_line, within_numbers, only_collects, one_more, quick, dialogue_of, line_of}
use Rattle.calls.specs.Calls.{HostState, AfterCall, refused, put_back, call_of, Called, Calling}
use Rattle.keeping.specs.Keeping.{memo_of}
use Rattle.uploads.specs.Uploads.{upload_of}
use Rattle.uploads.specs.Calls.{put_upload, upload_call, Uploading}
use Rattle.calls.specs.Inner.Steps.{Stepping, Deciding, PutBack}
use Rattle.numbers.specs.Changes.{is_within, is_reader, record_of, is_collected, Collected, is_begun, Begun, record_after}
use Rattle.answers.specs.declared.Answered.{Answered}
use Rattle.ledger.proofs.Ledgers.{there, used_back}
use Rattle.numbers.proofs.Changes.{within_facts}
use Rattle.numbers.proofs.Numbers.{line_within, serial_back, count_back, begun_back}
use Rattle.receiving.proofs.Steps.{step_after, alone_asks}
use Rattle.completing.proofs.Steps.{step_decides}
use Rattle.calls.proofs.Narrow.{decide_narrow}

as_called : {c d : AfterCall} {r : Answered} {t : HostState} → c ≡ d → Called d r t → Called c r t
as_called {c} {d} {r} {t} q x = subst (λ (y : AfterCall). Called y r t) (sym q) x

-- the ledger that a host's numbers stand for, and whether its memory has the right sizes
abbrev ledger : HostState → Ledger
ledger s = ledger_of s.numbers s.counts

abbrev right : HostState → Bool
right s = right_sizes s.memory.journal s.memory.unfinished s.memory.frames

-- the same but for the lines' numbers; but for what a step on the line alone is lent too; but for the numbers and the frames
abbrev renumbered : HostState → List ℕ → HostState
renumbered s numbers = record { numbers = numbers; counts = s.counts; memory = s.memory }

abbrev stepped_on : HostState → List ℕ → List ℕ → List ℕ → HostState
stepped_on s numbers unfinished frames = record { numbers = numbers; counts = s.counts; memory = record { journal = s.memory.journal; unfinished = unfinished; frames = frames } }

abbrev reframed : HostState → List ℕ → List ℕ → HostState
reframed s numbers frames = stepped_on s numbers s.memory.unfinished frames

-- a line that is no reader's speaks frames
pub reader_not : (ns : List ℕ) (i : ℕ) → i < lines → is_reader ns i ≡ false → number_at ns i 10 ≡ 0
unfolding is_reader
reader_not ns i h q = eqb-true (number_at ns i 10) 0 (not-false _ (rw (lt-ltb i lines h) at q))

-- a line that speaks blocks
abbrev speaks_blocks : Dialogue → Bool
speaks_blocks t = by_dialogue t false (λ p. true)

module _ (s : HostState) (e : Event) where
  same : (a : Answer) (r : Answered) → r ≡ in_numbers a → Called (refused a s) r s
  same a r q = record { result = q; state = refl }

  -- 40, 41 and 42
  pub no_line : (r : Answered) → lines ≤ e.line → r ≡ in_numbers NoLine → Calling s e r s
  unfolding call_of
  no_line r h q = as_called (rw (le-ltb e.line lines h)) (same NoLine r q)

  pub wrong_size : (r : Answered) → e.line < lines → right s ≡ false → r ≡ in_numbers WrongSize → Calling s e r s
  unfolding call_of
  wrong_size r h z q = as_called (rw (lt-ltb e.line lines h, z)) (same WrongSize r q)

  pub beyond : (r : Answered) → e.line < lines → right s ≡ true → within_numbers s.numbers e.line ≡ false → r ≡ in_numbers BeyondLimits → Calling s e r s
  unfolding call_of
  beyond r h z w q = as_called (rw (lt-ltb e.line lines h, z, w)) (same BeyondLimits r q)

  -- past 40 to 42, by what the line speaks
  abbrev spoken : Dialogue → AfterCall
  spoken t =
      by_dialogue t (put_back s e.line (step_of todays_shares (line_of s.numbers e.line) (ledger s) e s.memory))
      (λ p. put_upload s e.line (upload_of todays_shares p (line_of s.numbers e.line) (memo_of s.numbers e.line) (ledger s) e s.memory))

  past : e.line < lines → right s ≡ true → within_numbers s.numbers e.line ≡ true → call_of s e ≡ spoken (line_of s.numbers e.line).settings.dialogue
  unfolding call_of
  past h z w = rw (lt-ltb e.line lines h, z, w)

  -- what a reader speaks is no frames, and then both calls are the same
  reader_speaks : (n : ℕ) → eqb n 0 ≡ false → speaks_blocks (dialogue_of n) ≡ true
  reader_speaks n q = by_patient (eqb n 10) q
    where
      by_patient : (b : Bool) {a : Bool} → a ≡ false → speaks_blocks (cond a Frames (cond b (Blocks Ten) (Blocks Thirteen))) ≡ true
      by_patient true p = rw p
      by_patient false p = rw p

  same_blocks : (t : Dialogue) → speaks_blocks t ≡ true
      → by_dialogue t (refused BeyondLimits s) (λ p. put_upload s e.line (upload_of todays_shares p (line_of s.numbers e.line) (memo_of s.numbers e.line) (ledger s) e s.memory)) ≡ spoken t
  same_blocks Frames q = clash cc
  same_blocks (Blocks p) q = refl

  -- the step
  pub by_step : {r : Answered} {t : HostState} → e.line < lines → right s ≡ true → within_numbers s.numbers e.line ≡ true → number_at s.numbers e.line 10 ≡ 0
      → Stepping s (line_of s.numbers e.line) e r t → Calling s e r t
  by_step h z w n c = as_called (past h z w ∙ ap (λ (x : ℕ). spoken (dialogue_of x)) n) c

  -- or a reader's event
  pub by_upload : {r : Answered} {t : HostState} → e.line < lines → right s ≡ true → is_reader s.numbers e.line ≡ true → within_numbers s.numbers e.line ≡ true → Uploading s e r t → Calling s e r t
  unfolding upload_call is_reader
  by_upload h z n w c = as_called (past h z w ∙ sym (rw (lt-ltb e.line lines h, z, w) (same_blocks (dialogue_of (number_at s.numbers e.line 10)) (reader_speaks (number_at s.numbers e.line 10) (not-true _ (and_right (ltb e.line lines) _ n)))))) c

-- the step of a line with the record l, and the deciding
module _ (s : HostState) (l : Line) (e : Event) where
  -- an outcome of the gateway, put back
  put_back_law : {x : AfterStep} {p : Stepped} {ns us : List ℕ} {m : Memory} {r : Answered} → Leaves x p m → PutBack s.numbers s.counts e.line p r ns us
      → Called (put_back s e.line x) r (record { numbers = ns; counts = us; memory = m })
  put_back_law y p =
      let numbers = p.numbers ∙ ap (λ (z : Stepped). with_serial (with_line s.numbers e.line z.line) e.line z.ledger) y.result in
      let counts = p.counts ∙ ap (λ (z : Stepped). with_used s.counts e.line z.ledger) y.result in
      record {
        result = p.result ∙ ap (λ (z : Stepped). in_numbers z.answer) y.result;
        state = λ i. record { numbers = numbers i; counts = counts i; memory = y.memory i };
      }

  -- a step that is done on the line alone: the ledger stays
  module _ {t : Alone} {u f : List ℕ} (x : SteppingAlone l e (length s.memory.journal) (record { unfinished = s.memory.unfinished; frames = s.memory.frames }) t (record { unfinished = u; frames = f })) where
    pub put_after_law : {v : Verdict} {ns : List ℕ} {r : Answered} → e.line < lines → t.look ≡ Done v → ns ≡ with_line s.numbers e.line t.line → r ≡ in_numbers v.answer
        → Stepping s l e r (stepped_on s ns u f)
    put_after_law {v} h k m q =
        put_back_law (step_after l (ledger s) e s.memory.journal s.memory.unfinished s.memory.frames t v x k refl)
        (record { result = q; numbers = m ∙ sym (serial_back s.numbers s.counts e.line t.line h); counts = sym (used_back s.numbers s.counts e.line h) })

    -- and one that leaves a message to decide
    pub by_decide : {n : ℕ} {r : Answered} {after : HostState} → t.look ≡ Decides n → Deciding (stepped_on s s.numbers u f) l e n r after → Stepping s l e r after
    by_decide {n} {r} {after} k c =
        let (h, p, q) = alone_asks l (ledger s) e s.memory.journal s.memory.unfinished s.memory.frames t x k in
        let z : Deciding s l e n r after = rw (← p, ← q) c in
        as_called (ap (put_back s e.line) (step_decides l (ledger s) e s.memory.journal s.memory.unfinished s.memory.frames n h)) z

  -- a message that is decided
  pub put_decided : (n : ℕ) {d : Ledger} {p : Stepped} {ns us : List ℕ} {m : Memory} {r : Answered} → d ≡ ledger s → Leaves (decide_of todays_shares l d e n s.memory) p m → PutBack s.numbers s.counts e.line p r ns us
      → Deciding s l e n r (record { numbers = ns; counts = us; memory = m })
  put_decided n {d} {p} {ns} {us} {m} q x o =
      let y : Leaves (decide_of todays_shares l (ledger s) e n s.memory) p m = rw (← q) x in
      put_back_law y o

pub put_record_there : (ns : List ℕ) (i : ℕ) (l : Line) {ns' : List ℕ} → i < lines → ns' ≡ record_after ns i l → ns' ≡ with_line ns i l
put_record_there ns i l h e = e ∙ there i ns (with_line ns i l) h

pub put_there : (ns us : List ℕ) (i : ℕ) (s : Stepped) {ns₁ ns₂ us' : List ℕ} {r : Answered} → i < lines → ns₁ ≡ record_after ns i s.line → ns₂ ≡ serial_after ns₁ i (get_or s.ledger.serials i 0)
    → us' ≡ counts_after us i (get_or s.ledger.used i 0) s.ledger.in_use → r ≡ in_numbers s.answer → PutBack ns us i s r ns₂ us'
put_there ns us i s {ns₁} h p q o t = record {
  result = t;
  numbers = q ∙ there i ns₁ (with_serial ns₁ i s.ledger) h ∙ ap (λ (x : List ℕ). with_serial x i s.ledger) (put_record_there ns i s.line h p);
  counts = o ∙ there i us (with_used us i s.ledger) h;
}

-- the ledger after a deciding still fits
pub narrow_after : (l : Line) (d : Ledger) (e : Event) (n : ℕ) (m : Memory) {s : Stepped} → s ≡ (decide_of todays_shares l d e n m).stepped → Narrow d → Narrow s.ledger
narrow_after l d e n m q w = subst (λ (z : Stepped). Narrow z.ledger) (sym q) (decide_narrow l d e m w n)

-- a byte that is only collected
module _ (ns : List ℕ) (i b : ℕ) (q : quick ns i b ≡ true) where
  quick_within : within_numbers ns i ≡ true
  quick_within = and_right (only_collects ns i b) (within_numbers ns i) q

  is_inside_law : (line_of ns i).state ≡ Inside
  unfolding only_collects
  is_inside_law =
      let only = and_left (only_collects ns i b) (within_numbers ns i) q in
      rw (eqb-true (first_at ns i) inside (and_left (eqb (first_at ns i) inside) _ only))

  in_frames : number_at ns i 10 ≡ 0
  unfolding only_collects
  in_frames =
      let only = and_left (only_collects ns i b) (within_numbers ns i) q in
      let rest = and_right (not (is lf b)) _ (and_right (eqb (first_at ns i) inside) _ only) in
      eqb-true (number_at ns i 10) 0 (and_left (eqb (number_at ns i 10) 0) _ rest)

  no_end : (is lf b ≡ false) × (eqb (number_at ns i 1) (most_collected (line_of ns i)) ≡ false)
  unfolding only_collects
  no_end =
      let only = and_left (only_collects ns i b) (within_numbers ns i) q in
      let rest = and_right (eqb (first_at ns i) inside) _ only in
      (not-true _ (and_left (not (is lf b)) _ rest), not-true _ (and_right (eqb (number_at ns i 6) 0) _ (and_right (eqb (number_at ns i 10) 0) _ (and_right (not (is lf b)) _ rest))))

module _ (s : HostState) (i b : ℕ) (h : i < lines) (z : right s ≡ true) where
  abbrev here : Event
  here = record { line = i; kind = Byte b }

  -- what the verdict is known to be, the step leaves
  stepped : (v : Verdict) → verdict_of todays_shares (line_of s.numbers i) (ledger s) here s.memory.journal s.memory.unfinished s.memory.frames ≡ v
      → put_back s i (step_of todays_shares (line_of s.numbers i) (ledger s) here s.memory) ≡ put_back s i (settle v (line_of s.numbers i) (ledger s) here s.memory)
  unfolding step_of
  stepped v e = ap (λ (x : Verdict). put_back s i (settle x (line_of s.numbers i) (ledger s) here s.memory)) e

  collects : quick s.numbers i b ≡ true → verdict_of todays_shares (line_of s.numbers i) (ledger s) here s.memory.journal s.memory.unfinished s.memory.frames ≡ Collects
  unfolding verdict_of own_work byte_look inside_look
  collects q =
      let ns = s.numbers in
      rw (lt-ltb i lines h, z, line_within ns i (quick_within ns i b q) (in_frames ns i b q), (no_end ns i b q).0, (no_end ns i b q).1, is_inside_law ns i b q)

  by_quick : {r : Answered} {ns f : List ℕ} → quick s.numbers i b ≡ true → r ≡ in_numbers Nothing → ns ≡ one_more s.numbers i → f ≡ set s.memory.frames (frame_start i + number_at s.numbers i 1) b
      → Calling s here r (reframed s ns f)
  by_quick q p n g =
      let within = quick_within s.numbers i b q in
      let numbers = n ∙ sym (count_back s.numbers s.counts i h within (number_at s.numbers i 1 + 1)) in
      let counts = sym (used_back s.numbers s.counts i h) in
      by_step s here h z within (in_frames s.numbers i b q) (as_called (stepped Collects (collects q)) (record {
        result = p;
        state = λ x. record { numbers = numbers x; counts = counts x; memory = record { journal = s.memory.journal; unfinished = s.memory.unfinished; frames = g x } };
      }))

  collected_quick : is_collected s.numbers i b s.memory.frames ≡ true → quick s.numbers i b ≡ true
  unfolding is_collected
  collected_quick is =
      let long = eqb (length s.memory.frames) frames_size in
      and_right long (quick s.numbers i b) (and_right (ltb i lines) (long && quick s.numbers i b) is)

  -- and one that was, or was not
  module _ {t : Bool} {ns f : List ℕ} (x : Collected s.numbers i b s.memory.frames t ns f) where
    pub by_collected : {r : Answered} → t ≡ true → r ≡ in_numbers Nothing → Calling s here r (reframed s ns f)
    by_collected p q =
        let is : is_collected s.numbers i b s.memory.frames ≡ true = sym x.result ∙ p in
        by_quick (collected_quick is) q (x.numbers ∙ rw is) (x.frames ∙ rw is)

    kept_numbers : t ≡ false → ns ≡ s.numbers
    kept_numbers p = x.numbers ∙ rw (sym x.result ∙ p)

    kept_frames : t ≡ false → f ≡ s.memory.frames
    kept_frames p = x.frames ∙ rw (sym x.result ∙ p)

    pub kept_sizes : t ≡ false → right (reframed s ns f) ≡ true
    kept_sizes p = rw (kept_frames p) z

    pub not_collected : {r : Answered} {after : HostState} → t ≡ false → Calling (reframed s ns f) here r after → Calling s here r after
    not_collected p c = rw (← kept_numbers p, ← kept_frames p) c

-- STX between frames: the line is inside one, and nothing else has changed
module _ (s : HostState) (e : Event) (h : e.line < lines) (z : right s ≡ true) (w : within_numbers s.numbers e.line ≡ true) (n : number_at s.numbers e.line 10 ≡ 0) where
  is_between : (k : Kind) → begins s.numbers e.line k ≡ true → first_at s.numbers e.line ≡ waiting
  is_between (Byte b) q = eqb-true (first_at s.numbers e.line) waiting (and_right (is stx b) (eqb (first_at s.numbers e.line) waiting) q)
  is_between (Seconds k) q = clash cc

  begin_verdict : (k : Kind) → e.kind ≡ k → begins s.numbers e.line k ≡ true
      → verdict_of todays_shares (line_of s.numbers e.line) (ledger s) e s.memory.journal s.memory.unfinished s.memory.frames ≡ Begins
  unfolding verdict_of own_work byte_look waiting_look
  begin_verdict (Byte b) p q =
      let first = first_at s.numbers e.line in
      let stx-is = and_left (is stx b) (eqb first waiting) q in
      rw (lt-ltb e.line lines h, z, line_within s.numbers e.line w n, p, is_between (Byte b) q, stx-is)
  begin_verdict (Seconds k) p q = clash cc

  by_begin : {ns : List ℕ} → begins s.numbers e.line e.kind ≡ true → ns ≡ inside_at s.numbers e.line → Calling s e (in_numbers Nothing) (renumbered s ns)
  unfolding step_of
  by_begin q m =
      let numbers = m ∙ sym (begun_back s.numbers s.counts e.line h w (is_between e.kind q)) in
      let counts = sym (used_back s.numbers s.counts e.line h) in
      by_step s e h z w n (as_called (ap (λ (x : Verdict). put_back s e.line (settle x (line_of s.numbers e.line) (ledger s) e s.memory)) (begin_verdict e.kind refl q)) (record {
        result = refl;
        state = λ x. record { numbers = numbers x; counts = counts x; memory = s.memory };
      }))

-- an event that began a frame, or did not
module _ (s : HostState) (e : Event) (z : right s ≡ true) (w : is_within s.numbers e.line ≡ true) (n : number_at s.numbers e.line 10 ≡ 0) {t : Bool} {ns : List ℕ} (x : Begun s.numbers e.line e.kind t ns) where
  starts : is_begun s.numbers e.line e.kind ≡ true → begins s.numbers e.line e.kind ≡ true
  unfolding is_begun
  starts is = and_right (ltb e.line lines) (begins s.numbers e.line e.kind) is

  pub by_begun : {r : Answered} → t ≡ true → r ≡ in_numbers Nothing → Calling s e r (renumbered s ns)
  by_begun p q =
      let is : is_begun s.numbers e.line e.kind ≡ true = sym x.result ∙ p in
      let (h, within) = within_facts s.numbers e.line w in
      rw q (by_begin s e h z within n (starts is) (x.numbers ∙ rw is))

  not_begun : t ≡ false → ns ≡ s.numbers
  not_begun p = x.numbers ∙ rw (sym x.result ∙ p)

  pub still_within : t ≡ false → is_within ns e.line ≡ true
  still_within p = rw (not_begun p) w

  pub by_other : {r : Answered} {after : HostState} → t ≡ false → Stepping (renumbered s ns) (line_of ns e.line) e r after → Calling s e r after
  by_other {r} {after} p c =
      let y : Stepping s (line_of s.numbers e.line) e r after = rw (← not_begun p) c in
      let (h, within) = within_facts s.numbers e.line w in
      by_step s e h z within n y

-- the record that the numbers stand for
pub by_record : (s : HostState) (e : Event) {l : Line} {r : Answered} {t : HostState} → is_within s.numbers e.line ≡ true → l ≡ record_of s.numbers e.line → Stepping s l e r t
    → Stepping s (line_of s.numbers e.line) e r t
by_record s e {l} {r} {t} w q c =
    let k : l ≡ line_of s.numbers e.line = q ∙ rw w in
    subst (λ (x : Line). Stepping s x e r t) k c
