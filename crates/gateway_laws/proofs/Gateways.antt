-- What an event leaves of the gateway, by what its line speaks: its own line has the step's record, every other line its own, and no line speaks anything else than before.
-- Assumes nothing.
use mathlib.Core.Path.{◌≡◌, refl, sym, ap, ◌∙◌}
use mathlib.Core.Logic.{◌≢◌}
use mathlib.Core.Bool.{Bool, true, false}
use mathlib.Core.List.{List, [], ◌∷◌}
use Prim.Native.Nat.{ℕ, zero, suc, ◌<◌}
use native.Mathlib.Omega.{arith}
use borrow.Author.Tests.{lt-ltb}
use lib.Dec.{ltb}
use lib.ListN.{length, get_or, set, length-set}
use lib.Seq.{get_or-set_other, get_or-set_same}
use Rattle.memory.specs.Sizes.{lines}
use Rattle.memory.specs.Tests.{unless}
use Rattle.settings.specs.declared.Patient.{Patient}
use Rattle.settings.specs.declared.Dialogue.{Dialogue}
use Rattle.settings.specs.declared.Dialogue.TheVariants.{Frames, Blocks}
use Rattle.settings.specs.Settings.{by_dialogue}
use Rattle.line.specs.declared.Line.{Line}
use Rattle.answers.specs.declared.Answer.TheVariants.{NoLine}
use Rattle.looking.specs.declared.Event.{Event}
use Rattle.looking.specs.declared.Act.{Act}
use Rattle.looking.specs.declared.Act.TheVariants.{Leave, Open, Close, Begin, Count, Collect, Refuse, Accept, Store, Object, Await, Go}
use Rattle.receiving.specs.Settled.{line_after}
use Rattle.receiving.specs.Steps.{Memory, AfterStep, step_of}
use Rattle.receiving.specs.Verdicts.{verdict_of}
use Rattle.strips.specs.Readers.{fresh_memo}
use Rattle.uploads.specs.Uploads.{AfterUpload, upload_of}
use Rattle.gateway.specs.Events.{line_at, dialogue_at, memo_at, no_record, AfterEvent, put_back, put_upload, event_of}
use Rattle.gateway.specs.Gateway.{Gateway}
use Rattle.gateway_laws.proofs.Uploads.{upload_settings}

-- what a line speaks is not changed by any act
pub act_settings : (x : Act) (l : Line) → (line_after x l).settings ≡ l.settings
act_settings Leave l = refl
act_settings Open l = refl
act_settings Close l = refl
act_settings Begin l = refl
act_settings (Count n) l = refl
act_settings Collect l = refl
act_settings Refuse l = refl
act_settings (Accept n) l = refl
act_settings (Store n) l = refl
act_settings (Object n) l = refl
act_settings (Await n) l = refl
act_settings (Go s n) l = refl

-- one record is put back that speaks what it spoke: every record does
pub settings_set : (ls : List Line) (i k : ℕ) (l : Line) → l.settings ≡ (get_or ls i no_record).settings → (get_or (set ls i l) k no_record).settings ≡ (get_or ls k no_record).settings
settings_set [] i k l e = refl
settings_set (x ∷ ls) zero zero l e = e
settings_set (x ∷ ls) zero (suc k) l e = refl
settings_set (x ∷ ls) (suc i) zero l e = refl
settings_set (x ∷ ls) (suc i) (suc k) l e = settings_set ls i k l e

module _ (shares : List ℕ) (g : Gateway) (e : Event) (m : Memory) where
  abbrev framed : AfterStep
  framed = step_of shares (line_at g e.line) g.ledger e m

  abbrev uploaded : Patient → AfterUpload
  uploaded p = upload_of shares p (line_at g e.line) (memo_at g e.line) g.ledger e m

  -- what an event comes to, by cases
  pub event_cases : (P : AfterEvent → Type 0) → P (record { handled = record { gateway = g; answer = NoLine }; memory = m }) → P (put_back g e.line framed)
      → ((p : Patient) → P (put_upload g e.line (uploaded p))) → P (event_of shares g e m)
  unfolding event_of
  event_cases P none step upload = by_line_law (ltb e.line lines) (dialogue_at g e.line)
    where
      by_line_law : (b : Bool) (d : Dialogue)
          → P (unless b (record { handled = record { gateway = g; answer = NoLine }; memory = m }) (by_dialogue d (put_back g e.line framed) (λ p. put_upload g e.line (uploaded p))))
      by_line_law false d = none
      by_line_law true Frames = step
      by_line_law true (Blocks p) = upload p

  -- on a line of frames it is the step, and on a reader's line the upload
  pub event_frames : e.line < lines → dialogue_at g e.line ≡ Frames → event_of shares g e m ≡ put_back g e.line framed
  unfolding event_of
  event_frames h s = rw (lt-ltb e.line lines h, s)

  pub event_blocks : e.line < lines → (p : Patient) → dialogue_at g e.line ≡ Blocks p → event_of shares g e m ≡ put_upload g e.line (uploaded p)
  unfolding event_of
  event_blocks h p s = rw (lt-ltb e.line lines h, s)

  -- no event touches another line's record, nor what is kept of another reader
  pub records_of_others : (k : ℕ) → e.line ≢ k → line_at (event_of shares g e m).handled.gateway k ≡ line_at g k
  records_of_others k n =
      event_cases (λ x. line_at x.handled.gateway k ≡ line_at g k) refl
      (get_or-set_other g.lines e.line k framed.stepped.line no_record (λ q. n (sym q)))
      (λ p. get_or-set_other g.lines e.line k (uploaded p).step.stepped.line no_record (λ q. n (sym q)))

  pub memos_of_others : (k : ℕ) → e.line ≢ k → memo_at (event_of shares g e m).handled.gateway k ≡ memo_at g k
  memos_of_others k n =
      event_cases (λ x. memo_at x.handled.gateway k ≡ memo_at g k) refl refl (λ p. get_or-set_other g.memos e.line k (uploaded p).memo fresh_memo (λ q. n (sym q)))

  -- the event's own line has the step's
  pub own_record : e.line < lines → dialogue_at g e.line ≡ Frames → length g.lines ≡ lines → line_at (event_of shares g e m).handled.gateway e.line ≡ framed.stepped.line
  own_record h s long =
      ap (λ (x : AfterEvent). line_at x.handled.gateway e.line) (event_frames h s)
      ∙ get_or-set_same g.lines e.line framed.stepped.line no_record (omega (arith, long, h))

  -- there are as many records as before, and as many memos
  pub as_many_lines : length (event_of shares g e m).handled.gateway.lines ≡ length g.lines
  as_many_lines =
      event_cases (λ x. length x.handled.gateway.lines ≡ length g.lines) refl (length-set g.lines e.line framed.stepped.line)
      (λ p. length-set g.lines e.line (uploaded p).step.stepped.line)

  pub as_many_memos : length (event_of shares g e m).handled.gateway.memos ≡ length g.memos
  as_many_memos = event_cases (λ x. length x.handled.gateway.memos ≡ length g.memos) refl refl (λ p. length-set g.memos e.line (uploaded p).memo)

  -- and every line speaks what it spoke
  pub event_settings : (k : ℕ) → (line_at (event_of shares g e m).handled.gateway k).settings ≡ (line_at g k).settings
  unfolding step_of
  event_settings k =
      event_cases (λ x. (line_at x.handled.gateway k).settings ≡ (line_at g k).settings) refl
      (settings_set g.lines e.line k framed.stepped.line (act_settings (verdict_of shares (line_at g e.line) g.ledger e m.journal m.unfinished m.frames).act (line_at g e.line)))
      (λ p. settings_set g.lines e.line k (uploaded p).step.stepped.line (upload_settings shares p (line_at g e.line) (memo_at g e.line) g.ledger e m))
