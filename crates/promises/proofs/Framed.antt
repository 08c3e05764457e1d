-- An event on a line of frames, at an intact state: it is told by its line's parts and the store.
-- Assumes nothing.
use mathlib.Core.Path.{◌≡◌, refl, sym, ap, ap₂, ◌∙◌}
use mathlib.Core.Logic.{◌≢◌}
use mathlib.Core.Bool.{true}
use Prim.Native.Nat.{ℕ, ◌<◌}
use native.Mathlib.Omega.{arith}
use borrow.Author.Tests.{lt-ltb, eq-eqb}
use lib.ListN.{length}
use lib.Seq.{get_or-set_other, get_or-set_same}
use Rattle.memory.specs.Sizes.{lines, journal_size, unfinished_size, frames_size}
use Rattle.room.specs.Room.{todays_shares}
use Rattle.settings.specs.declared.Settings.{Settings}
use Rattle.settings.specs.declared.Dialogue.TheVariants.{Frames}
use Rattle.line.specs.Line.{within_limits}
use Rattle.line.specs.declared.Line.{Line}
use Rattle.looking.specs.Views.{frames_of, texts_of}
use Rattle.looking.specs.Inner.Ready.{Ready}
use Rattle.looking.specs.Inner.Fitting.{Fitting}
use Rattle.looking.specs.declared.Kind.{Kind}
use Rattle.looking.specs.declared.Verdict.{Verdict}
use Rattle.receiving.specs.Verdicts.{own_work, verdict_of}
use Rattle.receiving.specs.Settled.{line_after}
use Rattle.receiving.specs.Steps.{settle, step_of}
use Rattle.gateway.specs.Events.{line_at, dialogue_at, no_record, AfterEvent, put_back, event_of}
use Rattle.gateway_laws.proofs.Found.{work_fits}
use Rattle.gateway_laws.proofs.Gateways.{act_settings}
use Rattle.gateway_laws.proofs.Others.{texts_other, frames_other}
use Rattle.gateway_laws.proofs.View.{texts_own, frames_own}
use Rattle.promises.specs.Machine.{State, on_line, left_by, step, parts_of, told, store_of, came}
use Rattle.promises.specs.Inner.ByParts.{parts_after, on_frames}
use Rattle.promises.specs.Sending.{Intact}
use Rattle.promises.proofs.Parts.{same_parts, frames_within, told_frames}

-- it is its work: 40 to 42 do not come
module _ (s : State) (w : Intact s) (i : ℕ) (k : Kind) (h : i < lines) (speaks : dialogue_at s.gateway i ≡ Frames) where
  abbrev own : Line
  own = line_at s.gateway i

  abbrev pub work : Verdict
  work = own_work todays_shares own s.gateway.ledger i k s.memory.journal (texts_of i s.memory.unfinished) (frames_of i s.memory.frames)

  pub within : within_limits own ≡ true
  within = frames_within own speaks (w.within i h)

  pub ready : Ready own i s.memory.unfinished s.memory.frames
  ready = record { line = h; within = within; texts = w.texts; bytes = w.frames }

  pub fitting : Fitting work.act own
  fitting = work_fits todays_shares own s.gateway.ledger (on_line i k) s.memory.journal s.memory.unfinished s.memory.frames ready

  pub event_is : event_of todays_shares s.gateway (on_line i k) s.memory ≡ put_back s.gateway i (settle work own s.gateway.ledger (on_line i k) s.memory)
  unfolding event_of step_of verdict_of
  event_is =
      rw (
        lt-ltb i lines h,
        speaks,
        eq-eqb (length s.memory.journal) journal_size w.journal,
        eq-eqb (length s.memory.unfinished) unfinished_size w.texts,
        eq-eqb (length s.memory.frames) frames_size w.frames,
        within,
      )

  pub framed_journal : store_of (step s (came i k)).1 ≡ (on_frames i (parts_of s i) k (store_of s)).2
  framed_journal = ap (λ (x : AfterEvent). store_of (left_by x)) event_is

  -- its own line has what acting leaves of its parts
  pub framed_own : parts_of (step s (came i k)).1 i ≡ (on_frames i (parts_of s i) k (store_of s)).1
  framed_own =
      let records = get_or-set_same s.gateway.lines i (line_after work.act own) no_record (omega (arith, w.as_many)) in
      let texts = texts_own own i s.memory.unfinished s.memory.frames ready work.act fitting in
      let frames = frames_own own i s.memory.unfinished s.memory.frames ready work.act k in
      ap (λ (x : AfterEvent). parts_of (left_by x) i) event_is ∙ same_parts _ _ records texts frames refl

  -- with its answer goes out what is to be sent, by what the line then has
  pub framed_answer : (step s (came i k)).0 ≡ (on_frames i (parts_of s i) k (store_of s)).0
  framed_answer =
      ap₂ told (ap (λ (x : AfterEvent). x.handled.answer) event_is) framed_own
      ∙ told_frames (parts_after work.act (parts_of s i) k) work.answer (ap (λ (t : Settings). t.dialogue) (act_settings work.act own) ∙ speaks)

  -- and every other line what it had
  pub framed_others : (l : ℕ) → l ≢ i → parts_of (step s (came i k)).1 l ≡ parts_of s l
  framed_others l n =
      let records = get_or-set_other s.gateway.lines i l (line_after work.act own) no_record n in
      let texts = texts_other own i s.memory.unfinished s.memory.frames ready work.act fitting l (λ q. n (sym q)) in
      let frames = frames_other own i s.memory.unfinished s.memory.frames ready work.act k l (λ q. n (sym q)) in
      ap (λ (x : AfterEvent). parts_of (left_by x) l) event_is ∙ same_parts _ _ records texts frames refl
