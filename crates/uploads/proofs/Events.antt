-- Each way out of an event on a reader's line.
-- Assumes nothing.
use mathlib.Core.Path.{◌≡◌, refl, sym, ap, subst, ◌∙◌}
use mathlib.Core.Bool.{Bool, true, false}
use mathlib.Core.List.{List}
use Prim.Native.Nat.{ℕ, ◌≤◌, ◌<◌}
use borrow.Author.Tests.{lt-ltb, le-ltb}
use lib.ListN.{length}
use Rattle.memory.specs.Sizes.{lines}
use Rattle.room.specs.Room.{todays_shares}
use Rattle.settings.specs.declared.Patient.{Patient}
use Rattle.settings.specs.Settings.{by_dialogue}
use Rattle.settings.specs.declared.Dialogue.{Dialogue}
use Rattle.settings.specs.declared.Dialogue.TheVariants.{Frames, Blocks}
use Rattle.line.specs.declared.Line.{Line}
use Rattle.answers.specs.InNumbers.{in_numbers}
use Rattle.answers.specs.declared.Answer.{Answer}
use Rattle.answers.specs.declared.Answer.TheVariants.{NoLine, WrongSize, BeyondLimits}
use Rattle.answers.specs.declared.Answered.{Answered}
use Rattle.looking.specs.Views.{frames_of}
use Rattle.looking.specs.Lent.{right_sizes}
use Rattle.looking.specs.declared.Event.{Event}
use Rattle.looking.specs.declared.Kind.TheVariants.{Byte}
use Rattle.looking.proofs.Alone.{lengths_facts}
use Rattle.ledger.specs.Ledgers.{ledger_of}
use Rattle.numbers.specs.Plain.{within_numbers, line_of}
use Rattle.numbers.specs.Changes.{is_within, record_of}
use Rattle.numbers.proofs.Changes.{within_facts}
use Rattle.strips.specs.Sights.{sight_of}
use Rattle.strips.specs.declared.Sight.{Sight}
use Rattle.keeping.specs.Keeping.{memo_of}
use Rattle.uploads.specs.Uploads.{Ruling, block_bytes, judged_block, seen_as, ruling_of, ruling_on, uploaded, upload_of}
use Rattle.uploads.specs.Host.{HostState, AfterCall, refused, Called}
use Rattle.uploads.specs.Calls.{put_upload, upload_call, Uploading}
use Rattle.uploads.specs.Inner.Ruled.{Reading, Ruled}
use Rattle.uploads.proofs.Readings.{reader_within}

-- a byte, by what it does
pub seen : (ns us j f : List ℕ) (p : Patient) (l : Line) (i b : ℕ) (q : Sight) {r : Answered} {ns' us' j' f' : List ℕ} → sight_of p l b ≡ q
    → Ruled ns us j f p l i (Byte b) (seen_as q (judged_block todays_shares p l (memo_of ns i) (ledger_of ns us) i (block_bytes l b (frames_of i f)) j)) r ns' us' j' f'
    → Ruled ns us j f p l i (Byte b) (ruling_of todays_shares p l (memo_of ns i) (ledger_of ns us) i (Byte b) j (frames_of i f)) r ns' us' j' f'
unfolding ruling_of
seen ns us j f p l i b q e a = rw e a

as_called : {c d : AfterCall} {r : Answered} {t : HostState} → c ≡ d → Called d r t → Called c r t
as_called {c} {d} {r} {t} q x = subst (λ (y : AfterCall). Called y r t) (sym q) x

abbrev right : HostState → Bool
right s = right_sizes s.memory.journal s.memory.unfinished s.memory.frames

module _ (s : HostState) (e : Event) where
  abbrev own : Line
  own = line_of s.numbers e.line

  same : (a : Answer) (r : Answered) → r ≡ in_numbers a → Called (refused a s) r s
  same a r q = record { result = q; state = refl }

  -- 40, 41 and 42
  pub no_line : (r : Answered) → lines ≤ e.line → r ≡ in_numbers NoLine → Uploading s e r s
  unfolding upload_call
  no_line r h q = as_called (rw (le-ltb e.line lines h)) (same NoLine r q)

  module _ (r : Answered) (h : e.line < lines) where
    pub wrong_size : right s ≡ false → r ≡ in_numbers WrongSize → Uploading s e r s
    unfolding upload_call
    wrong_size z q = as_called (rw (lt-ltb e.line lines h, z)) (same WrongSize r q)

    pub beyond : right s ≡ true → within_numbers s.numbers e.line ≡ false → r ≡ in_numbers BeyondLimits → Uploading s e r s
    unfolding upload_call
    beyond z w q = as_called (rw (lt-ltb e.line lines h, z, w)) (same BeyondLimits r q)

  -- the record that was read, past 42
  module _ (z : right s ≡ true) (w : is_within s.numbers e.line ≡ true) {l : Line} (k : l ≡ record_of s.numbers e.line) where
    read : l ≡ own
    read = k ∙ rw w

    -- a line of frames
    pub in_frames : (r : Answered) → l.settings.dialogue ≡ Frames → r ≡ in_numbers BeyondLimits → Uploading s e r s
    unfolding upload_call
    in_frames r d q =
        let (h, within) = within_facts s.numbers e.line w in
        let frames : own.settings.dialogue ≡ Frames = ap (λ (x : Line). x.settings.dialogue) (sym read) ∙ d in
        as_called (rw (lt-ltb e.line lines h, z, within, frames)) (same BeyondLimits r q)

    -- a reader's line
    module _ {p : Patient} (d : l.settings.dialogue ≡ Blocks p) where
      pub reading : Reading s.numbers s.memory.frames p l e.line
      reading =
          let (h, within) = within_facts s.numbers e.line w in
          record { there = h; size = (lengths_facts (length s.memory.journal) (length s.memory.unfinished) (length s.memory.frames) z).2; within = within; line = read; speaks = d }

      abbrev work : Line → Ruling
      work x = ruling_of todays_shares p x (memo_of s.numbers e.line) (ledger_of s.numbers s.counts) e.line e.kind s.memory.journal (frames_of e.line s.memory.frames)

      -- past 40 to 42 the ruling is that of the work
      is_work : upload_of todays_shares p l (memo_of s.numbers e.line) (ledger_of s.numbers s.counts) e s.memory
          ≡ uploaded (work l) p l (memo_of s.numbers e.line) (ledger_of s.numbers s.counts) e s.memory
      unfolding upload_of ruling_on
      is_work =
          let g = reading in
          let within = (reader_within s.numbers s.memory.frames p l e.line g).within in
          rw (lt-ltb e.line lines g.there, z, within)

      is_upload : upload_call s e ≡ put_upload s e.line (upload_of todays_shares p l (memo_of s.numbers e.line) (ledger_of s.numbers s.counts) e s.memory)
      unfolding upload_call
      is_upload =
          let g = reading in
          let blocks : own.settings.dialogue ≡ Blocks p = ap (λ (x : Line). x.settings.dialogue) (sym read) ∙ d in
          rw (lt-ltb e.line lines g.there, z, g.within)
          (ap (λ (x : Dialogue). by_dialogue x (refused BeyondLimits s) (λ q. put_upload s e.line (upload_of todays_shares q own (memo_of s.numbers e.line) (ledger_of s.numbers s.counts) e s.memory))) blocks
          ∙ ap (λ (x : Line). put_upload s e.line (upload_of todays_shares p x (memo_of s.numbers e.line) (ledger_of s.numbers s.counts) e s.memory)) (sym read))

      pub by_work : {r : Answered} {ns us j f : List ℕ} → Ruled s.numbers s.counts s.memory.journal s.memory.frames p l e.line e.kind (work l) r ns us j f
          → Uploading s e r (record { numbers = ns; counts = us; memory = record { journal = j; unfinished = s.memory.unfinished; frames = f } })
      by_work a =
          as_called (is_upload ∙ ap (put_upload s e.line) is_work) (record {
            result = a.result;
            state = λ x. record { numbers = a.numbers x; counts = a.counts x; memory = record { journal = a.journal x; unfinished = s.memory.unfinished; frames = a.frames x } };
          })
