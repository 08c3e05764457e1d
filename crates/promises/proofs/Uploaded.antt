-- An event on a strip reader's line, at an intact state: it is told by its line's parts and the store.
-- Assumes nothing.
use mathlib.Core.Path.{◌≡◌, refl, sym, ap, ap₂, ◌∙◌}
use mathlib.Core.Logic.{◌≢◌}
use mathlib.Core.Bool.{true}
use Prim.Native.Nat.{ℕ, ◌<◌}
use native.Mathlib.Omega.{arith}
use borrow.Author.Tests.{lt-ltb, eq-eqb}
use lib.ListN.{length}
use lib.Seq.{get_or-set_other, get_or-set_same}
use Rattle.memory.specs.Sizes.{lines, journal_size, unfinished_size, frames_size, frame_part}
use Rattle.room.specs.Room.{todays_shares}
use Rattle.settings.specs.declared.Patient.{Patient}
use Rattle.settings.specs.declared.Dialogue.TheVariants.{Blocks}
use Rattle.line.specs.Line.{block_within}
use Rattle.line.specs.declared.Line.{Line}
use Rattle.looking.specs.Views.{frames_of}
use Rattle.looking.specs.declared.Kind.{Kind}
use Rattle.strips.specs.Readers.{Memo, fresh_memo}
use Rattle.uploads.specs.Uploads.{Ruling, ruling_of, ruling_on, uploaded, upload_of, line_by, memo_by, block_of}
use Rattle.gateway.specs.Events.{line_at, dialogue_at, memo_at, no_record, AfterEvent, put_upload, event_of}
use Rattle.gateway_laws.proofs.Rulings.{block_facts, block_room}
use Rattle.gateway_laws.proofs.Uploads.{blocks_own, blocks_other}
use Rattle.promises.specs.Machine.{State, on_line, left_by, step, parts_of, told, store_of, came}
use Rattle.promises.specs.Inner.ByParts.{on_blocks}
use Rattle.promises.specs.Sending.{Intact}
use Rattle.promises.proofs.Parts.{same_parts, blocks_within}

-- it is its work: 40 to 42 do not come
module _ (s : State) (w : Intact s) (i : ℕ) (k : Kind) (h : i < lines) (p : Patient) (speaks : dialogue_at s.gateway i ≡ Blocks p) where
  abbrev own : Line
  own = line_at s.gateway i

  abbrev kept : Memo
  kept = memo_at s.gateway i

  abbrev pub work : Ruling
  work = ruling_of todays_shares p own kept s.gateway.ledger i k s.memory.journal (frames_of i s.memory.frames)

  pub within : block_within p own ≡ true
  within = blocks_within own p speaks (w.within i h)

  pub room : own.collected < frame_part
  room = block_room p own.collected (block_facts p own within).0

  pub event_is : event_of todays_shares s.gateway (on_line i k) s.memory ≡ put_upload s.gateway i (uploaded work p own kept s.gateway.ledger (on_line i k) s.memory)
  unfolding event_of upload_of ruling_on
  event_is =
      rw (
        lt-ltb i lines h,
        speaks,
        eq-eqb (length s.memory.journal) journal_size w.journal,
        eq-eqb (length s.memory.unfinished) unfinished_size w.texts,
        eq-eqb (length s.memory.frames) frames_size w.frames,
        within,
      )

  pub uploaded_journal : store_of (step s (came i k)).1 ≡ (on_blocks p i (parts_of s i) k (store_of s)).2
  uploaded_journal = ap (λ (x : AfterEvent). store_of (left_by x)) event_is

  pub uploaded_own : parts_of (step s (came i k)).1 i ≡ (on_blocks p i (parts_of s i) k (store_of s)).1
  uploaded_own =
      let records = get_or-set_same s.gateway.lines i (line_by work.deed own) no_record (omega (arith, w.as_many)) in
      let frames = blocks_own own i s.memory.frames h room w.frames work.deed k in
      let memos = get_or-set_same s.gateway.memos i (memo_by work.deed kept (block_of k own (frames_of i s.memory.frames))) fresh_memo (omega (arith, w.as_many_memos)) in
      ap (λ (x : AfterEvent). parts_of (left_by x) i) event_is ∙ same_parts _ _ records refl frames memos

  pub uploaded_answer : (step s (came i k)).0 ≡ (on_blocks p i (parts_of s i) k (store_of s)).0
  uploaded_answer = ap₂ told (ap (λ (x : AfterEvent). x.handled.answer) event_is) uploaded_own

  pub uploaded_others : (l : ℕ) → l ≢ i → parts_of (step s (came i k)).1 l ≡ parts_of s l
  uploaded_others l n =
      let records = get_or-set_other s.gateway.lines i l (line_by work.deed own) no_record n in
      let frames = blocks_other own i s.memory.frames h room w.frames work.deed k l (λ q. n (sym q)) in
      let memos = get_or-set_other s.gateway.memos i l (memo_by work.deed kept (block_of k own (frames_of i s.memory.frames))) fresh_memo n in
      ap (λ (x : AfterEvent). parts_of (left_by x) l) event_is ∙ same_parts _ _ records refl frames memos
