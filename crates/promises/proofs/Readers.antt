-- What each block of a strip reader is answered, and what goes out then.
-- Assumes nothing.
use Rattle.strips.specs.declared.Reply.TheVariants.{Again, More}
use Rattle.strips.specs.declared.Reply.{Reply}
use Rattle.std.specs.Prelude.{None, Option, Some}
use mathlib.Core.Path.{◌≡◌, refl, ap, ◌∙◌}
use mathlib.Core.Bool.{Bool, true, false, not, ◌&&◌}
use mathlib.Core.List.{List}
use Prim.Native.Nat.{ℕ, ◌<◌}
use lib.ListN.{length}
use Rattle.memory.specs.Sizes.{lines}
use Rattle.memory.proofs.Tests.{clash, and_not_right}
use Rattle.settings.specs.Settings.{by_dialogue, speaks_frames}
use Rattle.settings.specs.declared.Settings.{Settings}
use Rattle.settings.specs.declared.Patient.{Patient}
use Rattle.settings.specs.declared.Dialogue.{Dialogue}
use Rattle.settings.specs.declared.Dialogue.TheVariants.{Blocks}
use Rattle.answers.specs.InNumbers.{reply_byte}
use Rattle.answers.specs.Paper.{reply_of, first_out}
use Rattle.answers.specs.declared.Answer.TheVariants.{Filed, Crowded}
use Rattle.block.specs.Controls.{control_bytes}
use Rattle.block.specs.Layouts.{mor}
use Rattle.block.specs.Judged.{judged_of}
use Rattle.block.specs.declared.Judged.{Judged}
use Rattle.block.specs.declared.Judged.TheVariants.{OddLength, OddTest, OddByte, Multiple, Repeat, End, Colours, Results}
use Rattle.finding.specs.Findings.{finding_of}
use Rattle.strips.specs.Readers.{Memo, is_again}
use Rattle.strips.specs.Hearings.{hearing_of, reply_answer}
use Rattle.strips.specs.Replies.{reply_block}
use Rattle.strips.specs.declared.Hearing.{Hearing}
use Rattle.strips.specs.declared.Reader.{Reader}
use Rattle.uploads.specs.Uploads.{settle, file, Ruling, ruling, memo_by}
use Rattle.looking.specs.declared.Kind.TheVariants.{Byte}
use Rattle.orders.specs.Starts.{is_neutral}
use Rattle.gateway.specs.Events.{dialogue_at, memo_at}
use Rattle.gateway.specs.Out.{block_out}
use Rattle.gateway_laws.proofs.Uploads.{deed_settings}
use Rattle.promises.specs.Machine.{State, Response, response, Coming, happens, starts, step, parts_of, store_of, came, starting}
use Rattle.promises.specs.Inner.ByParts.{parts_by}
use Rattle.promises.specs.Runs.{answered, is_results, is_wanted, has_space}
use Rattle.promises.specs.Queue.{completed_in}
use Rattle.promises.specs.Sending.{Intact}
use Rattle.promises.specs.Readers.{Ends, block_at, Told, StoreKept, number_for, out_for, ResultsTold, filed, crowded, repeated}
use Rattle.serial.specs.Serial.{event}
use Rattle.promises.specs.Orders.{first_of}
use Rattle.promises.proofs.Parts.{told_blocks}
use Rattle.promises.proofs.Starts.{start_busy}
use Rattle.promises.proofs.Dialogues.{still_blocks}
use Rattle.promises.proofs.Uploaded.{work}
use Rattle.promises.proofs.CameBlocks.{told_is, store_is, ruled, offers, filed as ruled_room}

-- what goes out by what was heard
abbrev said : Hearing → Response
said h = response h.answer (block_out (reply_byte (first_out h.answer)) h.reader.reply)

repeat_out : (r : Option Reply) → block_out (reply_byte (first_out (reply_answer r))) r ≡ reply_block r
unfolding reply_of
repeat_out None = refl
repeat_out (Some More) = refl
repeat_out (Some Again) = refl

repeat_number : (r : Option Reply) (bs : List ℕ) → answered (response (reply_answer r) bs) ≡ 11
repeat_number None bs = refl
repeat_number (Some More) bs = refl
repeat_number (Some Again) bs = refl

-- where it is not for storing
heard_told : (x : Judged) (again : Bool) (r : Reader) → is_results x && not again ≡ false
    → (answered (said (hearing_of x again r)) ≡ number_for x) × ((said (hearing_of x again r)).buffer ≡ out_for x r.reply)
unfolding reply_of
heard_told OddLength again r e = (refl, refl)
heard_told OddTest again r e = (refl, refl)
heard_told OddByte again r e = (refl, refl)
heard_told Multiple again r e = (refl, refl)
heard_told Repeat again r e = (repeat_number r.reply (said (hearing_of Repeat again r)).buffer, repeat_out r.reply)
heard_told End again r e = (refl, refl)
heard_told Colours again r e = (refl, refl)
heard_told Results true r e = (refl, refl)
heard_told Results false r e = clash cc

module _ (s : State) (w : Intact s) (i b : ℕ) (line : i < lines) (p : Patient) (ends : Ends s i b p) where
  abbrev memo : Memo
  memo = memo_at s.gateway i

  abbrev bs : List ℕ
  bs = block_at s i b

  abbrev found : Ruling
  found = work s w i (Byte b) line p ends.speaks

  -- the answer with what goes out, once the ruling is known
  told_then : (x : Ruling) → found ≡ x → (step s (came i (Byte b))).0 ≡ response x.answer (block_out (reply_byte (first_out x.answer)) (memo_by x.deed memo bs).reader.reply)
  told_then x is =
      told_is s w i (Byte b) line p ends.speaks x is
      ∙ told_blocks (parts_by x.deed (parts_of s i) (Byte b)) x.answer p (ap (λ (t : Settings). t.dialogue) (deed_settings x.deed (parts_of s i).line) ∙ ends.speaks)

  -- ---- not for storing

  module _ (x : Judged) (again : Bool) (is : judged_of p bs ≡ x) (was : is_again memo bs ≡ again) (other : is_results x && not again ≡ false) where
    unwanted : is_wanted p memo bs ≡ false
    unwanted = (λ z. is_results (is z) && not (was z)) ∙ other

    abbrev heard : Hearing
    heard = hearing_of x again memo.reader

    ruling_is : found ≡ ruling (settle heard.reader) heard.answer
    ruling_is =
        ruled s w i b line p ends.speaks ends.judges false unwanted (store_of s)
        ∙ (λ z. ruling (settle (hearing_of (is z) (was z) memo.reader).reader) (hearing_of (is z) (was z) memo.reader).answer)

    heard_so : Told s i b (number_for x) (out_for x memo.reader.reply)
    heard_so =
        let (number, out) = heard_told x again memo.reader other in
        let r = told_then (ruling (settle heard.reader) heard.answer) ruling_is in
        record { number_is = ap answered r ∙ number; out_is = ap (λ (t : Response). t.buffer) r ∙ out }

    heard_kept : StoreKept s i b
    heard_kept = store_is s w i (Byte b) line p ends.speaks (ruling (settle heard.reader) heard.answer) ruling_is

  -- every block that is not with results: its number, what goes out, and the store stays
  pub block_told : (x : Judged) → judged_of p bs ≡ x → is_results x ≡ false → Told s i b (number_for x) (out_for x memo.reader.reply) × StoreKept s i b
  block_told x is other =
      let false-so = ap (λ (c : Bool). c && not (is_again memo bs)) other in
      (heard_so x (is_again memo bs) is refl false-so, heard_kept x (is_again memo bs) is refl false-so)

  -- ---- with results

  module _ (is : judged_of p bs ≡ Results) where
    again_told : is_again memo bs ≡ true → ResultsTold s i b p
    again_told was = repeated was (heard_kept Results true is was refl) (heard_so Results true is was refl)

    module _ (was : is_again memo bs ≡ false) where
      wanted : is_wanted p memo bs ≡ true
      wanted = λ z. is_results (is z) && not (was z)

      by_space : (room : Bool) → has_space s i (length (finding_of p bs)) ≡ room → ResultsTold s i b p
      by_space true has =
          let r = told_then (ruling file Filed) (ruled_room s w i b line p ends.speaks ends.judges wanted true has) in
          filed was has (ap completed_in (offers s w i b line p ends.speaks ends.judges true wanted)) (record { number_is = ap answered r; out_is = ap (λ (t : Response). t.buffer) r })
      by_space false has =
          let x = ruling (settle memo.reader) Crowded in
          let of = ruled_room s w i b line p ends.speaks ends.judges wanted false has in
          let r = told_then x of in
          crowded was has (store_is s w i (Byte b) line p ends.speaks x of) (record { number_is = ap answered r; out_is = ap (λ (t : Response). t.buffer) r })

    by_again : (again : Bool) → is_again memo bs ≡ again → ResultsTold s i b p
    by_again true was = again_told was
    by_again false was = by_space was (has_space s i (length (finding_of p bs))) refl

    pub results_told : ResultsTold s i b p
    results_told = by_again (is_again memo bs) refl

    -- so a repeat is answered 11 and not stored again
    pub repeat_dropped : is_again memo bs ≡ true → Told s i b 11 (control_bytes mor) × StoreKept s i b
    repeat_dropped was = (heard_so Results true is was refl, heard_kept Results true is was refl)

-- ---- what goes out on a reader's line, in whatever state: our last reply with an answer that sends, and else nothing

pub out_block : (s : State) (i : ℕ) (k : Coming) (p : Patient) → dialogue_at s.gateway i ≡ Blocks p
    → (step s (event i k)).0.buffer ≡ block_out (first_of (step s (event i k)).0) (memo_at (step s (event i k)).1.gateway i).reader.reply
out_block s i (happens k) p speaks = ap (λ (r : Response). r.buffer) (told_blocks (parts_of (step s (came i k)).1 i) (step s (came i k)).0.answer p (still_blocks s (came i k) i p speaks))
out_block s i (starts text) p speaks =
    ap (λ (r : Response). r.buffer) (told_blocks (parts_of (step s (starting i text)).1 i) (step s (starting i text)).0.answer p (still_blocks s (starting i text) i p speaks))

-- nothing is started there: 60
pub start_60 : (s : State) → Intact s → (i : ℕ) (text : List ℕ) → i < lines → (p : Patient) → dialogue_at s.gateway i ≡ Blocks p → answered (step s (starting i text)).0 ≡ 60
start_60 s w i text h p speaks =
    start_busy s w i text h
    (and_not_right (is_neutral (parts_of s i).line.state) (speaks_frames (parts_of s i).line.settings) (ap (λ (d : Dialogue). by_dialogue d true (λ q. false)) speaks))
