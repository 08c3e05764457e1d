-- What an event on a strip reader's line comes to: at an intact state it passes, or it ends a block whose finding is stored (4) or crowded out (31).
-- Assumes nothing.
use Rattle.std.specs.Option.{is_some}
use Rattle.std.specs.Prelude.{Err, None, Ok, Result, Some}
use Rattle.journal.specs.declared.Refusal.TheVariants.{NoRoom}
use Rattle.journal.specs.declared.Refusal.{Refusal}
use mathlib.Core.Path.{◌≡◌, refl, sym, ap, subst, ◌∙◌}
use mathlib.Core.Bool.{Bool, true, false, cond, not, ◌&&◌}
use mathlib.Core.List.{List}
use Prim.Native.Nat.{ℕ, ◌<◌}
use lib.ListN.{length}
use Rattle.memory.specs.Sizes.{lines}
use Rattle.memory.specs.Tests.{unless}
use Rattle.settings.specs.declared.Patient.{Patient}
use Rattle.settings.specs.declared.Dialogue.TheVariants.{Blocks}
use Rattle.faults.specs.Message.{is_message}
use Rattle.faults.proofs.Messages.{message_some, message_short}
use Rattle.room.specs.Room.{todays_shares}
use Rattle.journal.specs.Verdicts.{judge_of}
use Rattle.journal.proofs.Judged.{judged_room}
use Rattle.journal_laws.specs.Runs.{State as Store}
use Rattle.answers.specs.Paper.{number_of}
use Rattle.answers.specs.declared.Answer.{Answer}
use Rattle.answers.specs.declared.Answer.TheVariants.{Nothing, Filed, Crowded}
use Rattle.answers.proofs.Paper.{every_but}
use Rattle.looking.specs.declared.Kind.{Kind}
use Rattle.looking.specs.declared.Kind.TheVariants.{Byte, Seconds}
use Rattle.block.specs.Judged.{judged_of}
use Rattle.block.specs.declared.Judged.{Judged}
use Rattle.block.specs.declared.Judged.TheVariants.{OddLength, OddTest, OddByte, Multiple, Repeat, End, Colours, Results}
use Rattle.finding.specs.Findings.{finding_of}
use Rattle.strips.specs.Readers.{is_again}
use Rattle.strips.specs.Sights.{sight_of}
use Rattle.strips.specs.Hearings.{hearing_of}
use Rattle.strips.specs.declared.Reader.{Reader}
use Rattle.strips.specs.declared.Hearing.{Hearing}
use Rattle.strips.specs.declared.Sight.{Sight}
use Rattle.strips.specs.declared.Sight.TheVariants.{Ignores, Adds, Judges}
use Rattle.uploads.specs.Uploads.{Deed, leave, add, settle, file, Ruling, ruling, filing, block_of, block_bytes, judged_block, seen_as, ruling_of}
use Rattle.gateway.specs.Events.{dialogue_at}
use Rattle.gateway_laws.specs.Classes.{Class, class_of, quiet, opening, closing, refusing, accepting, storing, against, taking, sending, hearing}
use Rattle.gateway_laws.proofs.Rulings.{hearing_class}
use Rattle.promises.specs.Machine.{State, Response, step, is_decision, decides, Parts, parts_of, store_of, came}
use Rattle.promises.specs.Inner.ByParts.{store_by, left_on, on_event}
use Rattle.promises.specs.Runs.{answered, is_damage, is_results, is_wanted, offered_at, offered, has_space}
use Rattle.promises.specs.Sending.{Intact}
use Rattle.promises.specs.Inner.Came.{Passes, Settles, Came, quiet as passing, stored, crowded}
use Rattle.promises.proofs.Parts.{on_blocks_law}
use Rattle.promises.proofs.Uploaded.{work, uploaded_answer, uploaded_journal}
use Rattle.promises.proofs.Findings.{offered_block, wanted_message}

-- a block is for storing where it is wanted
pub stores_wanted : (x : Judged) (again : Bool) (r : Reader) → (hearing_of x again r).stores ≡ is_results x && not again
stores_wanted OddLength again r = refl
stores_wanted OddTest again r = refl
stores_wanted OddByte again r = refl
stores_wanted Multiple again r = refl
stores_wanted Repeat again r = refl
stores_wanted End again r = refl
stores_wanted Colours again r = refl
stores_wanted Results true r = refl
stores_wanted Results false r = refl

-- what is heard speaks of no damage
abbrev unheard : Class → Bool
unheard quiet = true
unheard opening = true
unheard closing = true
unheard refusing = true
unheard accepting = true
unheard storing = true
unheard against = true
unheard taking = true
unheard sending = true
unheard hearing = false

hearing_plain : (a : Answer) → class_of a ≡ hearing → (is_damage (number_of a) ≡ false) × (is_decision (class_of a) ≡ false)
hearing_plain a h = (every_but (λ b. unheard (class_of b)) (λ b. is_damage (number_of b)) (λ vs. refl) a (ap unheard h), ap is_decision h)

-- a deed that stores nothing
abbrev Keeps : Deed → Type 0
Keeps leave = Unit {0}
Keeps add = Unit {0}
Keeps (settle r) = Unit {0}
Keeps file = ⊥

keeps_store : (x : Deed) → Keeps x → (i : ℕ) (text : List ℕ) (j : Store) → store_by x i text j ≡ j
keeps_store leave h i text j = refl
keeps_store add h i text j = refl
keeps_store (settle r) h i text j = refl
keeps_store file h i text j = elim h [ ]

module _ (s : State) (w : Intact s) (i : ℕ) (k : Kind) (line : i < lines) (p : Patient) (speaks : dialogue_at s.gateway i ≡ Blocks p) where
  abbrev own : Parts
  own = parts_of s i

  abbrev ruling_at : Store → Ruling
  ruling_at j = ruling_of todays_shares p own.line own.memo j.ledger i k j.journal own.frames

  abbrev finding : List ℕ
  finding = finding_of p (block_of k own.line own.frames)

  -- the answer and the store, once the ruling is known
  module _ (x : Ruling) (is : work s w i k line p speaks ≡ x) where
    pub told_is : (step s (came i k)).0 ≡ (left_on x p i own k (store_of s)).0
    told_is = uploaded_answer s w i k line p speaks ∙ ap (λ (y : Ruling). (left_on y p i own k (store_of s)).0) is

    pub store_is : store_of (step s (came i k)).1 ≡ (left_on x p i own k (store_of s)).2
    store_is = uploaded_journal s w i k line p speaks ∙ ap (λ (y : Ruling). (left_on y p i own k (store_of s)).2) is

  -- ---- nothing is decided: the ruling is the same at any store

  module _ (x : Ruling) (same : (j : Store) → ruling_at j ≡ x) (keeps : Keeps x.deed) (none-such : offered s i k ≡ None)
      (plain : (is_damage (number_of x.answer) ≡ false) × (is_decision (class_of x.answer) ≡ false)) where
    goes : (j : Store) → on_event i own k j ≡ ((left_on x p i own k (store_of s)).0, (left_on x p i own k (store_of s)).1, j)
    goes j =
        on_blocks_law own i k j p speaks ∙ ap (λ (y : Ruling). left_on y p i own k j) (same j)
        ∙ (λ z. ((left_on x p i own k j).0, (left_on x p i own k j).1, (keeps_store x.deed keeps i finding j) z))

    passes : Passes s i k
    passes = record {
      no_text = none-such;
      undecided = ap decides (told_is x (same (store_of s))) ∙ plain.1;
      no_damage = ap (λ (t : Response). is_damage (answered t)) (told_is x (same (store_of s))) ∙ plain.0;
      kept = store_is x (same (store_of s)) ∙ keeps_store x.deed keeps i finding (store_of s);
      anywhere = λ j. goes j ∙ sym (ap (λ (r : Response × Parts × Store). (r.0, r.1, j)) (goes (store_of s)));
    }

-- ---- a byte

module _ (s : State) (w : Intact s) (i : ℕ) (b : ℕ) (line : i < lines) (p : Patient) (speaks : dialogue_at s.gateway i ≡ Blocks p) where
  abbrev had : Parts
  had = parts_of s i

  abbrev bs : List ℕ
  bs = block_bytes had.line b had.frames

  abbrev whole : Store → Ruling
  whole j = judged_block todays_shares p had.line had.memo j.ledger i bs j.journal

  abbrev heard : Hearing
  heard = hearing_of (judged_of p bs) (is_again had.memo bs) had.memo.reader

  pub by_sight : (x : Sight) → sight_of p had.line b ≡ x
      → (offered s i (Byte b) ≡ offered_at p had.memo bs x) × ((j : Store) → ruling_of todays_shares p had.line had.memo j.ledger i (Byte b) j.journal had.frames ≡ seen_as x (whole j))
  unfolding ruling_of
  by_sight x e = (offered_block s i (Byte b) p speaks ∙ ap (offered_at p had.memo bs) e, λ j. ap (λ (y : Sight). seen_as y (whole j)) e)

  module _ (ends : sight_of p had.line b ≡ Judges) where
    pub ruled : (wanted : Bool) → is_wanted p had.memo bs ≡ wanted → (j : Store)
        → ruling_of todays_shares p had.line had.memo j.ledger i (Byte b) j.journal had.frames
        ≡ unless wanted (ruling (settle heard.reader) heard.answer) (filing (judge_of j.ledger todays_shares i (length (finding_of p bs)) j.journal) had.memo.reader)
    ruled wanted e j =
        (by_sight Judges ends).1 j
        ∙ ap (λ (c : Bool). unless c (ruling (settle heard.reader) heard.answer) (filing (judge_of j.ledger todays_shares i (length (finding_of p bs)) j.journal) had.memo.reader))
        (stores_wanted (judged_of p bs) (is_again had.memo bs) had.memo.reader ∙ e)

    pub offers : (wanted : Bool) → is_wanted p had.memo bs ≡ wanted → offered s i (Byte b) ≡ cond wanted (Some (finding_of p bs)) None
    offers wanted e = (by_sight Judges ends).0 ∙ ap (λ (c : Bool). cond c (Some (finding_of p bs)) None) e

    -- the block is no finding, or a repeat
    unwanted : is_wanted p had.memo bs ≡ false → Came s i (Byte b)
    unwanted e =
        let class = hearing_class (judged_of p bs) (is_again had.memo bs) had.memo.reader (stores_wanted (judged_of p bs) (is_again had.memo bs) had.memo.reader ∙ e) in
        passing (passes s w i (Byte b) line p speaks (ruling (settle heard.reader) heard.answer) (ruled false e) tt (offers false e) (hearing_plain heard.answer class))

    -- it is one: the journal is asked
    module _ (e : is_wanted p had.memo bs ≡ true) where
      abbrev text : List ℕ
      text = finding_of p bs

      message : is_message text ≡ true
      message = wanted_message p had.memo bs e

      pub filed : (room : Bool) → has_space s i (length text) ≡ room → work s w i (Byte b) line p speaks ≡ filing (cond room (Ok tt) (Err NoRoom)) had.memo.reader
      filed room has =
          let d = s.gateway.ledger in
          ruled true e (store_of s)
          ∙ ap (λ (q : Result (Unit {0}) Refusal). filing q had.memo.reader)
          (sym (judged_room d todays_shares i (length text) s.memory.journal line w.journal (message_some _ text message) (message_short _ text message) room (ap is_some w.whole) has))

      settles : (x : Ruling) → work s w i (Byte b) line p speaks ≡ x → is_decision (class_of x.answer) ≡ true → (Such : ℕ → Type 0) → Such (number_of x.answer)
          → Settles s i (Byte b) text Such (left_on x p i had (Byte b) (store_of s)).2
      settles x of d Such such = record {
        complete = offers true e;
        decided = ap decides (told_is s w i (Byte b) line p speaks x of) ∙ d;
        number = subst (λ (t : Response). Such (answered t)) (sym (told_is s w i (Byte b) line p speaks x of)) such;
        left = store_is s w i (Byte b) line p speaks x of;
      }

      by_space : (room : Bool) → has_space s i (length text) ≡ room → Came s i (Byte b)
      by_space true has = stored text message has (settles (ruling file Filed) (filed true has) refl (λ c. c ≡ 4) refl)
      by_space false has = crowded text message has (settles (ruling (settle had.memo.reader) Crowded) (filed false has) refl (λ c. c ≡ 31) refl)

    by_wanted : (c : Bool) → is_wanted p had.memo bs ≡ c → Came s i (Byte b)
    by_wanted true e = by_space e (has_space s i (length (text e))) refl
    by_wanted false e = unwanted e

  byte_comes : (x : Sight) → sight_of p had.line b ≡ x → Came s i (Byte b)
  byte_comes Ignores e =
      let (none-such, same) = by_sight Ignores e in
      passing (passes s w i (Byte b) line p speaks (ruling leave Nothing) same tt none-such (refl, refl))
  byte_comes Adds e =
      let (none-such, same) = by_sight Adds e in
      passing (passes s w i (Byte b) line p speaks (ruling add Nothing) same tt none-such (refl, refl))
  byte_comes Judges e = by_wanted e (is_wanted p had.memo bs) refl

-- seconds are ignored
seconds_come : (s : State) (w : Intact s) (i n : ℕ) (line : i < lines) (p : Patient) (speaks : dialogue_at s.gateway i ≡ Blocks p) → Came s i (Seconds n)
unfolding ruling_of
seconds_come s w i n line p speaks = passing (passes s w i (Seconds n) line p speaks (ruling leave Nothing) (λ j. refl) tt (offered_block s i (Seconds n) p speaks) (refl, refl))

pub blocks_come : (s : State) (w : Intact s) (i : ℕ) (k : Kind) (line : i < lines) (p : Patient) (speaks : dialogue_at s.gateway i ≡ Blocks p) → Came s i k
blocks_come s w i (Byte b) line p speaks = byte_comes s w i b line p speaks (sight_of p (parts_of s i).line b) refl
blocks_come s w i (Seconds n) line p speaks = seconds_come s w i n line p speaks
