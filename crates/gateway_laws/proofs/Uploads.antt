-- The laws of one event on a strip reader's line.
-- Assumes nothing.
use Rattle.std.specs.Prelude.{Result, Ok, Err}
use Rattle.journal.specs.declared.Refusal.{Refusal}
use mathlib.Core.Path.{◌≡◌, refl, sym, ap, subst, ◌∙◌}
use mathlib.Core.Logic.{◌≢◌, inl, inr}
use mathlib.Core.Bool.{true}
use mathlib.Core.List.{List}
use Prim.Native.Nat.{ℕ, ◌+◌, ◌<◌}
use native.Mathlib.Omega.{arith}
use borrow.Author.Tests.{lt-ltb}
use lib.Dec.{leb}
use lib.ListN.{length}
use Rattle.memory.specs.Sizes.{message_limit, lines, frame_part, frames_size}
use Rattle.memory.proofs.Tests.{clash, and_left, and_right}
use Rattle.digits.specs.Number.{most_number}
use Rattle.settings.specs.Settings.{results_length}
use Rattle.settings.specs.declared.Patient.{Patient}
use Rattle.journal.specs.Storage.{grown, appended}
use Rattle.journal.specs.declared.Ledger.{Ledger}
use Rattle.line.specs.Line.{most_seconds, last_within, counts_within, block_within}
use Rattle.line.specs.declared.Line.{Line}
use Rattle.answers.specs.declared.Answer.{Answer}
use Rattle.answers.specs.declared.Answer.TheVariants.{Nothing, Filed}
use Rattle.looking.specs.Views.{frames_of}
use Rattle.looking.specs.declared.Event.{Event}
use Rattle.looking.specs.declared.Kind.{Kind}
use Rattle.receiving.specs.Settled.{with_byte}
use Rattle.receiving.specs.Steps.{Memory}
use Rattle.finding.specs.Findings.{finding_of}
use Rattle.strips.specs.Readers.{Memo}
use Rattle.strips.specs.declared.Reader.{Reader}
use Rattle.uploads.specs.Uploads.{added_line, judged_line, Deed, leave, add, settle, file, Ruling, ruling, filing, line_by, frames_by, block_of, ruling_of, ruling_on, AfterUpload, uploaded, upload_of}
use Rattle.gateway_laws.specs.Classes.{Class, class_of, quiet, storing, hearing}
use Rattle.gateway_laws.specs.Inner.Hearings.{GoesWith}
use Rattle.gateway_laws.specs.Inner.Own.{own_byte, own_block}
use Rattle.gateway_laws.proofs.Bytes.{byte_own, byte_length, byte_other}
use Rattle.gateway_laws.proofs.Laws.{unchanged}
use Rattle.gateway_laws.proofs.Rulings.{block_facts, block_room, every_ruling, Found, refused, worked, ruling_found}

-- what a line speaks is not changed by any deed
pub deed_settings : (x : Deed) (l : Line) → (line_by x l).settings ≡ l.settings
deed_settings leave l = refl
deed_settings add l = refl
deed_settings (settle r) l = refl
deed_settings file l = refl

-- the frame bytes of all lines, and the line's own: a deed leaves them or adds the byte
module _ (k : Kind) (l : Line) (i : ℕ) (f : List ℕ) (P : List ℕ → List ℕ → Type 0) where
  block_rows : P f (frames_of i f) → P (with_byte k l i f) (own_byte k l (frames_of i f)) → (x : Deed) → P (frames_by x k l i f) (own_block x k l (frames_of i f))
  block_rows left added leave = left
  block_rows left added add = added
  block_rows left added (settle r) = added
  block_rows left added file = added

module _ (l : Line) (i : ℕ) (f : List ℕ) (line : i < lines) (room : l.collected < frame_part) (bytes : length f ≡ frames_size) where
  pub blocks_own : (x : Deed) (k : Kind) → frames_of i (frames_by x k l i f) ≡ own_block x k l (frames_of i f)
  blocks_own x k = block_rows k l i f (λ y own. frames_of i y ≡ own) refl (byte_own l i f line room bytes k) x

  pub blocks_length : (x : Deed) (k : Kind) → length (frames_by x k l i f) ≡ length f
  blocks_length x k = block_rows k l i f (λ y own. length y ≡ length f) refl (byte_length l i f line room bytes k) x

  pub blocks_other : (x : Deed) (kind : Kind) (k : ℕ) → i ≢ k → frames_of k (frames_by x kind l i f) ≡ frames_of k f
  blocks_other x kind k n = block_rows kind l i f (λ y own. frames_of k y ≡ frames_of k f) refl (byte_other l i f line room bytes kind k n) x

-- ---- the limits

-- a deed that adds a byte leaves room for another
abbrev pub Leaves-room : Patient → Line → Deed → Type 0
Leaves-room p l leave = Unit {0}
Leaves-room p l add = l.collected + 1 ≢ results_length p
Leaves-room p l (settle r) = Unit {0}
Leaves-room p l file = Unit {0}

module _ (p : Patient) (l : Line) (within : block_within p l ≡ true) where
  collected : l.collected < results_length p
  collected = (block_facts p l within).0

  counts : counts_within l ≡ true
  counts = (block_facts p l within).1

  rest_next : leb l.next most_number ≡ true
  rest_next = and_left (leb l.next most_number) _ (and_right (leb l.seconds most_seconds) _ (and_right (leb l.joined message_limit) _ counts))

  rest_last : last_within l.last ≡ true
  rest_last = and_left (last_within l.last) _ (and_right (leb l.next most_number) _ (and_right (leb l.seconds most_seconds) _ (and_right (leb l.joined message_limit) _ counts)))

  judged_within : block_within p (judged_line l) ≡ true
  unfolding block_within
  judged_within = rw (lt-ltb 0 (results_length p) (omega (arith, collected)), rest_next, rest_last)

  added_within : l.collected + 1 ≢ results_length p → block_within p (added_line l) ≡ true
  unfolding block_within
  added_within n =
      let less : l.collected + 1 < results_length p = by_length (results_length p) collected n in
      let joined = and_left (leb l.joined message_limit) _ counts in
      let seconds = and_left (leb l.seconds most_seconds) _ (and_right (leb l.joined message_limit) _ counts) in
      rw (lt-ltb (l.collected + 1) (results_length p) less, joined, seconds, rest_next, rest_last)
    where
      by_length : (n : ℕ) → l.collected < n → l.collected + 1 ≢ n → l.collected + 1 < n
      by_length n a b = omega (arith, a, b)

  pub deed_within : (x : Deed) → Leaves-room p l x → block_within p (line_by x l) ≡ true
  deed_within leave h = within
  deed_within add h = added_within h
  deed_within (settle r) h = judged_within
  deed_within file h = judged_within

-- ---- every ruling

filing_goes : (q : Result (Unit {0}) Refusal) (r : Reader) → GoesWith (filing q r).deed (filing q r).answer
filing_goes (Ok tt) r = refl
filing_goes (Err Refusal.NoRoom) r = inr refl
filing_goes (Err Refusal.Broken) r = refl
filing_goes (Err Refusal.NoLine) r = refl
filing_goes (Err Refusal.WrongSize) r = refl
filing_goes (Err Refusal.Malformed) r = refl

filing_room : (p : Patient) (l : Line) (q : Result (Unit {0}) Refusal) (r : Reader) → Leaves-room p l (filing q r).deed
filing_room p l (Ok tt) r = tt
filing_room p l (Err Refusal.NoRoom) r = tt
filing_room p l (Err Refusal.Broken) r = tt
filing_room p l (Err Refusal.NoLine) r = tt
filing_room p l (Err Refusal.WrongSize) r = tt
filing_room p l (Err Refusal.Malformed) r = tt

module _ (shares : List ℕ) (p : Patient) (l : Line) (w : Memo) (d : Ledger) (i : ℕ) (k : Kind) (journal frames : List ℕ) where
  abbrev work : Ruling
  work = ruling_of shares p l w d i k journal frames

  pub work_goes : GoesWith work.deed work.answer
  work_goes =
      every_ruling shares p l w d i k journal frames (λ x. GoesWith x.deed x.answer)
      (record { ignored = refl; added = λ n. refl; heard = λ r a h. inl h; filed = λ q. filing_goes q w.reader })

  pub work_room : Leaves-room p l work.deed
  work_room =
      every_ruling shares p l w d i k journal frames (λ x. Leaves-room p l x.deed)
      (record { ignored = tt; added = λ n. n; heard = λ r a h. tt; filed = λ q. filing_room p l q w.reader })

-- ---- an event

module _ (shares : List ℕ) (p : Patient) (l : Line) (w : Memo) (d : Ledger) (e : Event) (m : Memory) where
  abbrev ruled : Ruling
  ruled = ruling_on shares p l w d e m

  abbrev after : AfterUpload
  after = upload_of shares p l w d e m

  after_is : after ≡ uploaded ruled p l w d e m
  unfolding upload_of
  after_is = refl

  after_by : (x : Deed) → ruled.deed ≡ x → after ≡ uploaded (ruling x ruled.answer) p l w d e m
  unfolding upload_of
  after_by x h = ap (λ (y : Deed). uploaded (ruling y ruled.answer) p l w d e m) h

  -- the answer goes with what is done
  pub goes : GoesWith ruled.deed ruled.answer
  goes = by_found ruled (ruling_found shares p l w d e m)
    where
      by_found : (x : Ruling) → Found shares p l w d e m x → GoesWith x.deed x.answer
      by_found x (refused a q) = q
      by_found x (worked r) =
          subst (λ (y : Ruling). GoesWith y.deed y.answer) (sym r.work) (work_goes shares p l w d e.line e.kind m.journal (frames_of e.line m.frames))

  -- 40 to 43 change nothing at all
  pub upload_unchanged : (a : Answer) → after.step.stepped.answer ≡ a → class_of a ≡ quiet → a ≢ Nothing → after ≡ record { step = unchanged l d m a; memo = w }
  unfolding upload_of
  upload_unchanged a h q n = row ruled.deed refl goes
    where
      class : (c : Class) → class_of ruled.answer ≡ c → quiet ≡ c
      class c g = sym (ap class_of h ∙ q) ∙ g

      row : (x : Deed) → ruled.deed ≡ x → GoesWith x ruled.answer → after ≡ record { step = unchanged l d m a; memo = w }
      row leave s g = after_by leave s ∙ ap (λ (b : Answer). record { step = unchanged l d m b; memo = w }) h
      row add s g = absurd (n (sym h ∙ g))
      row (settle r) s (inl g) = clash (cc (class hearing g))
      row (settle r) s (inr g) = clash (cc (class _ (ap class_of g)))
      row file s g = clash (cc (class storing (ap class_of g)))

  -- only 4 changes the ledger and the journal
  pub only_filed : after.step.stepped.answer ≢ Filed → (after.step.stepped.ledger ≡ d) × (after.step.memory.journal ≡ m.journal)
  unfolding upload_of
  only_filed n = row ruled.deed refl goes
    where
      row : (x : Deed) → ruled.deed ≡ x → GoesWith x ruled.answer → (after.step.stepped.ledger ≡ d) × (after.step.memory.journal ≡ m.journal)
      row leave s g = (ap (λ (y : AfterUpload). y.step.stepped.ledger) (after_by leave s), ap (λ (y : AfterUpload). y.step.memory.journal) (after_by leave s))
      row add s g = (ap (λ (y : AfterUpload). y.step.stepped.ledger) (after_by add s), ap (λ (y : AfterUpload). y.step.memory.journal) (after_by add s))
      row (settle r) s g = (ap (λ (y : AfterUpload). y.step.stepped.ledger) (after_by (settle r) s), ap (λ (y : AfterUpload). y.step.memory.journal) (after_by (settle r) s))
      row file s g = absurd (n g)

  -- and what it appends is the finding of the block, as the line's newest entry under its next serial
  abbrev finding : List ℕ
  finding = finding_of p (block_of e.kind l (frames_of e.line m.frames))

  pub record Filing : Type 0 where
    pub ledger : after.step.stepped.ledger ≡ grown d e.line (length finding)
    pub journal : after.step.memory.journal ≡ appended d e.line finding m.journal
    pub deed : ruled.deed ≡ file

  pub filed_appends : after.step.stepped.answer ≡ Filed → Filing
  unfolding upload_of
  filed_appends h = row ruled.deed refl goes
    where
      class : (c : Class) → class_of ruled.answer ≡ c → storing ≡ c
      class c g = sym (ap class_of h) ∙ g

      row : (x : Deed) → ruled.deed ≡ x → GoesWith x ruled.answer → Filing
      row leave s g = clash (cc (class quiet g))
      row add s g = clash (cc (class _ (ap class_of g)))
      row (settle r) s (inl g) = clash (cc (class hearing g))
      row (settle r) s (inr g) = clash (cc (class _ (ap class_of g)))
      row file s g = record {
        ledger = ap (λ (y : AfterUpload). y.step.stepped.ledger) (after_by file s);
        journal = ap (λ (y : AfterUpload). y.step.memory.journal) (after_by file s);
        deed = s;
      }

  -- no unfinished byte is written, sizes are kept, and other lines keep their frame bytes
  pub upload_texts : after.step.memory.unfinished ≡ m.unfinished
  unfolding upload_of
  upload_texts = refl

  abbrev frames_after_law : Ruling → List ℕ
  frames_after_law x = frames_by x.deed e.kind l e.line m.frames

  pub upload_sizes : length after.step.memory.frames ≡ length m.frames
  unfolding upload_of
  upload_sizes = by_found ruled (ruling_found shares p l w d e m)
    where
      by_found : (x : Ruling) → Found shares p l w d e m x → length (frames_after_law x) ≡ length m.frames
      by_found x (refused a q) = refl
      by_found x (worked r) = blocks_length l e.line m.frames r.line (block_room p l.collected (block_facts p l r.within).0) r.bytes x.deed e.kind

  pub upload_others : (k : ℕ) → e.line ≢ k → frames_of k after.step.memory.frames ≡ frames_of k m.frames
  unfolding upload_of
  upload_others k n = by_found ruled (ruling_found shares p l w d e m)
    where
      by_found : (x : Ruling) → Found shares p l w d e m x → frames_of k (frames_after_law x) ≡ frames_of k m.frames
      by_found x (refused a q) = refl
      by_found x (worked r) = blocks_other l e.line m.frames r.line (block_room p l.collected (block_facts p l r.within).0) r.bytes x.deed e.kind k n

  -- the limits are kept, and what the line speaks
  pub upload_limits : block_within p l ≡ true → block_within p after.step.stepped.line ≡ true
  unfolding upload_of
  upload_limits h = by_found ruled (ruling_found shares p l w d e m)
    where
      by_found : (x : Ruling) → Found shares p l w d e m x → block_within p (line_by x.deed l) ≡ true
      by_found x (refused a q) = h
      by_found x (worked r) =
          deed_within p l h x.deed
          (subst (λ (y : Ruling). Leaves-room p l y.deed) (sym r.work) (work_room shares p l w d e.line e.kind m.journal (frames_of e.line m.frames)))

  pub upload_settings : after.step.stepped.line.settings ≡ l.settings
  unfolding upload_of
  upload_settings = deed_settings ruled.deed l
