-- What a reader's line keeps is the block whose finding was the last text stored there, all along a run. So a repeat is of that block, and a block with results gets MOR only if its
-- finding is that text.
-- Assumes nothing.
use mathlib.Core.Path.{◌≡◌, refl, sym, ap, subst, ◌∙◌}
use mathlib.Core.Logic.{◌≢◌, ◌⊎◌, inl, inr}
use mathlib.Core.Bool.{Bool, true, false, cond, ◌&&◌}
use mathlib.Core.List.{List, [], ◌∷◌, ◌++◌, append_assoc, append-nil}
use Prim.Native.Nat.{ℕ, ◌≤◌, ◌<◌}
use native.Mathlib.Decide.{ℕ_discrete}
use native.Mathlib.Omega.{arith}
use borrow.Author.Tests.{eq-eqb, ne_eqb, eqb-true}
use lib.Dec.{eqb}
use lib.ListN.{length, take, get_or-replicate}
use Rattle.memory.specs.Sizes.{lines}
use Rattle.memory.specs.Parts.{splice}
use Rattle.memory.proofs.Parts.{part_start, part_splice}
use Rattle.memory.proofs.Tests.{clash, and_left, and_right}
use Rattle.settings.specs.Settings.{results_length, block_limit}
use Rattle.settings.specs.declared.Settings.{Settings}
use Rattle.settings.specs.declared.Patient.{Patient}
use Rattle.settings.specs.declared.Patient.TheVariants.{Ten, Thirteen}
use Rattle.settings.specs.declared.Dialogue.{Dialogue}
use Rattle.settings.specs.declared.Dialogue.TheVariants.{Frames, Blocks}
use Rattle.answers.specs.declared.Answer.TheVariants.{Nothing, Filed, Crowded}
use Rattle.block.specs.Judged.{judged_of}
use Rattle.block.specs.declared.Judged.{Judged}
use Rattle.block.specs.declared.Judged.TheVariants.{OddLength, OddTest, OddByte, Multiple, Repeat, End, Colours, Results}
use Rattle.block.proofs.Laws.{results_length_law}
use Rattle.finding.specs.Findings.{finding_of}
use Rattle.strips.specs.Readers.{Memo, fresh_memo, begins_with, is_again}
use Rattle.strips.specs.Sights.{sight_of}
use Rattle.strips.specs.Hearings.{filed_reader, hearing_of}
use Rattle.strips.specs.declared.Hearing.{Hearing}
use Rattle.strips.specs.declared.Reader.{Reader}
use Rattle.strips.specs.declared.Sight.{Sight}
use Rattle.strips.specs.declared.Sight.TheVariants.{Ignores, Adds, Judges}
use Rattle.uploads.specs.Uploads.{leave, add, settle, file, Ruling, ruling, memo_by, block_of, ruling_of}
use Rattle.looking.specs.declared.Kind.{Kind}
use Rattle.looking.specs.declared.Kind.TheVariants.{Byte, Seconds}
use Rattle.journal_laws.specs.Runs.{State as Store}
use Rattle.gateway_laws.specs.Classes.{class_of}
use Rattle.gateway_laws.proofs.Rulings.{hearing_class}
use Rattle.gateway.specs.Events.{dialogue_at, memo_at, start_of, take_of}
use Rattle.serial.specs.Serial.{event, taking, final, Every}
use Rattle.promises.specs.Machine.{State, Response, GatewayItem, happens, starts, came, step, is_decision, decides, Parts, parts_of, store_of, Sound, May}
use Rattle.promises.specs.Runs.{Beginning, Right, fresh, answered, is_wanted, has_space}
use Rattle.promises.specs.Queue.{completed_in, completed, stored_on, all_stored}
use Rattle.promises.specs.Sending.{Intact}
use Rattle.promises.specs.Readers.{Ends, block_at, ResultsTold, filed, crowded, repeated, kept_block, LastOf, KeepsLast, KeptStored}
use Rattle.promises.proofs.Parts.{on_frames_law}
use Rattle.promises.proofs.Uploaded.{work, uploaded_own}
use Rattle.promises.proofs.Sound.{sound_intact, event_own, event_others}
use Rattle.promises.proofs.Findings.{wanted_results}
use Rattle.promises.proofs.CameBlocks.{by_sight, ruled, offers, stores_wanted, told_is, filed as ruled_room}
use Rattle.promises.proofs.Came.{undecided_other}
use Rattle.promises.proofs.Kept.{keeps, fresh_sound}
use Rattle.promises.proofs.Dialogues.{item_settings}
use Rattle.promises.proofs.Runs.{always_sound}
use Rattle.promises.proofs.Readers.{results_told}

-- what is heard changes neither whether a block is kept
heard_keeps : (x : Judged) (again : Bool) (r : Reader) → (hearing_of x again r).stores ≡ false → (hearing_of x again r).reader.kept ≡ r.kept
heard_keeps OddLength again r e = refl
heard_keeps OddTest again r e = refl
heard_keeps OddByte again r e = refl
heard_keeps Multiple again r e = refl
heard_keeps Repeat again r e = refl
heard_keeps End again r e = refl
heard_keeps Colours again r e = refl
heard_keeps Results true r e = refl
heard_keeps Results false r e = clash cc

-- a stored block over the start of the kept one is what is kept
kept_new : (p : Patient) (w : Memo) (bs : List ℕ) → length w.block ≡ block_limit → length bs ≡ results_length p → kept_block p (record { reader = filed_reader; block = splice w.block 0 bs }) ≡ bs
kept_new p w bs long is =
    ap (λ (n : ℕ). take n (splice w.block 0 bs)) (sym is) ∙ sym (part_start (splice w.block 0 bs) (length bs)) ∙ part_splice w.block 0 bs (omega (arith, long, is, longest p))
  where
    longest : (q : Patient) → results_length q ≤ block_limit
    longest Ten = omega arith
    longest Thirteen = omega arith

-- ---- one event on a reader's line: what is kept stays, and nothing is stored; or a finding is, and its block is kept

record Stays (s : State) (i : ℕ) (k : Kind) : Type 0 where
  kept : (memo_at (step s (came i k)).1.gateway i).reader.kept ≡ (memo_at s.gateway i).reader.kept
  block : (memo_at (step s (came i k)).1.gateway i).block ≡ (memo_at s.gateway i).block
  unstored : eqb (answered (step s (came i k)).0) 4 ≡ false

record Files (s : State) (i : ℕ) (k : Kind) (p : Patient) : Type 0 where
  bs : List ℕ
  right : judged_of p bs ≡ Results
  kept : kept_block p (memo_at (step s (came i k)).1.gateway i) ≡ bs
  number : answered (step s (came i k)).0 ≡ 4
  text : completed s i k ≡ finding_of p bs

module _ (s : State) (w : Intact s) (i : ℕ) (line : i < lines) (p : Patient) (speaks : dialogue_at s.gateway i ≡ Blocks p) where
  abbrev memo : Memo
  memo = memo_at s.gateway i

  -- what is kept, and the number, once the ruling is known
  module _ (k : Kind) (x : Ruling) (is : work s w i k line p speaks ≡ x) where
    abbrev block : List ℕ
    block = block_of k (parts_of s i).line (parts_of s i).frames

    memo_then : memo_at (step s (came i k)).1.gateway i ≡ memo_by x.deed memo block
    memo_then = ap (λ (q : Parts). q.memo) (uploaded_own s w i k line p speaks) ∙ ap (λ (y : Ruling). memo_by y.deed memo block) is

    stays : (memo_by x.deed memo block).reader.kept ≡ memo.reader.kept → (memo_by x.deed memo block).block ≡ memo.block → is_decision (class_of x.answer) ≡ false → Stays s i k
    stays kept same undecided = record {
      kept = ap (λ (m : Memo). m.reader.kept) memo_then ∙ kept;
      block = ap (λ (m : Memo). m.block) memo_then ∙ same;
      unstored = (undecided_other (step s (came i k)).0 (ap decides (told_is s w i k line p speaks x is) ∙ undecided)).0;
    }

  module _ (b : ℕ) where
    abbrev bs : List ℕ
    bs = block_at s i b

    abbrev heard : Hearing
    heard = hearing_of (judged_of p bs) (is_again memo bs) memo.reader

    module _ (ends : sight_of p (parts_of s i).line b ≡ Judges) where
      unwanted : is_wanted p memo bs ≡ false → Stays s i (Byte b)
      unwanted e =
          let none = stores_wanted (judged_of p bs) (is_again memo bs) memo.reader ∙ e in
          stays (Byte b) (ruling (settle heard.reader) heard.answer) (ruled s w i b line p speaks ends false e (store_of s)) (heard_keeps (judged_of p bs) (is_again memo bs) memo.reader none) refl
          (ap is_decision (hearing_class (judged_of p bs) (is_again memo bs) memo.reader none))

      wanted : is_wanted p memo bs ≡ true → (room : Bool) → has_space s i (length (finding_of p bs)) ≡ room → Stays s i (Byte b) ⊎ Files s i (Byte b) p
      wanted e true has =
          let of = ruled_room s w i b line p speaks ends e true has in
          let right = wanted_results p memo bs e in
          inr
          (record {
            bs = bs;
            right = right;
            kept = ap (kept_block p) (memo_then (Byte b) (ruling file Filed) of) ∙ kept_new p memo bs (w.blocks i line) (results_length_law p bs right);
            number = ap answered (told_is s w i (Byte b) line p speaks (ruling file Filed) of);
            text = ap completed_in (offers s w i b line p speaks ends true e);
          })
      wanted e false has =
          let of = ruled_room s w i b line p speaks ends e false has in
          inl
          (record {
            kept = ap (λ (m : Memo). m.reader.kept) (memo_then (Byte b) (ruling (settle memo.reader) Crowded) of);
            block = ap (λ (m : Memo). m.block) (memo_then (Byte b) (ruling (settle memo.reader) Crowded) of);
            unstored = ap (λ (r : Response). eqb (answered r) 4) (told_is s w i (Byte b) line p speaks (ruling (settle memo.reader) Crowded) of);
          })

      by_wanted : (c : Bool) → is_wanted p memo bs ≡ c → Stays s i (Byte b) ⊎ Files s i (Byte b) p
      by_wanted true e = wanted e (has_space s i (length (finding_of p bs))) refl
      by_wanted false e = inl (unwanted e)

    by_seen : (x : Sight) → sight_of p (parts_of s i).line b ≡ x → Stays s i (Byte b) ⊎ Files s i (Byte b) p
    by_seen Ignores e = inl (stays (Byte b) (ruling leave Nothing) ((by_sight s w i b line p speaks Ignores e).1 (store_of s)) refl refl refl)
    by_seen Adds e = inl (stays (Byte b) (ruling add Nothing) ((by_sight s w i b line p speaks Adds e).1 (store_of s)) refl refl refl)
    by_seen Judges e = by_wanted e (is_wanted p memo bs) refl

  seconds_stay : (n : ℕ) → Stays s i (Seconds n)
  unfolding ruling_of
  seconds_stay n = stays (Seconds n) (ruling leave Nothing) refl refl refl refl

  stays_or_files : (k : Kind) → Stays s i k ⊎ Files s i k p
  stays_or_files (Byte b) = by_seen b (sight_of p (parts_of s i).line b) refl
  stays_or_files (Seconds n) = inl (seconds_stay n)

-- ---- every item: texts are those stored on the line so far

abbrev Keeps : ℕ → State → List (List ℕ) → Type 0
Keeps i s texts = (memo_at s.gateway i).reader.kept ≡ true → KeepsLast s i texts

-- what is kept stays, and nothing is stored
same_keeps : (i : ℕ) (s t : State) (texts added : List (List ℕ)) → (memo_at t.gateway i).reader.kept ≡ (memo_at s.gateway i).reader.kept
    → (memo_at t.gateway i).block ≡ (memo_at s.gateway i).block → dialogue_at t.gateway i ≡ dialogue_at s.gateway i → added ≡ [] → Keeps i s texts → Keeps i t (texts ++ added)
same_keeps i s t texts added kept block spoken none before now =
    let x = before (sym kept ∙ now) in
    let n = results_length x.patient in
    record {
      patient = x.patient;
      speaks = spoken ∙ x.speaks;
      right = ap (λ (y : List ℕ). judged_of x.patient (take n y)) block ∙ x.right;
      last = record {
        before = x.last.before;
        is =
            ap (λ (ts : List (List ℕ)). texts ++ ts) none ∙ append-nil texts ∙ x.last.is
            ∙ ap (λ (y : List ℕ). x.last.before ++ (finding_of x.patient (take n y) ∷ [])) (sym block);
      };
    }

module _ (i : ℕ) (line : i < lines) (s : State) (w : Sound s) (texts : List (List ℕ)) (before : Keeps i s texts) where
  abbrev v : Intact s
  v = sound_intact s w

  abbrev then : GatewayItem → State
  then e = (step s e).1

  spoken : (e : GatewayItem) → dialogue_at (then e).gateway i ≡ dialogue_at s.gateway i
  spoken e = ap (λ (t : Settings). t.dialogue) (item_settings s e i)

  -- an item of another line
  other_keeps : (l : ℕ) (k : Kind) → l < lines → i ≢ l → Keeps i (then (came l k)) (texts ++ stored_on i s (came l k))
  other_keeps l k m n =
      let same = event_others s v l k m i n in
      same_keeps i s (then (came l k)) texts (stored_on i s (came l k)) (ap (λ (q : Parts). q.memo.reader.kept) same) (ap (λ (q : Parts). q.memo.block) same) (spoken (came l k))
      (rw (ne_eqb l i (λ q. n (sym q)))) before

  -- one of its own
  own_frames_law : (k : Kind) → dialogue_at s.gateway i ≡ Frames → Keeps i (then (came i k)) (texts ++ stored_on i s (came i k))
  own_frames_law k e now =
      let kept = ap (λ (q : Parts). q.memo.reader.kept) (event_own s v i k line ∙ ap (λ (r : Response × Parts × Store). r.1) (on_frames_law (parts_of s i) i k (store_of s) e)) in
      let z : Frames ≡ Blocks (before (sym kept ∙ now)).patient = sym e ∙ (before (sym kept ∙ now)).speaks in
      clash cc

  own_blocks : (k : Kind) (p : Patient) → dialogue_at s.gateway i ≡ Blocks p → Stays s i k ⊎ Files s i k p → Keeps i (then (came i k)) (texts ++ stored_on i s (came i k))
  own_blocks k p e (inl x) =
      same_keeps i s (then (came i k)) texts (stored_on i s (came i k)) x.kept x.block (spoken (came i k)) (rw (eq-eqb i i refl, x.unstored)) before
  own_blocks k p e (inr x) = λ now. record {
    patient = p;
    speaks = spoken (came i k) ∙ e;
    right = ap (judged_of p) x.kept ∙ x.right;
    last = record {
      before = texts;
      is =
          ap (λ (n : ℕ). texts ++ cond (eqb i i && eqb n 4) (completed s i k ∷ []) []) x.number
          ∙ rw (eq-eqb i i refl) (ap (λ (t : List ℕ). texts ++ (t ∷ [])) (x.text ∙ ap (finding_of p) (sym x.kept)));
    };
  }

  own_keeps : (k : Kind) → Keeps i (then (came i k)) (texts ++ stored_on i s (came i k))
  own_keeps k = by_dialogue_law (dialogue_at s.gateway i) refl
    where
      by_dialogue_law : (d : Dialogue) → dialogue_at s.gateway i ≡ d → Keeps i (then (came i k)) (texts ++ stored_on i s (came i k))
      by_dialogue_law Frames e = own_frames_law k e
      by_dialogue_law (Blocks p) e = own_blocks k p e (stays_or_files s v i line p e k)

  item_keeps : (e : GatewayItem) → May e → Keeps i (then e) (texts ++ stored_on i s e)
  unfolding start_of take_of
  item_keeps (event l (happens k)) m = elim (ℕ_discrete i l) [
    | yes q ↦ subst (λ (x : ℕ). Keeps i (then (came x k)) (texts ++ stored_on i s (came x k))) q (own_keeps k)
    | no n ↦ other_keeps l k m n
  ]
  item_keeps (event l (starts text)) m = same_keeps i s (then (event l (starts text))) texts [] refl refl (spoken (event l (starts text))) refl before
  item_keeps (taking l b) m = same_keeps i s (then (taking l b)) texts [] refl refl (spoken (taking l b)) refl before

run_keeps : (i : ℕ) → i < lines → (s : State) (es : List GatewayItem) → Sound s → Every May es → (texts : List (List ℕ)) → Keeps i s texts → Keeps i (final step s es) (texts ++ all_stored i s es)
run_keeps i line s [] w may texts before = subst (Keeps i s) (sym (append-nil texts)) before
run_keeps i line s (e ∷ es) w may texts before =
    let t = (step s e).1 in
    subst (Keeps i (final step t es)) (append_assoc texts (stored_on i s e) (all_stored i t es))
    (run_keeps i line t es (keeps s e w may.0) may.1 (texts ++ stored_on i s e) (item_keeps i line s w texts before e may.0))

-- ---- over runs

-- a block that begins a kept one is its beginning
begins_is : (bs kept : List ℕ) → begins_with bs kept ≡ true → take (length bs) kept ≡ bs
begins_is [] kept e = refl
begins_is (b ∷ bs) [] e = clash cc
begins_is (b ∷ bs) (k ∷ kept) e =
    let same : b ≡ k = eqb-true b k (and_left (eqb b k) (begins_with bs kept) e) in
    let rest = begins_is bs kept (and_right (eqb b k) (begins_with bs kept) e) in
    λ z. (sym same) z ∷ rest z

-- a repeat is the kept block, byte for byte
pub again_is : (p : Patient) (w : Memo) (bs : List ℕ) → judged_of p bs ≡ Results → is_again w bs ≡ true → (kept_block p w ≡ bs) × (w.reader.kept ≡ true)
again_is p w bs right e =
    let rest = and_right w.reader.since (w.reader.kept && begins_with bs w.block) e in (
      ap (λ (n : ℕ). take n w.block) (sym (results_length_law p bs right)) ∙ begins_is bs w.block (and_right w.reader.kept (begins_with bs w.block) rest),
      and_left w.reader.kept (begins_with bs w.block) rest,
    )

stored_append : (i : ℕ) (s : State) (es fs : List GatewayItem) → all_stored i s (es ++ fs) ≡ all_stored i s es ++ all_stored i (final step s es) fs
stored_append i s [] fs = refl
stored_append i s (e ∷ es) fs =
    ap (λ (ts : List (List ℕ)). stored_on i s e ++ ts) (stored_append i (step s e).1 es fs)
    ∙ sym (append_assoc (stored_on i s e) (all_stored i (step s e).1 es) (all_stored i (final step (step s e).1 es) fs))

module _ (began : Beginning) (right : Right began) (es : List GatewayItem) (may : Every May es) (i : ℕ) (line : i < lines) where
  abbrev s : State
  s = final step (fresh began) es

  -- after every run a kept block is a right one with results, and its finding is the last text stored on the line in that run
  pub kept_stored : (memo_at s.gateway i).reader.kept ≡ true → KeptStored began es i
  kept_stored = run_keeps i line (fresh began) es (fresh_sound began right) may [] nothing_yet
    where
      nothing_yet : Keeps i (fresh began) []
      nothing_yet e =
          let z : false ≡ true = sym (ap (λ (m : Memo). m.reader.kept) (get_or-replicate lines i fresh_memo fresh_memo line)) ∙ e in
          clash cc

  -- so a block with results gets MOR only if its finding is the last text stored on the line in the run, this event counted
  module _ (b : ℕ) (p : Patient) (ends : Ends s i b p) (is : judged_of p (block_at s i b) ≡ Results) (more : (step s (came i (Byte b))).0.buffer ≢ []) where
    abbrev finding : List ℕ
    finding = finding_of p (block_at s i b)

    abbrev now : List (List ℕ)
    now = all_stored i (fresh began) (es ++ (came i (Byte b) ∷ []))

    now_is : (added : List (List ℕ)) → stored_on i s (came i (Byte b)) ≡ added → now ≡ all_stored i (fresh began) es ++ added
    now_is added e =
        stored_append i (fresh began) es (came i (Byte b) ∷ []) ∙ ap (λ (ts : List (List ℕ)). all_stored i (fresh began) es ++ ts) (append-nil (stored_on i s (came i (Byte b))) ∙ e)

    by_told : ResultsTold s i b p → LastOf now finding
    by_told (filed was room text x) =
        let added : stored_on i s (came i (Byte b)) ≡ finding ∷ [] = rw (eq-eqb i i refl, x.number_is) (ap (λ (t : List ℕ). t ∷ []) text) in
        record { before = all_stored i (fresh began) es; is = now_is (finding ∷ []) added }
    by_told (crowded was room kept x) = absurd (more x.out_is)
    by_told (repeated was kept x) =
        let (same, held) = again_is p (memo_at s.gateway i) (block_at s i b) is was in
        let k = kept_stored held in
        let z : Blocks k.patient ≡ Blocks p = sym k.speaks ∙ ends.speaks in
        let q : k.patient ≡ p = cc z in
        let none : stored_on i s (came i (Byte b)) ≡ [] = rw (eq-eqb i i refl, x.number_is) in
        record {
          before = k.last.before;
          is =
              now_is [] none ∙ append-nil (all_stored i (fresh began) es) ∙ k.last.is
              ∙ (λ z. k.last.before ++ (finding_of (q z) (kept_block (q z) (memo_at s.gateway i)) ∷ []))
              ∙ ap (λ (t : List ℕ). k.last.before ++ (finding_of p t ∷ [])) same;
        }

    pub more_stored : LastOf now finding
    more_stored = by_told (results_told s (sound_intact s (always_sound began right es may)) i b line p ends is)
