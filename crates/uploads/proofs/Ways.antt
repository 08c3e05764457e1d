-- Each way out of the work on a block.
-- Assumes nothing.
use Rattle.std.specs.Result.{is_ok}
use Rattle.std.specs.Prelude.{Result, Ok, Err}
use Rattle.journal.specs.declared.Refusal.{Refusal}
use mathlib.Core.Path.{◌≡◌, refl, sym, ap, subst, ◌∙◌}
use mathlib.Core.Bool.{Bool, true, false}
use mathlib.Core.List.{List}
use Prim.Native.Nat.{ℕ, ◌+◌, ◌≤◌}
use native.Mathlib.Omega.{arith}
use lib.ListN.{length, length-append}
use Rattle.memory.specs.Sizes.{frame_part}
use Rattle.memory.proofs.Parts.{length_part}
use Rattle.room.specs.Room.{todays_shares}
use Rattle.settings.specs.Settings.{results_length, block_limit}
use Rattle.settings.specs.declared.Patient.{Patient}
use Rattle.header.proofs.Heads.{head_size_high}
use Rattle.journal.specs.Verdicts.{judge_of}
use Rattle.journal.specs.Storage.{grown, store_by, store_of, Stored}
use Rattle.journal.specs.declared.Ledger.{Ledger}
use Rattle.journal.specs.declared.Storing.{Storing}
use Rattle.journal.proofs.Judged.{fits_facts}
use Rattle.journal.proofs.Wholes.{kept}
use Rattle.line.specs.declared.Line.{Line}
use Rattle.answers.specs.declared.Answered.{Answered}
use Rattle.looking.specs.Views.{frame_start, frames_of}
use Rattle.looking.specs.declared.Kind.TheVariants.{Byte}
use Rattle.ledger.specs.Ledgers.{ledger_of, Narrow}
use Rattle.block.specs.Judged.{judged_of}
use Rattle.block.specs.declared.Judged.{Judged}
use Rattle.block.specs.declared.Judged.TheVariants as judged
use Rattle.block.proofs.Laws.{results_length_law}
use Rattle.finding.specs.Findings.{finding_of}
use Rattle.strips.specs.Readers.{is_again}
use Rattle.strips.specs.Hearings.{hearing_of}
use Rattle.strips.specs.declared.Hearing.{Hearing}
use Rattle.strips.specs.declared.Reader.{Reader}
use Rattle.keeping.specs.Keeping.{reader_of, memo_of}
use Rattle.uploads.specs.Uploads.{settle, Ruling, ruling, filing, heard_by, judged_block, ledger_by, journal_by, block_bytes}
use Rattle.uploads.specs.Inner.Ruled.{Reading, Acted, Ruled}
use Rattle.uploads.proofs.Readings.{results_fit, reader_within}
use Rattle.uploads.proofs.Acts.{acted}

-- what storing a finding does is what the journal's answer comes to
store_row : (q : Result (Unit {0}) Refusal) (r : Reader) (d : Ledger) (i : ℕ) (text j : List ℕ)
    → ((store_by q d i text j).storing.answer ≡ q)
    × ((store_by q d i text j).storing.ledger ≡ ledger_by (filing q r).deed d i text)
    × ((store_by q d i text j).journal ≡ journal_by (filing q r).deed d i text j)
store_row (Ok tt) r d i text j = (refl, refl, refl)
store_row (Err Refusal.NoRoom) r d i text j = (refl, refl, refl)
store_row (Err Refusal.Broken) r d i text j = (refl, refl, refl)
store_row (Err Refusal.NoLine) r d i text j = (refl, refl, refl)
store_row (Err Refusal.WrongSize) r d i text j = (refl, refl, refl)
store_row (Err Refusal.Malformed) r d i text j = (refl, refl, refl)

-- an entry that fits leaves fewer bytes in use than the journal and one entry have: a number of 32 bits
pub grown_narrow : (d : Ledger) (i : ℕ) (j : List ℕ) (n : ℕ) → is_ok (judge_of d todays_shares i n j) ≡ true → Narrow (grown d i n)
unfolding grown
grown_narrow d i j n q =
    let f = fits_facts d todays_shares i n j q in
    let k = kept d j f.whole in
    omega (arith, k.whole.room, f.long, f.high, head_size_high n)

-- and so does a storing
pub stored_narrow : (d : Ledger) (i : ℕ) (t j : List ℕ) {s : Storing} {j' : List ℕ} → Narrow d → Stored d todays_shares i t j s j' → Narrow s.ledger
unfolding store_of
stored_narrow d i t j w st = subst (λ (x : Storing). Narrow x.ledger) (sym st.result) (by_verdict (judge_of d todays_shares i (length t) j) refl)
  where
    by_verdict : (q : Result (Unit {0}) Refusal) → judge_of d todays_shares i (length t) j ≡ q → Narrow (store_by q d i t j).storing.ledger
    by_verdict (Ok tt) e = grown_narrow d i j (length t) (ap is_ok e)
    by_verdict (Err Refusal.NoRoom) e = w
    by_verdict (Err Refusal.Broken) e = w
    by_verdict (Err Refusal.NoLine) e = w
    by_verdict (Err Refusal.WrongSize) e = w
    by_verdict (Err Refusal.Malformed) e = w

-- only a right block with results is for storing
pub stores_results : (q : Judged) (again : Bool) (r : Reader) → (hearing_of q again r).stores ≡ true → q ≡ judged.Results
stores_results judged.OddLength again r h = cc
stores_results judged.OddTest again r h = cc
stores_results judged.OddByte again r h = cc
stores_results judged.Multiple again r h = cc
stores_results judged.Repeat again r h = cc
stores_results judged.End again r h = cc
stores_results judged.Colours again r h = cc
stores_results judged.Results again r h = refl

module _ (ns us f : List ℕ) (p : Patient) (l : Line) (i b : ℕ) (g : Reading ns f p l i) where
  abbrev own : List ℕ
  own = block_bytes l b (frames_of i f)

  -- the block that a byte makes
  own_long : length own ≡ l.collected + 1
  own_long =
      let few = (reader_within ns f p l i g).few in
      let most = results_fit p in
      let size = g.size in
      let there = g.there in
      let lies : length (frames_of i f) ≡ frame_part = length_part f (frame_start i) frame_part (omega arith) in
      simp length-append (omega (arith, length_part (frames_of i f) 0 l.collected (omega arith)))

  pub own_fits : length own ≤ block_limit
  own_fits = omega (arith, own_long, (reader_within ns f p l i g).few, results_fit p)

  module _ (j : List ℕ) {bs : List ℕ} (is : bs ≡ own) where
    -- heard, and not for storing
    pub heard : {h : Hearing} {r : Answered} {ns' f' : List ℕ} → h ≡ hearing_of (judged_of p bs) (is_again (memo_of ns i) bs) (reader_of ns i) → h.stores ≡ false
        → Acted ns us f l i b bs (ledger_of ns us) (ruling (settle h.reader) h.answer) r ns' us f'
        → Ruled ns us j f p l i (Byte b) (judged_block todays_shares p l (memo_of ns i) (ledger_of ns us) i bs j) r ns' us j f'
    heard {h} {r} {ns'} {f'} e n a =
        let as_own : Acted ns us f l i b own (ledger_of ns us) (ruling (settle h.reader) h.answer) r ns' us f' = rw is at a in
        let was : heard_by h (reader_of ns i) (judge_of (ledger_of ns us) todays_shares i (length (finding_of p bs)) j) ≡ ruling (settle h.reader) h.answer = rw n in
        subst (λ (x : Ruling). Ruled ns us j f p l i (Byte b) x r ns' us j f')
        (sym was ∙ ap (λ (x : Hearing). heard_by x (reader_of ns i) (judge_of (ledger_of ns us) todays_shares i (length (finding_of p bs)) j)) e)
        (acted ns us f p l i g j b (ruling (settle h.reader) h.answer) own_fits refl refl as_own)

    -- heard, and stored or not
    pub heard_results : {h : Hearing} → h ≡ hearing_of (judged_of p bs) (is_again (memo_of ns i) bs) (reader_of ns i) → h.stores ≡ true → length bs ≡ results_length p
    heard_results e s = results_length_law p bs (stores_results (judged_of p bs) (is_again (memo_of ns i) bs) (reader_of ns i) (ap (λ (x : Hearing). x.stores) (sym e) ∙ s))

    pub heard_filed : {h : Hearing} {r : Answered} {ns' us' j' f' : List ℕ} → h ≡ hearing_of (judged_of p bs) (is_again (memo_of ns i) bs) (reader_of ns i) → h.stores ≡ true
        → Ruled ns us j f p l i (Byte b) (filing (judge_of (ledger_of ns us) todays_shares i (length (finding_of p bs)) j) (reader_of ns i)) r ns' us' j' f'
        → Ruled ns us j f p l i (Byte b) (judged_block todays_shares p l (memo_of ns i) (ledger_of ns us) i bs j) r ns' us' j' f'
    heard_filed {h} {r} {ns'} {us'} {j'} {f'} e s a =
        let q = judge_of (ledger_of ns us) todays_shares i (length (finding_of p bs)) j in
        let stores : (hearing_of (judged_of p bs) (is_again (memo_of ns i) bs) (reader_of ns i)).stores ≡ true = ap (λ (x : Hearing). x.stores) (sym e) ∙ s in
        let was : judged_block todays_shares p l (memo_of ns i) (ledger_of ns us) i bs j ≡ filing q (reader_of ns i) = rw stores in
        subst (λ (x : Ruling). Ruled ns us j f p l i (Byte b) x r ns' us' j' f') (sym was) a

    -- the journal asked, and the line left with what it says
    pub filed_ruled : {d : Ledger} {s : Storing} {j' : List ℕ} {r : Answered} {ns' us' f' : List ℕ} → d ≡ ledger_of ns us → Stored d todays_shares i (finding_of p bs) j s j'
        → Acted ns us f l i b bs s.ledger (filing s.answer (reader_of ns i)) r ns' us' f'
        → Ruled ns us j f p l i (Byte b) (filing (judge_of (ledger_of ns us) todays_shares i (length (finding_of p bs)) j) (reader_of ns i)) r ns' us' j' f'
    unfolding store_of
    filed_ruled {d} {s} {j'} {r} {ns'} {us'} {f'} e st a =
        let t = finding_of p own in
        let q = judge_of (ledger_of ns us) todays_shares i (length t) j in
        let stored : Stored (ledger_of ns us) todays_shares i t j s j' = rw (e, is) at st in
        let (answer, ledger, journal) = store_row q (reader_of ns i) (ledger_of ns us) i t j in
        let said : s.answer ≡ q = ap (λ (x : Storing). x.answer) stored.result ∙ answer in
        let done : Acted ns us f l i b own s.ledger (filing q (reader_of ns i)) r ns' us' f' = rw (is, said) at a in
        rw is (acted ns us f p l i g j b (filing q (reader_of ns i)) own_fits (ap (λ (x : Storing). x.ledger) stored.result ∙ ledger) (stored.after ∙ journal) done)
