-- What is read after what is kept of a strip reader was put into the numbers: it is read back, and every other number is as it was.
-- Assumes nothing.
use Rattle.strips.specs.declared.Reply.TheVariants.{Again, More}
use Rattle.strips.specs.declared.Reply.{Reply}
use Rattle.std.specs.Prelude.{None, Option, Some}
use mathlib.Core.Path.{◌≡◌, refl, sym, ap, ◌∙◌}
use mathlib.Core.Logic.{◌≢◌}
use mathlib.Core.Bool.{Bool, true, false, cond, ◌&&◌}
use mathlib.Core.List.{List, [], ◌∷◌}
use Prim.Native.Nat.{ℕ, zero, suc, ◌+◌, ◌≤◌, ◌<◌}
use native.Mathlib.Decide.{dec_lt, ℕ_discrete}
use native.Mathlib.Omega.{arith}
use borrow.Author.Tests.{leb-true, le-leb}
use lib.Dec.{eqb, leb, ltb}
use lib.ListN.{length, get_or, set, length-set}
use lib.Seq.{sets, length-sets, get_or-set_same}
use Rattle.memory.specs.Sizes.{lines}
use Rattle.memory.proofs.Tests.{clash, and_left, and_right, and_both}
use Rattle.settings.specs.Settings.{block_limit, results_length}
use Rattle.settings.specs.declared.Patient.{Patient}
use Rattle.settings.specs.declared.Patient.TheVariants.{Ten, Thirteen}
use Rattle.settings.specs.declared.Dialogue.{Dialogue}
use Rattle.settings.specs.declared.Dialogue.TheVariants.{Frames, Blocks}
use Rattle.journal.specs.declared.Ledger.{Ledger}
use Rattle.line.specs.Line.{most_collected, block_within}
use Rattle.line.specs.declared.Line.{Line}
use Rattle.layout.specs.Layout.{fields, speaks_at, kept_at, start, number_at, block_start, numbers_size}
use Rattle.ledger.specs.Ledgers.{ledger_of}
use Rattle.strips.specs.Readers.{Memo}
use Rattle.strips.specs.Replies.{replied_of, reply_number}
use Rattle.numbers.specs.Plain.{most_reply, reader_fits, block_fits, speech_fits, within_numbers, dialogue_of, line_of}
use Rattle.keeping.specs.Keeping.{yes as flag, reader_of, numbers_from, kept_block, memo_of, with_reader, with_memo}
use Rattle.ledger.proofs.Ledgers.{again}
use Rattle.keeping.proofs.Blocks.{put_again}
use Rattle.ngachodui_laws.proofs.Stores.{sets_before, sets_behind, sets_in, numbers_alike, stored, stored_length, number_other, spare_stays, collected_own, line_alike, within_alike, fits_alike, all_within_alike, within_other, readers_stay, counts_facts, within_by}

-- what was put is read
pub numbers_put : (vs ns : List ℕ) (at : ℕ) → at + length vs ≤ length ns → numbers_from (sets ns at vs) at (length vs) ≡ vs
numbers_put [] ns at h = refl
numbers_put (v ∷ vs) ns at h =
    let here : get_or (sets (set ns at v) (suc at) vs) at 0 ≡ v = sets_before vs (set ns at v) (suc at) at (omega arith) ∙ get_or-set_same ns at v 0 (omega arith) in
    let long : length (set ns at v) ≡ length ns = length-set ns at v in
    let rest = numbers_put vs (set ns at v) (suc at) (omega arith) in
    λ z. here z ∷ rest z

-- what a reader's numbers stand for is the reader
reply_back : (r : Option Reply) → replied_of (reply_number r) ≡ r
reply_back None = refl
reply_back (Some More) = refl
reply_back (Some Again) = refl

reply_low : (r : Option Reply) → reply_number r ≤ most_reply
reply_low None = omega arith
reply_low (Some More) = omega arith
reply_low (Some Again) = omega arith

flag_back : (b : Bool) → eqb (flag b) 1 ≡ b
flag_back true = refl
flag_back false = refl

flag_low : (b : Bool) → flag b ≤ 1
flag_low true = omega arith
flag_low false = omega arith

module _ (ns : List ℕ) (i : ℕ) (w : Memo) where
  abbrev pub kept : List ℕ
  kept = with_memo ns i w

  abbrev reader_numbers : List ℕ
  reader_numbers = reply_number w.reader.reply ∷ flag w.reader.since ∷ flag w.reader.kept ∷ []

  abbrev marked : List ℕ
  marked = sets ns (start i + 11) reader_numbers

  reader_row : with_reader ns i w.reader ≡ marked
  unfolding with_reader
  reader_row =
      let p₁ : start i + 12 ≡ suc (start i + 11) = omega arith in
      let p₂ : start i + 13 ≡ suc (suc (start i + 11)) = omega arith in
      rw (p₁, p₂)

  as_rows : kept ≡ sets marked (block_start i) w.block
  as_rows = ap (λ (x : List ℕ). sets x (block_start i) w.block) reader_row

  pub kept_length : length kept ≡ length ns
  kept_length = ap length as_rows ∙ length-sets marked (block_start i) w.block ∙ length-sets ns (start i + 11) reader_numbers

  read : (p : ℕ) → get_or kept p 0 ≡ get_or (sets marked (block_start i) w.block) p 0
  read p = ap (λ (x : List ℕ). get_or x p 0) as_rows

  module _ (h : i < lines) where
    -- in front of the blocks, the reader's three numbers aside
    low : (p : ℕ) → p < start i + 11 → get_or kept p 0 ≡ get_or ns p 0
    low p q = read p ∙ sets_before w.block marked (block_start i) p (omega arith) ∙ sets_before reader_numbers ns (start i + 11) p q

    middle : (p : ℕ) → start i + 14 ≤ p → p < block_start i → get_or kept p 0 ≡ get_or ns p 0
    middle p q r = read p ∙ sets_before w.block marked (block_start i) p r ∙ sets_behind reader_numbers ns (start i + 11) p (omega arith)

    -- the other numbers of its own, and the numbers of another line
    pub kept_low : (m : ℕ) → m < 11 → number_at kept i m ≡ number_at ns i m
    kept_low m q = low (start i + m) (omega arith)

    pub kept_spare : (m : ℕ) → 13 < m → m < fields → number_at kept i m ≡ number_at ns i m
    kept_spare m q r = middle (start i + m) (omega arith) (omega arith)

    pub kept_other : (k m : ℕ) → k < lines → k ≢ i → m < fields → number_at kept k m ≡ number_at ns k m
    kept_other k m q n r = elim (dec_lt k i) [
      | yes a ↦ low (start k + m) (omega arith)
      | no a ↦ middle (start k + m) (omega arith) (omega arith)
    ]

    -- and the last stored block of another
    module _ (long : length w.block ≡ block_limit) where
      pub block_other : (k : ℕ) → k ≢ i → kept_block kept k ≡ kept_block ns k
      block_other k n = elim (dec_lt k i) [
        | yes a ↦ numbers_alike ns kept (block_start k) block_limit (λ p b c. middle p (omega arith) (omega arith))
        | no a ↦ numbers_alike ns kept (block_start k) block_limit (λ p b c.
            read p ∙ sets_behind w.block marked (block_start i) p (omega arith) ∙ sets_behind reader_numbers ns (start i + 11) p (omega arith))
      ]

      pub memo_other : (k : ℕ) → k < lines → k ≢ i → memo_of kept k ≡ memo_of ns k
      memo_other k q n =
          let reply = kept_other k 11 q n (omega arith) in
          let since = kept_other k 12 q n (omega arith) in
          let stored = kept_other k 13 q n (omega arith) in
          let block = block_other k n in
          λ z. record { reader = record { reply = replied_of (reply z); since = eqb (since z) 1; kept = eqb (stored z) 1 }; block = block z }

      -- its own
      module _ (many : length ns ≡ numbers_size) where
        reader_number : (k : ℕ) → k < 3 → get_or kept (start i + 11 + k) 0 ≡ get_or reader_numbers k 0
        reader_number k q = read (start i + 11 + k) ∙ sets_before w.block marked (block_start i) (start i + 11 + k) (omega arith) ∙ sets_in reader_numbers ns (start i + 11) k q (omega arith)

        reply_own : number_at kept i 11 ≡ reply_number w.reader.reply
        reply_own = let at : start i + 11 ≡ start i + 11 + 0 = omega arith in ap (λ (p : ℕ). get_or kept p 0) at ∙ reader_number 0 (omega arith)

        since_own : number_at kept i 12 ≡ flag w.reader.since
        since_own = let at : start i + 12 ≡ start i + 11 + 1 = omega arith in ap (λ (p : ℕ). get_or kept p 0) at ∙ reader_number 1 (omega arith)

        kept_own : number_at kept i 13 ≡ flag w.reader.kept
        kept_own = let at : start i + 13 ≡ start i + 11 + 2 = omega arith in ap (λ (p : ℕ). get_or kept p 0) at ∙ reader_number 2 (omega arith)

        block_own : kept_block kept i ≡ w.block
        block_own =
            ap (λ (x : List ℕ). kept_block x i) as_rows ∙ ap (numbers_from (sets marked (block_start i) w.block) (block_start i)) (sym long)
            ∙ numbers_put w.block marked (block_start i) (omega (arith, long, many, length-sets ns (start i + 11) reader_numbers))

        pub memo_own : memo_of kept i ≡ w
        memo_own =
            let reply = ap replied_of reply_own ∙ reply_back w.reader.reply in
            let since = ap (λ (n : ℕ). eqb n 1) since_own ∙ flag_back w.reader.since in
            let stored = ap (λ (n : ℕ). eqb n 1) kept_own ∙ flag_back w.reader.kept in
            let block = block_own in
            λ z. record { reader = record { reply = reply z; since = since z; kept = stored z }; block = block z }

        pub fits_own : reader_fits kept i ≡ true
        fits_own = rw (reply_own, since_own, kept_own, le-leb _ _ (reply_low w.reader.reply), le-leb _ _ (flag_low w.reader.since), le-leb _ _ (flag_low w.reader.kept))

-- as they are
reply_number_law : (n : ℕ) → n ≤ most_reply → reply_number (replied_of n) ≡ n
reply_number_law zero h = refl
reply_number_law (suc zero) h = refl
reply_number_law (suc (suc zero)) h = refl
reply_number_law (suc (suc (suc n))) h = absurd (omega arith)

flag_number : (n : ℕ) → n ≤ 1 → flag (eqb n 1) ≡ n
flag_number zero h = refl
flag_number (suc zero) h = refl
flag_number (suc (suc n)) h = absurd (omega arith)

pub record ReaderNumbers (ns : List ℕ) (i : ℕ) : Type 0 where
  pub reply : reply_number (reader_of ns i).reply ≡ number_at ns i 11
  pub since : flag (reader_of ns i).since ≡ number_at ns i 12
  pub kept : flag (reader_of ns i).kept ≡ number_at ns i 13

pub reader_numbers_law : (ns : List ℕ) (i : ℕ) → reader_fits ns i ≡ true → ReaderNumbers ns i
reader_numbers_law ns i e =
    let rest = and_right (leb (number_at ns i 11) most_reply) _ e in
    record {
      reply = reply_number_law (number_at ns i 11) (leb-true _ _ (and_left (leb (number_at ns i 11) most_reply) _ e));
      since = flag_number (number_at ns i 12) (leb-true _ _ (and_left (leb (number_at ns i 12) 1) _ rest));
      kept = flag_number (number_at ns i 13) (leb-true _ _ (and_right (leb (number_at ns i 12) 1) _ rest));
    }

pub memo_back : (ns : List ℕ) (i : ℕ) → reader_fits ns i ≡ true → with_memo ns i (memo_of ns i) ≡ ns
unfolding with_reader
memo_back ns i e =
    let r = reader_numbers_law ns i e in
    rw (again ns (start i + 11) (reply_number (reader_of ns i).reply) r.reply, again ns (start i + 12) (flag (reader_of ns i).since) r.since, again ns (start i + 13) (flag (reader_of ns i).kept) r.kept)
    (put_again ns (block_start i) block_limit)

-- no number of a record is among them: each line's record is read as before, and so are its serials
module _ (ns : List ℕ) (i : ℕ) (w : Memo) (h : i < lines) where
  pub record_kept : (k m : ℕ) → k < lines → m ≤ speaks_at → number_at (kept ns i w) k m ≡ number_at ns k m
  record_kept k m q r = elim (ℕ_discrete k i) [
    | yes e ↦ rw e (kept_low ns i w h m (omega arith))
    | no n ↦ kept_other ns i w h k m q n (omega arith)
  ]

  pub kept_line : (k : ℕ) → k < lines → line_of (kept ns i w) k ≡ line_of ns k
  kept_line k q = line_alike ns (kept ns i w) k (λ m r. record_kept k m q r)

  pub kept_speech : speech_fits (kept ns i w) i ≡ speech_fits ns i → within_numbers (kept ns i w) i ≡ within_numbers ns i
  kept_speech e = within_alike ns (kept ns i w) i (λ m r. record_kept i m h r) e

  pub kept_within : (k : ℕ) → k < lines → k ≢ i → within_numbers (kept ns i w) k ≡ within_numbers ns k
  kept_within k q n = all_within_alike ns (kept ns i w) k (λ m r. kept_other ns i w h k m q n r)

  pub kept_fits : (k : ℕ) → k < lines → k ≢ i → reader_fits (kept ns i w) k ≡ reader_fits ns k
  kept_fits k q n = fits_alike ns (kept ns i w) k (λ m r. kept_other ns i w h k m q n r)

  pub kept_spares : (k m : ℕ) → k < lines → kept_at < m → m < fields → number_at (kept ns i w) k m ≡ number_at ns k m
  kept_spares k m q r t = elim (ℕ_discrete k i) [
    | yes e ↦ rw e (kept_spare ns i w h m r t)
    | no n ↦ kept_other ns i w h k m q n t
  ]

  pub kept_ledger : (us : List ℕ) → ledger_of (kept ns i w) us ≡ ledger_of ns us
  unfolding ledger_of
  kept_ledger us = rw (
    record_kept 0 7 (omega arith) (omega arith),
    record_kept 1 7 (omega arith) (omega arith),
    record_kept 2 7 (omega arith) (omega arith),
    record_kept 3 7 (omega arith) (omega arith),
    record_kept 4 7 (omega arith) (omega arith),
    record_kept 5 7 (omega arith) (omega arith),
    record_kept 6 7 (omega arith) (omega arith),
    record_kept 7 7 (omega arith) (omega arith),
  )

-- a reader's numbers fit what it speaks, where fewer are collected than its longest block has
pub speech_by : (ns ns' : List ℕ) (i : ℕ) (p : Patient) → speech_fits ns i ≡ true → number_at ns' i 10 ≡ number_at ns i 10 → dialogue_of (number_at ns i 10) ≡ Blocks p
    → ltb (number_at ns' i 1) (results_length p) ≡ true → reader_fits ns' i ≡ true → speech_fits ns' i ≡ true
unfolding speech_fits most_collected
speech_by ns ns' i p fits same speaks less reader = rw same (by (eqb (number_at ns i 10) 0) refl (eqb (number_at ns i 10) 10) refl)
  where
    fit : (q : Patient) → p ≡ q → block_fits ns' i (results_length q) ≡ true
    fit q e = and_both (ltb (number_at ns' i 1) (results_length q)) (reader_fits ns' i) (ap (λ (x : Patient). ltb (number_at ns' i 1) (results_length x)) (sym e) ∙ less) reader

    by : (a : Bool) → eqb (number_at ns i 10) 0 ≡ a → (b : Bool) → eqb (number_at ns i 10) 10 ≡ b
        → cond a (leb (number_at ns' i 1) (most_collected (line_of ns' i))) (cond b (block_fits ns' i (results_length Ten)) (eqb (number_at ns i 10) 13 && block_fits ns' i (results_length Thirteen))) ≡ true
    by true a b e = let z : ◌≡◌ {A = Dialogue} Frames (Blocks p) = rw a at speaks in clash cc
    by false a true e = let z : ◌≡◌ {A = Dialogue} (Blocks Ten) (Blocks p) = rw (a, e) at speaks in fit Ten cc
    by false a false e =
        let z : ◌≡◌ {A = Dialogue} (Blocks Thirteen) (Blocks p) = rw (a, e) at speaks in
        rw (and_left (eqb (number_at ns i 10) 13) _ (rw (a, e) at fits)) (fit Thirteen cc)

-- the record, the serial and what is kept of the reader, put after an event on a reader's line
module _ (ns : List ℕ) (i : ℕ) (l : Line) (d : Ledger) (w : Memo) where
  abbrev pub heard : List ℕ
  heard = kept (stored ns i l d) i w

  pub heard_length : length heard ≡ length ns
  heard_length = kept_length (stored ns i l d) i w ∙ stored_length ns i l d

  module _ (h : i < lines) (many : length ns ≡ numbers_size) (long : length w.block ≡ block_limit) where
    abbrev as_many : length (stored ns i l d) ≡ numbers_size
    as_many = stored_length ns i l d ∙ many

    pub heard_line : (k : ℕ) → k < lines → line_of heard k ≡ line_of (stored ns i l d) k
    heard_line k q = kept_line (stored ns i l d) i w h k q

    -- another line's numbers
    pub heard_other : (k m : ℕ) → k < lines → k ≢ i → m < fields → number_at heard k m ≡ number_at ns k m
    heard_other k m q n r = kept_other (stored ns i l d) i w h k m q n r ∙ number_other ns i l d k m n r

    -- every line's within the limits again
    pub heard_within : (p : Patient) → speech_fits ns i ≡ true → dialogue_of (number_at ns i 10) ≡ Blocks p → reader_fits ns i ≡ true → block_within p l ≡ true → within_numbers heard i ≡ true
    unfolding block_within
    heard_within p fits speaks reader within =
        let room : start i + fields ≤ length ns = omega arith in
        let less = and_left (ltb l.collected (results_length p)) _ within in
        let speaks-same = spare_stays ns i l d i 10 (omega arith) (omega arith) in
        let collected : ltb (number_at (stored ns i l d) i 1) (results_length p) ≡ true = ap (λ (n : ℕ). ltb n (results_length p)) (collected_own ns i l d room) ∙ less in
        let before : speech_fits (stored ns i l d) i ≡ true = speech_by ns (stored ns i l d) i p fits speaks-same speaks collected (readers_stay ns i l d i ∙ reader) in
        let low = kept_low (stored ns i l d) i w h in
        let after : speech_fits heard i ≡ true = speech_by (stored ns i l d) heard i p before (low 10 (omega arith)) (ap dialogue_of speaks-same ∙ speaks)
        (ap (λ (n : ℕ). ltb n (results_length p)) (low 1 (omega arith)) ∙ collected) (fits_own (stored ns i l d) i w h long as_many) in
        kept_speech (stored ns i l d) i w h (after ∙ sym before)
        ∙ within_by ns i l d room (counts_facts l (and_right (ltb l.collected (results_length p)) _ within)) before

    pub heard_within_other : (k : ℕ) → k < lines → k ≢ i → within_numbers heard k ≡ within_numbers ns k
    heard_within_other k q n = kept_within (stored ns i l d) i w h k q n ∙ within_other ns i l d k n

    pub heard_fits : (k : ℕ) → k < lines → reader_fits ns k ≡ true → reader_fits heard k ≡ true
    heard_fits k q f = elim (ℕ_discrete k i) [
      | yes e ↦ rw e (fits_own (stored ns i l d) i w h long as_many)
      | no n ↦ kept_fits (stored ns i l d) i w h k q n ∙ readers_stay ns i l d k ∙ f
    ]

    pub heard_spare : (k m : ℕ) → k < lines → kept_at < m → m < fields → number_at heard k m ≡ number_at ns k m
    heard_spare k m q r t = kept_spares (stored ns i l d) i w h k m q r t ∙ spare_stays ns i l d k m (omega arith) t
