-- The gateway that a host's numbers stand for tells the numbers, where they are in order: a host keeps nothing else.
-- Assumes nothing.
use mathlib.Core.Path.{◌≡◌, refl, sym, ap, ◌∙◌}
use mathlib.Core.Bool.{Bool, true, false}
use mathlib.Core.List.{List}
use Prim.Native.Nat.{ℕ, zero, suc, ◌+◌, ◌*◌, ◌-◌, ◌/◌, ◌%◌, ◌<◌}
use native.Mathlib.Nat.{add-zero}
use native.Mathlib.Decide.{dec_lt}
use native.Mathlib.Omega.{arith}
use borrow.Author.Tests.{eqb-true}
use lib.Dec.{eqb}
use lib.ListN.{length, get_or}
use lib.Seq.{ext_get_or}
use Rattle.memory.specs.Sizes.{lines}
use Rattle.memory.proofs.Tests.{and_left}
use Rattle.settings.specs.Settings.{block_limit}
use Rattle.settings.specs.declared.Patient.TheVariants.{Ten, Thirteen}
use Rattle.settings.specs.declared.Dialogue.{Dialogue}
use Rattle.settings.specs.declared.Dialogue.TheVariants.{Frames, Blocks}
use Rattle.strips.specs.Readers.{Memo}
use Rattle.strips.specs.Replies.{reply_number}
use Rattle.journal.specs.declared.Ledger.{Ledger}
use Rattle.line.specs.declared.Line.{Line}
use Rattle.gateway.specs.Events.{line_at, memo_at}
use Rattle.gateway.specs.Gateway.{Gateway}
use Rattle.journal_laws.specs.Runs.{State as Store}
use Rattle.promises.specs.Machine.{State, store_of}
use Rattle.layout.specs.Layout.{fields, start, first_at, number_at, block_start, frames, blocks_of10, blocks_of13}
use Rattle.ledger.specs.Ledgers.{ledger_of}
use Rattle.numbers.specs.Plain.{state_number, tries_number, place_number, last_number, flag, speech_fits, within_numbers, line_of}
use Rattle.keeping.specs.Keeping.{yes as one_if, numbers_from, memo_of}
use Rattle.ledger.proofs.Ledgers.{used_at, serial_at_law}
use Rattle.numbers.proofs.Numbers.{numbers_facts, StateBack, state_back, last_back, flag_back}
use Rattle.calls.specs.Calls.{HostState}
use Rattle.ngachodui_laws.specs.Hosting.{gateway_of, Ordered}
use Rattle.ngachodui_laws.specs.HostRuns.{gateway_state, InOrder}
use Rattle.ngachodui_laws.specs.Outcomes.{StoreKept}
use Rattle.ngachodui_laws.proofs.PutBack.{line_at_law, memo_at_law, in_use_back}
use Rattle.ngachodui_laws.proofs.Memos.{reader_numbers_law}

-- the counts are told by the ledger
same_counts : (ns ns' us us' : List ℕ) → length us ≡ lines + 1 → length us' ≡ lines + 1 → ledger_of ns us ≡ ledger_of ns' us' → us ≡ us'
same_counts ns ns' us us' long long' same =
    ext_get_or 0 us us' (long ∙ sym long') each
  where
    each : (k : ℕ) → k < length us → get_or us k 0 ≡ get_or us' k 0
    each k h = elim (dec_lt k lines) [
      | yes q ↦ sym (used_at ns us k q) ∙ ap (λ (d : Ledger). get_or d.used k 0) same ∙ used_at ns' us' k q
      | no q ↦
          let last : k ≡ lines = omega (arith, long) in
          ap (λ (x : ℕ). get_or us x 0) last ∙ sym (in_use_back ns us) ∙ ap (λ (d : Ledger). d.in_use) same ∙ in_use_back ns' us' ∙ ap (λ (x : ℕ). get_or us' x 0) (sym last)
    ]

-- and so is each serial
same_serial : (ns ns' us us' : List ℕ) (i : ℕ) → i < lines → ledger_of ns us ≡ ledger_of ns' us' → number_at ns i 7 ≡ number_at ns' i 7
same_serial ns ns' us us' i h same = sym (serial_at_law ns us i h) ∙ ap (λ (d : Ledger). get_or d.serials i 0) same ∙ serial_at_law ns' us' i h

-- what a line speaks is told by its dialogue
abbrev speaks_number : Dialogue → ℕ
speaks_number Frames = frames
speaks_number (Blocks Ten) = blocks_of10
speaks_number (Blocks Thirteen) = blocks_of13

speaks_back : (ns : List ℕ) (i : ℕ) → within_numbers ns i ≡ true → speaks_number (line_of ns i).settings.dialogue ≡ number_at ns i 10
unfolding speech_fits
speaks_back ns i w = by (eqb (number_at ns i 10) 0) refl (eqb (number_at ns i 10) 10) refl
  where
    fits : speech_fits ns i ≡ true
    fits = (numbers_facts ns i w).speech

    by : (a : Bool) → eqb (number_at ns i 10) 0 ≡ a → (b : Bool) → eqb (number_at ns i 10) 10 ≡ b → speaks_number (line_of ns i).settings.dialogue ≡ number_at ns i 10
    by true p b q = rw p (sym (eqb-true (number_at ns i 10) 0 p))
    by false p true q = rw (p, q) (sym (eqb-true (number_at ns i 10) 10 q))
    by false p false q = rw (p, q) (sym (eqb-true (number_at ns i 10) 13 (and_left (eqb (number_at ns i 10) 13) _ (rw (p, q) at fits))))

-- a number among those that stand one behind the other
number_from_law : (ns : List ℕ) (at n k : ℕ) → k < n → get_or (numbers_from ns at n) k 0 ≡ get_or ns (at + k) 0
number_from_law ns at zero k h = absurd (omega arith)
number_from_law ns at (suc n) zero h = rw (add-zero at)
number_from_law ns at (suc n) (suc k) h = let next : at + suc k ≡ suc at + k = omega arith in rw next (number_from_law ns (suc at) n k (omega arith))

-- a line's numbers are told by its record, what is kept of its reader and its serial: within their limits each stands for one value
module _ (ns ns' us us' : List ℕ) (o : Ordered ns us) (o' : Ordered ns' us') (same : gateway_of ns us ≡ gateway_of ns' us') where
  module _ (i : ℕ) (h : i < lines) where
    line : line_of ns i ≡ line_of ns' i
    line = sym (line_at_law ns i h) ∙ ap (λ (g : Gateway). line_at g i) same ∙ line_at_law ns' i h

    memo : memo_of ns i ≡ memo_of ns' i
    memo = sym (memo_at_law ns i h) ∙ ap (λ (g : Gateway). memo_at g i) same ∙ memo_at_law ns' i h

    back : StateBack (first_at ns i) (number_at ns i 8) (number_at ns i 9)
    back = let w = numbers_facts ns i (o.within i h) in state_back (first_at ns i) (number_at ns i 8) (number_at ns i 9) w.state w.sending

    back' : StateBack (first_at ns' i) (number_at ns' i 8) (number_at ns' i 9)
    back' = let w = numbers_facts ns' i (o'.within i h) in state_back (first_at ns' i) (number_at ns' i 8) (number_at ns' i 9) w.state w.sending

    state : first_at ns i ≡ first_at ns' i
    state = sym back.state ∙ ap (λ (l : Line). state_number l.state) line ∙ back'.state

    number : (k : ℕ) → k < fields → number_at ns i k ≡ number_at ns' i k
    number zero q = ap (λ (p : ℕ). get_or ns p 0) (add-zero (start i)) ∙ state ∙ ap (λ (p : ℕ). get_or ns' p 0) (sym (add-zero (start i)))
    number (suc zero) q = ap (λ (l : Line). l.collected) line
    number (suc (suc zero)) q = ap (λ (l : Line). l.joined) line
    number (suc (suc (suc zero))) q = ap (λ (l : Line). l.seconds) line
    number (suc (suc (suc (suc zero)))) q = ap (λ (l : Line). l.next) line
    number (suc (suc (suc (suc (suc zero))))) q = sym (last_back (number_at ns i 5)) ∙ ap (λ (l : Line). last_number l.last) line ∙ last_back (number_at ns' i 5)
    number (suc (suc (suc (suc (suc (suc zero)))))) q =
        sym (flag_back (number_at ns i 6) (numbers_facts ns i (o.within i h)).refusing) ∙ ap (λ (l : Line). flag l.refusing) line
        ∙ flag_back (number_at ns' i 6) (numbers_facts ns' i (o'.within i h)).refusing
    number (suc (suc (suc (suc (suc (suc (suc zero))))))) q = same_serial ns ns' us us' i h (ap (λ (g : Gateway). g.ledger) same)
    number (suc (suc (suc (suc (suc (suc (suc (suc zero)))))))) q = sym back.tries ∙ ap (λ (l : Line). tries_number l.state) line ∙ back'.tries
    number (suc (suc (suc (suc (suc (suc (suc (suc (suc zero))))))))) q = sym back.place ∙ ap (λ (l : Line). place_number l.state) line ∙ back'.place
    number (suc (suc (suc (suc (suc (suc (suc (suc (suc (suc zero)))))))))) q = sym (speaks_back ns i (o.within i h)) ∙ ap (λ (l : Line). speaks_number l.settings.dialogue) line ∙ speaks_back ns' i (o'.within i h)
    number (suc (suc (suc (suc (suc (suc (suc (suc (suc (suc (suc zero))))))))))) q = sym (reader_numbers_law ns i (o.readers i h)).reply ∙ ap (λ (w : Memo). reply_number w.reader.reply) memo ∙ (reader_numbers_law ns' i (o'.readers i h)).reply
    number (suc (suc (suc (suc (suc (suc (suc (suc (suc (suc (suc (suc zero)))))))))))) q = sym (reader_numbers_law ns i (o.readers i h)).since ∙ ap (λ (w : Memo). one_if w.reader.since) memo ∙ (reader_numbers_law ns' i (o'.readers i h)).since
    number (suc (suc (suc (suc (suc (suc (suc (suc (suc (suc (suc (suc (suc zero))))))))))))) q = sym (reader_numbers_law ns i (o.readers i h)).kept ∙ ap (λ (w : Memo). one_if w.reader.kept) memo ∙ (reader_numbers_law ns' i (o'.readers i h)).kept
    number (suc (suc (suc (suc (suc (suc (suc (suc (suc (suc (suc (suc (suc (suc k)))))))))))))) q = o.spare i h _ (omega arith) q ∙ sym (o'.spare i h _ (omega arith) q)

    byte : (k : ℕ) → k < block_limit → get_or ns (block_start i + k) 0 ≡ get_or ns' (block_start i + k) 0
    byte k q = sym (number_from_law ns (block_start i) block_limit k q) ∙ ap (λ (w : Memo). get_or w.block k 0) memo ∙ number_from_law ns' (block_start i) block_limit k q

  -- each number is a line's or a block's
  same_numbers : ns ≡ ns'
  same_numbers = ext_get_or 0 ns ns' (o.numbers ∙ sym o'.numbers) each
    where
      each : (p : ℕ) → p < length ns → get_or ns p 0 ≡ get_or ns' p 0
      each p h = elim (dec_lt p (lines * fields)) [
        | yes q ↦
            let at : p ≡ start (p / fields) + p % fields = omega arith in
            ap (λ (x : ℕ). get_or ns x 0) at ∙ number (p / fields) (omega arith) (p % fields) (omega arith) ∙ ap (λ (x : ℕ). get_or ns' x 0) (sym at)
        | no q ↦
            let n = p - lines * fields in
            let at : p ≡ block_start (n / block_limit) + n % block_limit = omega arith in
            ap (λ (x : ℕ). get_or ns x 0) at ∙ byte (n / block_limit) (omega (arith, o.numbers)) (n % block_limit) (omega arith) ∙ ap (λ (x : ℕ). get_or ns' x 0) (sym at)
      ]

-- two hosts in order that stand for one gateway keep the same
pub same_host : (s t : HostState) → InOrder s → InOrder t → gateway_state s ≡ gateway_state t → s ≡ t
same_host s t o o' same =
    let g : gateway_of s.numbers s.counts ≡ gateway_of t.numbers t.counts = ap (λ (x : State). x.gateway) same in
    let numbers = same_numbers s.numbers t.numbers s.counts t.counts o o' g in
    let counts = same_counts s.numbers t.numbers s.counts t.counts o.counts o'.counts (ap (λ (x : Gateway). x.ledger) g) in
    let memory = ap (λ (x : State). x.memory) same in
    λ z. record { numbers = numbers z; counts = counts z; memory = memory z }

-- and where what all lines share is the same, nothing was stored and nothing taken
pub store_kept : (s t : HostState) → InOrder s → InOrder t → store_of (gateway_state t) ≡ store_of (gateway_state s) → StoreKept s t
store_kept s t o o' same =
    let ledger = ap (λ (x : Store). x.ledger) same in
    record {
      counts = same_counts t.numbers s.numbers t.counts s.counts o'.counts o.counts ledger;
      serials = λ l q. same_serial t.numbers s.numbers t.counts s.counts l q ledger;
      journal = ap (λ (x : Store). x.journal) same;
    }
