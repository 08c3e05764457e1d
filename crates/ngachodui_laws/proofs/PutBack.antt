-- The gateway that numbers stand for, after what has changed was put back into them.
-- Assumes nothing.
use mathlib.Core.Path.{◌≡◌, refl, sym, ap, ◌∙◌}
use mathlib.Core.Logic.{◌≢◌}
use mathlib.Core.List.{List, ◌∷◌}
use Prim.Native.Nat.{ℕ, zero, suc, ◌+◌, ◌<◌}
use native.Mathlib.Nat.{add-zero, zero-add, add-suc, suc-add}
use native.Mathlib.Decide.{ℕ_discrete}
use native.Mathlib.Omega.{arith}
use lib.ListN.{length, get_or, set, length-set}
use lib.Seq.{ext_get_or, get_or-set_same, get_or-set_other}
use Rattle.memory.specs.Sizes.{lines}
use Rattle.journal.specs.declared.Ledger.{Ledger}
use Rattle.line.specs.declared.Line.{Line}
use Rattle.settings.specs.Settings.{block_limit}
use Rattle.strips.specs.Readers.{Memo, fresh_memo}
use Rattle.gateway.specs.Events.{no_record}
use Rattle.gateway.specs.Gateway.{Gateway}
use Rattle.layout.specs.Layout.{number_at, numbers_size}
use Rattle.ledger.specs.Ledgers.{ledger_of, with_used}
use Rattle.numbers.specs.Plain.{line_of}
use Rattle.keeping.specs.Keeping.{memo_of}
use Rattle.ngachodui_laws.specs.Hosting.{lines_of, memos_of, gateway_of}
use Rattle.ledger.proofs.Ledgers.{used_at, serial_at_law}
use Rattle.ngachodui_laws.proofs.Stores.{stored, stored_length, number_other, serial_own, memo_stays, line_other, line_own}
use Rattle.ngachodui_laws.proofs.Memos.{memo_other, memo_own, kept_line, kept_ledger, heard}
use Rattle.ngachodui_laws.proofs.Touched.{Touched, Lowered}

-- the lines
pub lines_length : (ns : List ℕ) (i n : ℕ) → length (lines_of ns i n) ≡ n
lines_length ns i zero = refl
lines_length ns i (suc n) = ap suc (lines_length ns (suc i) n)

line_in_law : (ns : List ℕ) (i n k : ℕ) → k < n → get_or (lines_of ns i n) k no_record ≡ line_of ns (i + k)
line_in_law ns i zero k h = absurd (omega arith)
line_in_law ns i (suc n) zero h = rw add-zero
line_in_law ns i (suc n) (suc k) h = line_in_law ns (suc i) n k (omega arith) ∙ ap (line_of ns) (suc-add i k ∙ sym (add-suc i k))

pub line_at_law : (ns : List ℕ) (k : ℕ) → k < lines → get_or (lines_of ns 0 lines) k no_record ≡ line_of ns k
line_at_law ns k h = line_in_law ns 0 lines k h ∙ ap (line_of ns) (zero-add k)

lines_set : (ns ns' : List ℕ) (i : ℕ) (l : Line) → i < lines → line_of ns' i ≡ l → ((k : ℕ) → k ≢ i → line_of ns' k ≡ line_of ns k)
    → lines_of ns' 0 lines ≡ set (lines_of ns 0 lines) i l
lines_set ns ns' i l h own others =
    ext_get_or no_record (lines_of ns' 0 lines) (set (lines_of ns 0 lines) i l) (lines_length ns' 0 lines ∙ sym (length-set (lines_of ns 0 lines) i l ∙ lines_length ns 0 lines)) each
  where
    each : (k : ℕ) → k < length (lines_of ns' 0 lines) → get_or (lines_of ns' 0 lines) k no_record ≡ get_or (set (lines_of ns 0 lines) i l) k no_record
    each k p =
        let q : k < lines = omega (arith, lines_length ns' 0 lines) in
        line_at_law ns' k q ∙ elim (ℕ_discrete k i) [
          | yes e ↦ ap (line_of ns') e ∙ own ∙ sym (ap (λ (x : ℕ). get_or (set (lines_of ns 0 lines) i l) x no_record) e ∙ get_or-set_same (lines_of ns 0 lines) i l no_record (omega (arith, lines_length ns 0 lines)))
          | no n ↦ others k n ∙ sym (get_or-set_other (lines_of ns 0 lines) i k l no_record n ∙ line_at_law ns k q)
        ]

-- what is kept of the readers
pub memos_length : (ns : List ℕ) (i n : ℕ) → length (memos_of ns i n) ≡ n
memos_length ns i zero = refl
memos_length ns i (suc n) = ap suc (memos_length ns (suc i) n)

memo_in : (ns : List ℕ) (i n k : ℕ) → k < n → get_or (memos_of ns i n) k fresh_memo ≡ memo_of ns (i + k)
memo_in ns i zero k h = absurd (omega arith)
memo_in ns i (suc n) zero h = rw add-zero
memo_in ns i (suc n) (suc k) h = memo_in ns (suc i) n k (omega arith) ∙ ap (memo_of ns) (suc-add i k ∙ sym (add-suc i k))

pub memo_at_law : (ns : List ℕ) (k : ℕ) → k < lines → get_or (memos_of ns 0 lines) k fresh_memo ≡ memo_of ns k
memo_at_law ns k h = memo_in ns 0 lines k h ∙ ap (memo_of ns) (zero-add k)

memos_alike : (ns ns' : List ℕ) (i n : ℕ) → ((k : ℕ) → memo_of ns' k ≡ memo_of ns k) → memos_of ns' i n ≡ memos_of ns i n
memos_alike ns ns' i zero h = refl
memos_alike ns ns' i (suc n) h = let here = h i in let rest = memos_alike ns ns' (suc i) n h in λ z. here z ∷ rest z

memos_set : (ns ns' : List ℕ) (i : ℕ) (w : Memo) → i < lines → memo_of ns' i ≡ w → ((k : ℕ) → k < lines → k ≢ i → memo_of ns' k ≡ memo_of ns k)
    → memos_of ns' 0 lines ≡ set (memos_of ns 0 lines) i w
memos_set ns ns' i w h own others =
    ext_get_or fresh_memo (memos_of ns' 0 lines) (set (memos_of ns 0 lines) i w) (memos_length ns' 0 lines ∙ sym (length-set (memos_of ns 0 lines) i w ∙ memos_length ns 0 lines)) each
  where
    each : (k : ℕ) → k < length (memos_of ns' 0 lines) → get_or (memos_of ns' 0 lines) k fresh_memo ≡ get_or (set (memos_of ns 0 lines) i w) k fresh_memo
    each k p =
        let q : k < lines = omega (arith, memos_length ns' 0 lines) in
        memo_at_law ns' k q ∙ elim (ℕ_discrete k i) [
          | yes e ↦ ap (memo_of ns') e ∙ own ∙ sym (ap (λ (x : ℕ). get_or (set (memos_of ns 0 lines) i w) x fresh_memo) e ∙ get_or-set_same (memos_of ns 0 lines) i w fresh_memo (omega (arith, memos_length ns 0 lines)))
          | no n ↦ others k q n ∙ sym (get_or-set_other (memos_of ns 0 lines) i k w fresh_memo n ∙ memo_at_law ns k q)
        ]

lines_alike : (ns ns' : List ℕ) → ((k : ℕ) → k < lines → line_of ns' k ≡ line_of ns k) → lines_of ns' 0 lines ≡ lines_of ns 0 lines
lines_alike ns ns' h =
    ext_get_or no_record (lines_of ns' 0 lines) (lines_of ns 0 lines) (lines_length ns' 0 lines ∙ sym (lines_length ns 0 lines))
    (λ k p. let q : k < lines = omega (arith, lines_length ns' 0 lines) in line_at_law ns' k q ∙ h k q ∙ sym (line_at_law ns k q))

-- the ledger
pub used_long : (ns us : List ℕ) → length (ledger_of ns us).used ≡ lines
unfolding ledger_of
used_long ns us = refl

pub serials_long : (ns us : List ℕ) → length (ledger_of ns us).serials ≡ lines
unfolding ledger_of
serials_long ns us = refl

pub counts_long : (us : List ℕ) (i : ℕ) (d : Ledger) → length (with_used us i d) ≡ length us
counts_long us i d = length-set (set us i (get_or d.used i 0)) lines d.in_use ∙ length-set us i (get_or d.used i 0)

serials_alike : (ns us us' : List ℕ) → (ledger_of ns us).serials ≡ (ledger_of ns us').serials
unfolding ledger_of
serials_alike ns us us' = refl

pub in_use_back : (ns us : List ℕ) → (ledger_of ns us).in_use ≡ get_or us lines 0
unfolding ledger_of
in_use_back ns us = refl

module _ (ns ns' us : List ℕ) (i : ℕ) (h : i < lines) (d' : Ledger) (long : length us ≡ lines + 1) where
  abbrev us' : List ℕ
  us' = with_used us i d'

  in_use_put : (ledger_of ns' us').in_use ≡ d'.in_use
  in_use_put = in_use_back ns' us' ∙ get_or-set_same (set us i (get_or d'.used i 0)) lines d'.in_use 0 (omega (arith, length-set us i (get_or d'.used i 0)))

  used_put : d'.used ≡ set (ledger_of ns us).used i (get_or d'.used i 0) → (ledger_of ns' us').used ≡ d'.used
  used_put t =
      ext_get_or 0 (ledger_of ns' us').used d'.used (used_long ns' us' ∙ sym (ap length t ∙ length-set (ledger_of ns us).used i (get_or d'.used i 0) ∙ used_long ns us)) each
    where
      each : (k : ℕ) → k < length (ledger_of ns' us').used → get_or (ledger_of ns' us').used k 0 ≡ get_or d'.used k 0
      each k p =
          let q : k < lines = omega (arith, used_long ns' us') in
          used_at ns' us' k q ∙ get_or-set_other (set us i (get_or d'.used i 0)) lines k d'.in_use 0 (λ e. absurd (omega arith)) ∙ elim (ℕ_discrete k i) [
            | yes e ↦ ap (λ (x : ℕ). get_or (set us i (get_or d'.used i 0)) x 0) e ∙ get_or-set_same us i (get_or d'.used i 0) 0 (omega arith) ∙ sym (ap (λ (x : ℕ). get_or d'.used x 0) e)
            | no n ↦
                get_or-set_other us i k (get_or d'.used i 0) 0 n
                ∙ sym (ap (λ (x : List ℕ). get_or x k 0) t ∙ get_or-set_other (ledger_of ns us).used i k (get_or d'.used i 0) 0 n ∙ used_at ns us k q)
          ]

-- an event's record and ledger, put back
module _ (ns us : List ℕ) (i : ℕ) (h : i < lines) (l : Line) (d' : Ledger) (many : length ns ≡ numbers_size) (long : length us ≡ lines + 1) (t : Touched (ledger_of ns us) i d') where
  serials_put : (ledger_of (stored ns i l d') (with_used us i d')).serials ≡ d'.serials
  serials_put =
      let ns' = stored ns i l d' in
      let v = get_or d'.serials i 0 in
      ext_get_or 0 (ledger_of ns' (with_used us i d')).serials d'.serials (serials_long ns' (with_used us i d') ∙ sym (ap length t.serials ∙ length-set (ledger_of ns us).serials i v ∙ serials_long ns us)) each
    where
      each : (k : ℕ) → k < length (ledger_of (stored ns i l d') (with_used us i d')).serials → get_or (ledger_of (stored ns i l d') (with_used us i d')).serials k 0 ≡ get_or d'.serials k 0
      each k p =
          let q : k < lines = omega (arith, serials_long (stored ns i l d') (with_used us i d')) in
          serial_at_law (stored ns i l d') (with_used us i d') k q ∙ elim (ℕ_discrete k i) [
            | yes e ↦ ap (λ (x : ℕ). number_at (stored ns i l d') x 7) e ∙ serial_own ns i l d' (omega arith) ∙ sym (ap (λ (x : ℕ). get_or d'.serials x 0) e)
            | no n ↦
                number_other ns i l d' k 7 n (omega arith)
                ∙ sym (ap (λ (x : List ℕ). get_or x k 0) t.serials ∙ get_or-set_other (ledger_of ns us).serials i k (get_or d'.serials i 0) 0 n ∙ serial_at_law ns us k q)
          ]

  pub gateway_put : l.settings ≡ (line_of ns i).settings
      → gateway_of (stored ns i l d') (with_used us i d') ≡ record { lines = set (lines_of ns 0 lines) i l; memos = memos_of ns 0 lines; ledger = d' }
  gateway_put speaks =
      let ls : lines_of (stored ns i l d') 0 lines ≡ set (lines_of ns 0 lines) i l = lines_set ns (stored ns i l d') i l h (line_own ns i l d' (omega arith) speaks) (λ k n. line_other ns i l d' k n) in
      let ms : memos_of (stored ns i l d') 0 lines ≡ memos_of ns 0 lines = memos_alike ns (stored ns i l d') 0 lines (memo_stays ns i l d' h) in
      let a : (ledger_of (stored ns i l d') (with_used us i d')).in_use ≡ d'.in_use = in_use_put ns (stored ns i l d') us i h d' long in
      let b : (ledger_of (stored ns i l d') (with_used us i d')).used ≡ d'.used = used_put ns (stored ns i l d') us i h d' long t.used in
      λ z. record { lines = ls z; memos = ms z; ledger = record { in_use = a z; used = b z; serials = serials_put z } }

  -- and what is kept of the reader
  pub heard_put : l.settings ≡ (line_of ns i).settings → (w : Memo) → length w.block ≡ block_limit
      → gateway_of (heard ns i l d' w) (with_used us i d') ≡ record { lines = set (lines_of ns 0 lines) i l; memos = set (memos_of ns 0 lines) i w; ledger = d' }
  heard_put speaks w full =
      let before = gateway_put speaks in
      let many' = stored_length ns i l d' ∙ many in
      let ls = lines_alike (stored ns i l d') (heard ns i l d' w) (λ k q. kept_line (stored ns i l d') i w h k q) ∙ ap (λ (g : Gateway). g.lines) before in
      let ms = memos_set (stored ns i l d') (heard ns i l d' w) i w h (memo_own (stored ns i l d') i w h full many') (λ k q n. memo_other (stored ns i l d') i w h full k q n)
      ∙ ap (λ (g : Gateway). set g.memos i w) before in
      let d = kept_ledger (stored ns i l d') i w h (with_used us i d') ∙ ap (λ (g : Gateway). g.ledger) before in
      λ z. record { lines = ls z; memos = ms z; ledger = d z }

-- a taking's ledger, put back
pub taking_put : (ns us : List ℕ) (i : ℕ) → i < lines → (d' : Ledger) → length us ≡ lines + 1 → Lowered (ledger_of ns us) i d' → ledger_of ns (with_used us i d') ≡ d'
taking_put ns us i h d' long t =
    let a : (ledger_of ns (with_used us i d')).in_use ≡ d'.in_use = in_use_put ns ns us i h d' long in
    let b : (ledger_of ns (with_used us i d')).used ≡ d'.used = used_put ns ns us i h d' long t.used in
    let c : (ledger_of ns (with_used us i d')).serials ≡ d'.serials = serials_alike ns (with_used us i d') us ∙ sym t.serials in
    λ z. record { in_use = a z; used = b z; serials = c z }
