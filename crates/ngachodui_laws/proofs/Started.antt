-- The numbers of a start stand for the started gateway, and are in order.
-- Assumes nothing.
use mathlib.Core.Path.{◌≡◌, refl, sym, ap, ◌∙◌}
use mathlib.Core.Bool.{Bool, true, false, cond, ◌&&◌, ◌||◌}
use mathlib.Core.List.{List, [], ◌∷◌, map}
use Prim.Native.Nat.{ℕ, zero, suc, ◌+◌, ◌*◌, ◌-◌, ◌≤◌, ◌<◌}
use native.Mathlib.Nat.{add-zero, zero-add, add-suc, suc-add}
use native.Mathlib.Omega.{arith}
use lib.Dec.{eqb}
use lib.ListN.{length, get_or, replicate, get_or-replicate, length-append, length-replicate, get_or-append}
use lib.Seq.{ext_get_or, get_or-append-add}
use Rattle.memory.specs.Sizes.{lines}
use Rattle.memory.proofs.Tests.{clash, and_left, and_right}
use Rattle.settings.specs.Settings.{block_limit}
use Rattle.journal.specs.Chain.{fresh_ledger}
use Rattle.line.specs.Line.{most_collected, started_line as line_started}
use Rattle.strips.specs.Readers.{fresh_memo}
use Rattle.gateway.specs.Events.{no_record, started_gateway}
use Rattle.layout.specs.Layout.{fields, start, first_at, number_at, block_start, numbers_size, is_spoken, started_line, started_lines, started_numbers, spoken_from, can_start}
use Rattle.ledger.specs.Ledgers.{ledger_of}
use Rattle.numbers.specs.Plain.{reader_fits, speech_fits, within_numbers, settings_of, line_of}
use Rattle.keeping.specs.Keeping.{numbers_from, kept_block, memo_of}
use Rattle.ngachodui_laws.specs.Hosting.{lines_of, memos_of, gateway_of, Ordered}
use Rattle.ngachodui_laws.proofs.PutBack.{lines_length, line_at_law}

-- each of so many lines has the numbers of a started one
length_lines : (ts : List ℕ) (i n : ℕ) → length (started_lines ts i n) ≡ n * fields
length_lines ts i zero = refl
length_lines ts i (suc n) = length-append (started_line (get_or ts i 0)) (started_lines ts (suc i) n) ∙ (omega (arith, length_lines ts (suc i) n))

number_in : (ts : List ℕ) (i n k m : ℕ) → k < n → m < fields → get_or (started_lines ts i n) (start k + m) 0 ≡ get_or (started_line (get_or ts (i + k) 0)) m 0
number_in ts i zero k m h q = absurd (omega arith)
number_in ts i (suc n) zero m h q =
    ap (λ (p : ℕ). get_or (started_lines ts i (suc n)) p 0) (zero-add m) ∙ get_or-append (started_line (get_or ts i 0)) (started_lines ts (suc i) n) 0 m q
    ∙ ap (λ (x : ℕ). get_or (started_line (get_or ts x 0)) m 0) (sym (add-zero i))
number_in ts i (suc n) (suc k) m h q =
    let at : start (suc k) + m ≡ fields + (start k + m) = omega arith in
    ap (λ (p : ℕ). get_or (started_lines ts i (suc n)) p 0) at ∙ get_or-append-add (started_line (get_or ts i 0)) (started_lines ts (suc i) n) (start k + m) 0
    ∙ number_in ts (suc i) n k m (omega arith) q ∙ ap (λ (x : ℕ). get_or (started_line (get_or ts x 0)) m 0) (suc-add i k ∙ sym (add-suc i k))

-- what a start accepts is spoken
spoken_at : (ts : List ℕ) (i n k : ℕ) → spoken_from ts i n ≡ true → k < n → is_spoken (get_or ts (i + k) 0) ≡ true
spoken_at ts i zero k e h = absurd (omega arith)
spoken_at ts i (suc n) zero e h = rw (add-zero i) (and_left (is_spoken (get_or ts i 0)) _ e)
spoken_at ts i (suc n) (suc k) e h =
    let rest = spoken_at ts (i + 1) n k (and_right (is_spoken (get_or ts i 0)) _ e) (omega arith) in
    let at : i + suc k ≡ i + 1 + k = omega arith in
    rw at rest

module _ (ts : List ℕ) where
  abbrev ns : List ℕ
  ns = started_numbers ts

  number : (k m : ℕ) → k < lines → m < fields → number_at ns k m ≡ get_or (started_line (get_or ts k 0)) m 0
  number k m h q =
      get_or-append (started_lines ts 0 lines) (replicate (lines * block_limit) 0) 0 (start k + m) (omega (arith, length_lines ts 0 lines))
      ∙ number_in ts 0 lines k m h q ∙ ap (λ (x : ℕ). get_or (started_line (get_or ts x 0)) m 0) (zero-add k)

  first : (k : ℕ) → k < lines → first_at ns k ≡ 0
  first k h = ap (λ (p : ℕ). get_or ns p 0) (sym (add-zero (start k))) ∙ number k 0 h (omega arith)

  -- behind all lines nothing stands
  behind : (p : ℕ) → lines * fields ≤ p → p < numbers_size → get_or ns p 0 ≡ 0
  behind p h q =
      let at : p ≡ length (started_lines ts 0 lines) + (p - lines * fields) = omega (arith, length_lines ts 0 lines) in
      ap (λ (x : ℕ). get_or ns x 0) at ∙ get_or-append-add (started_lines ts 0 lines) (replicate (lines * block_limit) 0) (p - lines * fields) 0
      ∙ get_or-replicate (lines * block_limit) (p - lines * fields) 0 0 (omega arith)

  zeros : (at n : ℕ) → lines * fields ≤ at → at + n ≤ numbers_size → numbers_from ns at n ≡ replicate n 0
  zeros at zero h q = refl
  zeros at (suc n) h q = let here = behind at h (omega arith) in let rest = zeros (suc at) n (omega arith) (omega arith) in λ z. here z ∷ rest z

  -- behind what a line speaks, its own numbers are 0
  last : (k m : ℕ) → k < lines → 10 < m → m < fields → number_at ns k m ≡ 0
  last k m h p q =
      let at : m ≡ 11 + (m - 11) = omega arith in
      let v = get_or ts k 0 in
      number k m h q ∙ ap (λ (x : ℕ). get_or (started_line v) x 0) at
      ∙ get_or-append-add (0 ∷ 0 ∷ 0 ∷ 0 ∷ 1 ∷ 0 ∷ 0 ∷ 0 ∷ 0 ∷ 0 ∷ v ∷ []) (replicate 5 0) (m - 11) 0 ∙ get_or-replicate 5 (m - 11) 0 0 (omega arith)

  pub line : (k : ℕ) → k < lines → line_of ns k ≡ line_started (settings_of (get_or ts k 0))
  line k h = rw (
    first k h,
    number k 1 h (omega arith),
    number k 2 h (omega arith),
    number k 3 h (omega arith),
    number k 4 h (omega arith),
    number k 5 h (omega arith),
    number k 6 h (omega arith),
    number k 10 h (omega arith),
  )

  memo : (k : ℕ) → k < lines → memo_of ns k ≡ fresh_memo
  memo k h =
      let block : kept_block ns k ≡ replicate block_limit 0 = zeros (block_start k) block_limit (omega arith) (omega arith) in
      rw (last k 11 h (omega arith) (omega arith), last k 12 h (omega arith) (omega arith), last k 13 h (omega arith) (omega arith), block)

  fits : (k : ℕ) → k < lines → reader_fits ns k ≡ true
  fits k h = rw (last k 11 h (omega arith) (omega arith), last k 12 h (omega arith) (omega arith), last k 13 h (omega arith) (omega arith))

  speech : (k : ℕ) → k < lines → is_spoken (get_or ts k 0) ≡ true → speech_fits ns k ≡ true
  unfolding speech_fits most_collected
  speech k h s = rw (number k 10 h (omega arith), number k 1 h (omega arith), fits k h) (by (eqb (get_or ts k 0) 0) (eqb (get_or ts k 0) 10) (eqb (get_or ts k 0) 13) s)
    where
      by : (a b c : Bool) → a || (b || c) ≡ true → cond a true (cond b true (c && true)) ≡ true
      by true b c e = refl
      by false true c e = refl
      by false false true e = refl
      by false false false e = clash cc

  within : (k : ℕ) → k < lines → is_spoken (get_or ts k 0) ≡ true → within_numbers ns k ≡ true
  unfolding within_numbers
  within k h s = rw (
    speech k h s,
    first k h,
    number k 2 h (omega arith),
    number k 3 h (omega arith),
    number k 4 h (omega arith),
    number k 5 h (omega arith),
    number k 6 h (omega arith),
    number k 8 h (omega arith),
    number k 9 h (omega arith),
  )

  ledger : ledger_of ns (replicate (lines + 1) 0) ≡ fresh_ledger
  unfolding ledger_of
  ledger = rw (
    number 0 7 (omega arith) (omega arith),
    number 1 7 (omega arith) (omega arith),
    number 2 7 (omega arith) (omega arith),
    number 3 7 (omega arith) (omega arith),
    number 4 7 (omega arith) (omega arith),
    number 5 7 (omega arith) (omega arith),
    number 6 7 (omega arith) (omega arith),
    number 7 7 (omega arith) (omega arith),
  )

line_set : (ts : List ℕ) (k : ℕ) → k < length ts → get_or (map line_started (map settings_of ts)) k no_record ≡ line_started (settings_of (get_or ts k 0))
line_set [] k h = absurd (omega arith)
line_set (t ∷ ts) zero h = refl
line_set (t ∷ ts) (suc k) h = line_set ts k (omega arith)

set_length : (ts : List ℕ) → length (map line_started (map settings_of ts)) ≡ length ts
set_length [] = refl
set_length (t ∷ ts) = ap suc (set_length ts)

memos_fresh : (ns : List ℕ) (i n : ℕ) → ((k : ℕ) → k < i + n → memo_of ns k ≡ fresh_memo) → memos_of ns i n ≡ replicate n fresh_memo
memos_fresh ns i zero h = refl
memos_fresh ns i (suc n) h = let here = h i (omega arith) in let rest = memos_fresh ns (suc i) n (λ k q. h k (omega arith)) in λ z. here z ∷ rest z

-- eight that can be spoken
module _ (ts : List ℕ) (eight : length ts ≡ lines) where
  lines_started : lines_of (started_numbers ts) 0 lines ≡ map line_started (map settings_of ts)
  lines_started = ext_get_or no_record _ _ (lines_length (started_numbers ts) 0 lines ∙ sym (set_length ts ∙ eight))
      (λ k p. let q : k < lines = omega (arith, lines_length (started_numbers ts) 0 lines) in line_at_law (started_numbers ts) k q ∙ line ts k q ∙ sym (line_set ts k (omega arith)))

  pub started_gateway_law : gateway_of (started_numbers ts) (replicate (lines + 1) 0) ≡ started_gateway (map settings_of ts)
  started_gateway_law =
      let ls = lines_started in
      let ms = memos_fresh (started_numbers ts) 0 lines (λ k q. memo ts k (omega arith)) in
      let d = ledger ts in
      λ z. record { lines = ls z; memos = ms z; ledger = d z }

pub started_ordered : (ts : List ℕ) → can_start ts ≡ true → Ordered (started_numbers ts) (replicate (lines + 1) 0)
started_ordered ts spoken = record {
  numbers = length-append (started_lines ts 0 lines) (replicate (lines * block_limit) 0) ∙ omega (arith, length_lines ts 0 lines, length-replicate {A = ℕ} (lines * block_limit) 0);
  counts = refl;
  within = λ k h. within ts k h (ap (λ (x : ℕ). is_spoken (get_or ts x 0)) (sym (zero-add k)) ∙ spoken_at ts 0 lines k spoken h);
  readers = λ k h. fits ts k h;
  spare = λ k h m p q. last ts k m h (omega arith) q;
}
