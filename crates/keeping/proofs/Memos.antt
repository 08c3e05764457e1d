-- What is kept of a reader, put back as it is, and with one part of it changed.
-- Assumes nothing.
use mathlib.Core.Path.{◌≡◌, refl, sym, ap, ◌∙◌}
use mathlib.Core.List.{List}
use Prim.Native.Nat.{ℕ, zero, suc, ◌+◌, ◌≤◌, ◌<◌}
use native.Mathlib.Omega.{arith}
use lib.Dec.{eqb}
use lib.ListN.{length, get_or, set}
use lib.Seq.{set-get_or}
use Rattle.memory.specs.Sizes.{lines}
use Rattle.memory.specs.Parts.{splice}
use Rattle.settings.specs.Settings.{block_limit}
use Rattle.layout.specs.Layout.{start, reply_at, since_at, kept_at, number_at, block_start}
use Rattle.strips.specs.Replies.{replied_of, reply_number}
use Rattle.strips.specs.declared.Reader.{Reader}
use Rattle.keeping.specs.Keeping.{yes, reader_of, kept_block, with_reader, with_block, with_memo}
use Rattle.keeping.proofs.Blocks.{read_past, put_again, put_over_law}

reply_back : (n : ℕ) → n ≤ 2 → reply_number (replied_of n) ≡ n
reply_back zero h = refl
reply_back (suc zero) h = refl
reply_back (suc (suc zero)) h = refl
reply_back (suc (suc (suc n))) h = absurd (omega arith)

yes_back : (n : ℕ) → n ≤ 1 → yes (eqb n 1) ≡ n
yes_back zero h = refl
yes_back (suc zero) h = refl
yes_back (suc (suc n)) h = absurd (omega arith)

same : (ns : List ℕ) (k v : ℕ) → v ≡ get_or ns k 0 → set ns k v ≡ ns
same ns k v e = ap (λ (x : ℕ). set ns k x) e ∙ set-get_or ns k 0

-- numbers that have of the reader what ns has, within its limits
pub record SameReader (ns ns' : List ℕ) (i : ℕ) : Type 0 where
  pub reply : number_at ns i reply_at ≤ 2
  pub since : number_at ns i since_at ≤ 1
  pub kept : number_at ns i kept_at ≤ 1
  pub reply_same : number_at ns' i reply_at ≡ number_at ns i reply_at
  pub since_same : number_at ns' i since_at ≡ number_at ns i since_at
  pub kept_same : number_at ns' i kept_at ≡ number_at ns i kept_at

pub reader_back : (ns ns' : List ℕ) (i : ℕ) → SameReader ns ns' i → with_reader ns' i (reader_of ns i) ≡ ns'
unfolding with_reader
reader_back ns ns' i s =
    rw (
      same ns' (start i + reply_at) (reply_number (replied_of (number_at ns i reply_at))) (reply_back (number_at ns i reply_at) s.reply ∙ sym s.reply_same),
      same ns' (start i + since_at) (yes (eqb (number_at ns i since_at) 1)) (yes_back (number_at ns i since_at) s.since ∙ sym s.since_same),
    )
    (same ns' (start i + kept_at) (yes (eqb (number_at ns i kept_at) 1)) (yes_back (number_at ns i kept_at) s.kept ∙ sym s.kept_same))

-- the last stored block stands behind all that is kept of readers
pub block_past : (ns : List ℕ) (i k v : ℕ) → i < lines → k < 16 → kept_block (set ns (start i + k) v) i ≡ kept_block ns i
block_past ns i k v h g = read_past ns (start i + k) v (block_start i) block_limit (omega arith)

block_kept : (ns : List ℕ) (i : ℕ) (r : Reader) → i < lines → kept_block (with_reader ns i r) i ≡ kept_block ns i
unfolding with_reader
block_kept ns i r h =
    let ns₁ : List ℕ = set ns (start i + reply_at) (reply_number r.reply) in
    let ns₂ : List ℕ = set ns₁ (start i + since_at) (yes r.since) in
    block_past ns₂ i kept_at (yes r.kept) h (omega arith)
    ∙ block_past ns₁ i since_at (yes r.since) h (omega arith)
    ∙ block_past ns i reply_at (reply_number r.reply) h (omega arith)

-- the block as it is, and with bytes laid over its start
module _ (ns ns' : List ℕ) (i : ℕ) (r : Reader) (h : i < lines) (e : kept_block ns' i ≡ kept_block ns i) where
  pub memo_left : with_memo ns' i (record { reader = r; block = kept_block ns i }) ≡ with_reader ns' i r
  memo_left =
      ap (with_block (with_reader ns' i r) i) (sym (block_kept ns' i r h ∙ e))
      ∙ put_again (with_reader ns' i r) (block_start i) block_limit

  pub memo_kept : (bs : List ℕ) → length bs ≤ block_limit → with_memo ns' i (record { reader = r; block = splice (kept_block ns i) 0 bs }) ≡ with_block (with_reader ns' i r) i bs
  memo_kept bs fits =
      ap (λ (x : List ℕ). with_block (with_reader ns' i r) i (splice x 0 bs)) (sym (block_kept ns' i r h ∙ e))
      ∙ put_over_law (with_reader ns' i r) (block_start i) block_limit bs fits
