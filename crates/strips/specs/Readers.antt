-- What is kept of a strip reader beside its line's record.
-- Assumes nothing.
use Rattle.std.specs.Prelude.{ℕ, Bool, true, false, ◌&&◌, List, [], ◌∷◌, eqb, replicate, None}
use Rattle.settings.specs.Settings.{block_limit}
use Rattle.strips.specs.declared.Reader.{Reader}

-- and the last stored block, one byte to a number; a shorter one leaves the numbers behind it
pub record Memo : Type 0 where
  pub reader : Reader
  pub block : List ℕ

abbrev pub fresh_reader : Reader
fresh_reader = record { reply = None; since = false; kept = false }

-- nothing was replied, nothing stored [B7]
abbrev pub fresh_memo : Memo
fresh_memo = record { reader = fresh_reader; block = replicate block_limit 0 }

-- a list begins with these bytes
abbrev pub begins_with : List ℕ → List ℕ → Bool
begins_with [] kept = true
begins_with (b ∷ bs) [] = false
begins_with (b ∷ bs) (k ∷ kept) = eqb b k && begins_with bs kept

-- a block is the last stored one, and an SPM or REP of the reader came since [B10]
abbrev pub is_again : Memo → List ℕ → Bool
is_again w bs = w.reader.since && (w.reader.kept && begins_with bs w.block)
