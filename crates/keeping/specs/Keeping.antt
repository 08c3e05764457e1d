-- What is kept of a strip reader in plain numbers, as a host keeps it, and what each function does to these. On a line that is not there nothing changes.
-- Assumes nothing.
use Rattle.std.specs.Prelude.{ℕ, zero, suc, ◌+◌, Bool, cond, ◌&&◌, List, [], ◌∷◌, eqb, leb, ltb, length, get_or, set}
use Rattle.std.proofs.lemmas.List.Edits.{sets}
use Rattle.memory.specs.Sizes.{lines}
use Rattle.memory.specs.Tests.{unless}
use Rattle.settings.specs.Settings.{block_limit}
use Rattle.layout.specs.Layout.{start, number_at, reply_at, since_at, kept_at, block_start}
use Rattle.strips.specs.Readers.{Memo, fresh_reader, begins_with}
use Rattle.strips.specs.Replies.{replied_of, reply_number}
use Rattle.strips.specs.declared.Reader.{Reader}

-- yes or no
abbrev pub yes : Bool → ℕ
yes b = cond b 1 0

-- what line i's numbers say of its reader [H1]
abbrev pub reader_of : List ℕ → ℕ → Reader
reader_of ns i = record { reply = replied_of (number_at ns i reply_at); since = eqb (number_at ns i since_at) 1; kept = eqb (number_at ns i kept_at) 1 }

-- n numbers from `at` on
abbrev pub numbers_from : List ℕ → ℕ → ℕ → List ℕ
numbers_from ns at zero = []
numbers_from ns at (suc n) = get_or ns at 0 ∷ numbers_from ns (suc at) n

-- its last stored block, a byte to a number; a shorter one leaves the numbers behind it [H1]
abbrev pub kept_block : List ℕ → ℕ → List ℕ
kept_block ns i = numbers_from ns (block_start i) block_limit

-- both
abbrev pub memo_of : List ℕ → ℕ → Memo
memo_of ns i = record { reader = reader_of ns i; block = kept_block ns i }

-- the numbers with other ones
unfoldable pub with_reader : List ℕ → ℕ → Reader → List ℕ
with_reader ns i r =
    set (set (set ns
    (start i + reply_at) (reply_number r.reply))
    (start i + since_at) (yes r.since))
    (start i + kept_at) (yes r.kept)

abbrev pub with_block : List ℕ → ℕ → List ℕ → List ℕ
with_block ns i bs = sets ns (block_start i) bs

abbrev pub with_memo : List ℕ → ℕ → Memo → List ℕ
with_memo ns i w = with_block (with_reader ns i w.reader) i w.block

-- ---- what each function says

-- what is read of a reader; on no line, that of a fresh one
abbrev pub reader_at : List ℕ → ℕ → Reader
reader_at ns i = unless (ltb i lines) fresh_reader (reader_of ns i)

-- whether these are the bytes of the last stored block [B10]
unfoldable pub is_kept : List ℕ → ℕ → List ℕ → Bool
is_kept ns i bs = ltb i lines && begins_with bs (kept_block ns i)

-- what is put of a reader
abbrev pub reader_after : List ℕ → ℕ → Reader → List ℕ
reader_after ns i r = unless (ltb i lines) ns (with_reader ns i r)

-- and a block, where it is none that is too long
unfoldable pub block_after : List ℕ → ℕ → List ℕ → List ℕ
block_after ns i bs = cond (ltb i lines && leb (length bs) block_limit) (with_block ns i bs) ns
