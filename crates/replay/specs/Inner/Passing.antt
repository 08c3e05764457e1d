-- What a write and a read between two turns come to.
-- Assumes nothing.
use Rattle.std.specs.Prelude.{ℕ, ◌+◌, ◌*◌, ◌^◌, ◌≤◌, ◌<◌, ◌≡◌, Bool, true, false, Option, List, ◌++◌, length, take, drop, IfSome}
use Rattle.std.specs.Io.KnownBytes.{Appends, Consumes, IsAtEnd}
use Rattle.listing.specs.Items.{line_limit}
use Rattle.streaming.specs.Stages.{wants}
use Rattle.streaming.specs.Fed.{fed_of}
use Rattle.streaming.specs.declared.Kept.{Kept}
use Rattle.streaming_laws.specs.Listings.{listing_text}
use Rattle.replay.specs.Replays.{fresh_desk}

-- n bytes came behind what waits, in an input that is as it was up to there: the next bytes of the trace, where these are known, and none only at its end
pub record Brings (kept : Kept) (input : List ℕ) (left left' : Option (List ℕ)) (n : ℕ) (filled : List ℕ) : Type 0 where
  pub long : length filled ≡ length input
  pub front : take kept.end filled ≡ take kept.end input
  pub fits : kept.end + n ≤ length filled
  pub next : Consumes left left' (take n (drop kept.end filled))
  pub ends : n ≡ 0 → kept.end < length input → IsAtEnd left'

-- a read behind what waits
pub record Reads (kept : Kept) (input : List ℕ) (left : Option (List ℕ)) (kept' : Kept) (input' : List ℕ) (left' : Option (List ℕ)) : Type 0 where
  pub n : ℕ
  pub filled : List ℕ
  pub brings : Brings kept input left left' n filled
  pub kept_fed : kept' ≡ (fed_of kept n filled).kept
  pub input_fed : input' ≡ (fed_of kept n filled).input

-- a read, where more is wanted
abbrev pub ReadsIf : Bool → Kept → List ℕ → Option (List ℕ) → Kept → List ℕ → Option (List ℕ) → Type 0
ReadsIf true kept input left kept' input' left' = Reads kept input left kept' input' left'
ReadsIf false kept input left kept' input' left' = (kept' ≡ kept) × (input' ≡ input) × (left' ≡ left)

-- what a turn has put into the output is written behind what the writer held; then more is read, where more is wanted
pub record Passes (kept : Kept) (out input : List ℕ) (held left : Option (List ℕ)) (kept' : Kept) (input' : List ℕ) (held' left' : Option (List ℕ)) : Type 0 where
  pub writes : Appends held held' (take kept.written out)
  pub reads : ReadsIf (wants kept.stage) kept input left kept' input' left'

-- n bytes of a trace are read into an input that is longer than a line may be, and the others are left, no more than a run has turns for:
-- behind what the writer held comes the listing of them all
abbrev pub WritesListing : ℕ → List ℕ → Option (List ℕ) → Option (List ℕ) → Option (List ℕ) → Type 0
WritesListing n input left held held' =
    IfSome left (λ rest. line_limit < length input → n + 2 * length rest + 5 < 2 ^ 64 → Appends held held' (listing_text (take n input ++ rest) fresh_desk))
