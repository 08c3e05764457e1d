-- What a replay writes of a trace.
-- Assumes nothing.
use Rattle.std.specs.Prelude.{ℕ, Bool, true, false, ◌+◌, ◌*◌, ◌^◌, ◌<◌, Option, List, [], ◌∷◌, ◌++◌, length, replicate, IfSome, codes}
use Rattle.std.specs.Io.KnownBytes.{Appends}
use Rattle.memory.specs.Sizes.{lines, journal_size, unfinished_size, frames_size, message_limit}
use Rattle.layout.specs.Layout.{fresh_numbers}
use Rattle.listing.specs.Texts.{newline}
use Rattle.replaying.specs.Desk.{Desk, desk_of}
use Rattle.streaming_laws.specs.Listings.{listing_text}

-- a fresh gateway, and a buffer for takings [E3]
abbrev pub fresh_desk : Desk
fresh_desk =
    desk_of fresh_numbers (replicate (lines + 1) 0) (replicate journal_size 0) (replicate unfinished_size 0) (replicate frames_size 0) (replicate message_limit 0)

-- the line with the name of a trace, where there are several
abbrev pub title_of : Bool → List ℕ → List ℕ
title_of true name = codes "==> " ++ name ++ (newline ∷ [])
title_of false name = []

-- of a trace whose bytes are known, and are no more than a run has turns for, its listing is written, behind its name and behind what the writer held
abbrev pub Lists : Bool → List ℕ → Option (List ℕ) → Option (List ℕ) → Option (List ℕ) → Type 0
Lists titled name left held held' =
    IfSome left (λ trace. 2 * length trace + 5 < 2 ^ 64 → Appends held held' (title_of titled name ++ listing_text trace fresh_desk))
