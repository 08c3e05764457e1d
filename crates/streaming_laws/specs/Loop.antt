-- The loop over a trace, as a program runs it: a turn, a write, and where more is wanted a read.
-- Assumes nothing.
use Rattle.std.specs.Prelude.{ℕ, zero, suc, ◌+◌, ◌*◌, ◌-◌, ◌≤◌, ◌<◌, min, max, ◌≡◌, List, [], ◌++◌, length, take, drop}
use Rattle.memory.specs.Parts.{splice}
use Rattle.listing.specs.Items.{line_limit}
use Rattle.replaying.specs.Desk.{row_room, Desk}
use Rattle.streaming.specs.Stages.{begun}
use Rattle.streaming.specs.Fed.{fed_of}
use Rattle.streaming.specs.Streams.{Stream, stream_of, shown, turned}
use Rattle.streaming.specs.declared.Stage.{Stage}
use Rattle.streaming.specs.declared.Stage.TheVariants.{Begins, Runs, Wants, Total, Fault, Over}
use Rattle.streaming_laws.specs.Listings.{listing_text}

-- what a read gives of what is left of a trace: as many bytes as it pleases, but at least one where one is left, and at most as many as there is room for
abbrev pub given : ℕ → ℕ → List ℕ → List ℕ
given pleases room left = take (max 1 (min pleases room)) left

-- bytes read behind what waits
abbrev pub arrived : List ℕ → Stream → Stream
arrived piece s = let h = fed_of s.kept (length piece) (splice s.input s.kept.end piece) in stream_of h.kept h.input s.out s.desk

-- behind a turn, with some of the trace left: over, a read, or the next turn
abbrev pub next : Stage → ℕ → Stream → List ℕ → (Stream → List ℕ → List ℕ) → List ℕ
next Over pleases s left go = []
next Wants pleases s left go =
    let piece = given pleases (length s.input - s.kept.end) left in
    go (arrived piece s) (drop (length piece) left)
next Begins pleases s left go = go s left
next Runs pleases s left go = go s left
next Total pleases s left go = go s left
next Fault pleases s left go = go s left

-- all that is written in at most `most` turns; `pleases` says how many bytes the read of each turn gives
unfoldable pub looped : (ℕ → ℕ) → ℕ → Stream → List ℕ → List ℕ
looped pleases zero s left = []
looped pleases (suc most) s left = let t = turned s in shown t ++ next t.kept.stage (pleases most) t left (λ u rest. looped pleases most u rest)

-- n bytes of a trace are read into the input
abbrev pub started : ℕ → List ℕ → List ℕ → Desk → Stream
started n input out d = stream_of (begun n) input out d

-- n bytes of a trace are read and the others left: whatever each read gives, all that is written is the listing of the trace, in at most two turns for each byte
abbrev pub WritesTheListing : Type 0
WritesTheListing =
    (pleases : ℕ → ℕ) (most n : ℕ) (input out : List ℕ) (d : Desk) (left : List ℕ) → n ≤ length input → line_limit < length input → row_room ≤ length out → n + 2 * length left + 5 ≤ most
    → looped pleases most (started n input out d) left ≡ listing_text (take n input ++ left) d
