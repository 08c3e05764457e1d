-- How long the frames of a message are at most.
-- Assumes nothing.
use mathlib.Core.Path.{◌≡◌}
use mathlib.Core.Bool.{true}
use mathlib.Core.List.{List, [], ◌∷◌}
use Prim.Native.Nat.{ℕ, ◌+◌, ◌*◌, ◌≤◌}
use native.Mathlib.Omega.{arith}
use lib.ListN.{length}
use Rattle.memory.specs.Sizes.{message_limit, frame_limit, cut_limit}
use Rattle.memory.specs.Tests.{all}
use Rattle.memory.proofs.Tests.{and_left, and_right}
use Rattle.records.specs.Records.{records, joined, is_not_cr, ends_with_cr}
use Rattle.records.proofs.Joined.{every, no_cr, joined_records}
use Rattle.faults.specs.Message.{is_message}
use Rattle.faults.proofs.Messages.{OthersLong, RecordsLong, message_short, message_ends, message_long}
use Rattle.pieces.specs.Pieces.{records_with_cr, cut_all, pieces_of}
use Rattle.pieces.proofs.Limits.{size, piece_count, first_counted}
use Rattle.cutting.specs.Frames.{cut_of}
use Rattle.cutting.proofs.Laws.{cut_long}

-- so each frame takes four bytes of a message or more, and two are left over
others_few : (rs : List (List ℕ)) → every (all is_not_cr) rs ≡ true → OthersLong rs → 4 * piece_count rs ≤ length (joined rs)
others_few [] h l = omega arith
others_few (r ∷ rs) h l =
    let c = first_counted r rs (and_left (all is_not_cr r) (every (all is_not_cr) rs) h) in
    let rest = others_few rs (and_right (all is_not_cr r) (every (all is_not_cr) rs) h) l.1 in
    let least = l.0 in
    omega arith

frames_few : (rs : List (List ℕ)) → every (all is_not_cr) rs ≡ true → RecordsLong rs → 4 * piece_count rs + 2 ≤ length (joined rs)
frames_few [] h l = absurd l
frames_few (r ∷ rs) h l =
    let c = first_counted r rs (and_left (all is_not_cr r) (every (all is_not_cr) rs) h) in
    let rest = others_few rs (and_right (all is_not_cr r) (every (all is_not_cr) rs) h) l.1 in
    let least = l.0 in
    omega arith

-- the frames of a text whose records are as long as a message's
cut_within : (m : List ℕ) → ends_with_cr m ≡ true → RecordsLong (records m) → length m ≤ message_limit → length (cut_of frame_limit m) ≤ cut_limit
unfolding pieces_of
cut_within m e l short =
    let few : 4 * length (cut_all size (records_with_cr m)) + 2 ≤ length m = rw (joined_records m e) at (frames_few (records m) (no_cr m) l) in
    omega (arith, few, cut_long frame_limit m (omega arith))

-- and so of every message
pub message_cut : (m : List ℕ) → is_message m ≡ true → length (cut_of frame_limit m) ≤ cut_limit
message_cut m h = cut_within m (message_ends _ m h) (message_long _ m h) (message_short _ m h)
