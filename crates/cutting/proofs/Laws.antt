-- How long the frames of a text are.
-- Assumes nothing.
use mathlib.Core.Path.{◌≡◌, ap, ◌∙◌}
use mathlib.Core.List.{List, [], ◌∷◌}
use Prim.Native.Nat.{ℕ, ◌+◌, ◌*◌, ◌<◌}
use native.Mathlib.Omega.{arith}
use lib.ListN.{length}
use Rattle.memory.specs.Sizes.{frame_limit}
use Rattle.digits.specs.Number.{first_number}
use Rattle.frame.specs.Shape.{around_text}
use Rattle.pieces.specs.Pieces.{pieces_of}
use Rattle.pieces.proofs.Laws.{pieces_bytes}
use Rattle.cutting.specs.Frames.{cut_of}
use Rattle.cutting.proofs.Written.{frames_long}

-- the output is as long as the text and 7 for each frame
pub cut_long : (limit : ℕ) (text : List ℕ) → around_text < limit → length (cut_of limit text) ≡ length text + around_text * length (pieces_of limit text)
unfolding cut_of
cut_long limit text h =
    frames_long first_number (pieces_of limit text)
    ∙ ap (λ (l : List ℕ). length l + around_text * length (pieces_of limit text)) (pieces_bytes limit text h)

-- the 12 bytes H|\^& CR L|1|N CR
abbrev pub twelve : List ℕ
twelve = 0x48 ∷ 0x7c ∷ 0x5c ∷ 0x5e ∷ 0x26 ∷ 0x0d ∷ 0x4c ∷ 0x7c ∷ 0x31 ∷ 0x7c ∷ 0x4e ∷ 0x0d ∷ []

-- cut, they are 26 bytes
pub twelve_cut : length (cut_of frame_limit twelve) ≡ 26
unfolding pieces_of
twelve_cut = cut_long frame_limit twelve (omega arith)
