-- What acting leaves of the line's own parts, told of those parts alone.
-- Assumes nothing.
use Rattle.std.specs.Prelude.{ℕ, cond, List, [], ◌∷◌}
use Rattle.memory.specs.Parts.{splice}
use Rattle.line.specs.declared.Line.{Line}
use Rattle.looking.specs.Views.{frame_text}
use Rattle.looking.specs.declared.Kind.{Kind}
use Rattle.looking.specs.declared.Kind.TheVariants.{Byte, Seconds}
use Rattle.looking.specs.declared.Act.{Act}
use Rattle.receiving.specs.Settled.{row_of, by_length}
use Rattle.uploads.specs.Uploads.{Deed, leave, add, settle, file}

abbrev pub own_byte : Kind → Line → List ℕ → List ℕ
own_byte (Byte b) l frames = splice frames l.collected (b ∷ [])
own_byte (Seconds s) l frames = frames

abbrev pub own_frames : Act → Kind → Line → List ℕ → List ℕ
own_frames a k l frames = cond (row_of a).adds (own_byte k l frames) frames

abbrev pub own_texts : Act → Line → List ℕ → List ℕ → List ℕ
own_texts a l texts frames = by_length (row_of a).writes texts (λ n. splice texts l.joined (frame_text n frames))

-- on a reader's line no text is written: only the frame bytes can change
abbrev pub own_block : Deed → Kind → Line → List ℕ → List ℕ
own_block leave k l frames = frames
own_block add k l frames = own_byte k l frames
own_block (settle r) k l frames = own_byte k l frames
own_block file k l frames = own_byte k l frames
