-- What line i has of the lent memory, and the bytes that a byte b would make a frame of.
-- Assumes nothing.
use Rattle.std.specs.Prelude.{ℕ, ◌*◌, List, [], ◌∷◌, ◌++◌}
use Rattle.memory.specs.Sizes.{frame_part, message_limit}
use Rattle.memory.specs.Parts.{part}
use Rattle.line.specs.declared.Line.{Line}

-- where its parts start [E12]
abbrev pub frame_start : ℕ → ℕ
frame_start i = i * frame_part

abbrev pub text_start : ℕ → ℕ
text_start i = i * message_limit

-- its parts [E1]
abbrev pub frames_of : ℕ → List ℕ → List ℕ
frames_of i frames = part frames (frame_start i) frame_part

abbrev pub texts_of : ℕ → List ℕ → List ℕ
texts_of i unfinished = part unfinished (text_start i) message_limit

-- Of its own parts: the bytes collected, with the one that has come; and the unfinished text [E7]
abbrev pub frame_bytes : Line → ℕ → List ℕ → List ℕ
frame_bytes l b frames = part frames 0 l.collected ++ (b ∷ [])

abbrev pub unfinished_text : Line → List ℕ → List ℕ
unfinished_text l texts = part texts 0 l.joined

-- n bytes behind the digit of its frame: the frame's text [F6]
abbrev pub frame_text : ℕ → List ℕ → List ℕ
frame_text n frames = part frames 1 n

-- the text that the line has then [F6]
abbrev pub joined_text : Line → ℕ → List ℕ → List ℕ → List ℕ
joined_text l n texts frames = unfinished_text l texts ++ frame_text n frames
