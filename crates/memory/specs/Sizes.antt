-- The sizes of texts, frames and memories, each named once.
-- Assumes nothing.
use Rattle.std.specs.Prelude.{ℕ, ◌*◌}

-- the serial lines, numbered from 0 [E1]
abbrev pub lines : ℕ
lines = 8

-- the most bytes of a message, and so of a line's unfinished text [E1]
abbrev pub message_limit : ℕ
message_limit = 4000

-- the most bytes of a frame, from STX to LF [F1]
abbrev pub frame_limit : ℕ
frame_limit = 247

-- the bytes of the journal [E12]
abbrev pub journal_size : ℕ
journal_size = 32768

-- a line's part of the frames: the longest frame that a line may take, without its STX [E1]
abbrev pub frame_part : ℕ
frame_part = 246

-- the frames and the unfinished texts of all lines [E12]
abbrev pub frames_size : ℕ
frames_size = lines * frame_part

abbrev pub unfinished_size : ℕ
unfinished_size = lines * message_limit

-- the most records of a message [C6]
abbrev pub records_limit : ℕ
records_limit = 999

-- the most bytes of a message's frames [C6]
abbrev pub cut_limit : ℕ
cut_limit = 10993
