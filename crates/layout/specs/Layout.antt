-- The layout of what a host keeps: where each number stands, what they are in a fresh gateway, and how many there are.
-- Assumes nothing.
use Rattle.std.specs.Prelude.{ℕ, zero, suc, ◌+◌, ◌*◌, ◌≡◌, Bool, true, cond, ◌&&◌, ◌||◌, List, [], ◌∷◌, ◌++◌, eqb, get_or, replicate}
use Rattle.memory.specs.Sizes.{lines, journal_size, unfinished_size, frames_size}
use Rattle.memory.specs.Tests.{unless}
use Rattle.settings.specs.Settings.{block_limit}
use Rattle.layout.specs.declared.Layout.{Layout}

-- each line has so many numbers, the last two of them spare, and they start here [H1]
abbrev pub fields : ℕ
fields = 16

abbrev pub start : ℕ → ℕ
start i = i * fields

-- how many places behind its state, the first, each of a line's numbers stands
abbrev pub collected_at : ℕ
collected_at = 1

abbrev pub joined_at : ℕ
joined_at = 2

abbrev pub seconds_at : ℕ
seconds_at = 3

abbrev pub next_at : ℕ
next_at = 4

abbrev pub last_at : ℕ
last_at = 5

abbrev pub refusing_at : ℕ
refusing_at = 6

abbrev pub serial_at : ℕ
serial_at = 7

abbrev pub tries_at : ℕ
tries_at = 8

abbrev pub place_at : ℕ
place_at = 9

abbrev pub speaks_at : ℕ
speaks_at = 10

abbrev pub reply_at : ℕ
reply_at = 11

abbrev pub since_at : ℕ
since_at = 12

abbrev pub kept_at : ℕ
kept_at = 13

-- the first number of line i, its state, and the number k places on
abbrev pub first_at : List ℕ → ℕ → ℕ
first_at ns i = get_or ns (start i) 0

abbrev pub number_at : List ℕ → ℕ → ℕ → ℕ
number_at ns i k = get_or ns (start i + k) 0

-- behind all of them the last stored block of each line, a byte to a number; and how many numbers there are [H1]
abbrev pub block_start : ℕ → ℕ
block_start i = lines * fields + i * block_limit

abbrev pub numbers_size : ℕ
numbers_size = lines * fields + lines * block_limit

-- higher with each layout that is not the one before: a host compiled for another one must not use this library
abbrev pub version : ℕ
version = 3

-- the numbers of all lines, a used count for each and the bytes in use, and the three memories [H1]
abbrev pub layout : Layout
layout = record { version = version; numbers = numbers_size; counts = lines + 1; journal = journal_size; unfinished = unfinished_size; frames = frames_size }

-- what a line can be set to speak: frames, or the blocks of a strip reader whose patient numbers have so many bytes [B1, B12]
abbrev pub frames : ℕ
frames = 0

abbrev pub blocks_of10 : ℕ
blocks_of10 = 10

abbrev pub blocks_of13 : ℕ
blocks_of13 = 13

abbrev pub is_spoken : ℕ → Bool
is_spoken n = eqb n frames || (eqb n blocks_of10 || eqb n blocks_of13)

-- a started line: neutral, next number 1, the next serial 0, it speaks this, and all others are 0; and the numbers of so many, the first that of line i [H2]
abbrev pub started_line : ℕ → List ℕ
started_line speaks = 0 ∷ 0 ∷ 0 ∷ 0 ∷ 1 ∷ 0 ∷ 0 ∷ 0 ∷ 0 ∷ 0 ∷ speaks ∷ replicate 5 0

abbrev pub started_lines : List ℕ → ℕ → ℕ → List ℕ
started_lines ts i zero = []
started_lines ts i (suc n) = started_line (get_or ts i 0) ++ started_lines ts (suc i) n

-- the numbers of all lines, and no block stored [H2]
abbrev pub started_numbers : List ℕ → List ℕ
started_numbers ts = started_lines ts 0 lines ++ replicate (lines * block_limit) 0

-- every line speaks frames [H2]
abbrev pub fresh_numbers : List ℕ
fresh_numbers = started_numbers (replicate lines frames)

-- every line fresh, the journal empty [E3]
pub record Fresh (ns us : List ℕ) : Type 0 where
  pub numbers : ns ≡ fresh_numbers
  pub counts : us ≡ replicate (lines + 1) 0

-- a start with what each line speaks: 0, or 42 where one of them is nothing that a line can speak, and then nothing is changed [B1, B12]
abbrev pub spoken_from : List ℕ → ℕ → ℕ → Bool
spoken_from ts i zero = true
spoken_from ts i (suc n) = is_spoken (get_or ts i 0) && spoken_from ts (i + 1) n

abbrev pub can_start : List ℕ → Bool
can_start ts = spoken_from ts 0 lines

pub record Started (ts ns us : List ℕ) (r : ℕ) (ns' us' : List ℕ) : Type 0 where
  pub answer : r ≡ cond (can_start ts) 0 42
  pub numbers : ns' ≡ unless (can_start ts) ns (started_numbers ts)
  pub counts : us' ≡ unless (can_start ts) us (replicate (lines + 1) 0)
