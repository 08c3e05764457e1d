-- The thirteen examples, by a single claim over their list.
-- Assumes nothing.
use mathlib.Core.Path.{◌≡◌, refl}
use mathlib.Core.List.{map}
use lib.ListN.{length}
use Rattle.characters.specs.Allowed.{allowed}
use Rattle.digits.specs.Check.{total, check_of, hex_digit, digits_of}
use Rattle.digits.specs.Number.{next_number}
use Rattle.framing.specs.Writing.{body_of, tail_of, collected_of, frame_of}
use Rattle.kinds.specs.Delimiters.{delimiters_of, is_delimiter, different, are_delimiters}
use Rattle.kinds.specs.Header.{is_header}
use Rattle.faults.specs.Message.{is_message_by}
use Rattle.kinds.specs.Kinds.{kind_of, type_of, may_follow}
use Rattle.sequence.specs.Numbers.{number_of}
use Rattle.cutting.specs.Frames.{cut_of}
use Rattle.pieces.specs.Pieces.{pieces_of}
use Rattle.header.specs.Header.{head_size}
use Rattle.room.specs.Room.{claims}
use Rattle.journal.specs.Storage.{grown}
use Rattle.promises.specs.Examples.{Example, examples}

pub thirteen : length examples ≡ 13
thirteen = refl

pub shown : map (λ (x : Example). x.gives) examples ≡ map (λ (x : Example). x.says) examples
unfolding allowed total check_of hex_digit digits_of next_number body_of tail_of collected_of frame_of is_message_by delimiters_of is_delimiter different are_delimiters is_header kind_of type_of may_follow number_of cut_of pieces_of head_size claims grown
shown = refl
