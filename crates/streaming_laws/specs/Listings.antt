-- The listing of a whole trace: its header, its rows, and the line that closes it.
-- Assumes nothing.
use Rattle.std.specs.Prelude.{ℕ, List, [], ◌∷◌, ◌++◌}
use Rattle.listing.specs.Texts.{newline, header_text, total_text, fault_text}
use Rattle.replaying.specs.Desk.{Desk}
use Rattle.replaying.specs.Runs.{following}
use Rattle.replaying.specs.Listed.{Listed, in_front, listing_of}
use Rattle.replaying.specs.declared.Stop.{Stop}
use Rattle.replaying.specs.declared.Stop.TheVariants.{Input, Output, NotAnEvent}

-- a last line without a newline counts: where the whole lines of a trace are run and some bytes are left, they are run with a newline behind them [T11]
abbrev pub by_rest : Stop → List ℕ → Listed → Listed
by_rest Input [] l = l
by_rest Input (b ∷ rest) l = in_front l.rows (listing_of (l.rest ++ (newline ∷ [])) l.events l.desk)
by_rest Output rest l = l
by_rest NotAnEvent rest l = l

abbrev pub with_last : Listed → Listed
with_last l = by_rest l.stop l.rest l

abbrev pub whole_of : List ℕ → ℕ → Desk → Listed
whole_of trace n d = with_last (listing_of trace n d)

-- the number of events, or the number of the line that is not one
abbrev pub closing_of : Stop → ℕ → List ℕ
closing_of Input n = total_text n
closing_of Output n = total_text n
closing_of NotAnEvent n = fault_text (following n)

abbrev pub text_of : Listed → List ℕ
text_of l = l.rows ++ closing_of l.stop l.events

-- the listing of a trace, from a desk [T11]
abbrev pub listing_text : List ℕ → Desk → List ℕ
listing_text trace d = header_text ++ text_of (whole_of trace 0 d)
