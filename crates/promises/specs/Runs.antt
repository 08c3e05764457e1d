-- Runs from a beginning, and what is promised all along them.
-- Assumes nothing.
use Rattle.std.specs.Prelude.{ℕ, ◌+◌, ◌<◌, ◌≡◌, Bool, true, false, cond, not, ◌&&◌, List, eqb, length, get_or, replicate, None, Option, Some}
use Rattle.memory.specs.Sizes.{lines, journal_size, unfinished_size, frames_size}
use Rattle.memory.specs.Tests.{between}
use Rattle.header.specs.Header.{entry_size}
use Rattle.room.specs.Room.{share, todays_shares, fits, raised}
use Rattle.settings.specs.Settings.{by_dialogue, standard_settings}
use Rattle.settings.specs.declared.Settings.{Settings}
use Rattle.settings.specs.declared.Patient.{Patient}
use Rattle.line.specs.declared.Line.{Line}
use Rattle.block.specs.Judged.{judged_of}
use Rattle.block.specs.declared.Judged.{Judged}
use Rattle.block.specs.declared.Judged.TheVariants.{OddLength, OddTest, OddByte, Multiple, Repeat, End, Colours, Results}
use Rattle.finding.specs.Findings.{finding_of}
use Rattle.strips.specs.Readers.{Memo, is_again}
use Rattle.strips.specs.Sights.{sight_of}
use Rattle.strips.specs.declared.Sight.{Sight}
use Rattle.strips.specs.declared.Sight.TheVariants.{Ignores, Adds, Judges}
use Rattle.uploads.specs.Uploads.{block_bytes}
use Rattle.answers.specs.Paper.{ack, number_of, first_out}
use Rattle.looking.specs.Views.{frames_of, texts_of, joined_text}
use Rattle.looking.specs.Looks.{look_of}
use Rattle.receiving.specs.Steps.{Memory}
use Rattle.gateway.specs.Events.{line_at, dialogue_at, memo_at, started_gateway}
use Rattle.looking.specs.declared.Kind.{Kind}
use Rattle.looking.specs.declared.Kind.TheVariants.{Byte, Seconds}
use Rattle.looking.specs.declared.Look.{Look}
use Rattle.looking.specs.declared.Look.TheVariants.{Done, Decides}
use Rattle.promises.specs.Machine.{State, Response}

-- memory of the right sizes, whatever it holds
pub record RightSizes (m : Memory) : Type 0 where
  pub journal : length m.journal ≡ journal_size
  pub texts : length m.unfinished ≡ unfinished_size
  pub frames : length m.frames ≡ frames_size

-- what a run begins with: what each line is set to speak, and the lent memory
pub record Beginning : Type 0 where
  pub settings : List Settings
  pub memory : Memory

-- settings for each line, and memory of the right sizes
pub record Right (b : Beginning) : Type 0 where
  pub settings : length b.settings ≡ lines
  pub sizes : RightSizes b.memory

abbrev pub fresh : Beginning → State
fresh b = record { gateway = started_gateway b.settings; memory = b.memory }

-- every line speaks frames [E3]
abbrev pub standard_beginning : Memory → Beginning
standard_beginning m = record { settings = replicate lines standard_settings; memory = m }

-- the number of an answer, and the first byte that goes out with it, if any
abbrev pub answered : Response → ℕ
answered t = number_of t.answer

abbrev pub replied : Response → Option ℕ
replied t = first_out t.answer

abbrev pub is_ack : Option ℕ → Bool
is_ack None = false
is_ack (Some b) = eqb b ack

-- whether a number speaks of damage, that is of memory, a record or a journal that no run leaves: 41, 42, 43
abbrev pub is_damage : ℕ → Bool
is_damage n = between 41 43 n

-- the text that a look at a line of frames completes: n bytes of its frame behind the line's text; none where it completes none
abbrev pub offered_by : State → ℕ → Look → Option (List ℕ)
offered_by s i (Done v) = None
offered_by s i (Decides n) = Some (joined_text (line_at s.gateway i) n (texts_of i s.memory.unfinished) (frames_of i s.memory.frames))

-- on a reader's line a block with results that is right and is no repeat of the last stored one is wanted [B9, B10]
abbrev pub is_results : Judged → Bool
is_results OddLength = false
is_results OddTest = false
is_results OddByte = false
is_results Multiple = false
is_results Repeat = false
is_results End = false
is_results Colours = false
is_results Results = true

abbrev pub is_wanted : Patient → Memo → List ℕ → Bool
is_wanted p w bs = is_results (judged_of p bs) && not (is_again w bs)

-- and its finding is the text that the byte which ends it completes [B9]
abbrev pub offered_at : Patient → Memo → List ℕ → Sight → Option (List ℕ)
offered_at p w bs Ignores = None
offered_at p w bs Adds = None
offered_at p w bs Judges = cond (is_wanted p w bs) (Some (finding_of p bs)) None

abbrev pub offered_in : Patient → Line → Memo → List ℕ → Kind → Option (List ℕ)
offered_in p l w frames (Byte b) = offered_at p w (block_bytes l b frames) (sight_of p l b)
offered_in p l w frames (Seconds n) = None

-- the text that an event completes on its line, by what that speaks
abbrev pub offered : State → ℕ → Kind → Option (List ℕ)
offered s i k =
    by_dialogue (dialogue_at s.gateway i)
    (offered_by s i (look_of (line_at s.gateway i) k (texts_of i s.memory.unfinished) (frames_of i s.memory.frames)))
    (λ p. offered_in p (line_at s.gateway i) (memo_at s.gateway i) (frames_of i s.memory.frames) k)

-- the event completes a message on its line, and the message's length is such a one
pub record Completes (s : State) (i : ℕ) (k : Kind) (Such : ℕ → Type 0) : Type 0 where
  pub text : List ℕ
  pub complete : offered s i k ≡ Some text
  pub such : Such (length text)

-- the bytes that line i uses, and would use with a text of n bytes: the header is counted
abbrev pub used_by : State → ℕ → ℕ
used_by s i = get_or s.gateway.ledger.used i 0

abbrev pub used_with : State → ℕ → ℕ → ℕ
used_with s i n = used_by s i + entry_size n

-- it exceeds what is left of the line's own share [J14]
abbrev pub Overfull : State → ℕ → Kind → Type 0
Overfull s i k = Completes s i k (λ n. share < used_with s i n)

-- whether there is room on line i for a text of n bytes: with it, the lines' claims do not exceed the journal
abbrev pub has_space : State → ℕ → ℕ → Bool
has_space s i n = fits todays_shares (raised s.gateway.ledger.used i (entry_size n))

-- there is no room for it, and there is
abbrev pub NoSpace : State → ℕ → Kind → Type 0
NoSpace s i k = Completes s i k (λ n. has_space s i n ≡ false)

abbrev pub Space : State → ℕ → Kind → Type 0
Space s i k = Completes s i k (λ n. has_space s i n ≡ true)

-- it takes more room than a text of m bytes
abbrev pub Larger : State → ℕ → Kind → ℕ → Type 0
Larger s i k m = Completes s i k (λ n. entry_size m < entry_size n)

-- what one line can use where the others use nothing: all but their shares [J7]
abbrev pub most_alone : ℕ
most_alone = 18432
