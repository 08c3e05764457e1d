-- An event or a start by its line's parts and the store alone, and a taking by the store alone: what the proof of stretches asks of a machine with lines.
-- Assumes nothing.
use Rattle.answers.specs.declared.Answer.{Answer}
use Rattle.std.specs.Prelude.{ℕ, List, Err, Ok, Result}
use Rattle.memory.specs.Sizes.{journal_size, unfinished_size, frames_size}
use Rattle.memory.specs.Parts.{splice}
use Rattle.room.specs.Room.{todays_shares}
use Rattle.journal.specs.Removal.{take_of as take_entry}
use Rattle.journal_laws.specs.Runs.{State as Store}
use Rattle.looking.specs.Views.{joined_text}
use Rattle.receiving.specs.Verdicts.{own_work}
use Rattle.receiving.specs.Settled.{line_after, ledger_after, journal_after}
use Rattle.settings.specs.Settings.{by_dialogue}
use Rattle.settings.specs.declared.Patient.{Patient}
use Rattle.line.specs.Line.{record_within}
use Rattle.finding.specs.Findings.{finding_of}
use Rattle.uploads.specs.Uploads.{Deed, Ruling, ruling_of, line_by, memo_by, ledger_by, journal_by, block_of}
use Rattle.orders.specs.Starts.{can_start, start_look, start_answer, line_started}
use Rattle.taking.specs.Taking.{took_answer}
use Rattle.looking.specs.declared.Kind.{Kind}
use Rattle.looking.specs.declared.Act.{Act}
use Rattle.looking.specs.declared.Verdict.{Verdict}
use Rattle.gateway_laws.specs.Inner.Own.{own_frames, own_texts, own_block}
use Rattle.promises.specs.Machine.{Response, response, Coming, happens, starts, Parts, frames_out, told}

-- an event on a line of frames by its parts and the store alone
abbrev pub parts_after : Act → Parts → Kind → Parts
parts_after a p k = record { line = line_after a p.line; texts = own_texts a p.line p.texts p.frames; frames = own_frames a k p.line p.frames; memo = p.memo }

abbrev pub left : Verdict → ℕ → Parts → Kind → Store → Response × Parts × Store
left v i p k j = (
  response v.answer (frames_out v.answer (parts_after v.act p k)),
  parts_after v.act p k,
  record {
    ledger = ledger_after v.act j.ledger i (λ n. joined_text p.line n p.texts p.frames);
    journal = journal_after v.act j.ledger i (λ n. joined_text p.line n p.texts p.frames) j.journal;
  },
)

abbrev pub on_frames : ℕ → Parts → Kind → Store → Response × Parts × Store
on_frames i p k j = left (own_work todays_shares p.line j.ledger i k j.journal p.texts p.frames) i p k j

-- and on a reader's line, whose patient numbers are so long
abbrev pub parts_by : Deed → Parts → Kind → Parts
parts_by x p k = record { line = line_by x p.line; texts = p.texts; frames = own_block x k p.line p.frames; memo = memo_by x p.memo (block_of k p.line p.frames) }

abbrev pub store_by : Deed → ℕ → List ℕ → Store → Store
store_by x i text j = record { ledger = ledger_by x j.ledger i text; journal = journal_by x j.ledger i text j.journal }

abbrev pub left_on : Ruling → Patient → ℕ → Parts → Kind → Store → Response × Parts × Store
left_on x q i p k j = (told x.answer (parts_by x.deed p k), parts_by x.deed p k, store_by x.deed i (finding_of q (block_of k p.line p.frames)) j)

abbrev pub on_blocks : Patient → ℕ → Parts → Kind → Store → Response × Parts × Store
on_blocks q i p k j = left_on (ruling_of todays_shares q p.line p.memo j.ledger i k j.journal p.frames) q i p k j

-- an event, by what its line speaks
abbrev pub on_event : ℕ → Parts → Kind → Store → Response × Parts × Store
on_event i p k j = by_dialogue p.line.settings.dialogue (on_frames i p k j) (λ q. on_blocks q i p k j)

-- a start by its line's parts alone: the text goes to the start of the line's part of the unfinished texts
abbrev pub own_started : Result (Unit {0}) Answer → List ℕ → List ℕ → List ℕ
own_started (Ok tt) text texts = splice texts 0 text
own_started (Err a) text texts = texts

abbrev pub parts_started : Result (Unit {0}) Answer → Parts → List ℕ → Parts
parts_started x p text = record { line = line_started x p.line text; texts = own_started x text p.texts; frames = p.frames; memo = p.memo }

abbrev pub started_by : Result (Unit {0}) Answer → Parts → List ℕ → Store → Response × Parts × Store
started_by x p text j = (told (start_answer x) (parts_started x p text), parts_started x p text, j)

abbrev pub on_start : ℕ → Parts → List ℕ → Store → Response × Parts × Store
on_start i p text j = started_by (start_look i (record_within p.line) (can_start p.line) text journal_size unfinished_size frames_size) p text j

-- what comes on a line
abbrev pub on_coming : ℕ → Parts → Coming → Store → Response × Parts × Store
on_coming i p (happens k) j = on_event i p k j
on_coming i p (starts text) j = on_start i p text j

-- a taking by the store alone
abbrev pub on_taking : ℕ → List ℕ → Store → Response × Store
on_taking i b j =
    let r = take_entry j.ledger i j.journal b in
    (response (took_answer r.taking.answer) r.buffer, record { ledger = r.taking.ledger; journal = r.journal })
