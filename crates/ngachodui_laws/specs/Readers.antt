-- A strip reader's line, as a host has it: what its blocks are answered, what is stored of them, and what goes out to the reader.
-- Assumes nothing.
use Rattle.strips.specs.declared.Reply.TheVariants.{Again, More}
use Rattle.std.specs.Prelude.{ℕ, ◌≡◌, true, List, [], ◌∷◌, ◌++◌, length, Some}
use Rattle.settings.specs.declared.Patient.{Patient}
use Rattle.block.specs.Places.{matches}
use Rattle.block.specs.Layouts.{mor, rep, control_block}
use Rattle.block.specs.Judged.{control_length, is_tested}
use Rattle.block.specs.Controls.{control_bytes}
use Rattle.strips.specs.Readers.{Memo}
use Rattle.strips.specs.Replies.{reply_number}
use Rattle.looking.specs.declared.Kind.TheVariants.{Byte}
use Rattle.promises.specs.Machine.{came}
use Rattle.promises.specs.Readers.{Ends, block_at}
use Rattle.layout.specs.Layout.{reply_at, number_at}
use Rattle.keeping.specs.Keeping.{memo_of}
use Rattle.calls.specs.Calls.{HostState}
use Rattle.ngachodui_laws.specs.HostRuns.{gateway_state, host_step, number_to, after, Run, begin_of}
use Rattle.ngachodui_laws.specs.Outcomes.{StoreKept}
use Rattle.ngachodui_laws.specs.Queue.{all_stored}

-- line i is a reader's, with patient numbers of this length, and the byte b ends a block there; and that block [B1, B6]
abbrev pub EndsBlock : HostState → ℕ → ℕ → Patient → Type 0
EndsBlock s i b p = Ends (gateway_state s) i b p

abbrev pub ended_block : HostState → ℕ → ℕ → List ℕ
ended_block s i b = block_at (gateway_state s) i b

-- what is kept of the reader on line i
abbrev pub memo_on : HostState → ℕ → Memo
memo_on s i = memo_of s.numbers i

-- what the host sends with the answer to a byte
abbrev pub sent_with : HostState → ℕ → ℕ → List ℕ
sent_with s i b = (host_step s (came i (Byte b))).0.buffer

-- the byte b on line i is answered with this number, the host sends these bytes, and nothing is stored
pub record NotStored (s : HostState) (i b number : ℕ) (sent : List ℕ) : Type 0 where
  pub answer : number_to s (came i (Byte b)) ≡ number
  pub out : sent_with s i b ≡ sent
  pub store : StoreKept s (after s (came i (Byte b)))

-- all texts that a run and then the byte b on line i store on that line
abbrev pub stored_with : Run → ℕ → ℕ → List (List ℕ)
stored_with r i b = all_stored i (begin_of r) (r.calls ++ (came i (Byte b) ∷ []))

-- what goes out to a reader: MOR or REP, by our last reply as the numbers have it [B4, B11]
pub data ToReader (t : HostState) (i : ℕ) (sent : List ℕ) : Type 0 where
  more : number_at t.numbers i reply_at ≡ reply_number (Some More) → sent ≡ control_bytes mor → ToReader t i sent
  again : number_at t.numbers i reply_at ≡ reply_number (Some Again) → sent ≡ control_bytes rep → ToReader t i sent

-- a control block passes our own tests of length, test bytes and layout [B2, B3, B4]
pub record RightControl (code : ℕ) : Type 0 where
  pub long : length (control_bytes code) ≡ control_length
  pub tested : is_tested (control_bytes code) ≡ true
  pub laid_out : matches (control_block code) (control_bytes code) ≡ true
