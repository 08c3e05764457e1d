-- A start of a host is the gateway's start: the numbers after it stand for the gateway after it.
-- Assumes nothing.
use Rattle.std.specs.Prelude.{Err, Ok, Result}
use Rattle.answers.specs.declared.Answer.{Answer}
use mathlib.Core.Path.{◌≡◌, refl, sym, ap, subst, ◌∙◌}
use mathlib.Core.Logic.{◌≢◌}
use mathlib.Core.Bool.{true, false}
use mathlib.Core.List.{List}
use Prim.Native.Nat.{ℕ, ◌+◌, ◌≤◌, ◌<◌}
use native.Mathlib.Decide.{dec_lt, ℕ_discrete}
use native.Mathlib.Omega.{arith}
use lib.ListN.{length, set}
use lib.Seq.{set-get_or}
use Rattle.memory.specs.Sizes.{lines, message_limit}
use Rattle.memory.specs.Parts.{splice}
use Rattle.memory.proofs.Lines.{part_elsewhere}
use Rattle.memory.proofs.Tests.{clash, and_right}
use Rattle.settings.specs.Settings.{by_dialogue, speaks_frames}
use Rattle.settings.specs.declared.Dialogue.{Dialogue}
use Rattle.settings.specs.declared.Dialogue.TheVariants.{Frames, Blocks}
use Rattle.journal.specs.declared.Ledger.{Ledger}
use Rattle.line.specs.Line.{within_limits, record_within, asked_line}
use Rattle.line.specs.declared.Line.{Line}
use Rattle.line.proofs.Limits.{within_facts, within_of, asked_within}
use Rattle.looking.specs.Views.{text_start, texts_of}
use Rattle.layout.specs.Layout.{number_at}
use Rattle.ledger.specs.Ledgers.{ledger_of}
use Rattle.ledger.proofs.Ledgers.{used_back}
use Rattle.numbers.specs.Plain.{line_of, reader_fits, within_numbers, with_line}
use Rattle.numbers.proofs.Numbers.{line_within, record_within_law, serial_back}
use Rattle.orders.specs.Starts.{is_neutral, can_start, start_look}
use Rattle.orders.proofs.Looks.{look_no_line, Passed, asks_passed, passed_fits}
use Rattle.gateway.specs.Events.{line_at, no_record, started_with, start_in, start_of}
use Rattle.gateway.specs.Gateway.{Gateway}
use Rattle.calls.specs.Calls.{HostState}
use Rattle.ngachodui_laws.specs.Hosting.{gateway_of}
use Rattle.ngachodui_laws.specs.HostRuns.{InOrder, start_from, started_by}
use Rattle.ngachodui_laws.specs.Inner.Hosting.{Hosts}
use Rattle.ngachodui_laws.proofs.Stores.{stored, stored_length, within_other, within_own, readers_stay, spare_stays}
use Rattle.ngachodui_laws.proofs.Touched.{Touched}
use Rattle.ngachodui_laws.proofs.Hosts.{frames_number}
use Rattle.ngachodui_laws.proofs.PutBack.{line_at_law, gateway_put}

-- a ledger that is left is touched on any line
left_touched : (d : Ledger) (i : ℕ) → Touched d i d
left_touched d i = record { used = sym (set-get_or d.used i 0); serials = sym (set-get_or d.serials i 0) }

-- what a start has passed, told of the numbers
abbrev pub PassedHere : HostState → ℕ → List ℕ → Type 0
PassedHere s i text =
    Passed i (within_numbers s.numbers i) (can_start (line_of s.numbers i)) text (length s.memory.journal) (length s.memory.unfinished) (length s.memory.frames)

pub host_passed : (s : HostState) (i : ℕ) (text : List ℕ) → start_from s i text ≡ Ok tt → PassedHere s i text
host_passed s i text e = asks_passed i _ (can_start (line_of s.numbers i)) text _ _ _ e

pub host_short : (s : HostState) (i : ℕ) (text : List ℕ) → PassedHere s i text → length text ≤ message_limit
host_short s i text x = (passed_fits i _ (can_start (line_of s.numbers i)) text _ _ _ x).0

-- a line that can start speaks frames
speaks_frames_law : (x : Dialogue) → by_dialogue x true (λ p. false) ≡ true → x ≡ Frames
speaks_frames_law Frames e = refl
speaks_frames_law (Blocks p) e = clash cc

pub starts_frames : (ns : List ℕ) (i : ℕ) → can_start (line_of ns i) ≡ true → number_at ns i 10 ≡ 0
starts_frames ns i e =
    frames_number (number_at ns i 10) (speaks_frames_law (line_of ns i).settings.dialogue (and_right (is_neutral (line_of ns i).state) (speaks_frames (line_of ns i).settings) e))

-- a record put into the numbers alone: the serial is as it was
pub put_line_is : (s : HostState) (i : ℕ) → i < lines → (l : Line) → with_line s.numbers i l ≡ stored s.numbers i l (ledger_of s.numbers s.counts)
put_line_is s i h l = sym (serial_back s.numbers s.counts i l h)

-- the text goes to its line's own part of the unfinished texts
pub texts_elsewhere : (s : HostState) (i : ℕ) (text : List ℕ) → PassedHere s i text → (l : ℕ) → l ≢ i → texts_of l (splice s.memory.unfinished (text_start i) text) ≡ texts_of l s.memory.unfinished
texts_elsewhere s i text x l n =
    let (short, long) = passed_fits i _ (can_start (line_of s.numbers i)) text _ _ _ x in
    let from : text_start i ≡ text_start i + 0 = omega arith in
    ap (λ (at : ℕ). texts_of l (splice s.memory.unfinished at text)) from
    ∙ part_elsewhere message_limit s.memory.unfinished i l 0 text (λ q. n (sym q)) (omega (arith, long, x.line)) (omega (arith, short))

module _ (s : HostState) (o : InOrder s) (i : ℕ) (text : List ℕ) where
  abbrev g : Gateway
  g = gateway_of s.numbers s.counts

  line_is : i < lines → line_at g i ≡ line_of s.numbers i
  line_is h = line_at_law s.numbers i h

  -- both look alike
  pub same_start : start_from s i text ≡ start_in g i text s.memory
  same_start = elim (dec_lt i lines) [
    | yes h ↦
        let own = line_is h in
        let within : within_numbers s.numbers i ≡ record_within (line_at g i) = o.within i h ∙ sym (ap record_within own ∙ record_within_law s.numbers i (o.within i h)) in
        λ z. start_look i (within z) (can_start (sym own z)) text (length s.memory.journal) (length s.memory.unfinished) (length s.memory.frames)
    | no h ↦ sym (look_no_line i _ (can_start (line_of s.numbers i)) text _ _ _ (omega arith)) ∙ look_no_line i _ (can_start (line_at g i)) text _ _ _ (omega arith)
  ]

  module _ (x : PassedHere s i text) where
    abbrev asked : Line
    asked = asked_line (line_of s.numbers i) (length text)

    abbrev d : Ledger
    d = ledger_of s.numbers s.counts

    put : with_line s.numbers i asked ≡ stored s.numbers i asked d
    put = put_line_is s i x.line asked

    -- it speaks frames
    speaks : number_at s.numbers i 10 ≡ 0
    speaks = starts_frames s.numbers i x.free

    asked_limits : within_limits asked ≡ true
    asked_limits =
        let within = line_within s.numbers i x.limits speaks in
        within_of asked (asked_within (line_of s.numbers i) (within_facts (line_of s.numbers i) within) (length text) (host_short s i text x))

    each_within : (k : ℕ) → k < lines → within_numbers (stored s.numbers i asked d) k ≡ true
    each_within k q = elim (ℕ_discrete k i) [
      | yes p ↦ rw p (within_own s.numbers i asked d (omega (arith, o.numbers, x.line)) speaks asked_limits)
      | no n ↦ within_other s.numbers i asked d k n ∙ o.within k q
    ]

    gateway_asked : gateway_of (with_line s.numbers i asked) s.counts ≡ record { lines = set g.lines i (asked_line (line_at g i) (length text)); memos = g.memos; ledger = g.ledger }
    gateway_asked =
        let counts = sym (used_back s.numbers s.counts i x.line) in
        (λ z. gateway_of (put z) (counts z))
        ∙ gateway_put s.numbers s.counts i x.line asked d o.numbers o.counts (left_touched d i) refl
        ∙ ap (λ (l : Line). record { lines = set g.lines i (asked_line l (length text)); memos = g.memos; ledger = g.ledger }) (sym (line_is x.line))

    asks_hosts : Hosts (started_by (Ok tt) s i text) (started_with (Ok tt) g i text s.memory)
    asks_hosts = record {
      gateway = gateway_asked;
      answer = refl;
      memory = refl;
      ordered = record {
        numbers = ap length put ∙ stored_length s.numbers i asked d ∙ o.numbers;
        counts = o.counts;
        within = λ k q. ap (λ (ns : List ℕ). within_numbers ns k) put ∙ each_within k q;
        readers = λ k q. ap (λ (ns : List ℕ). reader_fits ns k) put ∙ readers_stay s.numbers i asked d k ∙ o.readers k q;
        spare = λ k q m p r. ap (λ (ns : List ℕ). number_at ns k m) put ∙ spare_stays s.numbers i asked d k m (omega arith) r ∙ o.spare k q m p r;
      };
    }

  by_start : (x : Result (Unit {0}) Answer) → start_from s i text ≡ x → Hosts (started_by x s i text) (started_with x g i text s.memory)
  by_start (Ok tt) e = asks_hosts (host_passed s i text e)
  by_start (Err a) e =
      let same = sym (set-get_or g.lines i no_record) in
      record { gateway = λ z. record { lines = same z; memos = g.memos; ledger = g.ledger }; answer = refl; memory = refl; ordered = o }

  pub start_hosts : Hosts (started_by (start_from s i text) s i text) (start_of g i text s.memory)
  unfolding start_of
  start_hosts = subst (λ (x : Result (Unit {0}) Answer). Hosts (started_by (start_from s i text) s i text) (started_with x g i text s.memory)) same_start (by_start (start_from s i text) refl)
