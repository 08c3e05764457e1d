-- What a host keeps after a run is sound, and stands for what the gateway calls so.
-- Assumes nothing.
use mathlib.Core.Path.{ap, subst, ◌∙◌}
use Prim.Native.Nat.{ℕ, ◌<◌}
use lib.ListN.{length}
use Rattle.memory.specs.Sizes.{lines}
use Rattle.header.specs.Header.{serial_count}
use Rattle.settings.specs.Settings.{block_limit}
use Rattle.line.specs.Line.{record_within}
use Rattle.strips.specs.Readers.{Memo}
use Rattle.layout.specs.Layout.{block_start}
use Rattle.keeping.proofs.Blocks.{length_numbers}
use Rattle.promises.specs.Sending as there
use Rattle.ledger.proofs.Ledgers.{serial_at_law}
use Rattle.numbers.proofs.Numbers.{record_within_law}
use Rattle.calls.specs.Calls.{HostState}
use Rattle.ngachodui_laws.specs.HostRuns.{gateway_state, Run, end_of}
use Rattle.ngachodui_laws.specs.Sound.{Intact, Sound}
use Rattle.ngachodui_laws.proofs.PutBack.{lines_length, line_at_law, memos_length, memo_at_law, used_long, serials_long}
use Rattle.ngachodui_laws.proofs.HostRuns.{end_in_order, host_always_sound}

-- an intact host stands for an intact gateway, with the same entries
abbrev pub intact : (s : HostState) → Intact s → there.Intact (gateway_state s)
intact s w = record {
  as_many = lines_length s.numbers 0 lines;
  as_many_memos = memos_length s.numbers 0 lines;
  within = λ i h. ap record_within (line_at_law s.numbers i h) ∙ record_within_law s.numbers i (w.in_order.within i h);
  blocks = λ i h. ap (λ (m : Memo). length m.block) (memo_at_law s.numbers i h) ∙ length_numbers s.numbers (block_start i) block_limit;
  texts = w.sizes.texts;
  frames = w.sizes.frames;
  journal = w.sizes.journal;
  lines_used = used_long s.numbers s.counts;
  lines_serials = serials_long s.numbers s.counts;
  serials = λ i h. rw (serial_at_law s.numbers s.counts i h) (w.serials i h);
  entries = w.entries;
  whole = w.whole;
}

pub always_sound : (r : Run) → Sound (end_of r)
always_sound r =
    let s = end_of r in
    let w = host_always_sound r in
    record {
      intact = record {
        in_order = end_in_order r;
        sizes = record { journal = w.held.long; texts = w.texts; frames = w.frames };
        serials = λ i h. subst (λ (n : ℕ). n < serial_count) (serial_at_law s.numbers s.counts i h) (w.held.serials i h);
        entries = w.entries;
        whole = w.held.whole;
      };
      holds = w.held;
    }
