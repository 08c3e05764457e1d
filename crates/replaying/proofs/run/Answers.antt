-- `replaying::run` meets its contract.
-- Assumes nothing.
use Rattle.std.proofs.Common.{◌≡◌, ℕ, ◌+◌, ◌-◌, ◌<◌, length, sym, refl, ap, ◌∙◌, arith}
use Rattle.replaying.specs.Lents.{desk, SameReferences, SameLengths}
use Rattle.replaying.specs.declared.Lent.{Lent}
use Rattle.replaying.specs.Runs.{following, run_of}
use Rattle.replaying.proofs.Ways.{asks_within, asks_fits, went, stops}
use Rattle.replaying.proofs.Pieces.{went_on, stopped_at, ran_out}
use Rattle.replaying.proofs.run.Goals as goal

-- the references of a turn and those of the turn before
same_on : {a b c : Lent} → SameReferences a b → SameReferences b c → SameReferences a c
same_on p q = record {
  numbers = q.numbers ∙ p.numbers;
  counts = q.counts ∙ p.counts;
  journal = q.journal ∙ p.journal;
  unfinished = q.unfinished ∙ p.unfinished;
  frames = q.frames ∙ p.frames;
  buffer = q.buffer ∙ p.buffer;
}

-- and their lengths
lengths_on : {a b c : Lent} → SameLengths a b → SameLengths b c → SameLengths a c
lengths_on p q = record {
  journal = q.journal ∙ p.journal;
  unfinished = q.unfinished ∙ p.unfinished;
  frames = q.frames ∙ p.frames;
  buffer = q.buffer ∙ p.buffer;
}

pub loop-init : goal.loop-init
loop-init c =
    let all : length c.args.input.now - 0 ≡ length c.args.input.now = omega arith in
    record {
      comes_to = rw all;
      out_length = refl;
      same_references = record { numbers = refl; counts = refl; journal = refl; unfinished = refl; frames = refl; buffer = refl };
      same_lengths = record { journal = refl; unfinished = refl; frames = refl; buffer = refl };
      read_within = omega arith;
      written_within = omega arith;
    }

-- there is room for the row of a line that asks
pub put_row-put-requires : goal.put_row-put-requires
put_row-put-requires c = asks_fits c.args.input.now c.loop.at c.loop.out c.loop.put c.in-Ok.ensures

pub returns-in-Err-clause-run : goal.returns-in-Err-clause-run
returns-in-Err-clause-run c =
    let i = c.loop.invariant in
    let input = c.args.input.now in
    let none = stops input c.loop.at c.loop.out c.loop.put (following c.loop.count) (desk c.loop.lent) c.in-Err.ensures in
    let left = length input - c.loop.counter in
    let some : 0 < left = omega arith in
    let stop = stopped_at input c.loop.count c.loop.at c.loop.put c.loop.out (desk c.loop.lent) left some none in
    (stop ∙ sym i.comes_to, i.read_within, i.written_within)

pub loop-preserved : goal.loop-preserved
loop-preserved c =
    let i = c.loop.invariant in
    let input = c.args.input.now in
    let goes = went input c.loop.at c.loop.out c.loop.put c.wrapping_add_u64-count.result (desk c.loop.lent) {out' = c.put_row-put.new.out} {d' = desk c.ask-answered.new.lent} c.in-Ok.ensures c.ask-answered.ensures.asked c.put_row-put.ensures in
    let left = length input - c.loop.counter in
    let some : 0 < left = omega arith in
    let less : length input - (c.loop.counter + 1) ≡ left - 1 = omega arith in
    record {
      comes_to =
          rw less (i.comes_to
          ∙ went_on input c.loop.count c.loop.at c.loop.put c.loop.out (desk c.loop.lent) left {out' = c.put_row-put.new.out} {d' = desk c.ask-answered.new.lent}
          some c.wrapping_add_u64-count.ensures.value goes);
      out_length = c.put_row-put.auto.out ∙ i.out_length;
      same_references = same_on i.same_references c.ask-answered.ensures.same_references;
      same_lengths = lengths_on i.same_lengths c.ask-answered.ensures.same_lengths;
      read_within = asks_within input c.loop.at c.loop.out c.loop.put c.in-Ok.ensures;
      written_within = c.put_row-put.ensures.within;
    }

pub returns-clause-run : goal.returns-clause-run
returns-clause-run c =
    let i = c.loop.invariant in
    let none : length c.args.input.now - c.loop.counter ≡ 0 = omega arith in
    let done = ap (λ (n : ℕ). run_of n c.args.input.now c.loop.count c.loop.at c.loop.put c.loop.out (desk c.loop.lent)) none in
    (ran_out _ _ _ _ _ _ ∙ sym (i.comes_to ∙ done), i.read_within, i.written_within)

pub returns-in-Err-clause-same_references : goal.returns-in-Err-clause-same_references
returns-in-Err-clause-same_references c = c.loop.invariant.same_references

pub returns-clause-same_references : goal.returns-clause-same_references
returns-clause-same_references c = c.loop.invariant.same_references

pub returns-in-Err-clause-same_lengths : goal.returns-in-Err-clause-same_lengths
returns-in-Err-clause-same_lengths c = c.loop.invariant.same_lengths

pub returns-clause-same_lengths : goal.returns-clause-same_lengths
returns-clause-same_lengths c = c.loop.invariant.same_lengths
