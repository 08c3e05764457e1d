-- `numbers::plain::line_of` meets its contract.
-- Assumes nothing.
use native.Mathlib.Omega.{arith}
use Rattle.layout.specs.Layout.{first_at, number_at}
use Rattle.numbers.specs.Plain.{line_of}
use Rattle.numbers.proofs.Numbers.{WithinNumbers, numbers_facts, few_tries}
use Rattle.numbers.proofs.plain.line_of.Goals as goal

pub state_of-requires : goal.state_of-requires
state_of-requires c =
    let facts : WithinNumbers c.args.numbers.now c.args.i = numbers_facts c.args.numbers.now c.args.i c.requires.1 in
    let ns = c.args.numbers.now in
    let i = c.args.i in
    few_tries (first_at ns i) (number_at ns i 8) (number_at ns i 9) facts.sending

pub last_of-requires : goal.last_of-requires
last_of-requires c =
    let facts : WithinNumbers c.args.numbers.now c.args.i = numbers_facts c.args.numbers.now c.args.i c.requires.1 in
    let w = facts in omega (arith, w.last)

pub overflow_cast-result : goal.overflow_cast-result
overflow_cast-result c =
    let facts : WithinNumbers c.args.numbers.now c.args.i = numbers_facts c.args.numbers.now c.args.i c.requires.1 in
    record { fits = let w = facts in omega (arith, w.seconds) }

pub overflow_cast-result-2 : goal.overflow_cast-result-2
overflow_cast-result-2 c =
    let facts : WithinNumbers c.args.numbers.now c.args.i = numbers_facts c.args.numbers.now c.args.i c.requires.1 in
    record { fits = let w = facts in omega (arith, w.next) }

pub returns : goal.returns
returns c =
    let a = c.args in
    let l = line_of a.numbers.now a.i in
    λ z. record {
      state = c.state_of.ensures z;
      collected = l.collected;
      joined = l.joined;
      seconds = l.seconds;
      next = l.next;
      last = c.last_of.ensures z;
      refusing = l.refusing;
      settings = c.settings_of.ensures z;
    }
