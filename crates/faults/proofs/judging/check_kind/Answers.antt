-- `faults::judging::check_kind` meets its contract: each answer under the tests that led to it; n - 1 is compared, so that no count can wrap.
-- Assumes nothing.
use mathlib.Core.Path.{◌≡◌, sym, ◌∙◌}
use mathlib.Core.Bool.{true}
use Prim.Native.Nat.{◌+◌}
use native.Mathlib.Omega.{arith}
use borrow.Author.Tests.{eq-eqb, ne_eqb}
use Rattle.kinds.specs.Kinds.{may_follow}
use Rattle.sequence.specs.Numbers.{count_of}
use Rattle.faults.specs.Faults.{kind_step, placed}
use Rattle.faults.proofs.judging.check_kind.Goals as goal

pub returns-then-not-may_follow : goal.returns-then-not-may_follow
unfolding kind_step
returns-then-not-may_follow c = simp (sym c.may_follow.ensures ∙ c.if-not-may_follow.true)

pub returns-then-not-is_placed : goal.returns-then-not-is_placed
unfolding kind_step
returns-then-not-is_placed c =
    let follows : may_follow c.args.s.other c.args.k ≡ true = sym c.may_follow.ensures ∙ c.if-not-may_follow.false in
    simp (follows, sym c.is_placed.ensures ∙ c.if-not-is_placed.true)

pub returns-then-n-eq0 : goal.returns-then-n-eq0
unfolding kind_step
returns-then-n-eq0 c =
    let follows : may_follow c.args.s.other c.args.k ≡ true = sym c.may_follow.ensures ∙ c.if-not-may_follow.false in
    let stands : placed c.args.last c.args.k ≡ true = sym c.is_placed.ensures ∙ c.if-not-is_placed.false in
    let a = c.args in
    simp (follows, stands, ne_eqb a.n (count_of a.s a.k + 1) (λ e. omega arith))

pub returns-then-n-count_of : goal.returns-then-n-count_of
unfolding kind_step
returns-then-n-count_of c =
    let follows : may_follow c.args.s.other c.args.k ≡ true = sym c.may_follow.ensures ∙ c.if-not-may_follow.false in
    let stands : placed c.args.last c.args.k ≡ true = sym c.is_placed.ensures ∙ c.if-not-is_placed.false in
    let a = c.args in
    simp (follows, stands, ne_eqb a.n (count_of a.s a.k + 1) (λ e. c.if-n-count_of.true (omega arith)))

pub returns : goal.returns
unfolding kind_step
returns c =
    let follows : may_follow c.args.s.other c.args.k ≡ true = sym c.may_follow.ensures ∙ c.if-not-may_follow.false in
    let stands : placed c.args.last c.args.k ≡ true = sym c.is_placed.ensures ∙ c.if-not-is_placed.false in
    let a = c.args in
    simp (follows, stands, eq-eqb a.n (count_of a.s a.k + 1) (omega arith), c.count_on.ensures)
