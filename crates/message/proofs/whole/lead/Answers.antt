-- `message::whole::lead` meets its contract: each answer under the tests that led to it; n - 1 is compared, so that no count can wrap.
-- Assumes nothing.
use Rattle.std.specs.Prelude.{Some}
use Rattle.std.proofs.Common.{◌≡◌, ◌<◌, true, false, List, [], length, get_or, sym, ◌∙◌, arith}
use denote.Enum.Declared.{tag_of}
use Rattle.kinds.specs.Kinds.{type_of, may_follow}
use Rattle.records.specs.Fields.{before}
use Rattle.message.specs.Inner.Rest.{counts_of, Follows}
use Rattle.kinds.specs.declared.Kind.{Kind}
use Rattle.kinds.specs.contracts.Kind.{the_type}
use Rattle.kinds.proofs.Rows.{variant_row}
use Rattle.records.proofs.Scans.{rest_part}
use Rattle.message.proofs.Breaks.{ends_behind}
use Rattle.message.proofs.Starting.{untyped, three_bytes, comes_as, counts_as}
use Rattle.message.proofs.Tallies.{count_tallied, misplaced, miscounted, may_come}
use Rattle.message.proofs.whole.lead.Goals as goal

-- the table's entry for two types, by their places among the variants
entry : (rows : List (List _)) → Follows rows → (other k : Kind) → get_or (get_or rows (tag_of the_type other) []) (tag_of the_type k) false ≡ may_follow other k
entry rows follows other k = rw (variant_row other, variant_row k) (follows other k)

pub returns-in_err-k : goal.returns-in_err-k
returns-in_err-k c =
    let a = c.args in
    rw c.from_residual.ensures (untyped a.d a.text.now c.requires.3 (counts_of a.other a.counts.now) (sym c.type_at.ensures ∙ c.in_err-k.was))

pub returns-then-not-followers-other : goal.returns-then-not-followers-other
returns-then-not-followers-other c =
    let a = c.args in
    let bad = sym (entry a.followers.now c.requires.1 a.other c.in_ok-k.k) ∙ c.if-not-followers-other.true in
    comes_as a.d a.text.now c.requires.3 c.requires.0 c.in_ok-k.k (sym c.type_at.ensures ∙ c.in_ok-k.was) (counts_of a.other a.counts.now) ∙ misplaced (counts_of a.other a.counts.now) c.in_ok-k.k _ bad

pub slice_bounds-number_at-count : goal.slice_bounds-number_at-count
slice_bounds-number_at-count c =
    omega (arith, three_bytes c.args.d c.args.text.now c.requires.3 c.requires.0 c.in_ok-k.k (sym c.type_at.ensures ∙ c.in_ok-k.was))

pub slice_bounds-number_at-start : goal.slice_bounds-number_at-start
slice_bounds-number_at-start c =
    omega (arith, three_bytes c.args.d c.args.text.now c.requires.3 c.requires.0 c.in_ok-k.k (sym c.type_at.ensures ∙ c.in_ok-k.was))

pub number_at-n-requires : goal.number_at-n-requires
number_at-n-requires c =
    let third : 2 < length c.args.text.now = three_bytes c.args.d c.args.text.now c.requires.3 c.requires.0 c.in_ok-k.k (sym c.type_at.ensures ∙ c.in_ok-k.was) in
    rw (rest_part c.args.text.now 2) (ends_behind c.args.text.now c.requires.3 2 third)

pub returns-then-n-eq0 : goal.returns-then-n-eq0
returns-then-n-eq0 c =
    let a = c.args in
    comes_as a.d a.text.now c.requires.3 c.requires.0 c.in_ok-k.k (sym c.type_at.ensures ∙ c.in_ok-k.was) (counts_of a.other a.counts.now)
    ∙ miscounted (counts_of a.other a.counts.now) c.in_ok-k.k _ (λ q. omega (arith, q, c.number_at-n.ensures, c.if-n-eq0.true))

pub returns-then-n-counts : goal.returns-then-n-counts
returns-then-n-counts c =
    let a = c.args in
    let follows = sym (entry a.followers.now c.requires.1 a.other c.in_ok-k.k) ∙ c.if-not-followers-other.false in
    let count = count_tallied a.other a.counts.now c.requires.2 c.in_ok-k.k follows in
    comes_as a.d a.text.now c.requires.3 c.requires.0 c.in_ok-k.k (sym c.type_at.ensures ∙ c.in_ok-k.was) (counts_of a.other a.counts.now)
    ∙ miscounted (counts_of a.other a.counts.now) c.in_ok-k.k _ (λ q. c.if-n-counts.true (omega (arith, q, c.number_at-n.ensures, count)))

pub count_on-requires : goal.count_on-requires
count_on-requires c = (sym (entry c.args.followers.now c.requires.1 c.args.other c.in_ok-k.k) ∙ c.if-not-followers-other.false, c.requires.2)

pub returns : goal.returns
returns c =
    let a = c.args in
    let s = counts_of a.other a.counts.now in
    let k = c.in_ok-k.k in
    let named : type_of (before a.d.field a.text.now) ≡ Some k = sym c.type_at.ensures ∙ c.in_ok-k.was in
    let follows : may_follow a.other k ≡ true = sym (entry a.followers.now c.requires.1 a.other k) ∙ c.if-not-followers-other.false in
    let count = count_tallied a.other a.counts.now c.requires.2 k follows in (
      comes_as a.d a.text.now c.requires.3 c.requires.0 k named s ∙ may_come s k _ follows (omega (arith, c.number_at-n.ensures, count, c.if-n-counts.false, c.if-n-eq0.false)),
      counts_as a.d a.text.now c.requires.3 c.requires.0 k named s c.number_at-n.ensures ∙ sym c.count_on.ensures.0,
      c.count_on.ensures.1,
    )
