-- `journal::chain::walk` meets its contract. The loop's invariant: the walk has passed the entries `done`, `sums` are their sums, and `oldest` is the room
-- of those before the line's first.
-- Assumes nothing.
use Rattle.std.specs.Prelude.{None, Some}
use Rattle.std.proofs.Common.{◌≡◌, ℕ, ◌+◌, ◌<◌, List, [], ◌∷◌, ◌++◌, length, get_or, drop, sym, refl, ap, ◌∙◌, arith, length-set, eq-eqb, ne_eqb}
use native.Mathlib.Decide.{ℕ_discrete}
use lib.ListN.{get_or-replicate}
use Rattle.memory.specs.Sizes.{lines}
use Rattle.room.specs.Room.{raised}
use Rattle.header.specs.Header.{entry_size}
use Rattle.header.specs.declared.Header.{Header}
use Rattle.header.specs.Entry.{Entry, first, first_head}
use Rattle.journal.specs.Entries.{entries, sizes, total, before}
use Rattle.journal.proofs.Chains.{walk_start, walk_end, walk_short, walk_none, stepped_at, sums_more, Stepped, rest_of, no_some, total_le}
use Rattle.journal.proofs.Oldest.{all_before, same_before}
use Rattle.journal.proofs.chain.walk.Invariants.{Counted}
use Rattle.journal.proofs.chain.walk.Goals as goal

-- the invariant behind one entry more, whatever of the line's oldest is right then
counted_on : (s : List ℕ) (line : ℕ) (sums : List ℕ) (oldest at : ℕ) (v : Counted s line sums oldest at) (h : Header) → Stepped s at v.done h
    → (size : ℕ) → size ≡ entry_size h.count → (o : ℕ) → o ≡ sizes (before line (v.done ++ first (drop at s) ∷ []))
    → Counted s line (raised sums h.line size) o (at + size)
counted_on s line sums oldest at v h t size e o q = record {
  done = (v.done ++ first (drop at s) ∷ []);
  walked = rw e t.next;
  summed = rw e (sums_more sums v.done _ h.line _ t.line t.long v.long t.below v.summed);
  long = length-set sums h.line _ ∙ v.long;
  stands = q;
}

pub loop-at-init : goal.loop-at-init
loop-at-init c = record { done = []; walked = walk_start _; summed = λ l h. get_or-replicate lines l 0 0 h; long = refl; stands = refl }

pub returns-in_err-h : goal.returns-in_err-h
returns-in_err-h c =
    let l = c.loop-at in
    let s = c.args.s.now in
    rw c.from_residual.ensures
    (walk_none s l.at l.invariant.done l.invariant.walked (omega arith) (ap first_head (sym (rest_of s l.at)) ∙ sym c.entry_at.ensures ∙ c.in_err-h.was))

-- the sum of the entry's line, with it, is still within the bytes that were passed
pub overflow_add-sums : goal.overflow_add-sums
overflow_add-sums c =
    let t = stepped_at _ _ _ c.loop-at.invariant.walked (omega arith) _ _ c.entry_at.ensures c.in_ok-h.was in
    let v = c.loop-at.invariant in
    omega (arith, t, v.summed c.in_ok-h.h.line t.below, total_le c.in_ok-h.h.line v.done, v.walked.passed)

pub loop-at-preserved-then-sums-line-eq0 : goal.loop-at-preserved-then-sums-line-eq0
unfolding counted_on
loop-at-preserved-then-sums-line-eq0 c =
    let t = stepped_at _ _ _ c.loop-at.invariant.walked (omega arith) _ _ c.entry_at.ensures c.in_ok-h.was in
    let v = c.loop-at.invariant in
    let on = counted_on _ _ _ _ _ v _ t _ c.entry_size-size.ensures.0 _ refl in
    let none_yet : total c.args.line on.done ≡ 0 = omega (arith, on.summed c.args.line (omega arith)) in
    counted_on _ _ _ _ _ v _ t _ c.entry_size-size.ensures.0 _ (on.walked.passed ∙ ap sizes (sym (all_before c.args.line on.done none_yet)))

pub loop-at-preserved : goal.loop-at-preserved
unfolding counted_on
loop-at-preserved c =
    let t = stepped_at _ _ _ c.loop-at.invariant.walked (omega arith) _ _ c.entry_at.ensures c.in_ok-h.was in
    let v = c.loop-at.invariant in
    let on = counted_on _ _ _ _ _ v _ t _ c.entry_size-size.ensures.0 _ refl in
    let some_passed : (total c.args.line on.done ≡ 0 → ⊥) = λ z. omega (arith, on.summed c.args.line (omega arith)) in
    counted_on _ _ _ _ _ v _ t _ c.entry_size-size.ensures.0 _ (v.stands ∙ ap sizes (sym (same_before c.args.line v.done _ some_passed)))

pub returns-then-at-s : goal.returns-then-at-s
returns-then-at-s c =
    let l = c.loop-at in
    walk_short c.args.s.now l.at l.invariant.done l.invariant.walked (omega (arith, l.invariant.walked.within)) (omega arith)

pub returns : goal.returns
returns c =
    let l = c.loop-at in
    record { es = l.invariant.done; there = walk_end c.args.s.now l.at l.invariant.done l.invariant.walked (omega arith); summed = λ k h. l.invariant.summed k h; stands = l.invariant.stands }

pub overflow_sub-s : goal.overflow_sub-s
overflow_sub-s c = omega (arith, c.loop-at.invariant.walked.within)

pub overflow_cast-h : goal.overflow_cast-h
overflow_cast-h c = let t = stepped_at _ _ _ c.loop-at.invariant.walked (omega arith) _ _ c.entry_at.ensures c.in_ok-h.was in omega (arith, t)

pub overflow_cast-sums : goal.overflow_cast-sums
overflow_cast-sums c = let t = stepped_at _ _ _ c.loop-at.invariant.walked (omega arith) _ _ c.entry_at.ensures c.in_ok-h.was in omega (arith, t)

pub offset_bounds-sums-owner : goal.offset_bounds-sums-owner
offset_bounds-sums-owner c = let t = stepped_at _ _ _ c.loop-at.invariant.walked (omega arith) _ _ c.entry_at.ensures c.in_ok-h.was in omega (arith, t)

pub bounds-sums-owner : goal.bounds-sums-owner
bounds-sums-owner c = let t = stepped_at _ _ _ c.loop-at.invariant.walked (omega arith) _ _ c.entry_at.ensures c.in_ok-h.was in omega (arith, t)

pub bounds-sums-owner-in-loop-at : goal.bounds-sums-owner-in-loop-at
bounds-sums-owner-in-loop-at c = let t = stepped_at _ _ _ c.loop-at.invariant.walked (omega arith) _ _ c.entry_at.ensures c.in_ok-h.was in omega (arith, t)

pub overflow_add-at : goal.overflow_add-at
overflow_add-at c = let t = stepped_at _ _ _ c.loop-at.invariant.walked (omega arith) _ _ c.entry_at.ensures c.in_ok-h.was in omega (arith, t)

pub loop-at-smaller-then-sums-line-eq0 : goal.loop-at-smaller-then-sums-line-eq0
loop-at-smaller-then-sums-line-eq0 c = let t = stepped_at _ _ _ c.loop-at.invariant.walked (omega arith) _ _ c.entry_at.ensures c.in_ok-h.was in omega (arith, t)

pub loop-at-smaller : goal.loop-at-smaller
loop-at-smaller c = let t = stepped_at _ _ _ c.loop-at.invariant.walked (omega arith) _ _ c.entry_at.ensures c.in_ok-h.was in omega (arith, t)
