-- `escaping::unescape` meets its contract: by an allowed four each answer follows from the measure.
-- Assumes nothing.
use Rattle.std.specs.Prelude.{Some, None, Err}
use Rattle.std.proofs.lemmas.Result.{err_from_is_err_and}
use native.Mathlib.Omega.{arith}
use Rattle.escaping.specs.declared.Refusal.TheVariants.{Malformed}
use mathlib.Core.Path.{◌≡◌, sym, ap, ◌∙◌}
use mathlib.Core.Bool.{true}
use mathlib.Core.List.{List}
use Prim.Native.Nat.{ℕ}
use lib.ListN.{length}
use lib.Seq.{sets}
use Rattle.kinds.specs.Delimiters.{are_delimiters}
use Rattle.kinds.specs.declared.Delimiters.{Delimiters}
use Rattle.escaping.specs.Unescape.{unescaped}
use Rattle.escaping.specs.Inner.Passes.{measured, plain}
use Rattle.escaping.proofs.Unescapes.{size_told, size_none, unescape_bad, unescape_short, unescape_done, unescape_malformed}
use Rattle.escaping.proofs.unescape.Goals as goal

plain_is : (d : Delimiters) (text : List ℕ) {t : List ℕ} → unescaped d text ≡ Some t → plain d text ≡ t
plain_is d text e = rw e

pub returns-then-not-are_delimiters : goal.returns-then-not-are_delimiters
returns-then-not-are_delimiters c = unescape_bad _ _ _ (sym c.are_delimiters.ensures ∙ c.if-not-are_delimiters.true)

pub returns-then-out-n : goal.returns-then-out-n
unfolding measured
returns-then-out-n c =
    let is : c.measure.result ≡ Some c.in_ok-n.n = grind arith in
    let of : (let a = c.args in measured a.d a.text.now ≡ Some c.in_ok-n.n) = sym c.measure.ensures ∙ is in
    let told : (let a = c.args in (t : List ℕ) × (unescaped a.d a.text.now ≡ Some t) × (c.in_ok-n.n ≡ length t)) = let a = c.args in size_told (unescaped a.d a.text.now) c.in_ok-n.n of in
    let four : are_delimiters c.args.d ≡ true = sym c.are_delimiters.ensures ∙ c.if-not-are_delimiters.false in
    let a = c.args in
    let (t, e, k) = told in
    unescape_short a.d a.text.now a.out.now four t _ e k c.if-out-n.true

pub write-requires : goal.write-requires
write-requires c =
    let is : c.measure.result ≡ Some c.in_ok-n.n = grind arith in
    let of : (let a = c.args in measured a.d a.text.now ≡ Some c.in_ok-n.n) = sym c.measure.ensures ∙ is in
    (of, c.if-out-n.false)

pub returns-in_err-n : goal.returns-in_err-n
unfolding measured
returns-in_err-n c =
    let four : are_delimiters c.args.d ≡ true = sym c.are_delimiters.ensures ∙ c.if-not-are_delimiters.false in
    let a = c.args in
    let p = err_from_is_err_and c.from_residual.result c.from_residual.ensures.1 in
    let is : c.measure.result ≡ None = grind arith in
    let malformed : c.from_residual.result ≡ Err Malformed = rw (p.1, p.2) (grind arith) in
    rw malformed (unescape_malformed a.d a.text.now a.out.now four (size_none (unescaped a.d a.text.now) (sym c.measure.ensures ∙ is)))

pub measure-requires : goal.measure-requires
measure-requires c = c.letters_for-letters.ensures

pub returns : goal.returns
unfolding measured
returns c =
    let is : c.measure.result ≡ Some c.in_ok-n.n = grind arith in
    let of : (let a = c.args in measured a.d a.text.now ≡ Some c.in_ok-n.n) = sym c.measure.ensures ∙ is in
    let told : (let a = c.args in (t : List ℕ) × (unescaped a.d a.text.now ≡ Some t) × (c.in_ok-n.n ≡ length t)) = let a = c.args in size_told (unescaped a.d a.text.now) c.in_ok-n.n of in
    let four : are_delimiters c.args.d ≡ true = sym c.are_delimiters.ensures ∙ c.if-not-are_delimiters.false in
    let a = c.args in
    let (t, e, k) = told in
    let written : plain a.d a.text.now ≡ t = plain_is a.d a.text.now e in
    unescape_done a.d a.text.now a.out.now four t _ e k c.if-out-n.false (c.write.ensures ∙ ap (sets a.out.now 0) written)
