-- What the first read gave and what it left are the trace.
use Rattle.std.proofs.Common.{rules, ◌≡◌, ℕ, Result, Ok, Err, MatchResult, is_ok, ap}
use Rattle.std.proofs.lemmas.Result.{MatchResult-at_ok, on_ok_weaker}
use Rattle.replay.proofs.Going.{whole}
use Rattle.replay.proofs.list.Goals as goal

-- a value is what it was before an error beside it was told another way
value_before : {E F : Type 0} (r : Result ℕ E) (s : Result ℕ F) (n : ℕ) (Q : E → Type 0) → MatchResult r (λ x. s ≡ Ok x) Q → is_ok s ≡ is_ok r → s ≡ Ok n → r ≡ Ok n
value_before (Ok m) s n Q h v e = let same : m ≡ n = cc in ap Ok same
value_before (Err d) s n Q h v e = absurd (cc)

pub returns : goal.returns
returns g c =
    let read : c.read.result ≡ Ok c.in_ok-n.n = value_before _ _ _ _ c.map_err.ensures.cases c.map_err.ensures.variant c.in_ok-n.was in
    let bytes = MatchResult-at_ok _ _ _ read c.read.ensures.bytes in
    on_ok_weaker c.run.result (whole c.in_ok-n.n c.read.new.buf _ _ _ _ _ _ (search rules) (search rules) bytes.0 c.in_ok-title.ensures.ok) c.run.ensures
