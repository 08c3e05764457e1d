-- A work order goes out the same whatever comes on the other lines meanwhile, and whatever is taken: none of its calls decides a message, so they go as by themselves.
-- Assumes nothing.
use mathlib.Core.Path.{◌≡◌, refl, sym, ap, subst, ◌∙◌}
use mathlib.Core.Bool.{Bool, true, false, cond}
use mathlib.Core.List.{List, [], ◌∷◌, ◌++◌}
use Prim.Native.Nat.{ℕ}
use Rattle.gateway.specs.Out.{sends}
use Rattle.serial.specs.Serial.{annotate, final, Every}
use Rattle.serial.specs.Kept.{only, is_of}
use Rattle.serial.proofs.Lists.{mine}
use Rattle.serial.proofs.ByItself.{Apart, by_itself}
use Rattle.promises.specs.Machine.{GatewayItem, Parts, May}
use Rattle.promises.specs.Orders.{out_on, ordered_on}
use Rattle.numbers.specs.Plain.{line_of}
use Rattle.calls.specs.Calls.{HostState}
use Rattle.ngachodui_laws.specs.HostRuns.{HostResponse, host_step, decides, Run, end_of}
use Rattle.ngachodui_laws.specs.Orders.{CanStart, SentAmong}
use Rattle.ngachodui_laws.proofs.PutBack.{line_at_law}
use Rattle.ngachodui_laws.proofs.HostRuns.{end_in_order, host_always_sound}
use Rattle.ngachodui_laws.proofs.Stretches.{SoundHost, host_lined}
use Rattle.ngachodui_laws.proofs.Orders.{sent_whole}

-- what goes out on a line is read off its own calls
out_own : (i : ℕ) (xs : List (GatewayItem × HostResponse)) → out_on (λ (r : HostResponse). r.buffer) i xs ≡ out_on (λ (r : HostResponse). r.buffer) i (only (mine i) xs)
out_own i [] = refl
out_own i (x ∷ xs) = by_test_law (is_of i x.0) refl (out_own i xs)
  where
    by_test_law : (b : Bool) → is_of i x.0 ≡ b → out_on (λ (r : HostResponse). r.buffer) i xs ≡ out_on (λ (r : HostResponse). r.buffer) i (only (mine i) xs)
        → out_on (λ (r : HostResponse). r.buffer) i (x ∷ xs) ≡ out_on (λ (r : HostResponse). r.buffer) i (cond (is_of i x.0) (x ∷ only (mine i) xs) (only (mine i) xs))
    by_test_law true e rest = rw (e, e) (ap (λ (bs : List ℕ). x.1.buffer ++ bs) rest)
    by_test_law false e rest = rw e rest

-- 9 decides nothing
sends_undecided : (r : HostResponse) → r.answered.number ≡ sends → decides r ≡ false
sends_undecided r e = rw e

none_decides : (xs : List (GatewayItem × HostResponse)) → Every (λ x. x.1.answered.number ≡ sends) xs → Every (λ x. decides x.1 ≡ false) xs
none_decides [] h = tt
none_decides (x ∷ xs) h = (sends_undecided x.1 h.0, none_decides xs h.1)

module _ (r : Run) (i : ℕ) (m : List ℕ) (c : CanStart (end_of r) i m) (es : List GatewayItem) (may : Every May es) (own : only (is_of i) es ≡ ordered_on i m) where
  abbrev s : HostState
  s = end_of r

  sound : SoundHost s
  sound = record { in_order = end_in_order r; sound = host_always_sound r }

  apart : Apart _ _ _ _ _ _ _ _ _ host_lined i s s es
  apart =
      by_itself _ _ _ _ _ _ _ _ _ host_lined i s s es sound sound refl may
      (subst (λ (os : List GatewayItem). Every (λ x. decides x.1 ≡ false) (annotate host_step s os)) (sym own) (none_decides (annotate host_step s (ordered_on i m)) (sent_whole s i m c).answers))

  pub sent_among : SentAmong s i m es
  sent_among = record {
    out = out_own i (annotate host_step s es) ∙ ap (out_on (λ (x : HostResponse). x.buffer) i) (apart.history ∙ ap (annotate host_step s) own) ∙ (sent_whole s i m c).out;
    line =
        sym (line_at_law (final host_step s es).numbers i c.line) ∙ ap (λ (p : Parts). p.line) apart.line
        ∙ line_at_law (final host_step s (only (is_of i) es)).numbers i c.line
        ∙ ap (λ (os : List GatewayItem). line_of (final host_step s os).numbers i) own ∙ (sent_whole s i m c).line;
  }
