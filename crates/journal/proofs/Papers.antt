-- The numbers tell the answers apart: each answer is read back from its number and values.
-- Assumes nothing.
use Rattle.std.specs.Prelude.{Err, Ok, Result, ℕ}
use Rattle.journal.specs.declared.Refusal.{Refusal}
use Rattle.journal.specs.declared.NotTaken.{NotTaken}
use Rattle.std.proofs.Common.{◌≡◌, ℕ, cond, eqb, List, get_or, sym, refl, ap, ◌∙◌}
use Rattle.journal.specs.Answers.{verdict_number, took_paper}

abbrev verdict_of : ℕ → Result (Unit {0}) Refusal
verdict_of n = cond (eqb n 4) (Ok tt) (cond (eqb n 31) (Err Refusal.NoRoom) (cond (eqb n 40) (Err Refusal.NoLine) (cond (eqb n 41) (Err Refusal.WrongSize) (cond (eqb n 43) (Err Refusal.Broken) (Err Refusal.Malformed)))))

verdict_back : (v : Result (Unit {0}) Refusal) → verdict_of (verdict_number v) ≡ v
verdict_back (Ok tt) = refl
verdict_back (Err Refusal.NoRoom) = refl
verdict_back (Err Refusal.NoLine) = refl
verdict_back (Err Refusal.WrongSize) = refl
verdict_back (Err Refusal.Broken) = refl
verdict_back (Err Refusal.Malformed) = refl

pub verdict_injective : (v w : Result (Unit {0}) Refusal) → verdict_number v ≡ verdict_number w → v ≡ w
verdict_injective v w e = sym (verdict_back v) ∙ ap verdict_of e ∙ verdict_back w

abbrev took_of : List ℕ → Result (ℕ × ℕ) NotTaken
took_of p =
    cond (eqb (get_or p 0 0) 8) (Ok (get_or p 1 0, get_or p 2 0))
    (cond (eqb (get_or p 0 0) 40) (Err NotTaken.NoLine)
    (cond (eqb (get_or p 0 0) 41) (Err NotTaken.WrongSize) (cond (eqb (get_or p 0 0) 43) (Err NotTaken.Broken) (cond (eqb (get_or p 0 0) 44) (Err NotTaken.NothingWaiting) (Err NotTaken.BufferShort)))))

took_back : (a : Result (ℕ × ℕ) NotTaken) → took_of (took_paper a) ≡ a
took_back (Ok (n, serial)) = refl
took_back (Err NotTaken.NoLine) = refl
took_back (Err NotTaken.WrongSize) = refl
took_back (Err NotTaken.Broken) = refl
took_back (Err NotTaken.NothingWaiting) = refl
took_back (Err NotTaken.BufferShort) = refl

pub took_injective : (a b : Result (ℕ × ℕ) NotTaken) → took_paper a ≡ took_paper b → a ≡ b
took_injective a b e = sym (took_back a) ∙ ap took_of e ∙ took_back b
