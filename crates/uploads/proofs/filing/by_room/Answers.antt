-- `uploads::filing::by_room` meets its contract.
-- Assumes nothing.
use Rattle.std.specs.Prelude.{Result, Err}
use Rattle.journal.specs.declared.Refusal.{Refusal}
use mathlib.Core.Path.{◌≡◌, refl, ap, ◌∙◌}
use Rattle.ledger.proofs.Ledgers.{there}
use Rattle.strips.specs.Readers.{fresh_reader}
use Rattle.keeping.specs.Keeping.{reader_of}
use Rattle.uploads.specs.Inner.Ruled.{settled_numbers}
use Rattle.uploads.proofs.filing.by_room.Goals as goal

-- the ground of a refusal that was looked into
refused_is : {v : Result (Unit {0}) Refusal} {e k : Refusal} → v ≡ Err e → e ≡ k → v ≡ Err k
refused_is p q = p ∙ ap (λ (e : Refusal). Err e) q

pub returns-in-Ok : goal.returns-in-Ok
returns-in-Ok c = rw c.in-Ok.is (record { result = c.in_numbers.ensures; numbers = c.file.ensures.0; counts = c.file.ensures.1; frames = c.file.ensures.2 })

pub returns-in-Err-NoRoom : goal.returns-in-Err-NoRoom
returns-in-Err-NoRoom c =
    let a = c.args in
    let reader = c.reader_of-reader.ensures ∙ there a.i fresh_reader (reader_of a.numbers.now a.i) c.requires.0.there in
    rw (refused_is c.in-Err-NoRoom.is (rw c.in-Err-NoRoom.is at c.in-Err-NoRoom.field-0-is))
    (record { result = c.in_numbers-in-Err-NoRoom.ensures; numbers = c.settle.ensures.0 ∙ ap (settled_numbers a.numbers.now a.i a.line) reader; counts = refl; frames = c.settle.ensures.1 })

pub returns-in-Err-Broken : goal.returns-in-Err-Broken
returns-in-Err-Broken c = rw (refused_is c.in-Err-Broken.is (rw c.in-Err-Broken.is at c.in-Err-Broken.field-0-is)) (record { result = c.in_numbers-in-Err-Broken.ensures; numbers = refl; counts = refl; frames = refl })

pub returns-in-Err-NoLine : goal.returns-in-Err-NoLine
returns-in-Err-NoLine c = rw (refused_is c.in-Err-NoLine.is (rw c.in-Err-NoLine.is at c.in-Err-NoLine.field-0-is)) (record { result = c.in_numbers-in-Err-NoLine.ensures; numbers = refl; counts = refl; frames = refl })

pub returns-in-Err-WrongSize : goal.returns-in-Err-WrongSize
returns-in-Err-WrongSize c = rw (refused_is c.in-Err-WrongSize.is (rw c.in-Err-WrongSize.is at c.in-Err-WrongSize.field-0-is)) (record { result = c.in_numbers-in-Err-WrongSize.ensures; numbers = refl; counts = refl; frames = refl })

pub returns-in-Err-Malformed : goal.returns-in-Err-Malformed
returns-in-Err-Malformed c = rw (refused_is c.in-Err-Malformed.is (rw c.in-Err-Malformed.is at c.in-Err-Malformed.field-0-is)) (record { result = c.in_numbers-in-Err-Malformed.ensures; numbers = refl; counts = refl; frames = refl })
