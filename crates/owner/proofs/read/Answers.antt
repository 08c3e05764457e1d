-- `owner::read` meets its contract: each answer under the tests that led to it; what is stored is what the two fillings ensure.
-- Assumes nothing.
use Rattle.std.specs.Prelude.{Err}
use mathlib.Core.Path.{ap, ◌≡◌, refl, sym, ◌∙◌}
use mathlib.Core.Bool.{true}
use Prim.Native.Nat.{◌≤◌}
use native.Mathlib.Omega.{arith}
use lib.ListN.{length, take}
use lib.Seq.{length-take-le}
use Rattle.memory.specs.Sizes.{message_limit}
use Rattle.records.specs.Records.{records}
use Rattle.faults.specs.Message.{is_message}
use Rattle.faults.proofs.Messages.{message_short}
use Rattle.owner.specs.Reading.{room_for}
use Rattle.owner.proofs.Answers.{records_few, room_all, read_none, read_short, read_done}
use Rattle.owner.proofs.read.Goals as goal

pub returns-then-not-is_message : goal.returns-then-not-is_message
returns-then-not-is_message c =
    let a = c.args in
    read_none a.text.now a.types.now a.offsets.now a.lengths.now a.owners.now _ (ap Err c.refuse.ensures) (sym c.is_message.ensures ∙ c.if-not-is_message.true)

pub returns-then-not-has_room : goal.returns-then-not-has_room
returns-then-not-has_room c =
    let is_message_law : (let a = c.args in is_message a.text.now ≡ true) = sym c.is_message.ensures ∙ c.if-not-is_message.false in
    let a = c.args in
    read_short a.text.now a.types.now a.offsets.now a.lengths.now a.owners.now is_message_law
    (rw (← c.count_records-n.ensures) (sym c.has_room.ensures ∙ c.if-not-has_room.true))

pub fill_rows-requires : goal.fill_rows-requires
fill_rows-requires c =
    let has_places : (let a = c.args in
    room_for (length (records a.text.now)) (length a.types.now) (length a.offsets.now) (length a.lengths.now) (length a.owners.now) ≡ true) = rw (← c.count_records-n.ensures) (sym c.has_room.ensures ∙ c.if-not-has_room.false) in
    let places : (let a = c.args in
    let n = length (records a.text.now) in
    (n ≤ length a.types.now) × (n ≤ length a.offsets.now) × (n ≤ length a.lengths.now) × (n ≤ length a.owners.now)) = let a = c.args in room_all (length (records a.text.now)) _ _ _ _ has_places in
    let is_message_law : (let a = c.args in is_message a.text.now ≡ true) = sym c.is_message.ensures ∙ c.if-not-is_message.false in
    let short : length c.args.text.now ≤ message_limit = let a = c.args in message_short _ a.text.now is_message_law in
    let (types, offsets, lengths, owners) = places in
    record { room = (types, offsets, lengths); small = omega (arith, short) }

pub slice_bounds-fill_owners-end-2 : goal.slice_bounds-fill_owners-end-2
slice_bounds-fill_owners-end-2 c =
    let has_places : (let a = c.args in
    room_for (length (records a.text.now)) (length a.types.now) (length a.offsets.now) (length a.lengths.now) (length a.owners.now) ≡ true) = rw (← c.count_records-n.ensures) (sym c.has_room.ensures ∙ c.if-not-has_room.false) in
    let places : (let a = c.args in
    let n = length (records a.text.now) in
    (n ≤ length a.types.now) × (n ≤ length a.offsets.now) × (n ≤ length a.lengths.now) × (n ≤ length a.owners.now)) = let a = c.args in room_all (length (records a.text.now)) _ _ _ _ has_places in
    let fits : c.count_records-n.result ≤ length c.fill_rows.new.types = omega (arith, places.0, c.fill_rows.auto.types, c.count_records-n.ensures) in
    sym (length-take-le c.count_records-n.result c.fill_rows.new.types fits)

pub fill_owners-requires : goal.fill_owners-requires
fill_owners-requires c =
    let has_places : (let a = c.args in
    room_for (length (records a.text.now)) (length a.types.now) (length a.offsets.now) (length a.lengths.now) (length a.owners.now) ≡ true) = rw (← c.count_records-n.ensures) (sym c.has_room.ensures ∙ c.if-not-has_room.false) in
    let places : (let a = c.args in
    let n = length (records a.text.now) in
    (n ≤ length a.types.now) × (n ≤ length a.offsets.now) × (n ≤ length a.lengths.now) × (n ≤ length a.owners.now)) = let a = c.args in room_all (length (records a.text.now)) _ _ _ _ has_places in
    let fits : c.count_records-n.result ≤ length c.fill_rows.new.types = omega (arith, places.0, c.fill_rows.auto.types, c.count_records-n.ensures) in
    let is_message_law : (let a = c.args in is_message a.text.now ≡ true) = sym c.is_message.ensures ∙ c.if-not-is_message.false in
    let short : length c.args.text.now ≤ message_limit = let a = c.args in message_short _ a.text.now is_message_law in
    let lent = length-take-le c.count_records-n.result c.fill_rows.new.types fits in (
      omega (arith, lent, c.count_records-n.ensures, places.3),
      omega (arith, lent, c.count_records-n.ensures, records_few c.args.text.now, short),
    )

pub returns : goal.returns
returns c =
    let is_message_law : (let a = c.args in is_message a.text.now ≡ true) = sym c.is_message.ensures ∙ c.if-not-is_message.false in
    let has_places : (let a = c.args in
    room_for (length (records a.text.now)) (length a.types.now) (length a.offsets.now) (length a.lengths.now) (length a.owners.now) ≡ true) = rw (← c.count_records-n.ensures) (sym c.has_room.ensures ∙ c.if-not-has_room.false) in
    let a = c.args in
    let n = c.count_records-n in
    let (types, offsets, lengths) = c.fill_rows.ensures in
    read_done a.text.now a.types.now a.offsets.now a.lengths.now a.owners.now
    c.fill_rows.new.types c.fill_rows.new.offsets c.fill_rows.new.lengths c.fill_owners.new.owners
    (take n.result c.fill_rows.new.types) n.result n.ensures is_message_law has_places types offsets lengths refl c.fill_owners.ensures

pub slice_bounds-fill_owners-end : goal.slice_bounds-fill_owners-end
slice_bounds-fill_owners-end c =
    let has_places : (let a = c.args in
    room_for (length (records a.text.now)) (length a.types.now) (length a.offsets.now) (length a.lengths.now) (length a.owners.now) ≡ true) = rw (← c.count_records-n.ensures) (sym c.has_room.ensures ∙ c.if-not-has_room.false) in
    let places : (let a = c.args in
    let n = length (records a.text.now) in
    (n ≤ length a.types.now) × (n ≤ length a.offsets.now) × (n ≤ length a.lengths.now) × (n ≤ length a.owners.now)) = let a = c.args in room_all (length (records a.text.now)) _ _ _ _ has_places in
    let fits : c.count_records-n.result ≤ length c.fill_rows.new.types = omega (arith, places.0, c.fill_rows.auto.types, c.count_records-n.ensures) in
    fits
