-- What a host escapes comes back when it unescapes it, and an accepted component when it escapes what that stands for.
-- Assumes nothing.
use Rattle.std.specs.Prelude.{Err, None, Ok, Option, Some}
use Rattle.escaping.specs.declared.Refusal.TheVariants.{BadDelimiters, NotFitting}
use mathlib.Core.Path.{◌≡◌, refl, sym, ap, subst, ◌∙◌}
use mathlib.Core.Bool.{Bool, true, false, cond}
use mathlib.Core.List.{List}
use Prim.Native.Nat.{ℕ, ◌+◌, ◌*◌, ◌≤◌}
use native.Mathlib.Omega.{arith}
use native.Mathlib.Nat.{zero-add}
use borrow.Author.Tests.{le-leb, leb-true}
use lib.Dec.{leb}
use lib.ListN.{length, take}
use Rattle.memory.specs.Tests.{unless}
use Rattle.memory.specs.Moves.{fits_at, copied}
use Rattle.memory.proofs.Moves.{held}
use Rattle.kinds.specs.Delimiters.{four_at, are_delimiters}
use Rattle.kinds.specs.declared.Delimiters.{Delimiters}
use Rattle.escaping.specs.Escape.{escaped, escape_answer, escaped_over}
use Rattle.escaping.specs.Unescape.{unescaped, answer_to, unescape_answer, unescaped_over}
use Rattle.escaping.proofs.RoundTrips.{escaped_most, allowed_back, allowed_forth}
use Rattle.answers.specs.InNumbers.{done}
use Rattle.texts.specs.Texts.{made_by_putting, Escaped, Unescaped}
use Rattle.answers.specs.declared.Made.{Made}
use Rattle.ngachodui_laws.specs.Texts.{PutOut, ComesBack, GoesBack}

-- a text copied to the start of memory that has the room is put out
put_out : (t out : List ℕ) {r : Made} {out' : List ℕ} → length t ≤ length out → r ≡ done (length t) → out' ≡ copied out 0 t → PutOut t r out'
unfolding copied
put_out t out room e k =
    let fits : leb (0 + length t) (length out) ≡ true = le-leb (0 + length t) (length out) (rw zero-add room) in
    record { answer = e; bytes = held out t room (k ∙ rw fits) }

-- what was put out is what is taken from the memory's start
taken : {t : List ℕ} {r : Made} {out' : List ℕ} → PutOut t r out' → take r.length out' ≡ t
taken {t} {r} {out'} p = ap (λ (m : Made). take m.length out') p.answer ∙ p.bytes

-- with an allowed four and the room a text is put out escaped, and a component without its escapes
module _ (four : List ℕ) (allowed : are_delimiters (four_at 0 four) ≡ true) where
  abbrev d : Delimiters
  d = four_at 0 four

  escape_puts : (text out : List ℕ) {r : Made} {out' : List ℕ} → Escaped four text out r out' → length (escaped d text) ≤ length out → PutOut (escaped d text) r out'
  unfolding escape_answer escaped_over made_by_putting
  escape_puts text out c room =
      let fits : leb (0 + length (escaped d text)) (length out) ≡ true = le-leb (0 + length (escaped d text)) (length out) (rw zero-add room) in
      put_out (escaped d text) out room (c.result ∙ rw (allowed, fits)) (c.after ∙ rw allowed)

  unescape_puts : (s t out : List ℕ) {r : Made} {out' : List ℕ} → unescaped d s ≡ Some t → Unescaped four s out r out' → length t ≤ length out → PutOut t r out'
  unfolding unescape_answer unescaped_over made_by_putting
  unescape_puts s t out e c room =
      let fits : leb (0 + length t) (length out) ≡ true = le-leb (0 + length t) (length out) (rw zero-add room) in
      put_out t out room (c.result ∙ rw (allowed, e, fits)) (c.after ∙ rw (allowed, e))

-- 0 is told only where something is written: the four are allowed, and it fits
room_told : (f : Bool) (n : ℕ) → (made_by_putting (cond f (Ok n) (Err NotFitting))).number ≡ 0 → f ≡ true
unfolding made_by_putting
room_told true n e = refl
room_told false n e = absurd (omega (arith, e))

escape_told : (a f : Bool) (n : ℕ) → (made_by_putting (unless a (Err BadDelimiters) (unless f (Err NotFitting) (Ok n)))).number ≡ 0 → (a ≡ true) × (f ≡ true)
unfolding made_by_putting
escape_told true true n e = (refl, refl)
escape_told true false n e = absurd (omega (arith, e))
escape_told false f n e = absurd (omega (arith, e))

unescape_told : (a : Bool) (o : Option (List ℕ)) (out : List ℕ) → (made_by_putting (unless a (Err BadDelimiters) (answer_to o out))).number ≡ 0
    → (a ≡ true) × ((t : List ℕ) × (o ≡ Some t) × (fits_at out 0 t ≡ true))
unfolding made_by_putting
unescape_told true None out e = absurd (omega (arith, e))
unescape_told true (Some t) out e = (refl, (t, refl, room_told (fits_at out 0 t) (length t) e))
unescape_told false o out e = absurd (omega (arith, e))

-- room as a host's condition
has_room : (t out : List ℕ) → fits_at out 0 t ≡ true → length t ≤ length out
has_room t out e = rw zero-add at (leb-true (0 + length t) (length out) e)

module _ (four : List ℕ) (allowed : are_delimiters (four_at 0 four) ≡ true) (text : List ℕ) where
  abbrev written : List ℕ
  written = escaped (four_at 0 four) text

  escapes : (out out' : List ℕ) (r : Made) → Escaped four text out r out' → 3 * length text ≤ length out → r.number ≡ 0
  escapes out out' r c room =
      let within : length written ≤ length out = omega (arith, escaped_most (four_at 0 four) text, room) in
      ap (λ (m : Made). m.number) (escape_puts four allowed text out c within).answer

  returns : (out out' back back' : List ℕ) (r q : Made) → Escaped four text out r out' → r.number ≡ 0
      → Unescaped four (take r.length out') back q back' → length text ≤ length back → PutOut text q back'
  unfolding escape_answer
  returns out out' back back' r q c e u room =
      let f = (escape_told (are_delimiters (four_at 0 four)) (fits_at out 0 written) (length written) (ap (λ (m : Made). m.number) (sym c.result) ∙ e)).1 in
      let there = taken (escape_puts four allowed text out c (has_room written out f)) in
      let u' : Unescaped four written back q back' = subst (λ (s : List ℕ). Unescaped four s back q back') there u in
      unescape_puts four allowed written text back (allowed_back (four_at 0 four) allowed text) u' room

  pub escaped_back : ComesBack four text
  escaped_back = record { escapes = escapes; returns = returns }

pub unescaped_back : (four c : List ℕ) → GoesBack four c
unfolding unescape_answer
unescaped_back four c out out' back back' r q u e k room =
    let d = four_at 0 four in
    let (allowed, (t, s, f)) = unescape_told (are_delimiters d) (unescaped d c) out (ap (λ (m : Made). m.number) (sym u.result) ∙ e) in
    let p = unescape_puts four allowed c t out s u (has_room t out f) in
    let k' : Escaped four t back q back' = subst (λ (x : List ℕ). Escaped four x back q back') (taken p) k in
    let same = allowed_forth d allowed c t s in
    subst (λ (x : List ℕ). PutOut x q back') same (escape_puts four allowed t back k' (rw same room))
