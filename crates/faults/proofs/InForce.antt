-- The delimiters in force: those that a text's header names. By any four a text is a message only if it names these four itself, so what was a message when
-- | \ ^ & were the only ones is one still.
-- Assumes nothing.
use mathlib.Core.Path.{◌≡◌, refl, sym, ap, subst, ◌∙◌}
use mathlib.Core.Bool.{Bool, true, false, ◌&&◌}
use mathlib.Core.List.{List, ◌∷◌}
use Prim.Native.Nat.{ℕ, ◌<◌, ◌≤◌}
use native.Mathlib.Omega.{arith}
use native.Mathlib.Decide.{dec_lt}
use lib.Dec.{leb}
use lib.ListN.{length, get_or}
use lib.Seq.{get_or-take}
use borrow.Author.Tests.{lt-leb}
use Rattle.memory.specs.Tests.{is, find}
use Rattle.characters.specs.Control.{cr}
use Rattle.kinds.specs.Kinds.{letter_of}
use Rattle.kinds.specs.Delimiters.{standard, delimiters_of, are_delimiters}
use Rattle.kinds.specs.Header.{is_header}
use Rattle.kinds.specs.declared.Kind.TheVariants.{Header}
use Rattle.kinds.specs.declared.Delimiters.{Delimiters}
use Rattle.kinds.proofs.Allowed.{standard_allowed}
use Rattle.kinds.proofs.Named.{own_header, header_names}
use Rattle.records.specs.Fields.{before, behind}
use Rattle.records.specs.Records.{records}
use Rattle.records.proofs.Scans.{before_length, records_cons}
use Rattle.sequence.specs.Numbers.{started}
use Rattle.faults.specs.Message.{are_next, are_records, is_message_by, is_message}
use Rattle.faults.proofs.Messages.{Headed, sound, header, headed}

-- a first record of five bytes has the bytes that the text has there
first_bytes : (text : List ℕ) (k : ℕ) → 5 ≤ length (before cr text) → k < 5 → get_or (before cr text) k 0 ≡ get_or text k 0
first_bytes text k long lt = get_or-take (find (is cr) text) text k 0 (omega (arith, before_length cr text))

pub names : (text : List ℕ) → 5 ≤ length (before cr text) → delimiters_of (before cr text) ≡ delimiters_of text
unfolding delimiters_of
names text long = λ i. record {
  field = first_bytes text 1 long (omega arith) i;
  repeat = first_bytes text 2 long (omega arith) i;
  component = first_bytes text 3 long (omega arith) i;
  escape = first_bytes text 4 long (omega arith) i;
}

-- by the four that the text names its first record is a header exactly if it is one by those that it names itself
pub own_first : (text : List ℕ) → is_header (delimiters_of text) (before cr text) ≡ is_header (delimiters_of (before cr text)) (before cr text)
unfolding is_header
own_first text =
    elim (dec_lt 4 (length (before cr text))) [
      | yes long ↦ ap (λ (d : Delimiters). is_header d (before cr text)) (sym (names text long))
      | no short ↦ rw (lt-leb 5 (length (before cr text)) (omega arith))
    ]

-- when 50 is told: a first record that is too short to name four, or that another byte than H begins
pub header_short : (text : List ℕ) → is_header (delimiters_of text) (before cr text) ≡ leb 5 (length (before cr text)) && is (letter_of Header) (get_or text 0 0)
unfolding is_header
header_short text =
    elim (dec_lt 4 (length (before cr text))) [
      | yes long ↦
          own_first text ∙ own_header (before cr text)
          ∙ ap (λ (b : ℕ). leb 5 (length (before cr text)) && is (letter_of Header) b) (first_bytes text 0 long (omega arith))
      | no short ↦ rw (lt-leb 5 (length (before cr text)) (omega arith))
    ]

module _ (d : Delimiters) (m : List ℕ) (h : is_message_by d m ≡ true) where
  first : Headed d (before cr m) (records (behind cr m))
  first = headed d (before cr m) (records (behind cr m)) (rw (records_cons m (sound d m h).some) at (sound d m h).right)

  -- the four by which it is a message are those that it names, and they are allowed
  pub own_four : delimiters_of m ≡ d
  own_four = sym (names m (header d (before cr m) first.head).0) ∙ header_names d (before cr m) first.head

  pub four_allowed : are_delimiters d ≡ true
  four_allowed = first.four

  pub own_message : is_message m ≡ true
  own_message = subst (λ (e : Delimiters). is_message_by e m ≡ true) (sym own_four) h

-- a message's four are an allowed set
pub message_four : (m : List ℕ) → is_message m ≡ true → are_delimiters (delimiters_of m) ≡ true
message_four m h = four_allowed (delimiters_of m) m h

-- what is a message by | \ ^ & is one: these are an allowed set, so nothing else is asked of its records than before
pub standard_stays : (m : List ℕ) → is_message_by standard m ≡ true → is_message m ≡ true
standard_stays m h = own_message standard m h

pub standard_records : (r : List ℕ) (rs : List (List ℕ)) → are_records standard (r ∷ rs) ≡ is_header standard r && are_next standard started rs
standard_records r rs = rw standard_allowed (by_header (is_header standard r))
  where
    by_header : (b : Bool) → b && true && are_next standard started rs ≡ b && are_next standard started rs
    by_header true = refl
    by_header false = refl
