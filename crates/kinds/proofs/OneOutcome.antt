-- Any two outcomes that a contract of this crate allows are equal.
-- Assumes nothing.
use Rattle.std.specs.Prelude.{Option}
use mathlib.Core.Path.{◌≡◌, sym, ◌∙◌}
use mathlib.Core.Bool.{Bool}
use mathlib.Core.List.{List}
use Prim.Native.Nat.{ℕ}
use Rattle.kinds.specs.Delimiters.{four_at, delimiters_of, is_delimiter, are_delimiters}
use Rattle.kinds.specs.Kinds.{kind_of, may_follow}
use Rattle.kinds.specs.Header.{is_header}
use Rattle.kinds.specs.declared.Delimiters.{Delimiters}
use Rattle.kinds.specs.declared.Kind.{Kind}

-- `Delimiters::of_four`
pub four_once : (four : List ℕ) {r q : Delimiters} → r ≡ four_at 0 four → q ≡ four_at 0 four → r ≡ q
four_once four a b = a ∙ sym b

-- `delimiters_of`
pub delimiters_once : (text : List ℕ) {r q : Delimiters} → r ≡ delimiters_of text → q ≡ delimiters_of text → r ≡ q
delimiters_once text a b = a ∙ sym b

-- `is_delimiter`
pub delimiter_once : (b : ℕ) {r q : Bool} → r ≡ is_delimiter b → q ≡ is_delimiter b → r ≡ q
delimiter_once b a e = a ∙ sym e

-- `are_delimiters`
pub allowed_once : (d : Delimiters) {r q : Bool} → r ≡ are_delimiters d → q ≡ are_delimiters d → r ≡ q
allowed_once d a b = a ∙ sym b

-- `kind_of`
pub kind_once : (b : ℕ) {r q : Option Kind} → r ≡ kind_of b → q ≡ kind_of b → r ≡ q
kind_once b a e = a ∙ sym e

-- `may_follow`
pub follow_once : (other k : Kind) {r q : Bool} → r ≡ may_follow other k → q ≡ may_follow other k → r ≡ q
follow_once other k a b = a ∙ sym b

-- `is_header`
pub header_once : (r : List ℕ) {a b : Bool} → a ≡ is_header (delimiters_of r) r → b ≡ is_header (delimiters_of r) r → a ≡ b
header_once r x y = x ∙ sym y
