-- What a frame of a message comes to at its end: the last one decides, any other is joined.
-- Assumes nothing.
use mathlib.Core.Path.{◌≡◌, refl, sym, ap, ◌∙◌}
use mathlib.Core.Bool.{Bool, true, false, cond}
use mathlib.Core.List.{List, [], ◌∷◌, ◌++◌}
use Prim.Native.Nat.{ℕ, ◌+◌, ◌-◌, ◌<◌}
use native.Mathlib.Omega.{arith}
use lib.ListN.{length, get_or, length-append}
use lib.Seq.{get_or-append-add}
use Rattle.memory.specs.Tests.{is}
use Rattle.characters.specs.Control.{cr}
use Rattle.frame.specs.declared.End.TheVariants.{Etb, Etx}
use Rattle.faults.specs.Message.{is_message}
use Rattle.records.specs.Records.{records, none, onto, ends_with_cr}
use Rattle.faults.proofs.Messages.{message_ends, message_decided}
use Rattle.pieces.specs.Pieces.{end_after}
use Rattle.looking.specs.Looks.{end_look}
use Rattle.looking.specs.declared.Look.TheVariants.{Done, Decides}
use Rattle.looking.specs.Verdicts.{Accepts}
use Rattle.promises.proofs.Fronts.{front_decided}

-- the last byte of t stands last in x ++ t
last_byte : (x t : List ℕ) → 0 < length t → get_or (x ++ t) (length (x ++ t) - 1) 0 ≡ get_or t (length t - 1) 0
last_byte x t h =
    let at : length (x ++ t) - 1 ≡ length x + (length t - 1) = omega (arith, length-append x t) in
    rw at (get_or-append-add x t (length t - 1) 0)

-- bytes have records
some_records : (b : ℕ) (y : List ℕ) → none (records (b ∷ y)) ≡ false
some_records b y = by_test_law (is cr b) (records y)
  where
    by_onto : (rs : List (List ℕ)) → none (onto b rs) ≡ false
    by_onto [] = refl
    by_onto (r ∷ rs) = refl

    by_test_law : (c : Bool) (rs : List (List ℕ)) → none (cond c ([] ∷ rs) (onto b rs)) ≡ false
    by_test_law true rs = refl
    by_test_law false rs = by_onto rs

module _ (x t : List ℕ) (some : 0 < length t) where
  -- more of the message follows
  pub look_on : (b : ℕ) (y : List ℕ) → is_message ((x ++ t) ++ b ∷ y) ≡ true
      → end_look (end_after (get_or t (length t - 1) 0)) (length t) (x ++ t) ≡ Done (Accepts (length t))
  look_on b y h = by_end (is cr (get_or t (length t - 1) 0)) refl
    where
      by_end : (c : Bool) → is cr (get_or t (length t - 1) 0) ≡ c → end_look (cond c Etx Etb) (length t) (x ++ t) ≡ Done (Accepts (length t))
      by_end false e = refl
      by_end true e =
          let ends : ends_with_cr (x ++ t) ≡ true = ap (is cr) (last_byte x t some) ∙ e in
          rw (ends, front_decided _ (x ++ t) (b ∷ y) h ends ∙ some_records b y)

  -- nothing follows
  pub look_last : is_message (x ++ t) ≡ true → end_look (end_after (get_or t (length t - 1) 0)) (length t) (x ++ t) ≡ Decides (length t)
  look_last h =
      let ends = message_ends _ (x ++ t) h in
      let cr_last : is cr (get_or t (length t - 1) 0) ≡ true = ap (is cr) (sym (last_byte x t some)) ∙ ends in
      rw (cr_last, ends, message_decided _ (x ++ t) h)
