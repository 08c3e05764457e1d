-- A text and its records: joined again, each with its CR, they are the text; no record has a CR; the last one of records that are joined.
-- Assumes nothing.
use mathlib.Core.Path.{◌≡◌, refl, ap, sym, ◌∙◌}
use mathlib.Core.Bool.{Bool, true, false, cond, ◌&&◌}
use mathlib.Core.List.{List, [], ◌∷◌, ◌++◌, append_assoc}
use Prim.Native.Nat.{ℕ, suc, ◌+◌, ◌-◌}
use native.Mathlib.Omega.{arith}
use lib.ListN.{length, length-append}
use lib.Seq.{take_at, get_or-append-add}
use borrow.Author.Tests.{eqb-true}
use Rattle.memory.specs.Tests.{is, all}
use Rattle.memory.proofs.Tests.{and_left, and_right, never_both}
use Rattle.characters.specs.Control.{cr}
use Rattle.records.specs.Records.{onto, records, joined, is_not_cr, ends_with_cr, behind_last_cr, last_record, begins_with_l, ends_with_l}
use Rattle.records.proofs.LastRecord.{behind_cr, behind_join_lacks}

-- every record passes the test
abbrev pub every : (List ℕ → Bool) → List (List ℕ) → Bool
every p [] = true
every p (r ∷ rs) = p r && every p rs

pub every_at : (p : List ℕ → Bool) (rs : List (List ℕ)) (r : List ℕ) (ss : List (List ℕ)) → every p (rs ++ r ∷ ss) ≡ true → p r ≡ true
every_at p [] r ss e = and_left (p r) (every p ss) e
every_at p (x ∷ rs) r ss e = every_at p rs r ss (and_right (p x) (every p (rs ++ r ∷ ss)) e)

-- no record of a text has a CR
pub no_cr : (t : List ℕ) → every (all is_not_cr) (records t) ≡ true
no_cr [] = refl
no_cr (b ∷ t) = by_first (is cr b) refl (no_cr t)
  where
    glued : (rs : List (List ℕ)) → is_not_cr b ≡ true → every (all is_not_cr) rs ≡ true → every (all is_not_cr) (onto b rs) ≡ true
    glued [] n e = rw n
    glued (r ∷ rs) n e = rw n e

    by_first : (a : Bool) → is cr b ≡ a → every (all is_not_cr) (records t) ≡ true → every (all is_not_cr) (cond a ([] ∷ records t) (onto b (records t))) ≡ true
    by_first true k e = e
    by_first false k e = glued (records t) (rw k) e

-- a record with its CR in front of a text is the text's first record
pub records_first : (r t : List ℕ) → all is_not_cr r ≡ true → records (r ++ cr ∷ t) ≡ r ∷ records t
records_first [] t e = refl
records_first (b ∷ r) t e = by_first (is cr b) refl (records_first r t (and_right (is_not_cr b) (all is_not_cr r) e))
  where
    by_first : (a : Bool) → is cr b ≡ a → records (r ++ cr ∷ t) ≡ r ∷ records t
        → cond a ([] ∷ records (r ++ cr ∷ t)) (onto b (records (r ++ cr ∷ t))) ≡ (b ∷ r) ∷ records t
    by_first true k h = never_both (is_not_cr b) (and_left (is_not_cr b) (all is_not_cr r) e) (rw k)
    by_first false k h = rw h

pub records_joined : (rs : List (List ℕ)) → every (all is_not_cr) rs ≡ true → records (joined rs) ≡ rs
records_joined [] e = refl
records_joined (r ∷ rs) e =
    records_first r (joined rs) (and_left (all is_not_cr r) (every (all is_not_cr) rs) e)
    ∙ ap (λ (ss : List (List ℕ)). r ∷ ss) (records_joined rs (and_right (all is_not_cr r) (every (all is_not_cr) rs) e))

-- the records of a text that ends with CR, joined, are the text
pub joined_records : (t : List ℕ) → ends_with_cr t ≡ true → joined (records t) ≡ t
joined_records [] e = let z : ◌≡◌ {A = ℕ} 0 1 = cc in absurd (omega arith)
joined_records (b ∷ []) e = let same : b ≡ cr = eqb-true b cr e in rw same
joined_records (b ∷ y ∷ t) e =
    let n : suc (suc (length t)) - 1 ≡ suc (suc (length t) - 1) = omega arith in
    by_first (is cr b) refl (joined_records (y ∷ t) (rw n at e))
  where
    glued : (rs : List (List ℕ)) → joined rs ≡ y ∷ t → joined (onto b rs) ≡ b ∷ y ∷ t
    glued [] h = let z : ◌≡◌ {A = ℕ} 0 1 = cc in absurd (omega arith)
    glued (r ∷ rs) h = ap (λ (l : List ℕ). b ∷ l) h

    by_first : (a : Bool) → is cr b ≡ a → joined (records (y ∷ t)) ≡ y ∷ t
        → joined (cond a ([] ∷ records (y ∷ t)) (onto b (records (y ∷ t)))) ≡ b ∷ y ∷ t
    by_first true k h = let same : b ≡ cr = eqb-true b cr k in rw same (ap (λ (l : List ℕ). cr ∷ l) h)
    by_first false k h = glued (records (y ∷ t)) h

pub joined_append : (rs ss : List (List ℕ)) → joined (rs ++ ss) ≡ joined rs ++ joined ss
joined_append [] ss = refl
joined_append (r ∷ rs) ss =
    ap (λ (l : List ℕ). r ++ cr ∷ l) (joined_append rs ss) ∙ sym (append_assoc r (cr ∷ joined rs) (joined ss))

nothing_behind : (rs : List (List ℕ)) → behind_last_cr (joined rs) ≡ []
nothing_behind [] = refl
nothing_behind (r ∷ rs) = behind_cr r (joined rs) ∙ nothing_behind rs

-- records joined end with CR, and the last of them is the text's last record
module _ (rs : List (List ℕ)) (r : List ℕ) where
  joined_more : joined (rs ++ r ∷ []) ≡ (joined rs ++ r) ++ cr ∷ []
  joined_more = joined_append rs (r ∷ []) ∙ sym (append_assoc (joined rs) r (cr ∷ []))

  long : length ((joined rs ++ r) ++ cr ∷ []) - 1 ≡ length (joined rs ++ r)
  long = rw (length-append (joined rs ++ r) (cr ∷ [])) (omega arith)

  pub joined_ends : ends_with_cr (joined (rs ++ r ∷ [])) ≡ true
  joined_ends =
      let n : length (joined rs ++ r) ≡ length (joined rs ++ r) + 0 = omega arith in
      rw (joined_more, long, n, get_or-append-add (joined rs ++ r) (cr ∷ []) 0 0)

  pub joined_last_record : all is_not_cr r ≡ true → last_record (joined (rs ++ r ∷ [])) ≡ r
  unfolding last_record
  joined_last_record e =
      rw (joined_more, long, take_at (joined rs ++ r) (cr ∷ []) (length (joined rs ++ r)) refl)
      (behind_join_lacks (joined rs) r e ∙ rw (nothing_behind rs))

  pub joined_begins : all is_not_cr r ≡ true → ends_with_l (joined (rs ++ r ∷ [])) ≡ begins_with_l r
  unfolding ends_with_l
  joined_begins e = rw (joined_ends, joined_last_record e)
