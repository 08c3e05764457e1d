-- How many pieces a record has at most.
-- Assumes nothing.
use mathlib.Core.Path.{◌≡◌, refl, ap, ◌∙◌}
use mathlib.Core.Bool.{true}
use mathlib.Core.List.{List, [], ◌∷◌, ◌++◌}
use Prim.Native.Nat.{ℕ, zero, suc, ◌+◌, ◌-◌, ◌*◌, ◌≤◌, ◌<◌}
use native.Mathlib.Omega.{arith}
use lib.ListN.{length, get_or, drop, length-append, length-drop}
use Rattle.memory.specs.Sizes.{frame_limit}
use Rattle.memory.specs.Tests.{all}
use Rattle.characters.specs.Control.{cr}
use Rattle.frame.specs.declared.End.{End}
use Rattle.records.specs.Records.{joined, is_not_cr}
use Rattle.pieces.specs.Pieces.{piece_size, records_with_cr, chunks_within, chunks, ended, end_after, cut_record, cut_all}
use Rattle.pieces.proofs.Laws.{with_cr_first}

-- a text of so many bytes has not more chunks than this: all but the last are full
abbrev pub size : ℕ
size = piece_size frame_limit

chunks_few : (most : ℕ) (bs : List ℕ) → length bs ≤ most → size * length (chunks_within most size bs) < length bs + size
chunks_few zero bs h = omega arith
chunks_few (suc most) [] h = omega arith
chunks_few (suc most) (b ∷ bs) h =
    let left = length-drop size (b ∷ bs) in
    let few = chunks_few most (drop size (b ∷ bs)) (omega arith) in
    omega arith

ended_long : (end : End) (cs : List (List ℕ)) → length (ended end cs) ≡ length cs
ended_long end [] = refl
ended_long end (c ∷ []) = refl
ended_long end (c ∷ next ∷ cs) = ap suc (ended_long end (next ∷ cs))

record_few : (x : List ℕ) → size * length (cut_record size x) < length x + size
record_few x =
    let same = ended_long (end_after (get_or x (length x - 1) 0)) (chunks size x) in
    let few = chunks_few (length x) x (omega arith) in
    omega arith

-- the pieces of records, each with its CR
abbrev pub piece_count : List (List ℕ) → ℕ
piece_count rs = length (cut_all size (records_with_cr (joined rs)))

pub record FirstCounted (r : List ℕ) (rs : List (List ℕ)) : Type 0 where
  pub own : ℕ
  pub few : size * own < length r + 1 + size
  pub all_pieces : piece_count (r ∷ rs) ≡ own + piece_count rs
  pub all_bytes : length (joined (r ∷ rs)) ≡ length r + 1 + length (joined rs)

pub first_counted : (r : List ℕ) (rs : List (List ℕ)) → all is_not_cr r ≡ true → FirstCounted r rs
first_counted r rs h =
    let x = r ++ cr ∷ [] in
    let long : length x ≡ length r + 1 = length-append r (cr ∷ []) in
    let all_long : length (r ++ cr ∷ joined rs) ≡ length r + suc (length (joined rs)) = length-append r (cr ∷ joined rs) in
    let few = record_few x in
    let cut = ap (λ (ss : List (List ℕ)). length (cut_all size ss)) (with_cr_first r (joined rs) h) in
    record {
      own = length (cut_record size x);
      few = omega arith;
      all_pieces = cut ∙ length-append (cut_record size x) (cut_all size (records_with_cr (joined rs)));
      all_bytes = omega arith;
    }
