-- What cutting leaves of a text: its bytes, in pieces that fit a frame, each record ended by the only ETX among its pieces.
-- Assumes nothing.
use mathlib.Core.Path.{◌≡◌, refl, sym, ap, ◌∙◌}
use mathlib.Core.Bool.{true, false}
use mathlib.Core.List.{List, [], ◌∷◌, ◌++◌, append-nil, append_assoc}
use Prim.Native.Nat.{ℕ, zero, suc, ◌+◌, ◌-◌, ◌≤◌, ◌<◌}
use native.Mathlib.Omega.{arith}
use borrow.Author.Tests.{le-leb, not-true}
use lib.Dec.{leb}
use lib.ListN.{length, get_or, take, drop, replicate, length-append, length-drop, take-append-drop}
use lib.Seq.{get_or-append_seam, length-take-le}
use Rattle.memory.specs.Sizes.{frame_limit}
use Rattle.memory.specs.Tests.{is, between, all}
use Rattle.memory.proofs.Tests.{clash, and_left, and_right, and_both}
use Rattle.characters.specs.Control.{cr}
use Rattle.frame.specs.Shape.{around_text}
use Rattle.frame.specs.Piece.{Piece, piece}
use Rattle.frame.specs.declared.End.{End}
use Rattle.frame.specs.declared.End.TheVariants.{Etb, Etx}
use Rattle.records.specs.Records.{onto, is_not_cr}
use Rattle.pieces.specs.Pieces.{piece_size, records_with_cr, chunks_within, chunks, ended, end_after, cut_record, cut_all, pieces_of}
use Rattle.pieces.specs.Inner.Wholes.{bytes_of, every, is_sized, is_etb, goes_on}
use Rattle.pieces.proofs.Steps.{chunks_first, by_pieces}

-- an empty text has none
pub no_pieces : (limit : ℕ) → pieces_of limit [] ≡ []
unfolding pieces_of
no_pieces limit = refl

module _ (limit : ℕ) (text : List ℕ) (h : around_text < limit) where
  -- the pieces' bytes, joined, are the text
  pub pieces_bytes : bytes_of (pieces_of limit text) ≡ text
  unfolding pieces_of
  pieces_bytes =
      by_pieces (piece_size limit) (omega arith) (λ (t : List ℕ) (ps : List Piece). bytes_of ps ≡ t) refl
      (λ t n least short within ps e. ap (λ (l : List ℕ). take n t ++ l) e ∙ take-append-drop n t) text

  -- every piece has 1 to limit - 7 bytes
  pub pieces_sized : every (is_sized (piece_size limit)) (pieces_of limit text) ≡ true
  unfolding pieces_of
  pieces_sized =
      by_pieces (piece_size limit) (omega arith) (λ (t : List ℕ) (ps : List Piece). every (is_sized (piece_size limit)) ps ≡ true) refl
      (λ t n least short within ps e.
      and_both (between 1 (piece_size limit) (length (take n t))) (every (is_sized (piece_size limit)) ps)
      (rw (length-take-le n t within) (and_both (leb 1 n) (leb n (piece_size limit)) (le-leb 1 n least) (le-leb n (piece_size limit) short))) e)
      text

-- the pieces of a record with its CR, in front of those behind it: all but the last go on, the last ends with ETX
pub record RecordCut (ps : List Piece) (r : List ℕ) (behind : List Piece) : Type 0 where
  pub front : List Piece
  pub last : List ℕ
  pub whole : ps ≡ front ++ piece Etx last ∷ behind
  pub going : every goes_on front ≡ true
  pub bytes : bytes_of front ++ last ≡ r ++ cr ∷ []

-- a piece that goes on ends with ETB
pub ends_etb : (end : End) → is_etb end ≡ true → end ≡ Etb
ends_etb Etb e = refl
ends_etb Etx e = clash (cc)

-- chunks as pieces: those in front go on, and all bytes are there
record Ended (end : End) (cs : List (List ℕ)) : Type 0 where
  front : List Piece
  last : List ℕ
  whole : ended end cs ≡ front ++ piece end last ∷ []
  going : every goes_on front ≡ true
  bytes : bytes_of front ++ last ≡ bytes_of (ended end cs)

ended_some : (end : End) (c : List ℕ) (cs : List (List ℕ)) → Ended end (c ∷ cs)
ended_some end c [] = record { front = []; last = c; whole = refl; going = refl; bytes = sym (append-nil c) }
ended_some end c (next ∷ cs) =
    let e = ended_some end next cs in
    record {
      front = piece Etb c ∷ e.front;
      last = e.last;
      whole = ap (λ (ps : List Piece). piece Etb c ∷ ps) e.whole;
      going = e.going;
      bytes = append_assoc c (bytes_of e.front) e.last ∙ ap (λ (l : List ℕ). c ++ l) e.bytes;
    }

bytes_ended : (end : End) (c : List ℕ) (cs : List (List ℕ)) → bytes_of (ended end (c ∷ cs)) ≡ c ++ bytes_of (ended end cs)
bytes_ended end c [] = refl
bytes_ended end c (next ∷ cs) = refl

bytes_chunks : (size : ℕ) → 1 ≤ size → (end : End) (most : ℕ) (bs : List ℕ) → length bs ≤ most → bytes_of (ended end (chunks_within most size bs)) ≡ bs
bytes_chunks size some end zero [] h = refl
bytes_chunks size some end zero (b ∷ bs) h = absurd (omega arith)
bytes_chunks size some end (suc most) [] h = refl
bytes_chunks size some end (suc most) (b ∷ bs) h =
    let less = length-drop size (b ∷ bs) in
    bytes_ended end (take size (b ∷ bs)) (chunks_within most size (drop size (b ∷ bs)))
    ∙ ap (λ (l : List ℕ). take size (b ∷ bs) ++ l) (bytes_chunks size some end most (drop size (b ∷ bs)) (omega arith))
    ∙ take-append-drop size (b ∷ bs)

-- a record with its CR is the first of what begins with it
pub with_cr_first : (r t : List ℕ) → all is_not_cr r ≡ true → records_with_cr (r ++ cr ∷ t) ≡ (r ++ cr ∷ []) ∷ records_with_cr t
with_cr_first [] t h = refl
with_cr_first (b ∷ r) t h =
    let other : is cr b ≡ false = not-true (is cr b) (and_left (is_not_cr b) (all is_not_cr r) h) in
    rw other (ap (onto b) (with_cr_first r t (and_right (is_not_cr b) (all is_not_cr r) h)))

-- each record starts a new piece and ends at the only one of its pieces with ETX
pub record_cut : (limit : ℕ) (r t : List ℕ) → around_text < limit → all is_not_cr r ≡ true → RecordCut (pieces_of limit (r ++ cr ∷ t)) r (pieces_of limit t)
unfolding pieces_of
record_cut limit r t more h =
    let size = piece_size limit in
    let x = r ++ cr ∷ [] in
    let long : length x ≡ length r + 1 = length-append r (cr ∷ []) in
    let at_last : length x - 1 ≡ length r = omega arith in
    let etx : end_after (get_or x (length x - 1) 0) ≡ Etx = ap end_after (ap (λ (i : ℕ). get_or x i 0) at_last ∙ get_or-append_seam r cr [] 0) in
    let parts : chunks size x ≡ take size x ∷ chunks size (drop size x) = chunks_first size (omega arith) x (omega arith) in
    let cut : cut_record size x ≡ ended Etx (take size x ∷ chunks size (drop size x)) = (λ i. ended (etx i) (parts i)) in
    let e = ended_some Etx (take size x) (chunks size (drop size x)) in
    let behind = cut_all size (records_with_cr t) in
    record {
      front = e.front;
      last = e.last;
      whole =
          ap (cut_all size) (with_cr_first r t h)
          ∙ ap (λ (ps : List Piece). ps ++ behind) (cut ∙ e.whole)
          ∙ append_assoc e.front (piece Etx e.last ∷ []) behind;
      going = e.going;
      bytes = e.bytes ∙ ap (λ (cs : List (List ℕ)). bytes_of (ended Etx cs)) (sym parts) ∙ bytes_chunks size (omega arith) Etx (length x) x (omega arith);
    }

-- a piece has at most 240 bytes; with its CR a record of 240 bytes goes into one frame, of 241 into two
pub piece_240 : piece_size frame_limit ≡ 240
piece_240 = refl

pub record_240 : length (pieces_of frame_limit (replicate 239 0x41 ++ cr ∷ [])) ≡ 1
unfolding pieces_of
record_240 = refl

pub record_241 : length (pieces_of frame_limit (replicate 240 0x41 ++ cr ∷ [])) ≡ 2
unfolding pieces_of
record_241 = refl
