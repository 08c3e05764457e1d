-- `listing::rows::put` meets its contract: each column stands behind the one before it.
-- Assumes nothing.
use Rattle.std.proofs.Common.{◌≡◌, ℕ, ◌+◌, ◌≤◌, List, [], ◌∷◌, ◌++◌, length, ap, ◌∙◌, append_assoc, arith, length-append, length-set}
use Rattle.memory.specs.Parts.{splice}
use Rattle.listing.specs.Texts.{newline, word_text, last_text, row_text}
use Rattle.decimal.proofs.Stores.{joined, byte_behind}
use Rattle.listing.proofs.Columns.{length_columns}
use Rattle.listing.proofs.rows.put.Goals as goal

pub put_word-second-requires : goal.put_word-second-requires
put_word-second-requires c =
    let room : (let a = c.args in a.at + (length (word_text a.event) + length (word_text a.line) + length (word_text a.number) + length (last_text a.number a.taken) + 1)
    ≤ length a.out.now) = omega (arith, c.requires, length_columns c.args.event c.args.line c.args.number c.args.taken) in
    omega (arith, room)

pub put_word-third-requires : goal.put_word-third-requires
put_word-third-requires c =
    let room : (let a = c.args in a.at + (length (word_text a.event) + length (word_text a.line) + length (word_text a.number) + length (last_text a.number a.taken) + 1)
    ≤ length a.out.now) = omega (arith, c.requires, length_columns c.args.event c.args.line c.args.number c.args.taken) in
    omega (arith, room, c.put_word-second, c.put_word-second.ensures.0)

pub put_word-last-requires : goal.put_word-last-requires
put_word-last-requires c =
    let room : (let a = c.args in a.at + (length (word_text a.event) + length (word_text a.line) + length (word_text a.number) + length (last_text a.number a.taken) + 1)
    ≤ length a.out.now) = omega (arith, c.requires, length_columns c.args.event c.args.line c.args.number c.args.taken) in
    omega (arith, room, c.put_word-second, c.put_word-second.ensures.0, c.put_word-third, c.put_word-third.ensures.0)

pub put_last-end-requires : goal.put_last-end-requires
put_last-end-requires c =
    let room : (let a = c.args in a.at + (length (word_text a.event) + length (word_text a.line) + length (word_text a.number) + length (last_text a.number a.taken) + 1)
    ≤ length a.out.now) = omega (arith, c.requires, length_columns c.args.event c.args.line c.args.number c.args.taken) in
    omega (arith, room, c.put_word-second, c.put_word-second.ensures.0, c.put_word-third, c.put_word-third.ensures.0, c.put_word-last, c.put_word-last.ensures.0)

pub returns : goal.returns
unfolding row_text
returns c =
    let room : (let a = c.args in a.at + (length (word_text a.event) + length (word_text a.line) + length (word_text a.number) + length (last_text a.number a.taken) + 1)
    ≤ length a.out.now) = omega (arith, c.requires, length_columns c.args.event c.args.line c.args.number c.args.taken) in
    let h = room in
    let a = c.args in
    let out : List ℕ = a.out.now in
    let we : List ℕ = word_text a.event in
    let wl : List ℕ = word_text a.line in
    let wn : List ℕ = word_text a.number in
    let la : List ℕ = last_text a.number a.taken in
    let e₁ = c.put_word-second.ensures in
    let e₂ = c.put_word-third.ensures in
    let e₃ = c.put_word-last.ensures in
    let e₄ = c.put_last-end.ensures in
    let l₂ = length-append we wl in
    let l₃ = length-append (we ++ wl) wn in
    let l₄ = length-append ((we ++ wl) ++ wn) la in
    let j₂ = joined out a.at we wl (omega (arith, h)) e₁.0 e₁.1 e₂.1 in
    let j₃ = joined out a.at (we ++ wl) wn (omega (arith, h, l₂)) (omega (arith, e₁.0, e₂.0, l₂)) j₂ e₃.1 in
    let j₄ = joined out a.at ((we ++ wl) ++ wn) la (omega (arith, h, l₂, l₃)) (omega (arith, e₁.0, e₂.0, e₃.0, l₂, l₃)) j₃ e₄.1 in
    let row : (((we ++ wl) ++ wn) ++ la) ++ (newline ∷ []) ≡ we ++ (wl ++ (wn ++ (la ++ (newline ∷ [])))) = simp append_assoc in (
      omega (arith, length_columns a.event a.line a.number a.taken, e₁.0, e₂.0, e₃.0, e₄.0),
      byte_behind out a.at (((we ++ wl) ++ wn) ++ la) newline (omega (arith, h, l₂, l₃, l₄)) (omega (arith, e₁.0, e₂.0, e₃.0, e₄.0, l₂, l₃, l₄)) j₄
          ∙ ap (splice out a.at) row,
    )

pub bounds-out-end : goal.bounds-out-end
bounds-out-end c =
    let room : (let a = c.args in a.at + (length (word_text a.event) + length (word_text a.line) + length (word_text a.number) + length (last_text a.number a.taken) + 1)
    ≤ length a.out.now) = omega (arith, c.requires, length_columns c.args.event c.args.line c.args.number c.args.taken) in
    let end : c.put_last-end.result + 1 ≤ length c.args.out.now = omega (arith, room, c.put_word-second.ensures.0, c.put_word-third.ensures.0, c.put_word-last.ensures.0, c.put_last-end.ensures.0) in
    let same : length c.put_last-end.new.out ≡ length c.args.out.now = omega (arith, c.put_word-second, c.put_word-third, c.put_word-last, c.put_last-end) in
    omega (arith, end, same)

pub overflow_add-result : goal.overflow_add-result
overflow_add-result c =
    let room : (let a = c.args in a.at + (length (word_text a.event) + length (word_text a.line) + length (word_text a.number) + length (last_text a.number a.taken) + 1)
    ≤ length a.out.now) = omega (arith, c.requires, length_columns c.args.event c.args.line c.args.number c.args.taken) in
    let end : c.put_last-end.result + 1 ≤ length c.args.out.now = omega (arith, room, c.put_word-second.ensures.0, c.put_word-third.ensures.0, c.put_word-last.ensures.0, c.put_last-end.ensures.0) in
    omega (arith, end)

pub shape_of-out : goal.shape_of-out
shape_of-out c =
    let same : length c.put_last-end.new.out ≡ length c.args.out.now = omega (arith, c.put_word-second, c.put_word-third, c.put_word-last, c.put_last-end) in
    simp length-set (omega (arith, same))
