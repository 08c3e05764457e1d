-- What is put into the numbers of a line that is there.
-- Assumes nothing.
use mathlib.Core.Path.{◌≡◌, refl, ap, ◌∙◌}
use mathlib.Core.List.{List}
use Prim.Native.Nat.{ℕ, ◌≤◌, ◌<◌}
use borrow.Author.Tests.{lt-ltb, le-leb}
use lib.ListN.{length, get_or}
use Rattle.memory.specs.Sizes.{lines}
use Rattle.settings.specs.Settings.{block_limit}
use Rattle.journal.specs.declared.Ledger.{Ledger}
use Rattle.line.specs.declared.Line.{Line}
use Rattle.ledger.specs.Ledgers.{with_serial, with_used, serial_after, counts_after}
use Rattle.ledger.proofs.Ledgers.{there}
use Rattle.numbers.specs.Plain.{with_line}
use Rattle.numbers.specs.Changes.{record_after}
use Rattle.strips.specs.Hearings.{filed_reader}
use Rattle.strips.specs.declared.Reader.{Reader}
use Rattle.keeping.specs.Keeping.{with_reader, with_block, reader_after, block_after}
use Rattle.uploads.specs.Uploads.{judged_line}
use Rattle.uploads.specs.Inner.Ruled.{settled_numbers, filed_numbers}

module _ (ns : List ℕ) (i : ℕ) (h : i < lines) where
  pub record_put : {l l' : Line} {ns' : List ℕ} → ns' ≡ record_after ns i l' → l' ≡ l → ns' ≡ with_line ns i l
  record_put {l} {l'} e q = e ∙ there i ns (with_line ns i l') h ∙ ap (with_line ns i) q

  reader_put : {r r' : Reader} {ns' : List ℕ} → ns' ≡ reader_after ns i r' → r' ≡ r → ns' ≡ with_reader ns i r
  reader_put {r} {r'} e q = e ∙ there i ns (with_reader ns i r') h ∙ ap (with_reader ns i) q

  serial_put_law : (d : Ledger) {ns' : List ℕ} → ns' ≡ serial_after ns i (get_or d.serials i 0) → ns' ≡ with_serial ns i d
  serial_put_law d e = e ∙ there i ns (with_serial ns i d) h

  block_put : (bs : List ℕ) {ns' : List ℕ} → length bs ≤ block_limit → ns' ≡ block_after ns i bs → ns' ≡ with_block ns i bs
  unfolding block_after
  block_put bs g e = e ∙ rw (lt-ltb i lines h, le-leb (length bs) block_limit g)

  pub used_put : (d : Ledger) {us' : List ℕ} → us' ≡ counts_after ns i (get_or d.used i 0) d.in_use → us' ≡ with_used ns i d
  used_put d e = e ∙ there i ns (with_used ns i d) h

-- a judged line's record, and what is kept of its reader
pub settled : (ns : List ℕ) (i : ℕ) (l : Line) (r : Reader) {l' : Line} {ns₁ ns₂ : List ℕ} → i < lines → l' ≡ judged_line l → ns₁ ≡ record_after ns i l' → ns₂ ≡ reader_after ns₁ i r
    → ns₂ ≡ settled_numbers ns i l r
settled ns i l r {l'} {ns₁} h q e f = reader_put ns₁ i h f refl ∙ ap (λ (x : List ℕ). with_reader x i r) (record_put ns i h e q)

-- besides, its serial and its last stored block
pub filed : (ns : List ℕ) (i : ℕ) (l : Line) (d : Ledger) (bs : List ℕ) {l' : Line} {r : Reader} {ns₁ ns₂ ns₃ ns₄ : List ℕ} → i < lines → length bs ≤ block_limit → l' ≡ judged_line l → r ≡ filed_reader
    → ns₁ ≡ record_after ns i l' → ns₂ ≡ serial_after ns₁ i (get_or d.serials i 0) → ns₃ ≡ reader_after ns₂ i r → ns₄ ≡ block_after ns₃ i bs
    → ns₄ ≡ filed_numbers ns i l d bs
filed ns i l d bs {l'} {r} {ns₁} {ns₂} {ns₃} h g q t e₁ e₂ e₃ e₄ =
    block_put ns₃ i h bs g e₄
    ∙ ap (λ (x : List ℕ). with_block x i bs) (reader_put ns₂ i h e₃ t)
    ∙ ap (λ (x : List ℕ). with_block (with_reader x i filed_reader) i bs) (serial_put_law ns₁ i h d e₂)
    ∙ ap (λ (x : List ℕ). with_block (with_reader (with_serial x i d) i filed_reader) i bs) (record_put ns i h e₁ q)
