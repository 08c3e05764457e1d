-- What is done for a ruling is what the ruling leaves: what a deed does not change is put back as it stands.
-- Assumes nothing.
use mathlib.Core.Path.{◌≡◌, refl, sym, ap, ◌∙◌}
use mathlib.Core.List.{List, []}
use Prim.Native.Nat.{ℕ, ◌+◌, ◌≤◌, ◌<◌}
use native.Mathlib.Omega.{arith}
use lib.ListN.{length, get_or, set}
use lib.Seq.{get_or-set_other}
use Rattle.memory.specs.Sizes.{lines}
use Rattle.settings.specs.Settings.{block_limit}
use Rattle.settings.specs.declared.Patient.{Patient}
use Rattle.journal.specs.declared.Ledger.{Ledger}
use Rattle.line.specs.declared.Line.{Line}
use Rattle.layout.specs.Layout.{start, collected_at, joined_at, seconds_at, next_at, last_at, refusing_at, serial_at, tries_at, place_at, reply_at, since_at, kept_at, number_at, block_start}
use Rattle.looking.specs.Views.{frames_of}
use Rattle.looking.specs.declared.Kind.{Kind}
use Rattle.looking.specs.declared.Kind.TheVariants.{Byte}
use Rattle.ledger.specs.Ledgers.{ledger_of, with_serial, with_used}
use Rattle.ledger.proofs.Ledgers.{used_back}
use Rattle.numbers.specs.Plain.{state_number, tries_number, place_number, last_number, flag, with_line}
use Rattle.numbers.proofs.Numbers.{serial_back, numbers_back}
use Rattle.answers.specs.InNumbers.{in_numbers}
use Rattle.answers.specs.declared.Answer.{Answer}
use Rattle.answers.specs.declared.Answered.{Answered}
use Rattle.strips.specs.Hearings.{filed_reader}
use Rattle.keeping.specs.Keeping.{reader_of, kept_block, memo_of, with_memo}
use Rattle.keeping.proofs.Blocks.{read_past}
use Rattle.keeping.proofs.Memos.{SameReader, reader_back, block_past, memo_left, memo_kept}
use Rattle.uploads.specs.Uploads.{Deed, leave, add, settle, file, Ruling, ruling, added_line, judged_line, line_by, memo_by, ledger_by, journal_by, block_bytes}
use Rattle.uploads.specs.Inner.Ruled.{Reading, text_by, numbers_by, counts_by, Acted, Ruled}
use Rattle.uploads.proofs.Readings.{reader_within}

-- with any record of the line, what is kept of its reader stays
module _ (ns : List ℕ) (i : ℕ) (l : Line) where
  past_line : (k : ℕ) → 9 < k → number_at (with_line ns i l) i k ≡ number_at ns i k
  unfolding with_line
  past_line k h =
      let ns₁ : List ℕ = set ns (start i) (state_number l.state) in
      let ns₂ : List ℕ = set ns₁ (start i + collected_at) l.collected in
      let ns₃ : List ℕ = set ns₂ (start i + joined_at) l.joined in
      let ns₄ : List ℕ = set ns₃ (start i + seconds_at) l.seconds in
      let ns₅ : List ℕ = set ns₄ (start i + next_at) l.next in
      let ns₆ : List ℕ = set ns₅ (start i + last_at) (last_number l.last) in
      let ns₇ : List ℕ = set ns₆ (start i + refusing_at) (flag l.refusing) in
      let ns₈ : List ℕ = set ns₇ (start i + tries_at) (tries_number l.state) in
      get_or-set_other ns₈ (start i + place_at) (start i + k) (place_number l.state) 0 (λ q. absurd (omega arith))
      ∙ get_or-set_other ns₇ (start i + tries_at) (start i + k) (tries_number l.state) 0 (λ q. absurd (omega arith))
      ∙ get_or-set_other ns₆ (start i + refusing_at) (start i + k) (flag l.refusing) 0 (λ q. absurd (omega arith))
      ∙ get_or-set_other ns₅ (start i + last_at) (start i + k) (last_number l.last) 0 (λ q. absurd (omega arith))
      ∙ get_or-set_other ns₄ (start i + next_at) (start i + k) l.next 0 (λ q. absurd (omega arith))
      ∙ get_or-set_other ns₃ (start i + seconds_at) (start i + k) l.seconds 0 (λ q. absurd (omega arith))
      ∙ get_or-set_other ns₂ (start i + joined_at) (start i + k) l.joined 0 (λ q. absurd (omega arith))
      ∙ get_or-set_other ns₁ (start i + collected_at) (start i + k) l.collected 0 (λ q. absurd (omega arith))
      ∙ get_or-set_other ns (start i) (start i + k) (state_number l.state) 0 (λ q. absurd (omega arith))

  line_block : i < lines → kept_block (with_line ns i l) i ≡ kept_block ns i
  unfolding with_line
  line_block h =
      let ns₁ : List ℕ = set ns (start i) (state_number l.state) in
      let ns₂ : List ℕ = set ns₁ (start i + collected_at) l.collected in
      let ns₃ : List ℕ = set ns₂ (start i + joined_at) l.joined in
      let ns₄ : List ℕ = set ns₃ (start i + seconds_at) l.seconds in
      let ns₅ : List ℕ = set ns₄ (start i + next_at) l.next in
      let ns₆ : List ℕ = set ns₅ (start i + last_at) (last_number l.last) in
      let ns₇ : List ℕ = set ns₆ (start i + refusing_at) (flag l.refusing) in
      let ns₈ : List ℕ = set ns₇ (start i + tries_at) (tries_number l.state) in
      block_past ns₈ i place_at (place_number l.state) h (omega arith)
      ∙ block_past ns₇ i tries_at (tries_number l.state) h (omega arith)
      ∙ block_past ns₆ i refusing_at (flag l.refusing) h (omega arith)
      ∙ block_past ns₅ i last_at (last_number l.last) h (omega arith)
      ∙ block_past ns₄ i next_at l.next h (omega arith)
      ∙ block_past ns₃ i seconds_at l.seconds h (omega arith)
      ∙ block_past ns₂ i joined_at l.joined h (omega arith)
      ∙ block_past ns₁ i collected_at l.collected h (omega arith)
      ∙ read_past ns (start i) (state_number l.state) (block_start i) block_limit (omega arith)

  serial_block : (d : Ledger) → i < lines → kept_block (with_serial (with_line ns i l) i d) i ≡ kept_block ns i
  serial_block d h = block_past (with_line ns i l) i serial_at (get_or d.serials i 0) h (omega arith) ∙ line_block h

module _ (ns us f : List ℕ) (p : Patient) (l : Line) (i : ℕ) (g : Reading ns f p l i) where
  same_reader : (ns' : List ℕ) → ((k : ℕ) → 9 < k → number_at ns' i k ≡ number_at ns i k) → SameReader ns ns' i
  same_reader ns' e =
      let w = reader_within ns f p l i g in
      record { reply = w.reply; since = w.since; kept = w.kept; reply_same = e reply_at (omega arith); since_same = e since_at (omega arith); kept_same = e kept_at (omega arith) }

  -- the numbers after each deed
  deed_numbers : (x : Deed) (bs text : List ℕ) → length bs ≤ block_limit
      → with_memo (with_serial (with_line ns i (line_by x l)) i (ledger_by x (ledger_of ns us) i text)) i (memo_by x (memo_of ns i) bs) ≡ numbers_by x ns i l (ledger_by x (ledger_of ns us) i text) bs
  deed_numbers leave bs text n =
      ap (λ (y : Line). with_memo (with_serial (with_line ns i y) i (ledger_of ns us)) i (memo_of ns i)) g.line
      ∙ ap (λ (y : List ℕ). with_memo y i (memo_of ns i)) (numbers_back ns us i g.there g.within)
      ∙ memo_left ns ns i (reader_of ns i) g.there refl
      ∙ reader_back ns ns i (same_reader ns (λ k h. refl))
  deed_numbers add bs text n =
      ap (λ (y : List ℕ). with_memo y i (memo_of ns i)) (serial_back ns us i (added_line l) g.there)
      ∙ memo_left ns (with_line ns i (added_line l)) i (reader_of ns i) g.there (line_block ns i (added_line l) g.there)
      ∙ reader_back ns (with_line ns i (added_line l)) i (same_reader (with_line ns i (added_line l)) (past_line ns i (added_line l)))
  deed_numbers (settle r) bs text n =
      ap (λ (y : List ℕ). with_memo y i (record { reader = r; block = kept_block ns i })) (serial_back ns us i (judged_line l) g.there)
      ∙ memo_left ns (with_line ns i (judged_line l)) i r g.there (line_block ns i (judged_line l) g.there)
  deed_numbers file bs text n =
      let d = ledger_by file (ledger_of ns us) i text in
      memo_kept ns (with_serial (with_line ns i (judged_line l)) i d) i filed_reader g.there (serial_block ns i (judged_line l) d g.there) bs n

  -- and the counts
  deed_counts : (x : Deed) (text : List ℕ) → with_used us i (ledger_by x (ledger_of ns us) i text) ≡ counts_by x us i (ledger_by x (ledger_of ns us) i text)
  deed_counts leave text = used_back ns us i g.there
  deed_counts add text = used_back ns us i g.there
  deed_counts (settle r) text = used_back ns us i g.there
  deed_counts file text = refl

  -- nothing is done
  pub left : (j : List ℕ) (k : Kind) (a : Answer) {r : Answered} → r ≡ in_numbers a → Ruled ns us j f p l i k (ruling leave a) r ns us j f
  left j k a e = record { result = e; numbers = sym (deed_numbers leave [] [] (omega arith)); counts = sym (deed_counts leave []); journal = refl; frames = refl }

  -- a deed for a byte, with the journal that it leaves
  pub acted : (j : List ℕ) (b : ℕ) (x : Ruling) {d : Ledger} {r : Answered} {ns' us' j' f' : List ℕ} → length (block_bytes l b (frames_of i f)) ≤ block_limit
      → d ≡ ledger_by x.deed (ledger_of ns us) i (text_by p (Byte b) l i f) → j' ≡ journal_by x.deed (ledger_of ns us) i (text_by p (Byte b) l i f) j
      → Acted ns us f l i b (block_bytes l b (frames_of i f)) d x r ns' us' f' → Ruled ns us j f p l i (Byte b) x r ns' us' j' f'
  acted j b x n e o a =
      let bs = block_bytes l b (frames_of i f) in
      let text = text_by p (Byte b) l i f in
      record {
        result = a.result;
        numbers = a.numbers ∙ ap (λ (y : Ledger). numbers_by x.deed ns i l y bs) e ∙ sym (deed_numbers x.deed bs text n);
        counts = a.counts ∙ ap (counts_by x.deed us i) e ∙ sym (deed_counts x.deed text);
        journal = o;
        frames = a.frames;
      }
