-- The verdict, ground by ground; and what it means that an entry fits.
-- Assumes nothing.
use Rattle.std.specs.Option.{is_some}
use Rattle.std.specs.Result.{is_ok}
use Rattle.std.specs.Prelude.{Err, Ok}
use Rattle.journal.specs.declared.Refusal.TheVariants.{Broken, Malformed, NoLine, NoRoom, WrongSize}
use Rattle.std.proofs.Common.{◌≡◌, ℕ, ◌+◌, ◌<◌, ◌≤◌, Bool, true, false, cond, eqb, ltb, List, length, get_or, sym, refl, true≢false, arith, ltb-true, le-ltb, lt-ltb, eq-eqb, ne_eqb, eqb-true, leb-true}
use Rattle.memory.specs.Sizes.{lines, message_limit, journal_size}
use Rattle.memory.specs.Tests.{unless}
use Rattle.header.specs.Header.{entry_size}
use Rattle.header.specs.Entry.{is_text}
use Rattle.journal.specs.Entries.{total}
use Rattle.journal.specs.Chain.{chain}
use Rattle.room.specs.Room.{sum_to, claims, fits, raised}
use Rattle.journal.specs.Verdicts.{judge_of}
use Rattle.journal.specs.declared.Ledger.{Ledger}
use Rattle.header.proofs.Starts.{text_facts, text_of, no_text}
use Rattle.journal.proofs.Wholes.{Kept}
use Rattle.journal.proofs.Inside.{sum_totals}
use Rattle.room.proofs.Totals.{sum_same, sum_swap, raised_own, raised_other, used_le_claims}

module _ (d : Ledger) (sh : List ℕ) (l n : ℕ) (j : List ℕ) where
  pub judged_line_law : lines ≤ l → (Err NoLine) ≡ judge_of d sh l n j
  unfolding judge_of
  judged_line_law h = rw (le-ltb l lines h)

  module _ (line : l < lines) where
    pub judged_size : (length j ≡ journal_size → ⊥) → (Err WrongSize) ≡ judge_of d sh l n j
    unfolding judge_of
    judged_size h = rw (lt-ltb l lines line, ne_eqb (length j) journal_size h)

    module _ (long : length j ≡ journal_size) where
      pub judged_text : (1 ≤ n → n ≤ message_limit → ⊥) → (Err Malformed) ≡ judge_of d sh l n j
      unfolding judge_of
      judged_text h = rw (lt-ltb l lines line, eq-eqb (length j) journal_size long, no_text n h)

      module _ (low : 1 ≤ n) (high : n ≤ message_limit) where
        pub judged_broken : is_some (chain d j) ≡ false → (Err Broken) ≡ judge_of d sh l n j
        unfolding judge_of
        judged_broken h = rw (lt-ltb l lines line, eq-eqb (length j) journal_size long, text_of n low high, h)

        pub judged_room : (b : Bool) → is_some (chain d j) ≡ true → fits sh (raised d.used l (entry_size n)) ≡ b → cond b (Ok tt) (Err NoRoom) ≡ judge_of d sh l n j
        unfolding judge_of
        judged_room b h f = rw (lt-ltb l lines line, eq-eqb (length j) journal_size long, text_of n low high, h, f)

-- ---- what it means that an entry fits

pub record Fitting (d : Ledger) (sh : List ℕ) (l n : ℕ) (j : List ℕ) : Type 0 where
  pub line : l < lines
  pub long : length j ≡ journal_size
  pub low : 1 ≤ n
  pub high : n ≤ message_limit
  pub whole : is_some (chain d j) ≡ true
  pub room : fits sh (raised d.used l (entry_size n)) ≡ true

all_passed : (a b c e f : Bool) → is_ok (unless a (Err NoLine) (unless b (Err WrongSize) (unless c (Err Malformed) (unless e (Err Broken) (unless f (Err NoRoom) (Ok (tt {0}))))))) ≡ true
    → (a ≡ true) × (b ≡ true) × (c ≡ true) × (e ≡ true) × (f ≡ true)
all_passed true true true true true q = (refl, refl, refl, refl, refl)
all_passed true true true true false q = absurd (true≢false (sym q))
all_passed true true true false f q = absurd (true≢false (sym q))
all_passed true true false e f q = absurd (true≢false (sym q))
all_passed true false c e f q = absurd (true≢false (sym q))
all_passed false b c e f q = absurd (true≢false (sym q))

pub fits_facts : (d : Ledger) (sh : List ℕ) (l n : ℕ) (j : List ℕ) → is_ok (judge_of d sh l n j) ≡ true → Fitting d sh l n j
unfolding judge_of
fits_facts d sh l n j q =
    let (a, b, c, e, f) = all_passed (ltb l lines) (eqb (length j) journal_size) (is_text n) (is_some (chain d j)) (fits sh (raised d.used l (entry_size n))) q in
    let (low, high) = text_facts n c in
    record { line = ltb-true _ _ a; long = eqb-true _ _ b; low = low; high = high; whole = e; room = f }

-- what all lines claim is no less than what is in use: an entry that fits the shares fits the journal
pub fits_journal : (d : Ledger) (sh j : List ℕ) (l n : ℕ) → Kept d j → length d.used ≡ lines → l < lines → fits sh (raised d.used l n) ≡ true → d.in_use + n ≤ journal_size
fits_journal d sh j l n k long line f =
    let u = d.used in
    let claimed : claims sh (raised u l n) ≤ journal_size = leb-true _ _ f in
    let least : sum_to lines (λ i. get_or (raised u l n) i 0) ≤ claims sh (raised u l n) = used_le_claims sh (raised u l n) in
    let more : sum_to lines (λ i. get_or (raised u l n) i 0) + 0 ≡ sum_to lines (λ i. get_or u i 0) + n =
    sum_swap lines (λ i. get_or (raised u l n) i 0) (λ i. get_or u i 0) l 0 n line (omega (arith, raised_own u l n long line)) (λ i q x. raised_other u l n long line i x) in
    let same : sum_to lines (λ i. get_or u i 0) ≡ sum_to lines (λ i. total i k.es) = sum_same lines (λ i. get_or u i 0) (λ i. total i k.es) k.whole.sums in
    omega (arith, claimed, least, more, same, sum_totals k.es k.all, k.in_use)
