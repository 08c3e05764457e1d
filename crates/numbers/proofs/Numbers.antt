-- Laws of records in plain numbers.
-- Assumes nothing.
use Rattle.std.specs.Prelude.{Some}
use mathlib.Core.Path.{◌≡◌, refl, sym, ap, ◌∙◌}
use mathlib.Core.Bool.{Bool, true, false, cond, ◌&&◌}
use mathlib.Core.List.{List}
use Prim.Native.Nat.{ℕ, zero, suc, ◌+◌, ◌-◌, ◌≤◌, ◌<◌}
use native.Mathlib.Omega.{arith}
use native.Mathlib.Numerals.{unary_clauses}
use borrow.Author.Tests.{leb-true, le-leb, ltb-true, eqb-true}
use lib.Dec.{leb, ltb, eqb}
use lib.ListN.{get_or, set}
use lib.Seq.{set-get_or, get_or-set_other}
use Rattle.memory.specs.Sizes.{lines, message_limit}
use Rattle.memory.proofs.Tests.{and_left, and_right, and_both}
use Rattle.digits.specs.Number.{most_number}
use Rattle.settings.specs.Settings.{results_length, by_dialogue}
use Rattle.settings.specs.declared.Patient.{Patient}
use Rattle.settings.specs.declared.Patient.TheVariants.{Ten, Thirteen}
use Rattle.settings.specs.declared.Dialogue.TheVariants.{Blocks}
use Rattle.settings.specs.declared.Settings.{Settings}
use Rattle.line.specs.Line.{most_collected, most_seconds, most_tries, last_within, state_within, counts_within, within_limits, block_within, record_within, collected_line, begun_line}
use Rattle.line.proofs.Limits.{collected_fits, within_of}
use Rattle.line.specs.declared.Line.{Line}
use Rattle.line.specs.declared.State.{State}
use Rattle.line.specs.declared.State.TheVariants.{Inside}
use Rattle.layout.specs.Layout.{start, first_at, number_at}
use Rattle.ledger.specs.Ledgers.{ledger_of, with_serial}
use Rattle.ledger.proofs.Ledgers.{again, serial_at_law}
use Rattle.numbers.specs.Plain.{inside_at, waiting, inside, pausing, offering, state_of, state_number, tries_number, place_number, sending_fits, last_of, last_number, flag, counts_fit, block_fits, speech_fits, within_numbers, settings_of, line_of, with_line}

pub record WithinNumbers (ns : List ℕ) (i : ℕ) : Type 0 where
  pub state : first_at ns i ≤ offering
  pub joined : number_at ns i 2 ≤ message_limit
  pub seconds : number_at ns i 3 ≤ most_seconds
  pub next : number_at ns i 4 ≤ most_number
  pub last : number_at ns i 5 ≤ most_number + 1
  pub refusing : number_at ns i 6 ≤ 1
  pub sending : sending_fits (first_at ns i) (number_at ns i 8) (number_at ns i 9) ≡ true
  pub speech : speech_fits ns i ≡ true

module _ (ns : List ℕ) (i : ℕ) where
  pub numbers_facts : within_numbers ns i ≡ true → WithinNumbers ns i
  unfolding within_numbers
  numbers_facts e =
      let rest₁ = and_right (leb (first_at ns i) offering) _ e in
      let rest₂ = and_right (sending_fits (first_at ns i) (number_at ns i 8) (number_at ns i 9)) _ rest₁ in
      let rest₃ = and_left (counts_fit ns i) _ rest₂ in
      let rest₇ = and_right (counts_fit ns i) _ rest₂ in
      let rest₄ = and_right (leb (number_at ns i 2) message_limit) _ rest₃ in
      let rest₅ = and_right (leb (number_at ns i 3) most_seconds) _ rest₄ in
      let rest₆ = and_right (leb (number_at ns i 4) most_number) _ rest₅ in
      record {
        state = leb-true _ _ (and_left (leb (first_at ns i) offering) _ e);
        sending = and_left (sending_fits (first_at ns i) (number_at ns i 8) (number_at ns i 9)) _ rest₁;
        joined = leb-true _ _ (and_left (leb (number_at ns i 2) message_limit) _ rest₃);
        seconds = leb-true _ _ (and_left (leb (number_at ns i 3) most_seconds) _ rest₄);
        next = leb-true _ _ (and_left (leb (number_at ns i 4) most_number) _ rest₅);
        last = leb-true _ _ rest₆;
        refusing = leb-true _ _ (and_left (leb (number_at ns i 6) 1) _ rest₇);
        speech = and_right (leb (number_at ns i 6) 1) _ rest₇;
      }

  -- on a line of frames what is collected is within the limit of those
  pub frames_collected : number_at ns i 10 ≡ 0 → speech_fits ns i ≡ true → number_at ns i 1 ≤ most_collected (line_of ns i)
  unfolding speech_fits most_collected
  frames_collected e f = leb-true _ _ (rw e at f)

-- a state with the tries and the place that it may have: counts and speech tell
pub within_others : (ns : List ℕ) (i : ℕ) → first_at ns i ≤ offering → sending_fits (first_at ns i) (number_at ns i 8) (number_at ns i 9) ≡ true
    → within_numbers ns i ≡ counts_fit ns i && (leb (number_at ns i 6) 1 && speech_fits ns i)
unfolding within_numbers
within_others ns i s f = rw (le-leb (first_at ns i) offering s, f)

-- and with others it is none
pub within_unfit : (ns : List ℕ) (i : ℕ) → first_at ns i ≤ offering → sending_fits (first_at ns i) (number_at ns i 8) (number_at ns i 9) ≡ false → false ≡ within_numbers ns i
unfolding within_numbers
within_unfit ns i s f = rw (le-leb (first_at ns i) offering s, f)

-- no state has more tries than six
pub few_tries : (n tries place : ℕ) → sending_fits n tries place ≡ true → tries ≤ 255
few_tries n tries place e = by_state (leb n inside) (leb n pausing) e
  where
    by_state : (a b : Bool) → cond a (eqb tries 0 && eqb place 0) (cond b (ltb tries most_tries && eqb place 0) (leb tries most_tries && leb place message_limit)) ≡ true → tries ≤ 255
    by_state true b f = omega (arith, eqb-true tries 0 (and_left (eqb tries 0) _ f))
    by_state false true f = omega (arith, ltb-true tries most_tries (and_left (ltb tries most_tries) _ f))
    by_state false false f = omega (arith, leb-true tries most_tries (and_left (leb tries most_tries) _ f))

-- a number that is not 0 tells the one below it
pub last_some : (n : ℕ) → (n ≡ 0 → ⊥) → Some (n - 1) ≡ last_of n
last_some zero h = absurd (h refl)
last_some (suc n) h = simp unary_clauses

-- a record's numbers stand for it: a state's number, tries and place tell the state, and the state tells them
pub record StateBack (n t p : ℕ) : Type 0 where
  pub state : state_number (state_of n t p) ≡ n
  pub tries : tries_number (state_of n t p) ≡ t
  pub place : place_number (state_of n t p) ≡ p
  pub within : state_within (state_of n t p) ≡ true

pub state_back : (n t p : ℕ) → n ≤ offering → sending_fits n t p ≡ true → StateBack n t p
state_back zero t p h e = record { state = refl; tries = sym (eqb-true t 0 (and_left (eqb t 0) _ e)); place = sym (eqb-true p 0 (and_right (eqb t 0) _ e)); within = refl }
state_back (suc zero) t p h e = record { state = refl; tries = sym (eqb-true t 0 (and_left (eqb t 0) _ e)); place = sym (eqb-true p 0 (and_right (eqb t 0) _ e)); within = refl }
state_back (suc (suc zero)) t p h e = record { state = refl; tries = sym (eqb-true t 0 (and_left (eqb t 0) _ e)); place = sym (eqb-true p 0 (and_right (eqb t 0) _ e)); within = refl }
state_back (suc (suc (suc zero))) t p h e = record { state = refl; tries = refl; place = sym (eqb-true p 0 (and_right (ltb t most_tries) _ e)); within = and_left (ltb t most_tries) _ e }
state_back (suc (suc (suc (suc zero)))) t p h e = record { state = refl; tries = refl; place = sym (eqb-true p 0 (and_right (ltb t most_tries) _ e)); within = and_left (ltb t most_tries) _ e }
state_back (suc (suc (suc (suc (suc zero))))) t p h e = record { state = refl; tries = refl; place = refl; within = e }
state_back (suc (suc (suc (suc (suc (suc n)))))) t p h e = absurd (omega arith)

pub last_back : (n : ℕ) → last_number (last_of n) ≡ n
last_back zero = refl
last_back (suc n) = simp unary_clauses

pub flag_back : (n : ℕ) → n ≤ 1 → flag (eqb n 1) ≡ n
flag_back zero h = refl
flag_back (suc zero) h = refl
flag_back (suc (suc n)) h = absurd (omega arith)

-- and a record within its limits is one
last_fits : (n : ℕ) → n ≤ most_number + 1 → last_within (last_of n) ≡ true
last_fits zero h = refl
last_fits (suc n) h = le-leb n most_number (omega arith)

-- a line of frames
pub line_within : (ns : List ℕ) (i : ℕ) → within_numbers ns i ≡ true → number_at ns i 10 ≡ 0 → within_limits (line_of ns i) ≡ true
line_within ns i e frames =
    let w = numbers_facts ns i e in
    within_of (line_of ns i) (record {
      frames = rw frames;
      collected = frames_collected ns i frames w.speech;
      most = collected_fits (line_of ns i);
      joined = w.joined;
      seconds = w.seconds;
      next = w.next;
      last = last_fits (number_at ns i 5) w.last;
      state = (state_back (first_at ns i) (number_at ns i 8) (number_at ns i 9) w.state w.sending).within;
    })

-- a strip reader's line
counts_within_law : (ns : List ℕ) (i : ℕ) → WithinNumbers ns i → counts_within (line_of ns i) ≡ true
counts_within_law ns i w =
    rw (
      le-leb (number_at ns i 2) message_limit w.joined,
      le-leb (number_at ns i 3) most_seconds w.seconds,
      le-leb (number_at ns i 4) most_number w.next,
      last_fits (number_at ns i 5) w.last,
      (state_back (first_at ns i) (number_at ns i 8) (number_at ns i 9) w.state w.sending).within,
    )

pub block_within_law : (ns : List ℕ) (i : ℕ) (p : Patient) → WithinNumbers ns i → block_fits ns i (results_length p) ≡ true → block_within p (line_of ns i) ≡ true
unfolding block_within
block_within_law ns i p w e = and_both (ltb (number_at ns i 1) (results_length p)) (counts_within (line_of ns i)) (and_left (ltb (number_at ns i 1) (results_length p)) _ e) (counts_within_law ns i w)

-- what a line speaks is one of three, and what it has fits that
pub data Speech (ns : List ℕ) (i : ℕ) : Type 0 where
  in_frames : number_at ns i 10 ≡ 0 → Speech ns i
  in_blocks : (p : Patient) → (line_of ns i).settings ≡ record { dialogue = Blocks p } → eqb (number_at ns i 10) 0 ≡ false → block_fits ns i (results_length p) ≡ true → Speech ns i

pub speech_is : (ns : List ℕ) (i : ℕ) → speech_fits ns i ≡ true → Speech ns i
unfolding speech_fits
speech_is ns i e = by_number (eqb (number_at ns i 10) 0) refl (eqb (number_at ns i 10) 10) refl
  where
    by_number : (a : Bool) → eqb (number_at ns i 10) 0 ≡ a → (b : Bool) → eqb (number_at ns i 10) 10 ≡ b → Speech ns i
    by_number true p b q = in_frames (eqb-true (number_at ns i 10) 0 p)
    by_number false p true q = in_blocks Ten (rw (p, q)) p (rw (p, q) at e)
    by_number false p false q = in_blocks Thirteen (rw (p, q)) p (and_right (eqb (number_at ns i 10) 13) _ (rw (p, q) at e))

-- a line, by what it speaks
pub record_within_law : (ns : List ℕ) (i : ℕ) → within_numbers ns i ≡ true → record_within (line_of ns i) ≡ true
record_within_law ns i e = by_speech (speech_is ns i (numbers_facts ns i e).speech)
  where
    spoken : Settings → Bool
    spoken t = by_dialogue t.dialogue (within_limits (line_of ns i)) (λ p. block_within p (line_of ns i))

    by_speech : Speech ns i → record_within (line_of ns i) ≡ true
    by_speech (in_frames q) = ap (λ (n : ℕ). spoken (settings_of n)) q ∙ line_within ns i e q
    by_speech (in_blocks p t n f) = ap spoken t ∙ block_within_law ns i p (numbers_facts ns i e) f

-- nine stores are the numbers with another record
pub put_line_law : (ns : List ℕ) (i : ℕ) (l : Line) (s t r n p : ℕ) → s ≡ state_number l.state → t ≡ last_number l.last → r ≡ flag l.refusing
    → n ≡ tries_number l.state → p ≡ place_number l.state
    → set (set (set (set (set (set (set (set (set ns (start i) s) (start i + 1) l.collected) (start i + 2) l.joined) (start i + 3) l.seconds) (start i + 4) l.next) (start i + 5) t) (start i + 6) r) (start i + 8) n) (start i + 9) p
    ≡ with_line ns i l
unfolding with_line
put_line_law ns i l s t r n p e₁ e₂ e₃ e₄ e₅ = rw (e₁, e₂, e₃, e₄, e₅)

-- with any record of the line its serial stays
serial_kept : (ns : List ℕ) (i : ℕ) (l : Line) → get_or (with_line ns i l) (start i + 7) 0 ≡ number_at ns i 7
unfolding with_line
serial_kept ns i l =
    let ns₁ : List ℕ = set ns (start i) (state_number l.state) in
    let ns₂ : List ℕ = set ns₁ (start i + 1) l.collected in
    let ns₃ : List ℕ = set ns₂ (start i + 2) l.joined in
    let ns₄ : List ℕ = set ns₃ (start i + 3) l.seconds in
    let ns₅ : List ℕ = set ns₄ (start i + 4) l.next in
    let ns₆ : List ℕ = set ns₅ (start i + 5) (last_number l.last) in
    let ns₇ : List ℕ = set ns₆ (start i + 6) (flag l.refusing) in
    let ns₈ : List ℕ = set ns₇ (start i + 8) (tries_number l.state) in
    get_or-set_other ns₈ (start i + 9) (start i + 7) (place_number l.state) 0 (λ q. absurd (omega arith))
    ∙ get_or-set_other ns₇ (start i + 8) (start i + 7) (tries_number l.state) 0 (λ q. absurd (omega arith))
    ∙ get_or-set_other ns₆ (start i + 6) (start i + 7) (flag l.refusing) 0 (λ q. absurd (omega arith))
    ∙ get_or-set_other ns₅ (start i + 5) (start i + 7) (last_number l.last) 0 (λ q. absurd (omega arith))
    ∙ get_or-set_other ns₄ (start i + 4) (start i + 7) l.next 0 (λ q. absurd (omega arith))
    ∙ get_or-set_other ns₃ (start i + 3) (start i + 7) l.seconds 0 (λ q. absurd (omega arith))
    ∙ get_or-set_other ns₂ (start i + 2) (start i + 7) l.joined 0 (λ q. absurd (omega arith))
    ∙ get_or-set_other ns₁ (start i + 1) (start i + 7) l.collected 0 (λ q. absurd (omega arith))
    ∙ get_or-set_other ns (start i) (start i + 7) (state_number l.state) 0 (λ q. absurd (omega arith))

pub serial_back : (ns us : List ℕ) (i : ℕ) (l : Line) → i < lines → with_serial (with_line ns i l) i (ledger_of ns us) ≡ with_line ns i l
serial_back ns us i l h = again (with_line ns i l) (start i + 7) (get_or (ledger_of ns us).serials i 0) (serial_at_law ns us i h ∙ sym (serial_kept ns i l))

waiting_none : (n tries place : ℕ) → n ≡ waiting → sending_fits n tries place ≡ true → (tries ≡ 0) × (place ≡ 0)
waiting_none n tries place q e =
    let fits : eqb tries 0 && eqb place 0 ≡ true = rw q at e in
    (eqb-true tries 0 (and_left (eqb tries 0) (eqb place 0) fits), eqb-true place 0 (and_right (eqb tries 0) (eqb place 0) fits))

-- the record and the ledger that the numbers stand for, put back with another state and another count of collected bytes: the other numbers of the line stay
module _ (ns us : List ℕ) (i : ℕ) (h : i < lines) (e : within_numbers ns i ≡ true) where
  abbrev changed : State → ℕ → Line
  changed s count = record {
    state = s;
    collected = count;
    joined = (line_of ns i).joined;
    seconds = (line_of ns i).seconds;
    next = (line_of ns i).next;
    last = (line_of ns i).last;
    refusing = (line_of ns i).refusing;
    settings = (line_of ns i).settings;
  }

  -- with tries and place that stand there
  module _ (s : State) (count : ℕ) (tries : tries_number s ≡ number_at ns i 8) (place : place_number s ≡ number_at ns i 9) where
    abbrev moved : List ℕ
    moved = set ns (start i) (state_number s)

    abbrev counted : List ℕ
    counted = set moved (start i + 1) count

    kept_number : (k : ℕ) → 1 < k → get_or counted (start i + k) 0 ≡ number_at ns i k
    kept_number k n = get_or-set_other moved (start i + 1) (start i + k) _ 0 (λ q. absurd (omega arith)) ∙ get_or-set_other ns (start i) (start i + k) _ 0 (λ q. absurd (omega arith))

    changed_back : with_serial (with_line ns i (changed s count)) i (ledger_of ns us) ≡ counted
    unfolding with_line
    changed_back =
        let w = numbers_facts ns i e in
        rw (
          again counted (start i + 2) (number_at ns i 2) (sym (kept_number 2 (omega arith))),
          again counted (start i + 3) (number_at ns i 3) (sym (kept_number 3 (omega arith))),
          again counted (start i + 4) (number_at ns i 4) (sym (kept_number 4 (omega arith))),
          again counted (start i + 5) (last_number (last_of (number_at ns i 5))) (last_back (number_at ns i 5) ∙ sym (kept_number 5 (omega arith))),
          again counted (start i + 6) (flag (eqb (number_at ns i 6) 1)) (flag_back (number_at ns i 6) w.refusing ∙ sym (kept_number 6 (omega arith))),
          again counted (start i + 8) (tries_number s) (tries ∙ sym (kept_number 8 (omega arith))),
          again counted (start i + 9) (place_number s) (place ∙ sym (kept_number 9 (omega arith))),
        )
        (again counted (start i + 7) (get_or (ledger_of ns us).serials i 0) (serial_at_law ns us i h ∙ sym (kept_number 7 (omega arith))))

  abbrev back : StateBack (first_at ns i) (number_at ns i 8) (number_at ns i 9)
  back = let w = numbers_facts ns i e in state_back (first_at ns i) (number_at ns i 8) (number_at ns i 9) w.state w.sending

  pub count_back : (count : ℕ) → with_serial (with_line ns i (collected_line (line_of ns i) count)) i (ledger_of ns us) ≡ set ns (start i + 1) count
  count_back count =
      changed_back (line_of ns i).state count back.tries back.place
      ∙ ap (λ (x : List ℕ). set x (start i + 1) count) (again ns (start i) (state_number (line_of ns i).state) back.state)

  -- between frames a line has neither tries nor a place
  pub begun_back : first_at ns i ≡ waiting → with_serial (with_line ns i (begun_line (line_of ns i))) i (ledger_of ns us) ≡ inside_at ns i
  begun_back q =
      let none = waiting_none (first_at ns i) (number_at ns i 8) (number_at ns i 9) q (numbers_facts ns i e).sending in
      changed_back Inside (number_at ns i 1) (sym none.0) (sym none.1)
      ∙ again (inside_at ns i) (start i + 1) (number_at ns i 1) (sym (get_or-set_other ns (start i) (start i + 1) _ 0 (λ q. absurd (omega arith))))

-- as they are
pub numbers_back : (ns us : List ℕ) (i : ℕ) → i < lines → within_numbers ns i ≡ true → with_serial (with_line ns i (line_of ns i)) i (ledger_of ns us) ≡ ns
numbers_back ns us i h e = count_back ns us i h e (number_at ns i 1) ∙ set-get_or ns (start i + 1) 0
