-- What is read after a record and a serial are put into the numbers: they are read back, and every other number is as it was.
-- Assumes nothing.
use Rattle.std.specs.Prelude.{None, Option, Some, ℕ}
use mathlib.Core.Path.{◌≡◌, refl, sym, ap, ◌∙◌}
use mathlib.Core.Logic.{◌≢◌}
use mathlib.Core.Bool.{Bool, true, false}
use mathlib.Core.List.{List, [], ◌∷◌}
use Prim.Native.Nat.{ℕ, zero, suc, ◌+◌, ◌≤◌, ◌<◌}
use native.Mathlib.Nat.{add-zero, add-suc, suc-add}
use native.Mathlib.Decide.{dec_lt, ℕ_discrete}
use native.Mathlib.Omega.{arith}
use native.Mathlib.Numerals.{add-one}
use borrow.Author.Tests.{le-leb, leb-true}
use lib.Dec.{eqb, leb}
use lib.ListN.{length, get_or, set, length-set}
use lib.Seq.{sets, length-sets, set_comm, get_or-set_same, get_or-set_other}
use Rattle.memory.specs.Sizes.{lines, message_limit}
use Rattle.memory.proofs.Tests.{and_left, and_right}
use Rattle.digits.specs.Number.{most_number}
use Rattle.settings.specs.Settings.{block_limit}
use Rattle.journal.specs.declared.Ledger.{Ledger}
use Rattle.line.specs.Line.{most_collected, most_seconds, last_within, state_within, counts_within, within_limits}
use Rattle.line.specs.declared.Line.{Line}
use Rattle.line.specs.declared.State.{State}
use Rattle.line.specs.declared.State.TheVariants.{Neutral, Waiting, Inside, Out}
use Rattle.line.specs.declared.Sending.TheVariants.{Asking, Pausing, Offering}
use Rattle.line.proofs.Limits.{within_facts}
use Rattle.layout.specs.Layout.{fields, place_at, speaks_at, start, first_at, number_at, block_start}
use Rattle.ledger.specs.Ledgers.{with_serial}
use Rattle.numbers.specs.Plain.{offering, state_of, state_number, tries_number, place_number, sending_fits, last_of, last_number, flag, reader_fits, speech_fits, within_numbers, settings_of, line_of, with_line}
use Rattle.strips.specs.Replies.{replied_of}
use Rattle.keeping.specs.Keeping.{numbers_from, kept_block, memo_of}

-- a run of stores: before it, behind it and in it
pub sets_before : (vs l : List ℕ) (i p : ℕ) → p < i → get_or (sets l i vs) p 0 ≡ get_or l p 0
sets_before [] l i p h = refl
sets_before (a ∷ vs) l i p h = sets_before vs (set l i a) (suc i) p (omega arith) ∙ get_or-set_other l i p a 0 (λ q. absurd (omega arith))

pub sets_behind : (vs l : List ℕ) (i p : ℕ) → i + length vs ≤ p → get_or (sets l i vs) p 0 ≡ get_or l p 0
sets_behind [] l i p h = refl
sets_behind (a ∷ vs) l i p h = sets_behind vs (set l i a) (suc i) p (omega arith) ∙ get_or-set_other l i p a 0 (λ q. absurd (omega arith))

pub sets_in : (vs l : List ℕ) (i k : ℕ) → k < length vs → i + length vs ≤ length l → get_or (sets l i vs) (i + k) 0 ≡ get_or vs k 0
sets_in [] l i k h r = absurd (omega arith)
sets_in (a ∷ vs) l i zero h r = rw add-zero (sets_before vs (set l i a) (suc i) i (omega arith) ∙ get_or-set_same l i a 0 (omega arith))
sets_in (a ∷ vs) l i (suc k) h r =
    ap (λ (p : ℕ). get_or (sets l i (a ∷ vs)) p 0) (add-suc i k ∙ sym (suc-add i k))
    ∙ sets_in vs (set l i a) (suc i) k (omega arith) (omega (arith, length-set l i a))

-- numbers of which none was changed are read as they were
pub numbers_alike : (ns ns' : List ℕ) (at n : ℕ) → ((p : ℕ) → at ≤ p → p < at + n → get_or ns' p 0 ≡ get_or ns p 0) → numbers_from ns' at n ≡ numbers_from ns at n
numbers_alike ns ns' at zero h = refl
numbers_alike ns ns' at (suc n) h =
    let here = h at (omega arith) (omega arith) in
    let rest = numbers_alike ns ns' (suc at) n (λ p a b. h p (omega arith) (omega arith)) in
    λ z. here z ∷ rest z

-- a line's first ten numbers; behind them stand what it speaks, what is kept of its reader, and the spare ones
abbrev used : ℕ
used = 10

abbrev numbers_of : Line → ℕ → List ℕ
numbers_of l serial =
    state_number l.state ∷ l.collected ∷ l.joined ∷ l.seconds ∷ l.next ∷ last_number l.last ∷ flag l.refusing ∷ serial ∷ tries_number l.state ∷ place_number l.state ∷ []

in_a_row : (ns : List ℕ) (at : ℕ) (s t u v w x y z n p : ℕ)
    → set (set (set (set (set (set (set (set (set (set ns at s) (suc at) t) (suc (suc at)) u) (suc (suc (suc at))) v) (suc (suc (suc (suc at)))) w) (suc (suc (suc (suc (suc at))))) x)
    (suc (suc (suc (suc (suc (suc at)))))) y) (suc (suc (suc (suc (suc (suc (suc at))))))) z) (suc (suc (suc (suc (suc (suc (suc (suc at)))))))) n) (suc (suc (suc (suc (suc (suc (suc (suc (suc at))))))))) p
    ≡ sets ns at (s ∷ t ∷ u ∷ v ∷ w ∷ x ∷ y ∷ z ∷ n ∷ p ∷ [])
in_a_row ns at s t u v w x y z n p = refl

-- the places of a line's numbers, counted on
on : (at : ℕ) → (at + 1 ≡ suc at) × (at + 2 ≡ suc (suc at)) × (at + 3 ≡ suc (suc (suc at))) × (at + 4 ≡ suc (suc (suc (suc at)))) × (at + 5 ≡ suc (suc (suc (suc (suc at)))))
    × (at + 6 ≡ suc (suc (suc (suc (suc (suc at)))))) × (at + 7 ≡ suc (suc (suc (suc (suc (suc (suc at))))))) × (at + 8 ≡ suc (suc (suc (suc (suc (suc (suc (suc at))))))))
    × (at + 9 ≡ suc (suc (suc (suc (suc (suc (suc (suc (suc at)))))))))
on at = (omega arith, omega arith, omega arith, omega arith, omega arith, omega arith, omega arith, omega arith, omega arith)

module _ (ns : List ℕ) (i : ℕ) (l : Line) (d : Ledger) where
  abbrev pub stored : List ℕ
  stored = with_serial (with_line ns i l) i d

  -- the serial is put last, and stands before tries and place
  abbrev before : List ℕ
  before = set (set (set (set (set (set (set ns (start i) (state_number l.state)) (start i + 1) l.collected) (start i + 2) l.joined) (start i + 3) l.seconds) (start i + 4) l.next)
      (start i + 5) (last_number l.last)) (start i + 6) (flag l.refusing)

  moved : stored ≡ set (set (set before (start i + 7) (get_or d.serials i 0)) (start i + 8) (tries_number l.state)) (start i + 9) (place_number l.state)
  unfolding with_line
  moved =
      set_comm (set before (start i + 8) (tries_number l.state)) (start i + 9) (start i + 7) (place_number l.state) (get_or d.serials i 0) (λ q. absurd (omega arith))
      ∙ ap (λ (x : List ℕ). set x (start i + 9) (place_number l.state)) (set_comm before (start i + 8) (start i + 7) (tries_number l.state) (get_or d.serials i 0) (λ q. absurd (omega arith)))

  as_row : stored ≡ sets ns (start i) (numbers_of l (get_or d.serials i 0))
  as_row = let (p₁, p₂, p₃, p₄, p₅, p₆, p₇, p₈, p₉) = on (start i) in moved ∙ rw (p₁, p₂, p₃, p₄, p₅, p₆, p₇, p₈, p₉) (in_a_row ns (start i) _ _ _ _ _ _ _ _ _ _)

  pub stored_length : length stored ≡ length ns
  stored_length = ap length as_row ∙ length-sets ns (start i) (numbers_of l (get_or d.serials i 0))

  -- another line's numbers
  pub number_other : (k m : ℕ) → k ≢ i → m < fields → get_or stored (start k + m) 0 ≡ get_or ns (start k + m) 0
  number_other k m n h = ap (λ (x : List ℕ). get_or x (start k + m) 0) as_row ∙ elim (dec_lt k i) [
    | yes q ↦ sets_before (numbers_of l (get_or d.serials i 0)) ns (start i) (start k + m) (omega arith)
    | no q ↦ sets_behind (numbers_of l (get_or d.serials i 0)) ns (start i) (start k + m) (omega arith)
  ]

  pub first_other : (k : ℕ) → k ≢ i → first_at stored k ≡ first_at ns k
  first_other k n = ap (λ (p : ℕ). get_or stored p 0) (sym (add-zero (start k))) ∙ number_other k 0 n (omega arith) ∙ ap (λ (p : ℕ). get_or ns p 0) (add-zero (start k))

  -- what stands behind its own ten, and behind those of every line
  spare_own : (k : ℕ) → place_at < k → number_at stored i k ≡ number_at ns i k
  spare_own k h = ap (λ (x : List ℕ). get_or x (start i + k) 0) as_row ∙ sets_behind (numbers_of l (get_or d.serials i 0)) ns (start i) (start i + k) (omega arith)

  pub spare_stays : (k m : ℕ) → place_at < m → m < fields → number_at stored k m ≡ number_at ns k m
  spare_stays k m p q = elim (ℕ_discrete k i) [
    | yes e ↦ rw e (spare_own m p)
    | no n ↦ number_other k m n q
  ]

  -- what is kept of the readers
  pub memo_stays : i < lines → (k : ℕ) → memo_of stored k ≡ memo_of ns k
  memo_stays h k =
      let reply = spare_stays k 11 (omega arith) (omega arith) in
      let since = spare_stays k 12 (omega arith) (omega arith) in
      let kept = spare_stays k 13 (omega arith) (omega arith) in
      let block : kept_block stored k ≡ kept_block ns k = numbers_alike ns stored (block_start k) block_limit
      (λ p a b. ap (λ (x : List ℕ). get_or x p 0) as_row ∙ sets_behind (numbers_of l (get_or d.serials i 0)) ns (start i) p (omega arith)) in
      λ z. record { reader = record { reply = replied_of (reply z); since = eqb (since z) 1; kept = eqb (kept z) 1 }; block = block z }

  -- its own
  module _ (room : start i + fields ≤ length ns) where
    number_own : (k : ℕ) → k < used → get_or stored (start i + k) 0 ≡ get_or (numbers_of l (get_or d.serials i 0)) k 0
    number_own k h = ap (λ (x : List ℕ). get_or x (start i + k) 0) as_row ∙ sets_in (numbers_of l (get_or d.serials i 0)) ns (start i) k h (omega arith)

    first_own : first_at stored i ≡ state_number l.state
    first_own = ap (λ (p : ℕ). get_or stored p 0) (sym (add-zero (start i))) ∙ number_own 0 (omega arith)

    pub collected_own : number_at stored i 1 ≡ l.collected
    collected_own = number_own 1 (omega arith)

    pub serial_own : number_at stored i 7 ≡ get_or d.serials i 0
    serial_own = number_own 7 (omega arith)

-- what a record's numbers stand for is the record
state_back : (s : State) → state_of (state_number s) (tries_number s) (place_number s) ≡ s
state_back Neutral = refl
state_back Waiting = refl
state_back Inside = refl
state_back (Out (Asking n)) = refl
state_back (Out (Pausing n)) = refl
state_back (Out (Offering n at)) = refl

last_back : (x : Option ℕ) → last_of (last_number x) ≡ x
last_back None = refl
last_back (Some n) = rw add-one

flag_back : (b : Bool) → eqb (flag b) 1 ≡ b
flag_back true = refl
flag_back false = refl

-- and within the limits if it is
state_low : (s : State) → state_number s ≤ offering
state_low Neutral = omega arith
state_low Waiting = omega arith
state_low Inside = omega arith
state_low (Out (Asking n)) = omega arith
state_low (Out (Pausing n)) = omega arith
state_low (Out (Offering n at)) = omega arith

state_fits : (s : State) → state_within s ≡ true → sending_fits (state_number s) (tries_number s) (place_number s) ≡ true
state_fits Neutral h = refl
state_fits Waiting h = refl
state_fits Inside h = refl
state_fits (Out (Asking n)) h = rw h
state_fits (Out (Pausing n)) h = rw h
state_fits (Out (Offering n at)) h = h

last_low : (x : Option ℕ) → last_within x ≡ true → last_number x ≤ most_number + 1
last_low None h = omega arith
last_low (Some n) h = omega (arith, leb-true n most_number h)

flag_low : (b : Bool) → flag b ≤ 1
flag_low true = omega arith
flag_low false = omega arith

-- numbers of which those of a line's record are as they were tell that record
module _ (ns ns' : List ℕ) (k : ℕ) (same : (m : ℕ) → m ≤ speaks_at → number_at ns' k m ≡ number_at ns k m) where
  first_alike : first_at ns' k ≡ first_at ns k
  first_alike = ap (λ (p : ℕ). get_or ns' p 0) (sym (add-zero (start k))) ∙ same 0 (omega arith) ∙ ap (λ (p : ℕ). get_or ns p 0) (add-zero (start k))

  pub line_alike : line_of ns' k ≡ line_of ns k
  line_alike = rw (
    first_alike,
    same 1 (omega arith),
    same 2 (omega arith),
    same 3 (omega arith),
    same 4 (omega arith),
    same 5 (omega arith),
    same 6 (omega arith),
    same 8 (omega arith),
    same 9 (omega arith),
    same 10 (omega arith),
  )

  pub within_alike : speech_fits ns' k ≡ speech_fits ns k → within_numbers ns' k ≡ within_numbers ns k
  unfolding within_numbers
  within_alike speech = rw (
    speech,
    first_alike,
    same 2 (omega arith),
    same 3 (omega arith),
    same 4 (omega arith),
    same 5 (omega arith),
    same 6 (omega arith),
    same 8 (omega arith),
    same 9 (omega arith),
  )

-- and where what is kept of its reader is as it was too, they fit as they did
module _ (ns ns' : List ℕ) (k : ℕ) (same : (m : ℕ) → m < fields → number_at ns' k m ≡ number_at ns k m) where
  abbrev record_same : (m : ℕ) → m ≤ speaks_at → number_at ns' k m ≡ number_at ns k m
  record_same m q = same m (omega arith)

  pub all_line_alike : line_of ns' k ≡ line_of ns k
  all_line_alike = line_alike ns ns' k record_same

  pub fits_alike : reader_fits ns' k ≡ reader_fits ns k
  fits_alike = rw (same 11 (omega arith), same 12 (omega arith), same 13 (omega arith))

  speech_alike : speech_fits ns' k ≡ speech_fits ns k
  unfolding speech_fits
  speech_alike = rw (all_line_alike, fits_alike, same 1 (omega arith), same 10 (omega arith))

  pub all_within_alike : within_numbers ns' k ≡ within_numbers ns k
  all_within_alike = within_alike ns ns' k record_same speech_alike

-- what a record has beside what is collected and spoken is within the limits
pub record Counts (l : Line) : Type 0 where
  pub joined : l.joined ≤ message_limit
  pub seconds : l.seconds ≤ most_seconds
  pub next : l.next ≤ most_number
  pub last : last_within l.last ≡ true
  pub state : state_within l.state ≡ true

pub counts_facts : (l : Line) → counts_within l ≡ true → Counts l
counts_facts l e =
    let rest₁ = and_right (leb l.joined message_limit) _ e in
    let rest₂ = and_right (leb l.seconds most_seconds) _ rest₁ in
    let rest₃ = and_right (leb l.next most_number) _ rest₂ in
    record {
      joined = leb-true _ _ (and_left (leb l.joined message_limit) _ e);
      seconds = leb-true _ _ (and_left (leb l.seconds most_seconds) _ rest₁);
      next = leb-true _ _ (and_left (leb l.next most_number) _ rest₂);
      last = and_left (last_within l.last) _ rest₃;
      state = and_right (last_within l.last) _ rest₃;
    }

module _ (ns : List ℕ) (i : ℕ) (l : Line) (d : Ledger) where
  pub line_other : (k : ℕ) → k ≢ i → line_of (stored ns i l d) k ≡ line_of ns k
  line_other k n = all_line_alike ns (stored ns i l d) k (λ m q. number_other ns i l d k m n q)

  pub within_other : (k : ℕ) → k ≢ i → within_numbers (stored ns i l d) k ≡ within_numbers ns k
  within_other k n = all_within_alike ns (stored ns i l d) k (λ m q. number_other ns i l d k m n q)

  -- what is kept of a reader fits as before, on every line
  pub readers_stay : (k : ℕ) → reader_fits (stored ns i l d) k ≡ reader_fits ns k
  readers_stay k =
      let stays = spare_stays ns i l d k in
      rw (stays 11 (omega arith) (omega arith), stays 12 (omega arith) (omega arith), stays 13 (omega arith) (omega arith))

  module _ (room : start i + fields ≤ length ns) where
    -- a record that speaks what the line speaks
    pub line_own : l.settings ≡ (line_of ns i).settings → line_of (stored ns i l d) i ≡ l
    line_own speaks =
        let state : state_of (first_at (stored ns i l d) i) (number_at (stored ns i l d) i 8) (number_at (stored ns i l d) i 9) ≡ l.state =
        (λ z. state_of (first_own ns i l d room z) (number_own ns i l d room 8 (omega arith) z) (number_own ns i l d room 9 (omega arith) z)) ∙ state_back l.state in
        let collected : number_at (stored ns i l d) i 1 ≡ l.collected = number_own ns i l d room 1 (omega arith) in
        let joined : number_at (stored ns i l d) i 2 ≡ l.joined = number_own ns i l d room 2 (omega arith) in
        let seconds : number_at (stored ns i l d) i 3 ≡ l.seconds = number_own ns i l d room 3 (omega arith) in
        let next : number_at (stored ns i l d) i 4 ≡ l.next = number_own ns i l d room 4 (omega arith) in
        let last : last_of (number_at (stored ns i l d) i 5) ≡ l.last = ap last_of (number_own ns i l d room 5 (omega arith)) ∙ last_back l.last in
        let refusing : eqb (number_at (stored ns i l d) i 6) 1 ≡ l.refusing = ap (λ (n : ℕ). eqb n 1) (number_own ns i l d room 6 (omega arith)) ∙ flag_back l.refusing in
        let settings : settings_of (number_at (stored ns i l d) i 10) ≡ l.settings = ap settings_of (spare_stays ns i l d i 10 (omega arith) (omega arith)) ∙ sym speaks in
        λ z. record { state = state z; collected = collected z; joined = joined z; seconds = seconds z; next = next z; last = last z; refusing = refusing z; settings = settings z }

    -- within the limits, if its counts are and what it has collected fits what it speaks
    pub within_by : Counts l → speech_fits (stored ns i l d) i ≡ true → within_numbers (stored ns i l d) i ≡ true
    unfolding within_numbers
    within_by w speech =
        rw (
          speech,
          first_own ns i l d room,
          number_own ns i l d room 2 (omega arith),
          number_own ns i l d room 3 (omega arith),
          number_own ns i l d room 4 (omega arith),
          number_own ns i l d room 5 (omega arith),
          number_own ns i l d room 6 (omega arith),
          number_own ns i l d room 8 (omega arith),
          number_own ns i l d room 9 (omega arith),
          le-leb _ _ (state_low l.state),
          state_fits l.state w.state,
          le-leb _ _ w.joined,
          le-leb _ _ w.seconds,
          le-leb _ _ w.next,
          le-leb _ _ (last_low l.last w.last),
          le-leb _ _ (flag_low l.refusing),
        )

    -- a line of frames
    frames_fit : number_at ns i 10 ≡ 0 → l.collected ≤ most_collected l → speech_fits (stored ns i l d) i ≡ true
    unfolding speech_fits most_collected
    frames_fit frames c = rw (spare_stays ns i l d i 10 (omega arith) (omega arith) ∙ frames, number_own ns i l d room 1 (omega arith)) (le-leb l.collected _ c)

    pub within_own : number_at ns i 10 ≡ 0 → within_limits l ≡ true → within_numbers (stored ns i l d) i ≡ true
    within_own frames h =
        let w = within_facts l h in
        within_by (record { joined = w.joined; seconds = w.seconds; next = w.next; last = w.last; state = w.state }) (frames_fit frames w.collected)
