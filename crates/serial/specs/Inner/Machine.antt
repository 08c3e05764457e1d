-- What the theorem asks of a machine that runs: `Lined`. The demand's own statement does not need it.
-- Assumes nothing.
use Rattle.std.specs.Prelude.{◌≡◌, ◌≢◌, Bool, false, ℕ, ◌<◌}
use Rattle.serial.specs.Serial.{Item, event, taking}

-- What is asked of a machine with lines. `line_of s i` is what line i has to itself in the state s, and `journalOf s` the journal that all share.
-- An event of line i is given by `on_event` from these two alone: its answer, what the line has then, and the journal then. The other lines keep what they have.
-- A taking is given by `on_taking` from the journal alone, and every line keeps what it has.
-- An event whose answer does not decide leaves the journal, and would go the same at any other journal (`quiet`).
-- `Sound` is what holds of every state of a run, and `May` says which items can come. The state may hold more than its lines and its journal.
module _ {S P J K N A : Type 0} (line_of : S → ℕ → P) (journalOf : S → J) (on_event : ℕ → P → K → J → A × P × J) (on_taking : ℕ → N → J → A × J)
    (decides : A → Bool) (lines : ℕ) (step : S → Item K N → A × S) (Sound : S → Type 0) (May : Item K N → Type 0) where
  pub record Lined : Type 0 where
    pub keeps : (s : S) (e : Item K N) → Sound s → May e → Sound (step s e).1
    pub on_line : (i : ℕ) (k : K) → May (event i k) → i < lines
    pub event_answer : (s : S) (i : ℕ) (k : K) → Sound s → May (event i k) → (step s (event i k)).0 ≡ (on_event i (line_of s i) k (journalOf s)).0
    pub event_own : (s : S) (i : ℕ) (k : K) → Sound s → May (event i k)
        → line_of (step s (event i k)).1 i ≡ (on_event i (line_of s i) k (journalOf s)).1
    pub event_others : (s : S) (i : ℕ) (k : K) → Sound s → May (event i k) → (l : ℕ) → l ≢ i → line_of (step s (event i k)).1 l ≡ line_of s l
    pub event_journal : (s : S) (i : ℕ) (k : K) → Sound s → May (event i k)
        → journalOf (step s (event i k)).1 ≡ (on_event i (line_of s i) k (journalOf s)).2
    pub taking_answer : (s : S) (i : ℕ) (n : N) → Sound s → May (taking i n) → (step s (taking i n)).0 ≡ (on_taking i n (journalOf s)).0
    pub taking_lines : (s : S) (i : ℕ) (n : N) → Sound s → May (taking i n) → (l : ℕ) → line_of (step s (taking i n)).1 l ≡ line_of s l
    pub taking_journal : (s : S) (i : ℕ) (n : N) → Sound s → May (taking i n) → journalOf (step s (taking i n)).1 ≡ (on_taking i n (journalOf s)).1
    pub quiet : (s : S) (i : ℕ) (k : K) → Sound s → May (event i k) → decides (on_event i (line_of s i) k (journalOf s)).0 ≡ false → (u : S) → Sound u
        → on_event i (line_of s i) k (journalOf u)
        ≡ ((on_event i (line_of s i) k (journalOf s)).0, (on_event i (line_of s i) k (journalOf s)).1, journalOf u)

-- two states of the same lines and journal
module _ {S P J : Type 0} (line_of : S → ℕ → P) (journalOf : S → J) where
  pub record Same (s t : S) : Type 0 where
    pub each : (l : ℕ) → line_of s l ≡ line_of t l
    pub journal : journalOf s ≡ journalOf t

  -- a sound state is its lines and its journal, and nothing else
  abbrev pub NothingElse : (S → Type 0) → Type 0
  NothingElse Sound = (s t : S) → Sound s → Sound t → Same s t → s ≡ t

-- an event's line is one of the lines
abbrev pub OnLine : {K N : Type 0} → ℕ → Item K N → Type 0
OnLine lines (event i k) = i < lines
OnLine lines (taking i n) = Unit {0}
