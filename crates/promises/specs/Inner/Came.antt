-- What an event comes to. The statements about one event are shown from this alone, so for an event of a new kind this is what has to be shown.
-- Assumes nothing.
use Rattle.std.specs.Prelude.{ℕ, ◌≡◌, true, false, List, length, None, Some}
use Rattle.faults.specs.Message.{is_message}
use Rattle.journal.specs.Storage.{grown, appended}
use Rattle.journal_laws.specs.Runs.{State as Store}
use Rattle.answers.specs.Paper.{number_of}
use Rattle.deciding.specs.Decisions.{objection_to}
use Rattle.looking.specs.declared.Kind.{Kind}
use Rattle.promises.specs.Machine.{State, Response, step, decides, parts_of, store_of, came}
use Rattle.promises.specs.Inner.ByParts.{on_event}
use Rattle.promises.specs.Runs.{answered, is_damage, offered, has_space}

-- a text stored on line i, behind what the journal holds
abbrev pub stored_in : ℕ → List ℕ → Store → Store
stored_in i t j = record { ledger = grown j.ledger i (length t); journal = appended j.ledger i t j.journal }

module _ (s : State) (i : ℕ) (k : Kind) where
  abbrev pub answer : Response
  answer = (step s (came i k)).0

  abbrev pub store : Store
  store = store_of (step s (came i k)).1

  -- it completes no text and decides nothing: the store stays, and at any other store the event would go the same
  pub record Passes : Type 0 where
    pub no_text : offered s i k ≡ None
    pub undecided : decides answer ≡ false
    pub no_damage : is_damage (answered answer) ≡ false
    pub kept : store ≡ store_of s
    pub anywhere : (j : Store) → on_event i (parts_of s i) k j ≡ ((on_event i (parts_of s i) k (store_of s)).0, (on_event i (parts_of s i) k (store_of s)).1, j)

  -- it completes the text t and decides, with a number that is such a one, and this is the store then
  pub record Settles (t : List ℕ) (Such : ℕ → Type 0) (then : Store) : Type 0 where
    pub complete : offered s i k ≡ Some t
    pub decided : decides answer ≡ true
    pub number : Such (answered answer)
    pub left : store ≡ then

  -- nothing is decided; or a text is complete and is stored (4), is crowded out (31), or is no message
  pub data Came : Type 0 where
    quiet : Passes → Came
    stored : (t : List ℕ) → is_message t ≡ true → has_space s i (length t) ≡ true → Settles t (λ n. n ≡ 4) (stored_in i t (store_of s)) → Came
    crowded : (t : List ℕ) → is_message t ≡ true → has_space s i (length t) ≡ false → Settles t (λ n. n ≡ 31) (store_of s) → Came
    against : (t : List ℕ) → is_message t ≡ false → Settles t (λ n. n ≡ number_of (objection_to t)) (store_of s) → Came
