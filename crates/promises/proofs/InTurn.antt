-- An entry is given back in its turn: once the line's elder entries are taken, whatever else came in between on any line, the next taking gives it.
-- Assumes nothing.
use mathlib.Core.Path.{◌≡◌, refl, sym, ap, subst, ◌∙◌}
use mathlib.Core.Bool.{true}
use mathlib.Core.List.{List, [], ◌∷◌, ◌++◌, append_assoc}
use Prim.Native.Nat.{ℕ, ◌≤◌, ◌<◌}
use native.Mathlib.Omega.{arith}
use borrow.Author.Tests.{eq-eqb}
use lib.ListN.{length, get_or}
use Rattle.memory.specs.Sizes.{lines, frame_limit}
use Rattle.memory.specs.Parts.{splice}
use Rattle.faults.specs.Message.{is_message}
use Rattle.header.specs.Entry.{Entry}
use Rattle.journal.specs.Entries.{from}
use Rattle.room.specs.Room.{todays_shares}
use Rattle.journal.specs.Removal.{AfterTaking}
use Rattle.journal_laws.specs.Held.{Held}
use Rattle.journal_laws.specs.Runs.{State as Store, Numbered, numbered, only, texts, waiting, all_in, all_out}
use Rattle.journal_laws.proofs.Cases.{take_gives}
use Rattle.journal_laws.proofs.Queue.{only_append, texts_append, only_from, taken_own, runs as journal_runs}
use Rattle.line.specs.Line.{fresh_line}
use Rattle.answers.specs.declared.Answer.TheVariants.{Taken}
use Rattle.gateway.specs.Events.{line_at, take_of}
use Rattle.taking.specs.Taking.{took_answer}
use Rattle.serial.specs.Serial.{final, Every}
use Rattle.promises.specs.Machine.{State, response, GatewayItem, step, store_of, Sound, May}
use Rattle.promises.specs.Queue.{all_taken}
use Rattle.promises.specs.Sending.{bytes_on, sending, HasRoom, Intact, GivesBack}
use Rattle.promises.proofs.Runs.{stays_sound}
use Rattle.promises.proofs.Queue.{runs}
use Rattle.promises.proofs.Rooms.{room_sound}
use Rattle.promises.proofs.Transfers.{bytes_may, sent}

-- two lists in a row, whose first ones are as long, have the same second one
same_rest : (xs ys us vs : List Numbered) → xs ++ ys ≡ us ++ vs → length us ≡ length xs → ys ≡ vs
same_rest [] ys [] vs e h = e
same_rest [] ys (u ∷ us) vs e h = absurd (omega (arith, h))
same_rest (x ∷ xs) ys [] vs e h = absurd (omega (arith, h))
same_rest (x ∷ xs) ys (u ∷ us) vs e h = same_rest xs ys us vs (ap rest e) (omega (arith, h))
  where
    rest : List Numbered → List Numbered
    rest [] = []
    rest (y ∷ zs) = zs

abbrev number_of : Entry → Numbered
number_of e = record { serial = e.serial; text = e.text }

-- the first of a list
abbrev first_or : Numbered → List Numbered → Numbered
first_or z [] = z
first_or z (x ∷ xs) = x

waiting_at : (i : ℕ) (ds : List Entry) (x : Entry) (fs : List Entry) → x.line ≡ i → waiting i (ds ++ x ∷ fs) ≡ waiting i ds ++ number_of x ∷ waiting i fs
waiting_at i ds x fs own =
    ap texts (only_append i ds (x ∷ fs)) ∙ texts_append (only i ds) (only i (x ∷ fs))
    ∙ ap (λ (ns : List Numbered). waiting i ds ++ ns) (rw (eq-eqb x.line i own))

-- the oldest entry of a line is given
module _ (t : State) (i : ℕ) (h : i < lines) (x : Entry) (gs : List Entry) (held : Held todays_shares t.gateway.ledger t.memory.journal gs) (b : List ℕ)
    (room : length x.text ≤ length b) (ns : List Numbered) (first : waiting i gs ≡ number_of x ∷ ns) where
  same : (e : Entry) (es : List Entry) → from i gs ≡ e ∷ es → number_of e ≡ number_of x
  same e es q = ap (first_or (number_of x)) (sym (ap texts (taken_own i gs e es q)) ∙ first)

  given : (es : List Entry) → from i gs ≡ es → GivesBack t i b x.serial x.text
  unfolding take_of
  given [] q =
      let none : waiting i gs ≡ [] = ap texts (only_from i gs ∙ ap (only i) q) in
      absurd (omega (arith, ap (λ (l : List Numbered). length l) (sym first ∙ none)))
  given (e ∷ es) q =
      let text : e.text ≡ x.text = ap (λ (n : Numbered). n.text) (same e es q) in
      let g = take_gives todays_shares t.gateway.ledger i t.memory.journal b gs held h e es q (rw text room) in
      ap (λ (r : AfterTaking). response (took_answer r.taking.answer) r.buffer) g.is
      ∙ ap (λ (n : Numbered). response (Taken (length n.text) n.serial) (splice b 0 n.text)) (same g.e g.fs g.oldest)

-- whatever comes in between: once as many are taken from the line as stood before it
pub in_turn : (s : State) → Sound s → (i : ℕ) → i < lines → (ds fs : List Entry) (x : Entry) → Held todays_shares s.gateway.ledger s.memory.journal (ds ++ x ∷ fs) → x.line ≡ i
    → (es : List GatewayItem) → Every May es → length (all_taken i s es) ≡ length (waiting i ds) → (b : List ℕ) → length x.text ≤ length b
    → GivesBack (final step s es) i b x.serial x.text
in_turn s w i h ds fs x held own es may as_many b room =
    let r = runs s es w may in
    let j = store_of s in
    let q = journal_runs todays_shares r.operations j (ds ++ x ∷ fs) held in
    let stored = numbered (get_or j.ledger.serials i 0) (all_in todays_shares i j r.operations) in
    let rows : waiting i ds ++ (number_of x ∷ (waiting i fs ++ stored)) ≡ all_out todays_shares i j r.operations ++ waiting i q.es' =
    sym (append_assoc (waiting i ds) (number_of x ∷ waiting i fs) stored) ∙ ap (λ (ns : List Numbered). ns ++ stored) (sym (waiting_at i ds x fs own)) ∙ q.queue i h in
    let out = ap (λ (ns : List Numbered). length ns) (sym (r.leaving i)) ∙ as_many in
    let first = same_rest (waiting i ds) (number_of x ∷ (waiting i fs ++ stored)) (all_out todays_shares i j r.operations) (waiting i q.es') rows out in
    let held_then = subst (λ (u : Store). Held todays_shares u.ledger u.journal q.es') (sym r.store) q.held in
    given (final step s es) i h x q.es' held_then b room (waiting i fs ++ stored) (sym first) (from i q.es') refl

-- so a message that we cut and sent is given back, byte for byte
pub given_back : (i : ℕ) → i < lines → (s : State) (w : Intact s) → line_at s.gateway i ≡ fresh_line → (m : List ℕ) → is_message m ≡ true → HasRoom s i (m ∷ [])
    → (es : List GatewayItem) → Every May es → length (all_taken i (final step s (bytes_on i (sending frame_limit m))) es) ≡ length (waiting i w.entries) → (b : List ℕ) → length m ≤ length b
    → GivesBack (final step (final step s (bytes_on i (sending frame_limit m))) es) i b (get_or s.gateway.ledger.serials i 0) m
given_back i h s w fresh m message room es may as_many b long =
    let d = sent i h s w fresh m message room in
    let s₁ = final step s (bytes_on i (sending frame_limit m)) in
    in_turn s₁ (stays_sound s (bytes_on i (sending frame_limit m)) (room_sound s w i h (m ∷ []) room) (bytes_may i h (sending frame_limit m))) i h w.entries [] (record { line = i; serial = get_or s.gateway.ledger.serials i 0; text = m }) d.held refl es may as_many b long
