-- A replay writes the listing of its trace: what holds before each turn, and what becomes of it in a turn, a write and a read.
-- Assumes nothing.
use Rattle.std.proofs.Common.{ℕ, ◌+◌, ◌-◌, ◌*◌, ◌^◌, ◌≤◌, ◌<◌, ◌≡◌, Bool, true, false, Option, Some, None, List, [], ◌++◌, length, take, replicate, IfSome, length-take, length-append, refl, sym, ap, subst, ◌∙◌, arith, append_assoc, append-nil}
use Rattle.std.specs.Io.KnownBytes.{Appends, Consumes}
use Rattle.std.proofs.KnownBytes.{Appends-nil, Appends-trans}
use Rattle.memory.specs.Sizes.{journal_size, unfinished_size, frames_size, message_limit}
use Rattle.layout.specs.Layout.{Fresh}
use Rattle.listing.specs.Items.{line_limit}
use Rattle.replaying.specs.Desk.{row_room, Desk, desk_of}
use Rattle.streaming.specs.Fed.{fed_of}
use Rattle.streaming.specs.Stages.{wants, is_over, begun}
use Rattle.streaming.specs.Streams.{Stream, stream_of, shown, turned, waiting}
use Rattle.streaming.specs.declared.Kept.{Kept}
use Rattle.streaming.specs.declared.Stage.{Stage}
use Rattle.streaming.specs.declared.Stage.TheVariants.{Begins, Runs, Wants, Total, Fault, Over}
use Rattle.streaming_laws.specs.Listings.{listing_text}
use Rattle.streaming_laws.specs.Loop.{started}
use Rattle.streaming_laws.proofs.Due.{due_at, due, running, turns_at, turns, Fine, Fewer}
use Rattle.streaming_laws.proofs.Turning.{one_turn}
use Rattle.replay.specs.Inner.Passing.{Brings, Reads, ReadsIf, Passes, WritesListing}
use Rattle.replay.specs.Replays.{fresh_desk}
use Rattle.replay.proofs.Bringing.{wants_more, brought}

-- before a turn: what is written, and what is due behind it, is the listing; and turns enough are left for it
pub record Goes (all : List ℕ) (held : Option (List ℕ)) (s : Stream) (spent : ℕ) (left holds : Option (List ℕ)) : Type 0 where
  pub fine : Fine s
  pub rest : List ℕ
  pub known : left ≡ Some rest
  pub written : List ℕ
  pub appended : Appends held holds written
  pub listed : written ++ due s rest ≡ all
  pub enough : spent + turns s (length rest) < 2 ^ 64

pub starts : (n : ℕ) (input out : List ℕ) (d : Desk) (rest : List ℕ) (held : Option (List ℕ)) → n ≤ length input → line_limit < length input → row_room ≤ length out → n + 2 * length rest + 5 < 2 ^ 64
    → Goes (listing_text (take n input ++ rest) d) held (started n input out d) 0 (Some rest) held
starts n input out d rest held h i o m =
    let first : n - 0 ≡ n = omega arith in
    record {
      fine = record { lies = (omega arith, h); long_input = i; long_out = o; counted = omega arith; wanting = tt };
      rest = rest;
      known = refl;
      written = [];
      appended = Appends-nil held;
      listed = ap (λ (k : ℕ). listing_text (take k input ++ rest) d) first;
      enough = omega (arith, m, first);
    }

-- behind a turn and its write: fewer turns are left, but where a read has still to come
pub record Behind (all : List ℕ) (held : Option (List ℕ)) (t : Stream) (spent : ℕ) (left holds : Option (List ℕ)) : Type 0 where
  pub fine : Fine t
  pub rest : List ℕ
  pub known : left ≡ Some rest
  pub written : List ℕ
  pub appended : Appends held holds written
  pub listed : written ++ due t rest ≡ all
  pub before : ℕ
  pub fewer : Fewer t.kept.stage (turns t (length rest)) before
  pub enough : spent + before < 2 ^ 64

pub wrote : (all : List ℕ) (held : Option (List ℕ)) (s : Stream) (spent : ℕ) (left holds holds' : Option (List ℕ)) → Goes all held s spent left holds → Appends holds holds' (shown (turned s))
    → Behind all held (turned s) spent left holds'
wrote all held s spent left holds holds' g w =
    let t = one_turn s g.fine in
    record {
      fine = t.fine;
      rest = g.rest;
      known = g.known;
      written = g.written ++ shown (turned s);
      appended = Appends-trans held holds holds' g.written (shown (turned s)) g.appended w;
      listed = append_assoc g.written (shown (turned s)) (due (turned s) g.rest) ∙ ap (λ (x : List ℕ). g.written ++ x) (sym (t.writes g.rest)) ∙ g.listed;
      before = turns s (length g.rest);
      fewer = t.fewer (length g.rest);
      enough = g.enough;
    }

-- where nothing more is wanted, and something is left to do, the next turn comes
goes_again : (stage : Stage) (a b : ℕ) → wants stage ≡ false → is_over stage ≡ false → Fewer stage a b → a < b
goes_again Begins a b w o h = h
goes_again Runs a b w o h = h
goes_again Wants a b w o h = absurd (cc)
goes_again Total a b w o h = h
goes_again Fault a b w o h = h
goes_again Over a b w o h = absurd (cc)

pub again : (all : List ℕ) (held : Option (List ℕ)) (t : Stream) (spent : ℕ) (left holds : Option (List ℕ)) → wants t.kept.stage ≡ false → is_over t.kept.stage ≡ false
    → Behind all held t spent left holds → Goes all held t (spent + 1) left holds
again all held t spent left holds w o b =
    record {
      fine = b.fine;
      rest = b.rest;
      known = b.known;
      written = b.written;
      appended = b.appended;
      listed = b.listed;
      enough = omega (arith, goes_again t.kept.stage (turns t (length b.rest)) b.before w o b.fewer, b.enough);
    }

-- a read, and the next turn
as_many : (stage : Stage) (a b : ℕ) → stage ≡ Wants → Fewer stage a b → a ≤ b
as_many stage a b e h = subst (λ (x : Stage). Fewer x a b) e h

module _ (all : List ℕ) (held : Option (List ℕ)) (k : Kept) (input out : List ℕ) (d : Desk) (spent : ℕ) (left holds : Option (List ℕ)) where
  pub read : (k' : Kept) (input' : List ℕ) (left' : Option (List ℕ)) → wants k.stage ≡ true → Behind all held (stream_of k input out d) spent left holds → Reads k input left k' input' left'
      → Goes all held (stream_of k' input' out d) (spent + 1) left' holds
  read k' input' left' w b r =
      let e = wants_more k.stage w in
      let br : Brings k input (Some b.rest) left' r.n r.filled = subst (λ (x : Option (List ℕ)). Brings k input x left' r.n r.filled) b.known r.brings in
      let c = brought k input out d b.fine e b.rest left' r.n r.filled br in
      let t = stream_of k input out d in
      let to : Goes all held (stream_of (fed_of k r.n r.filled).kept (fed_of k r.n r.filled).input out d) (spent + 1) left' holds =
      record {
        fine = c.fine;
        rest = c.rest';
        known = c.known;
        written = b.written;
        appended = b.appended;
        listed = ap (λ (x : List ℕ). b.written ++ x) (sym c.same) ∙ b.listed;
        enough = omega (arith, c.fewer, as_many k.stage (turns t (length b.rest)) b.before e b.fewer, b.enough);
      } in
      rw (r.kept_fed, r.input_fed) to

-- ---- the end

-- nothing is due where nothing is left to do, and where no turn is left
none_over : (stage : Stage) (k : Kept) (waits more : List ℕ) (d : Desk) → is_over stage ≡ true → due_at stage k waits more d ≡ []
none_over Begins k waits more d e = absurd (cc)
none_over Runs k waits more d e = absurd (cc)
none_over Wants k waits more d e = absurd (cc)
none_over Total k waits more d e = absurd (cc)
none_over Fault k waits more d e = absurd (cc)
none_over Over k waits more d e = refl

never : (ended : Bool) (waits left : ℕ) → running ended waits left ≤ 0 → ⊥
never false waits left h = omega arith
never true waits left h = omega arith

none_spent : (stage : Stage) (k : Kept) (waits more : List ℕ) (d : Desk) (n : ℕ) → turns_at stage k.ended n (length more) ≤ 0 → due_at stage k waits more d ≡ []
none_spent Begins k waits more d n h = absurd (omega arith)
none_spent Runs k waits more d n h = absurd (never k.ended n (length more) h)
none_spent Wants k waits more d n h = absurd (omega arith)
none_spent Total k waits more d n h = absurd (omega arith)
none_spent Fault k waits more d n h = absurd (omega arith)
none_spent Over k waits more d n h = refl

-- so the listing is written
listed_all : (all written due : List ℕ) (held holds : Option (List ℕ)) → Appends held holds written → written ++ due ≡ all → due ≡ [] → Appends held holds all
listed_all all written due held holds a e n = subst (Appends held holds) (sym (append-nil written) ∙ ap (λ (x : List ℕ). written ++ x) (sym n) ∙ e) a

pub spent_all : (all : List ℕ) (held : Option (List ℕ)) (s : Stream) (spent : ℕ) (left holds : Option (List ℕ)) → 2 ^ 64 ≤ spent + 1 → Goes all held s spent left holds → Appends held holds all
spent_all all held s spent left holds h g =
    listed_all all g.written (due s g.rest) held holds g.appended g.listed
    (none_spent s.kept.stage s.kept (waiting s.kept s.input) g.rest s.desk (s.kept.end - s.kept.from) (omega (arith, h, g.enough)))

-- ---- a turn, its write and its read

module _ (all : List ℕ) (held : Option (List ℕ)) (s : Stream) (spent : ℕ) (left holds : Option (List ℕ)) (g : Goes all held s spent left holds) (k : Kept) (input out : List ℕ) (d : Desk)
    (e : stream_of k input out d ≡ turned s) (k' : Kept) (input' : List ℕ) (holds' left' : Option (List ℕ)) (p : Passes k out input holds left k' input' holds' left') where
  abbrev t : Stream
  t = stream_of k input out d

  abbrev t' : Stream
  t' = stream_of k' input' out d

  behind : Behind all held t spent left holds'
  behind = rw e (wrote all held s spent left holds holds' g (subst (λ (x : Stream). Appends holds holds' (shown x)) e p.writes))

  -- the next turn, where something is left to do
  pub goes_on : is_over k'.stage ≡ false → Goes all held t' (spent + 1) left' holds'
  goes_on o = by_want (wants k.stage) refl p.reads
    where
      by_want : (b : Bool) → wants k.stage ≡ b → ReadsIf b k input left k' input' left' → Goes all held t' (spent + 1) left' holds'
      by_want true w r = read all held k input out d spent left holds' k' input' left' w behind r
      by_want false w r =
          let not_over : is_over k.stage ≡ false = subst (λ (x : Kept). is_over x.stage ≡ false) r.0 o in
          rw (r.0, r.1, r.2) (again all held t spent left holds' w not_over behind)

  -- the listing, where nothing is
  pub is_listed : is_over k'.stage ≡ true → Appends held holds' all
  is_listed o = by_want (wants k.stage) refl p.reads
    where
      by_want : (b : Bool) → wants k.stage ≡ b → ReadsIf b k input left k' input' left' → Appends held holds' all
      by_want true w r =
          let n = read all held k input out d spent left holds' k' input' left' w behind r in
          listed_all all n.written (due t' n.rest) held holds' n.appended n.listed (none_over k'.stage k' (waiting k' input') n.rest d o)
      by_want false w r =
          let n = behind in
          listed_all all n.written (due t n.rest) held holds' n.appended n.listed
          (none_over k.stage k (waiting k input) n.rest d (subst (λ (x : Kept). is_over x.stage ≡ true) r.0 o))

-- ---- where the bytes of the trace are known, and are few enough

abbrev pub Onward : ℕ → List ℕ → Option (List ℕ) → Option (List ℕ) → Stream → ℕ → Option (List ℕ) → Option (List ℕ) → Type 0
Onward n first known held s spent left holds =
    (rest : List ℕ) → known ≡ Some rest → line_limit < length first → n + 2 * length rest + 5 < 2 ^ 64 → Goes (listing_text (take n first ++ rest) fresh_desk) held s spent left holds

pub onward_starts : (n : ℕ) (input out : List ℕ) (k : Kept) (d : Desk) (left held : Option (List ℕ)) → n ≤ length input → row_room ≤ length out → k ≡ begun n → d ≡ fresh_desk
    → Onward n input left held (stream_of k input out d) 0 left held
onward_starts n input out k d left held h o e f rest r i m = rw (e, f, r) (starts n input out fresh_desk rest held h i o m)

-- the listing is written, where there is one
known_writes : (n : ℕ) (first : List ℕ) (known held holds : Option (List ℕ))
    → ((rest : List ℕ) → known ≡ Some rest → line_limit < length first → n + 2 * length rest + 5 < 2 ^ 64 → Appends held holds (listing_text (take n first ++ rest) fresh_desk))
    → WritesListing n first known held holds
known_writes n first None held holds h = tt
known_writes n first (Some rest) held holds h = h rest refl

pub onward_spent : (n : ℕ) (first : List ℕ) (known held : Option (List ℕ)) (s : Stream) (spent : ℕ) (left holds : Option (List ℕ)) → 2 ^ 64 ≤ spent + 1 → Onward n first known held s spent left holds
    → WritesListing n first known held holds
onward_spent n first known held s spent left holds h g = known_writes n first known held holds (λ rest e i m. spent_all _ held s spent left holds h (g rest e i m))

module _ (n : ℕ) (first : List ℕ) (known held : Option (List ℕ)) (s : Stream) (spent : ℕ) (left holds : Option (List ℕ)) (g : Onward n first known held s spent left holds) where
  pub onward_on : (k : Kept) (input out : List ℕ) (d : Desk) (k' : Kept) (input' : List ℕ) (holds' left' : Option (List ℕ)) → stream_of k input out d ≡ turned s
      → Passes k out input holds left k' input' holds' left' → is_over k'.stage ≡ false → Onward n first known held (stream_of k' input' out d) (spent + 1) left' holds'
  onward_on k input out d k' input' holds' left' e p o rest r i m = goes_on _ held s spent left holds (g rest r i m) k input out d e k' input' holds' left' p o

  pub onward_listed : (k : Kept) (input out : List ℕ) (d : Desk) (k' : Kept) (input' : List ℕ) (holds' left' : Option (List ℕ)) → stream_of k input out d ≡ turned s
      → Passes k out input holds left k' input' holds' left' → is_over k'.stage ≡ true → WritesListing n first known held holds'
  onward_listed k input out d k' input' holds' left' e p o =
      known_writes n first known held holds' (λ rest r i m. is_listed _ held s spent left holds (g rest r i m) k input out d e k' input' holds' left' p o)

-- a fresh gateway's numbers and counts, in memory of zeros
pub desk_fresh : (numbers counts : List ℕ) → Fresh numbers counts
    → desk_of numbers counts (replicate journal_size 0) (replicate unfinished_size 0) (replicate frames_size 0) (replicate message_limit 0) ≡ fresh_desk
desk_fresh numbers counts f = rw (f.numbers, f.counts)

-- ---- a whole trace

-- what the first read gave and what it left are the trace
pub whole : (n : ℕ) (input : List ℕ) (left mid held holds holds' : Option (List ℕ)) (head : List ℕ) → line_limit < length input → n ≤ length input → Consumes left mid (take n input)
    → Appends held holds head → WritesListing n input mid holds holds' → IfSome left (λ trace. 2 * length trace + 5 < 2 ^ 64 → Appends held holds' (head ++ listing_text trace fresh_desk))
whole n input None mid held holds holds' head i h c a w = tt
whole n input (Some trace) None held holds holds' head i h c a w = absurd c
whole n input (Some trace) (Some rest) held holds holds' head i h c a w = λ m.
    let long : length (take n input) ≡ n = rw length-take (omega arith) in
    let sum : length trace ≡ n + length rest = ap length c ∙ length-append (take n input) rest ∙ ap (λ (x : ℕ). x + length rest) long in
    subst (λ (x : List ℕ). Appends held holds' (head ++ listing_text x fresh_desk)) (sym c) (Appends-trans held holds holds' head (listing_text (take n input ++ rest) fresh_desk) a (w i (omega (arith, m, sum))))
