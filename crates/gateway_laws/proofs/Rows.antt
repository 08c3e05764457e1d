-- The rows of "What is left" by what they write: three write the frame's text and nine leave the texts, five add a byte to the frame and seven leave it,
-- one stores and eleven leave ledger and journal. What holds in both cases holds of every act. And the acts of each class.
-- Assumes nothing.
use mathlib.Core.Bool.{Bool, true, false, cond}
use mathlib.Core.List.{List}
use Prim.Native.Nat.{ℕ}
use lib.ListN.{length}
use Rattle.memory.specs.Parts.{splice}
use Rattle.journal.specs.Storage.{grown, appended}
use Rattle.journal.specs.declared.Ledger.{Ledger}
use Rattle.line.specs.declared.Line.{Line}
use Rattle.looking.specs.Views.{frames_of, texts_of, frame_text}
use Rattle.receiving.specs.Settled.{row_of, with_byte, with_text, frames_after, texts_after, ledger_after, journal_after}
use Rattle.looking.specs.Inner.Fitting.{TextFits, Fitting}
use Rattle.looking.specs.declared.Kind.{Kind}
use Rattle.looking.specs.declared.Act.{Act}
use Rattle.looking.specs.declared.Act.TheVariants.{Leave, Open, Close, Begin, Count, Collect, Refuse, Accept, Store, Object, Await, Go}
use Rattle.line.specs.declared.Sending.{Sending}
use Rattle.gateway_laws.specs.Classes.{Class, quiet, opening, closing, refusing, accepting, storing, against, sending}
use Rattle.gateway_laws.specs.Inner.Classes.{act_class}
use Rattle.gateway_laws.specs.Inner.Own.{own_byte, own_frames, own_texts}

module _ (l : Line) (i : ℕ) (u f : List ℕ) (P : List ℕ → List ℕ → Type 0) where
  -- the texts of all lines, and the line's own
  pub text_rows : P u (texts_of i u) → ((n : ℕ) → TextFits l n → P (with_text l i n u f) (splice (texts_of i u) l.joined (frame_text n (frames_of i f)))) → (a : Act) → Fitting a l
      → P (texts_after a l i u f) (own_texts a l (texts_of i u) (frames_of i f))
  text_rows left written Leave t = left
  text_rows left written Open t = left
  text_rows left written Close t = left
  text_rows left written Begin t = left
  text_rows left written (Count n) t = left
  text_rows left written Collect t = left
  text_rows left written Refuse t = left
  text_rows left written (Accept n) t = written n t
  text_rows left written (Store n) t = written n t
  text_rows left written (Object n) t = written n t
  text_rows left written (Await n) t = left
  text_rows left written (Go s n) t = left

  -- the frame bytes of all lines, and the line's own
  pub frame_rows : (k : Kind) → P f (frames_of i f) → P (with_byte k l i f) (own_byte k l (frames_of i f)) → (a : Act) → P (frames_after a k l i f) (own_frames a k l (frames_of i f))
  frame_rows k left added a = by_byte (row_of a).adds
    where
      by_byte : (b : Bool) → P (cond b (with_byte k l i f) f) (cond b (own_byte k l (frames_of i f)) (frames_of i f))
      by_byte true = added
      by_byte false = left

-- ledger and journal
module _ (d : Ledger) (i : ℕ) (text : ℕ → List ℕ) (j : List ℕ) (P : Act → Ledger → List ℕ → Type 0) where
  pub store_rows : ((a : Act) → P a d j) → ((n : ℕ) → P (Store n) (grown d i (length (text n))) (appended d i (text n) j)) → (a : Act)
      → P a (ledger_after a d i text) (journal_after a d i text j)
  store_rows left stored Leave = left Leave
  store_rows left stored Open = left Open
  store_rows left stored Close = left Close
  store_rows left stored Begin = left Begin
  store_rows left stored (Count n) = left (Count n)
  store_rows left stored Collect = left Collect
  store_rows left stored Refuse = left Refuse
  store_rows left stored (Accept n) = left (Accept n)
  store_rows left stored (Store n) = stored n
  store_rows left stored (Object n) = left (Object n)
  store_rows left stored (Await n) = left (Await n)
  store_rows left stored (Go s n) = left (Go s n)

-- the acts of a class
pub data Of : Class → Act → Type 0 where
  leaves : Of quiet Leave
  begins : Of quiet Begin
  counts : (n : ℕ) → Of quiet (Count n)
  collects : Of quiet Collect
  opens : Of opening Open
  closes : Of closing Close
  refuses : Of refusing Refuse
  accepts : (n : ℕ) → Of accepting (Accept n)
  stores : (n : ℕ) → Of storing (Store n)
  objects : (n : ℕ) → Of against (Object n)
  awaits : (n : ℕ) → Of sending (Await n)
  goes : (s : Sending) (n : ℕ) → Of sending (Go s n)

pub of_class : (a : Act) → Of (act_class a) a
of_class Leave = leaves
of_class Open = opens
of_class Close = closes
of_class Begin = begins
of_class (Count n) = counts n
of_class Collect = collects
of_class Refuse = refuses
of_class (Accept n) = accepts n
of_class (Store n) = stores n
of_class (Object n) = objects n
of_class (Await n) = awaits n
of_class (Go s n) = goes s n
