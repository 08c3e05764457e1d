-- The walk of the MIR of a thin step: copy two lent records, call the step by value on them and on three slices, store what it gave. The records' types, and whatever the proof owns
-- beside their cells, are variables here: each step of the walk writes its whole context out, and with the types in it a walk grows past antt's limit as the records do.
-- Assumes nothing.
use mathlib.Core.Path.{◌≡◌, refl}
use Prim.Native.Nat.{ℕ}
use mathlib.Core.List.{[], ◌∷◌, List}
use seplogic.Ra.Ura.{Ura}
use base.Fraction.{full_share}
use lib.Dec.{T}
use mir.Syntax.{Callee, Sym, Lifetime, named, erased, mut, w8, w64, Ty, ty_int, ty_ref, ty_struct, tcons, tnil, deref, field, place, copy, rv_opd, addr_of, aggregate, Body, seq, assign, call, return, Local, local, value_local, Fn}
use mir.Val.{Val, vptr, vstruct, vcons, vnil, WT, has_ty}
use base.Logic.{SProp, ent}
use base.Fml.{fat}
use prog.Wp.{Calls, Loops, WpFn}
use types.Logic.{Logic}
use sound.WpLaws.{FmC}
use types.Kit.{Item, ‵, raw, ◌⊛◌, some, given, later, mean, ⋆, ◌$◌, ◌∵◌, !, qed, by, move, use1, rewrite, split, pick, learn, await}
use types.Run.{look, init, store, forget, stop, hop, fld, from, load, addr, of_opd, and_then, no_more, assigns, land, returns, enter, alloc1, alloc0, params1, pass1, pass0, free1, free0}
use types.Part.{agg, whole, sub, look_in}
use denote.Slice.{slice_name, slice_val}
use denote.Triple.Call.{calls_from}

-- the types that the code lays out, and how its references name the records' types
pub record Types : Type 0 where
  pub line : Ty
  pub ledger : Ty
  pub event : Ty
  pub answer : Ty
  pub line_named : Ty
  pub ledger_named : Ty
  pub stepped_name : Sym

abbrev slice : Lifetime → Ty
slice κ = ty_struct slice_name (tcons (ty_ref κ mut (ty_int w8)) (tcons (ty_int w64) tnil))

module _ (τ : Types) where
  abbrev pub stepped : Ty
  stepped = ty_struct τ.stepped_name (tcons τ.line (tcons τ.ledger (tcons τ.answer tnil)))

  abbrev locals : List Local
  locals =
      local τ.answer value_local
      ∷ local (ty_ref (named 0) mut τ.line_named) value_local ∷ local (ty_ref (named 1) mut τ.ledger_named) value_local ∷ local τ.event value_local
      ∷ local (slice (named 2)) value_local ∷ local (slice (named 3)) value_local ∷ local (slice (named 4)) value_local
      ∷ local stepped value_local ∷ local τ.line value_local ∷ local τ.ledger value_local
      ∷ local (ty_ref erased mut (ty_int w8)) value_local ∷ local (slice erased) value_local
      ∷ local (ty_ref erased mut (ty_int w8)) value_local ∷ local (slice erased) value_local
      ∷ local (ty_ref erased mut (ty_int w8)) value_local ∷ local (slice erased) value_local ∷ []

  -- the slice in local p, lent on: its pointer through local q into local s
  abbrev relent : ℕ → ℕ → ℕ → Body → Body
  relent p q s rest =
      seq (assign (place q []) (addr_of (place p (field 0 ∷ deref (ty_int w8) ∷ []))))
      (seq (assign (place s []) (aggregate (copy (place q []) ∷ copy (place p (field 1 ∷ [])) ∷ []))) rest)

  abbrev stores : Body
  stores =
      seq (assign (place 1 (deref τ.line ∷ [])) (rv_opd (copy (place 7 (field 0 ∷ [])))))
      (seq (assign (place 2 (deref τ.ledger ∷ [])) (rv_opd (copy (place 7 (field 1 ∷ [])))))
      (seq (assign (place 0 []) (rv_opd (copy (place 7 (field 2 ∷ []))))) return))

  abbrev body : Callee → Body
  body callee =
      seq (assign (place 8 []) (rv_opd (copy (place 1 (deref τ.line ∷ [])))))
      (seq (assign (place 9 []) (rv_opd (copy (place 2 (deref τ.ledger ∷ [])))))
      (relent 4 10 11 (relent 5 12 13 (relent 6 14 15
      (seq (call callee (copy (place 8 []) ∷ copy (place 9 []) ∷ copy (place 3 []) ∷ copy (place 11 []) ∷ copy (place 13 []) ∷ copy (place 15 []) ∷ []) (place 7 [])) stores)))))

  abbrev pub function : Callee → Fn
  function callee = record { lifetimes = 5; outlives = []; ty_params = []; givens = 0; params = 6; locals = locals; body = body callee }

abbrev pub Fits : Ty → Val → Type 0
Fits τ v = T (has_ty τ v) × WT v

-- what a slice's local holds
abbrev pub slice_of : ℕ × ℕ × ℕ → Val
slice_of s = slice_val (s.0, s.1) s.2

-- what is passed: where the records lie and what they hold, the event, and each slice's place and length
pub record Passed : Type 0 where
  pub line_at_law : ℕ × ℕ
  pub ledger_at : ℕ × ℕ
  pub line : Val
  pub ledger : Val
  pub event : Val
  pub journal : ℕ × ℕ × ℕ
  pub unfinished : ℕ × ℕ × ℕ
  pub frames : ℕ × ℕ × ℕ

-- the parts of what the call gave
pub record Parts : Type 0 where
  pub line : Val
  pub ledger : Val
  pub answer : Val

abbrev pub whole_of : Parts → Val
whole_of p = vstruct (vcons p.line (vcons p.ledger (vcons p.answer vnil)))

-- a value is a step's outcome in these parts, and each is of its type
pub record Came (τ : Types) (w : Val) (p : Parts) : Type 0 where
  pub is : w ≡ whole_of p
  pub all : Fits (stepped τ) w
  pub line : Fits τ.line p.line
  pub ledger : Fits τ.ledger p.ledger
  pub answer : Fits τ.answer p.answer

-- what is passed is of its type
pub record Fitting (τ : Types) (a : Passed) : Type 0 where
  pub event : Fits τ.event a.event
  pub journal : Fits (slice erased) (slice_of a.journal)
  pub unfinished : Fits (slice erased) (slice_of a.unfinished)
  pub frames : Fits (slice erased) (slice_of a.frames)

abbrev pub arguments : Passed → List Val
arguments a = vptr a.line_at_law.0 a.line_at_law.1 ∷ vptr a.ledger_at.0 a.ledger_at.1 ∷ a.event ∷ slice_of a.journal ∷ slice_of a.unfinished ∷ slice_of a.frames ∷ []

abbrev pub handed : Passed → List Val
handed a = a.line ∷ a.ledger ∷ a.event ∷ slice_of a.journal ∷ slice_of a.unfinished ∷ slice_of a.frames ∷ []

-- a record's cell behind its reference
module _ {M : Type 1} (𝓤 : Ura M) (τ : Types) (a : Passed) where
  abbrev pub line_cell : Val → Item 𝓤
  line_cell v = ‵ (fat full_share τ.line a.line_at_law.0 a.line_at_law.1 v)

  abbrev pub ledger_cell : Val → Item 𝓤
  ledger_cell v = ‵ (fat full_share τ.ledger a.ledger_at.0 a.ledger_at.1 v)

module _ {M : Type 1} {𝓤 : Ura M} (𝓛 : Logic 𝓤) (C : Calls 𝓤 𝓛.H) (Λ : Loops 𝓤 𝓛.H) (τ : Types) (a : Passed) where
  -- What the walk is told of the rest: opening the borrows gives the two cells, what the call asks and a frame; the call gives an outcome x, which has parts and leaves something;
  -- from the cells with the new parts, what is left and the frame the function's end follows.
  open 𝓛 use {H}

  pub record Around (callee : Callee) (Before : SProp 𝓤) (Post : Val → SProp 𝓤) : Type 2 where
    pub Opened : Type 0
    pub Pre : SProp 𝓤
    pub Frame : SProp 𝓤
    pub opened : ent 𝓤 Before (H.⇛ (mean 𝓛 (given Opened (line_cell 𝓤 τ a a.line ⊛ ledger_cell 𝓤 τ a a.ledger ⊛ raw Pre ⊛ raw Frame))))
    pub line_fits : Opened → Fits τ.line a.line
    pub ledger_fits : Opened → Fits τ.ledger a.ledger
    pub Back : Val → SProp 𝓤
    pub called : ent 𝓤 Pre (C callee (handed a) Back)
    pub Outcome : Val → Type 0
    pub parts : (w : Val) → Outcome w → Parts
    pub came : (w : Val) (x : Outcome w) → Came τ w (parts w x)
    pub Left : (w : Val) → Outcome w → SProp 𝓤
    pub told : (w : Val) → ent 𝓤 (Back w) (H.⇛ (mean 𝓛 (some (λ (x : Outcome w). raw (Left w x)))))
    pub ended : (w : Val) (x : Outcome w) → ent 𝓤 (⋆ 𝓛 (line_cell 𝓤 τ a (parts w x).line ∷ ledger_cell 𝓤 τ a (parts w x).ledger ∷ raw (Left w x) ∷ raw Frame ∷ [])) (Post (parts w x).answer)

  pub walk : FmC 𝓤 H 𝓛.laws C → Fitting τ a → (callee : Callee) (Before : SProp 𝓤) (Post : Val → SProp 𝓤) → Around callee Before Post → ent 𝓤 Before (WpFn 𝓤 H C Λ (function τ callee) (arguments a) Post)
  walk fm fits callee Before Post g =
      qed 𝓛 (raw Before ∷ []) ∵ enter ! C Λ (function τ callee) (arguments a) _ $
      alloc1 ! (λ l0. alloc1 ! (λ l1. alloc1 ! (λ l2. alloc1 ! (λ l3. alloc1 ! (λ l4. alloc1 ! (λ l5. alloc1 ! (λ l6. alloc1 ! (λ l7. alloc1 ! (λ l8. alloc1 ! (λ l9. alloc1 ! (λ l10. alloc1 ! (λ l11. alloc1 ! (λ l12. alloc1 ! (λ l13. alloc1 ! (λ l14. alloc1 ! (λ l15. alloc0 ! $ params1 ! $
      pass1 ! (init ! 28 refl (tt, tt)) $ pass1 ! (init ! 26 refl (tt, tt)) $ pass1 ! (init ! 24 refl fits.event) $ pass1 ! (init ! 22 refl fits.journal) $ pass1 ! (init ! 20 refl fits.unfinished) $ pass1 ! (init ! 18 refl fits.frames) $ pass0 ! $
      move ! (32 ∷ []) $ use1 𝓛 (later (given g.Opened (line_cell 𝓤 τ a a.line ⊛ ledger_cell 𝓤 τ a a.ledger ⊛ raw g.Pre ⊛ raw g.Frame))) g.opened $ await ! tt $ learn ! (λ was.
      split ! $ move ! (1 ∷ []) $ split ! $ move ! (1 ∷ []) $ split ! $
      -- [Pre; Frame; ledger-cell; line-cell; _15; d15; ..; _0; d0]: local i at 34 - 2i
      assigns ! (of_opd ! (load ! (from ! (hop ! (look ! 32 refl) (stop !))) (look ! 3 refl))) (from ! (stop !)) (init ! 18 refl (g.line_fits was)) $
      assigns ! (of_opd ! (load ! (from ! (hop ! (look ! 30 refl) (stop !))) (look ! 2 refl))) (from ! (stop !)) (init ! 16 refl (g.ledger_fits was)) $
      assigns ! (addr ! (from ! (fld ! refl (hop ! (look_in ! 26 (sub ! 0 refl (whole !))) (stop !))))) (from ! (stop !)) (init ! 14 refl (tt, tt)) $
      assigns ! (agg ! (and_then ! (load ! (from ! (stop !)) (look ! 14 refl)) (and_then ! (load ! (from ! (fld ! refl (stop !))) (look_in ! 26 (sub ! 1 refl (whole !)))) (no_more !)))) (from ! (stop !)) (init ! 12 refl fits.journal) $
      assigns ! (addr ! (from ! (fld ! refl (hop ! (look_in ! 24 (sub ! 0 refl (whole !))) (stop !))))) (from ! (stop !)) (init ! 10 refl (tt, tt)) $
      assigns ! (agg ! (and_then ! (load ! (from ! (stop !)) (look ! 10 refl)) (and_then ! (load ! (from ! (fld ! refl (stop !))) (look_in ! 24 (sub ! 1 refl (whole !)))) (no_more !)))) (from ! (stop !)) (init ! 8 refl fits.unfinished) $
      assigns ! (addr ! (from ! (fld ! refl (hop ! (look_in ! 22 (sub ! 0 refl (whole !))) (stop !))))) (from ! (stop !)) (init ! 6 refl (tt, tt)) $
      assigns ! (agg ! (and_then ! (load ! (from ! (stop !)) (look ! 6 refl)) (and_then ! (load ! (from ! (fld ! refl (stop !))) (look_in ! 22 (sub ! 1 refl (whole !)))) (no_more !)))) (from ! (stop !)) (init ! 4 refl fits.frames) $
      calls_from ! fm (raw g.Pre) (handed a) g.Back g.called (and_then ! (load ! (from ! (stop !)) (look ! 18 refl)) (and_then ! (load ! (from ! (stop !)) (look ! 16 refl)) (and_then ! (load ! (from ! (stop !)) (look ! 28 refl)) (and_then ! (load ! (from ! (stop !)) (look ! 12 refl)) (and_then ! (load ! (from ! (stop !)) (look ! 8 refl)) (and_then ! (load ! (from ! (stop !)) (look ! 4 refl)) (no_more !))))))) (λ w.
      use1 𝓛 (later (some (λ (x : g.Outcome w). raw (g.Left w x)))) (g.told w) $ await ! tt $ pick ! (λ x.
      land ! (from ! (stop !)) (init ! 20 refl (g.came w x).all) $ rewrite ! 20 (λ (u : Val). ‵ (fat full_share (stepped τ) l7 0 u)) (g.came w x).is refl $
      assigns ! (of_opd ! (load ! (from ! (fld ! refl (stop !))) (look_in ! 20 (sub ! 0 refl (whole !))))) (from ! (hop ! (look ! 32 refl) (stop !))) (store ! 3 refl (g.came w x).line) $
      assigns ! (of_opd ! (load ! (from ! (fld ! refl (stop !))) (look_in ! 20 (sub ! 1 refl (whole !))))) (from ! (hop ! (look ! 30 refl) (stop !))) (store ! 2 refl (g.came w x).ledger) $
      assigns ! (of_opd ! (load ! (from ! (fld ! refl (stop !))) (look_in ! 20 (sub ! 2 refl (whole !))))) (from ! (stop !)) (init ! 34 refl (g.came w x).answer) $
      move ! (3 ∷ 2 ∷ 0 ∷ 1 ∷ []) $ returns ! (look ! 34 refl) $
      forget ! 34 refl $ forget ! 32 refl $ forget ! 30 refl $ forget ! 28 refl $ forget ! 26 refl $ forget ! 24 refl $ forget ! 22 refl $ forget ! 20 refl $ forget ! 18 refl $ forget ! 16 refl $ forget ! 14 refl $ forget ! 12 refl $ forget ! 10 refl $ forget ! 8 refl $ forget ! 6 refl $ forget ! 4 refl $
      move ! (34 ∷ 35 ∷ []) $ free1 ! $ move ! (32 ∷ 33 ∷ []) $ free1 ! $ move ! (30 ∷ 31 ∷ []) $ free1 ! $ move ! (28 ∷ 29 ∷ []) $ free1 ! $ move ! (26 ∷ 27 ∷ []) $ free1 ! $ move ! (24 ∷ 25 ∷ []) $ free1 ! $ move ! (22 ∷ 23 ∷ []) $ free1 ! $ move ! (20 ∷ 21 ∷ []) $ free1 ! $
      move ! (18 ∷ 19 ∷ []) $ free1 ! $ move ! (16 ∷ 17 ∷ []) $ free1 ! $ move ! (14 ∷ 15 ∷ []) $ free1 ! $ move ! (12 ∷ 13 ∷ []) $ free1 ! $ move ! (10 ∷ 11 ∷ []) $ free1 ! $ move ! (8 ∷ 9 ∷ []) $ free1 ! $ move ! (6 ∷ 7 ∷ []) $ free1 ! $ move ! (4 ∷ 5 ∷ []) $ free1 ! $ free0 ! $
      by ! (g.ended w x))))))))))))))))))))
