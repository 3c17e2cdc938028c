-- A function that takes a reader apart and calls another on the desk's numbers, its layout and its offset has the result that the other has.
-- One walk of the MIR that all such functions have, over the function called, the type of the result and the two definitions.
use mathlib.Core.Path.{◌≡◌, ◌∙◌, refl, subst}
use Prim.Native.Nat.{ℕ, ◌<◌, ◌^◌}
use mathlib.Core.List.{List, [], ◌∷◌}
use seplogic.Ra.Ura.{Ura}
use mir.Syntax.{Callee as Name, Fn, Ty, local, value_local, place, field, assign, rv_opd, copy, call, seq, return, ty_int, named, erased, w8, w32, w64, imm, ty_ref}
use mir.Val.{vint}
use base.Logic.{ent, emp, id⊢}
use base.Fml.{Lft, Share, ftrue, flft}
use prog.Model.{Model}
use prog.Routine.{Env as Callees}
use prog.Wp.{Calls, Loops, WpFn, Closed}
use types.Logic.{Logic}
use contract.Monad.{fact, fact_i}
use contract.Running.{Running, tables, tables_of}
use types.Kit.{‵, raw, ◌⊛◌, ◌$◌, ◌∵◌, !, qed, by, move, use1, join, fsplit, fjoin, frame, done}
use types.Part.{whole, sub, look_in}
use types.Run.{look, init, forget, stop, fld, from, load, of_opd, and_then, no_more, assigns, land, returns, enter, alloc1, alloc0, params1, pass1, pass0, free1, free0}
use sound.WpLaws.{FmC, fm_of}
use denote.RattleType.{RattleType, owns}
use denote.Laws.{Is, Lawful, Typed}
use denote.Plain.{uint_vals, uint_Tells, uint_Makes}
use denote.Builtin.{u8, u32, usize}
use denote.Exit.{yes}
use denote.Signature.{plain, shr_slice}
use denote.Slice.{ShrSlice, slice_ty}
use denote.Steps.{owned}
use denote.Struct.Laws as LL
use denote.Triple.Clauses.{Ended, Clauses}
use denote.Triple.Entry.{Vals, on_entry}
use denote.Triple.Statement.{Triple}
use Rattle.layout.specs.declared.FrameRange.{FrameRange}
use Rattle.layout.specs.declared.reader.LayoutReader.{LayoutReader}
use Rattle.layout.specs.contracts.FrameRange as F
use Rattle.layout.proofs.FrameRange.TheLaws as F'
use Rattle.layout.proofs.reader.LayoutReader.TheLaws as T'
use Rattle.layout.proofs.Owned.{Reader, reader_vals, reader_tells, reader_typed, stored, slice, owns_layout}
use Rattle.layout.proofs.Walk.{Walk, Cited, ends, calls, proved}

-- the function, which calls f and has a result of MIR's type τ
abbrev apart : Name → Ty → Fn
apart f τ = record {
  lifetimes = 1;
  outlives = [];
  ty_params = [];
  givens = 0;
  params = 3;
  locals = local τ value_local ∷ local (T'.mir (named 0)) value_local ∷ local (ty_int w32) value_local ∷ local F'.mir value_local ∷ local (slice_ty (ty_ref erased imm (ty_int w8))) value_local ∷ local (ty_int w64) value_local ∷ [];
  body = seq (assign (place 4 []) (rv_opd (copy (place 1 (field 0 ∷ []))))) (seq (assign (place 5 []) (rv_opd (copy (place 1 (field 1 ∷ [])))))
      (seq (call f (copy (place 2 []) ∷ copy (place 3 []) ∷ copy (place 4 []) ∷ copy (place 5 []) ∷ []) (place 0 [])) return));
}

module _ (R : RattleType) (φ : ℕ → FrameRange → List ℕ → ℕ → R.Denot) (ψ : ℕ → FrameRange → LayoutReader → R.Denot) where
  -- the function called: its result is φ of device, range, layout and offset
  abbrev Called : Ended
  Called = record {
    signature = record { lifetimes = 1; outlives = []; params = plain (λ _. u32) ∷ plain (λ _. F.the_row) ∷ shr_slice 0 tt (λ _. u8) ∷ plain (λ _. usize) ∷ []; result = plain (λ _. R) };
    kept = (yes, (yes, (yes, (yes, tt))));
  }

  abbrev called : {M : Type 1} (𝓤 : Ura M) → Clauses 𝓤 Called
  called 𝓤 κs a = record { ghost = Unit {0}; requires = λ _. emp 𝓤; ensures = λ _ r _. fact 𝓤 (r ≡ φ a.0 a.1.0 a.1.1.0.now a.1.1.1.0) }

  -- the function that takes a reader: its result is ψ of device, range and reader
  abbrev Taking : Ended
  Taking = record { signature = record { lifetimes = 1; outlives = []; params = plain (λ κs. Reader κs.0) ∷ plain (λ _. u32) ∷ plain (λ _. F.the_row) ∷ []; result = plain (λ _. R) }; kept = (yes, (yes, (yes, tt))) }

  abbrev taking : {M : Type 1} (𝓤 : Ura M) → Clauses 𝓤 Taking
  taking 𝓤 κs a = record { ghost = Unit {0}; requires = λ _. emp 𝓤; ensures = λ _ r _. fact 𝓤 (r ≡ ψ a.1.0 a.1.1.0 a.0) }

  module _ {M : Type 1} {𝓤 : Ura M} (𝓛 : Logic 𝓤) (f : Name) (τ : Ty) (agree : (device : ℕ) (range : FrameRange) (d : LayoutReader) → φ device range d.layout.now d.at ≡ ψ device range d) (lawful : Lawful 𝓛 R) (one : R.mir ≡ τ ∷ []) (κ : Lft) (q : Share) (d : LayoutReader) (device : ℕ) (range : FrameRange) where
    open 𝓛 use {H}

    abbrev given_to : Vals Taking.signature (κ, tt)
    given_to = (stored d ∷ [], (vint w32 device ∷ [], (F'.lowered range ∷ [], tt)))

    abbrev passed : Vals Called.signature (κ, tt)
    passed = (vint w32 device ∷ [], (F'.lowered range ∷ [], (slice d ∷ [], (vint w64 d.at ∷ [], tt))))

    abbrev to : (Cited 𝓛 Called (called 𝓤)).Ghost
    to = (((κ, tt), (q, tt), tt, (device, (range, (d.layout, (d.at, tt)))), passed), tt)

    abbrev entry : (Walk 𝓛 Taking (taking 𝓤)).Ghost
    entry = (((κ, tt), (q, tt), tt, (d, (device, (range, tt))), given_to), tt)

    -- what the reader and the desk's numbers own gives what the function called asks
    asked : d.at < 2 ^ 64 → ent 𝓤 (on_entry 𝓛 Taking.signature (κ, tt) (q, tt) (d, (device, (range, tt))) given_to) ((Cited 𝓛 Called (called 𝓤)).pre to)
    asked fits =
        qed 𝓛 ((‵ (flft κ q) ⊛ ‵ ftrue) ∷ ‵ (owns (Reader κ ∷ u32 ∷ F.the_row ∷ []) (d, (device, (range, tt))) given_to) ∷ []) ∵
        move ! (1 ∷ []) $ fsplit ! $ use1 𝓛 (‵ ((ShrSlice (named 0) κ u8).own_val d.layout (slice d ∷ []))) (owns_layout 𝓛 κ d) $ move ! (1 ∷ []) $ fsplit ! $ move ! (1 ∷ []) $ fsplit ! $
        -- [the range's; nothing; the device's; the layout's; the token]
        move ! (1 ∷ []) $ owned ! usize (Is usize) (uint_Makes 𝓛 w64) d.at _ (refl, fits) $ fjoin ! $ move ! (3 ∷ 0 ∷ []) $ fjoin ! $ move ! (1 ∷ 0 ∷ []) $ fjoin ! $ move ! (1 ∷ 0 ∷ []) $ fjoin ! $
        move ! (1 ∷ 0 ∷ []) $ join ! $ frame ! $ done !

    module _ (C : Calls 𝓤 H) (Λ : Loops 𝓤 H) (fm : FmC 𝓤 H 𝓛.laws C) (known : Triple 𝓤 (C f) (Cited 𝓛 Called (called 𝓤))) where
      walk : Is (Reader κ) d (stored d ∷ []) → device < 2 ^ 32 → Is F.the_row range (F'.lowered range ∷ [])
          → ent 𝓤 (on_entry 𝓛 Taking.signature (κ, tt) (q, tt) (d, (device, (range, tt))) given_to) (WpFn 𝓤 H C Λ (apart f τ) (stored d ∷ vint w32 device ∷ F'.lowered range ∷ []) ((Walk 𝓛 Taking (taking 𝓤)).post entry))
      walk is fits is_range =
          let wt = reader_typed 𝓛 κ d is in
          qed 𝓛 (raw (on_entry 𝓛 Taking.signature (κ, tt) (q, tt) (d, (device, (range, tt))) given_to) ∷ []) ∵ enter ! C Λ (apart f τ) (stored d ∷ vint w32 device ∷ F'.lowered range ∷ []) _ $
          alloc1 ! (λ l₀. alloc1 ! (λ l₁. alloc1 ! (λ l₂. alloc1 ! (λ l₃. alloc1 ! (λ l₄. alloc1 ! (λ l₅. alloc0 ! $ params1 ! $
          pass1 ! (init ! 8 refl wt) $ pass1 ! (init ! 6 refl (tt, record { fits = fits })) $ pass1 ! (init ! 4 refl ((LL.lawful F.the_type F'.the_laws 𝓛).typed range _ is_range).0) $ pass0 ! $
          assigns ! (of_opd ! (load ! (from ! (fld ! refl (stop !))) (look_in ! 8 (sub ! 0 refl (whole !))))) (from ! (stop !)) (init ! 2 refl (tt, wt.1.0)) $
          assigns ! (of_opd ! (load ! (from ! (fld ! refl (stop !))) (look_in ! 8 (sub ! 1 refl (whole !))))) (from ! (stop !)) (init ! 0 refl (tt, wt.1.1.0)) $
          move ! (12 ∷ []) $ use1 𝓛 (raw ((Cited 𝓛 Called (called 𝓤)).pre to)) (asked wt.1.1.0.fits) $
          calls 𝓛 Called (called 𝓤) fm known to (λ r. r ≡ φ device range d.layout.now d.at) (λ r ws. id⊢ 𝓤 _)
          (and_then ! (load ! (from ! (stop !)) (look ! 7 refl)) (and_then ! (load ! (from ! (stop !)) (look ! 5 refl)) (and_then ! (load ! (from ! (stop !)) (look ! 3 refl)) (and_then ! (load ! (from ! (stop !)) (look ! 1 refl)) (no_more !))))) (λ u r e is_r.
          -- [the result; the token; _5; …; _4; …; _3; …; _2; …; _1; …; room for _0; …]
          land ! (from ! (stop !)) (init ! 12 refl (subst (λ τs. Typed τs (u ∷ [])) one (lawful.typed r (u ∷ []) is_r)).0) $
          returns ! (look ! 12 refl) $ forget ! 2 refl $ forget ! 4 refl $ forget ! 6 refl $ forget ! 8 refl $ forget ! 10 refl $ forget ! 12 refl $
          move ! (12 ∷ 13 ∷ []) $ free1 ! $ move ! (10 ∷ 11 ∷ []) $ free1 ! $ move ! (8 ∷ 9 ∷ []) $ free1 ! $ move ! (6 ∷ 7 ∷ []) $ free1 ! $ move ! (4 ∷ 5 ∷ []) $ free1 ! $ move ! (2 ∷ 3 ∷ []) $ free1 ! $ free0 ! $
          by ! (ends 𝓛 Taking (taking 𝓤) entry (tt, (tt, (tt, tt))) u r (fact_i 𝓤 _ (emp 𝓤) (e ∙ agree device range d))))))))))

  module _ {M : Type 1} {𝓤 : Ura M} (𝓛 : Logic 𝓤) (𝓜 : Model 𝓤 𝓛.H) (𝓡 : Running 𝓤 𝓛.H 𝓜) (γ : Callees) (k f : Name) (τ : Ty) where
    open 𝓛 use {H}

    pub taken_apart : ((device : ℕ) (range : FrameRange) (d : LayoutReader) → φ device range d.layout.now d.at ≡ ψ device range d) → Lawful 𝓛 R → R.mir ≡ τ ∷ [] → Closed 𝓤 H (tables 𝓤 H 𝓜 𝓡 γ).C (tables 𝓤 H 𝓜 𝓡 γ).Λ k (apart f τ)
        → Triple 𝓤 ((tables 𝓤 H 𝓜 𝓡 γ).C f) (Cited 𝓛 Called (called 𝓤))
        → Triple 𝓤 ((tables 𝓤 H 𝓜 𝓡 γ).C k) (Cited 𝓛 Taking (taking 𝓤))
    unfolding tables_of
    taken_apart agree lawful one closed known =
        proved 𝓛 𝓜 𝓡 γ Taking (taking 𝓤) k (apart f τ) closed ((λ κs x f. refl), ((λ κs x f. refl), ((λ κs x f. refl), tt)))
        (λ κs. (reader_vals κs.0, (uint_vals w32, (LL.vals F.the_type F'.the_laws, tt)))) (λ κs. (reader_tells κs.0, (uint_Tells w32, (LL.tells F.the_type F'.the_laws, tt))))
        (λ κs qs bounds a g are. walk 𝓛 f τ agree lawful one κs.0 qs.0 a.0 a.1.0 a.1.1.0 _ _ (fm_of 𝓤 H 𝓛.laws (tables_of 𝓤 H 𝓜 (tables 𝓤 H 𝓜 𝓡 γ))) known are.0 are.1.0.1 are.1.1.0)
