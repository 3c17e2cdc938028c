-- What a `LayoutReader` owns, and the machine values that it and its layout have.
-- By the laws of a struct's fields: the layout's part is taken out of it, and put into it.
use mathlib.Core.Path.{◌≡◌, refl}
use Prim.Native.Nat.{◌<◌, ◌^◌}
use mathlib.Core.List.{List, [], ◌∷◌}
use lib.Dec.{T as Holds}
use lib.ListN.{length}
use seplogic.Ra.Ura.{Ura}
use mir.Syntax.{named, w64}
use mir.Val.{Val, WT, has_ty}
use base.Logic.{ent}
use base.Fml.{Lft}
use types.Logic.{Logic, sem}
use types.Kit.{‵, ◌⊛◌, given, ◌$◌, ◌∵◌, !, qed, move, drop, use1, split, learn, done, by, fjoin}
use denote.Builtin.{u8, usize}
use denote.Laws.{Is, Tells}
use denote.Plain.{uint_Makes}
use denote.RattleType.{RattleType}
use denote.Signature.{named_lft}
use denote.Slice.{slice_val, ShrSlice}
use denote.Steps.{nothing, owned}
use denote.Struct.Declared.{Declared}
use denote.Struct.Laws as LL
use denote.Struct.Rest.{all_own, field_own, rest, own_open, own_out, own_shut}
use denote.Struct.Values.{Values}
use Rattle.layout.specs.declared.reader.LayoutReader.{LayoutReader}
use Rattle.layout.specs.contracts.reader.LayoutReader as T
use Rattle.layout.proofs.reader.LayoutReader.TheLaws as T'

-- the struct's type at a lifetime, with its laws
abbrev pub Reader : Lft → RattleType
Reader κ = T.the_row (named_lft 1 0 tt (κ, tt))

abbrev type : Lft → Declared
type κ = T.the_type (named_lft 1 0 tt (κ, tt))

abbrev laws : (κ : Lft) → LL.Laws (type κ)
laws κ = T'.the_laws (named_lft 1 0 tt (κ, tt))

abbrev pub reader_vals : (κ : Lft) → LayoutReader → List Val
reader_vals κ = LL.vals (type κ) (laws κ)

pub reader_tells : (κ : Lft) → Tells (Reader κ) (Is (Reader κ)) (reader_vals κ)
reader_tells κ = LL.tells (type κ) (laws κ)

module _ (d : LayoutReader) where
  -- its machine value, and that of its layout
  abbrev pub stored : Val
  stored = T'.lowered d

  abbrev pub slice : Val
  slice = slice_val d.layout.ref_ptr (length d.layout.now)

module _ {M : Type 1} {𝓤 : Ura M} (𝓛 : Logic 𝓤) (κ : Lft) (d : LayoutReader) where
  pub reader_typed : Is (Reader κ) d (stored d ∷ []) → Holds (has_ty (T'.mir (named 0)) (stored d)) × WT (stored d)
  reader_typed is = ((LL.lawful (type κ) (laws κ) 𝓛).typed d (stored d ∷ []) is).0

  abbrev fields : Values (type κ).parts
  fields = (d.layout, (d.at, tt))

  -- what it owns gives what its layout owns
  pub owns_layout : ent 𝓤 (sem 𝓛 ((Reader κ).own_val d (stored d ∷ []))) (sem 𝓛 ((ShrSlice (named 0) κ u8).own_val d.layout (slice d ∷ [])))
  owns_layout =
      qed 𝓛 (‵ ((Reader κ).own_val d (stored d ∷ [])) ∷ []) ∵ use1 𝓛 (given (stored d ∷ [] ≡ stored d ∷ []) (‵ (all_own (type κ).parts (laws κ) fields))) (own_open 𝓛 (type κ) (laws κ) fields (stored d)) $ learn ! (λ _.
      use1 𝓛 (‵ (field_own (type κ).parts (laws κ) 0 d.layout) ⊛ ‵ (rest (type κ).parts (laws κ) 0 fields)) (own_out 𝓛 (type κ).parts (laws κ) 0 fields) $ split ! $ move ! (1 ∷ []) $ drop ! $ done !)

  -- what its layout owns is what it owns, where its offset fits
  pub owns_opened : d.at < 2 ^ 64 → ent 𝓤 (sem 𝓛 ((ShrSlice (named 0) κ u8).own_val d.layout (slice d ∷ []))) (sem 𝓛 ((Reader κ).own_val d (stored d ∷ [])))
  owns_opened fits =
      qed 𝓛 (‵ ((ShrSlice (named 0) κ u8).own_val d.layout (slice d ∷ [])) ∷ []) ∵
      nothing ! $ owned ! usize (Is usize) (uint_Makes 𝓛 w64) d.at _ (refl, fits) $ fjoin ! $ move ! (1 ∷ 0 ∷ []) $ fjoin ! $ by ! (own_shut 𝓛 (type κ) (laws κ) fields)
