-- The table against the figures that the papers print: 01's columns L and F, and 001's Table 7.
-- Each is one computation over the whole table; a part's limits at any device number are one computed test.
use Rattle.std.specs.Prelude.{◌≡◌, refl, List, [], ◌∷◌, map, Bool, true, ◌&&◌, ℕ, zero, suc, ◌*◌, ◌≤◌, ◌<◌, leb, length, get_or, Ok}
use Rattle.std.proofs.Math.Bool.{and-eq-true_iff}
use Rattle.std.proofs.Common.{le_of_suc-le-suc, not-suc-le-zero, mul-le-mul, le_refl, arith, lt-ltb, le-ltb, leb-true}
use Rattle.std.proofs.Math.Decide.{dec_lt}
use Rattle.parts.specs.Table.{part, parts, part_of, idcode_of, frame_length, frame_count, memory_length}
use Rattle.parts.specs.Inner.PartLimits.{Limits}
use Rattle.parts.specs.declared.table.Part.{Part}

-- 01, "The eight parts": the column "words a frame"
pub frame_lengths : map frame_length parts ≡ 37 ∷ 53 ∷ 69 ∷ 101 ∷ 133 ∷ 165 ∷ 197 ∷ 213 ∷ []
unfolding parts frame_length
frame_lengths = refl

-- 01, "The eight parts": the column "frames"; 001, Table 7, "# of Frames"
pub frame_counts : map frame_count parts ≡ 368 ∷ 615 ∷ 767 ∷ 995 ∷ 1223 ∷ 1451 ∷ 1793 ∷ 1945 ∷ []
unfolding parts frame_count
frame_counts = refl

-- 001, Table 7, "Frame Length in Bits"
pub frame_bits : map (λ p. 32 * frame_length p) parts ≡ 1184 ∷ 1696 ∷ 2208 ∷ 3232 ∷ 4256 ∷ 5280 ∷ 6304 ∷ 6816 ∷ []
unfolding parts frame_length
frame_bits = refl

-- 001, Table 7, "Configuration Bits"
pub configuration_bits : map (λ p. 8 * memory_length p) parts
    ≡ 435712 ∷ 1043040 ∷ 1693536 ∷ 3215840 ∷ 5205088 ∷ 7661280 ∷ 11303072 ∷ 13257120 ∷ []
unfolding parts memory_length frame_length frame_count
configuration_bits = refl

-- ---- the limits of every part

within : Part → Bool
within p = leb p.rows 104 && leb p.columns 80 && leb p.ram_columns 4 && leb p.idcode 0xFFFFFFFF

all : (Part → Bool) → List Part → Bool
all f [] = true
all f (p ∷ ps) = f p && all f ps

at : (f : Part → Bool) (ps : List Part) (z : Part) → all f ps ≡ true → (k : ℕ) → k < length ps → f (get_or ps k z) ≡ true
unfolding all
at f [] z t k h = absurd (not-suc-le-zero h)
at f (p ∷ ps) z t zero h = ((and-eq-true_iff (f p) (all f ps)).0 t).0
at f (p ∷ ps) z t (suc k) h = at f ps z ((and-eq-true_iff (f p) (all f ps)).0 t).1 k (le_of_suc-le-suc h)

limits : (p : Part) → within p ≡ true → Limits p
unfolding within
limits p t =
    let all = (and-eq-true_iff (leb p.rows 104 && leb p.columns 80 && leb p.ram_columns 4) (leb p.idcode 0xFFFFFFFF)).0 t in
    let both = (and-eq-true_iff (leb p.rows 104 && leb p.columns 80) (leb p.ram_columns 4)).0 all.0 in
    let first = (and-eq-true_iff (leb p.rows 104) (leb p.columns 80)).0 both.0 in
    record { rows = leb-true _ _ first.0; columns = leb-true _ _ first.1; ram_columns = leb-true _ _ both.1; idcode = leb-true _ _ all.1 }

-- the figures of the XC3S5000 bound them all
pub length_limit : (p : Part) → Limits p → frame_length p ≤ 213
unfolding frame_length
length_limit p l = omega arith

pub count_limit : (p : Part) → Limits p → frame_count p ≤ 1945
unfolding frame_count
count_limit p l = omega arith

pub memory_limit : (p : Part) → Limits p → memory_length p ≤ 1657140
unfolding memory_length
memory_limit p l = mul-le-mul (mul-le-mul (le_refl 4) (length_limit p l)) (count_limit p l)

-- IDCODE is a word
pub idcode_limit : (p : Part) → Limits p → idcode_of p ≤ 0xFFFFFFFF
unfolding idcode_of
idcode_limit p l = l.idcode

pub known_limits : (d : ℕ) (p : Part) → part_of d ≡ Ok p → Limits p
unfolding part_of parts within all
known_limits d p e =
    elim (dec_lt d 8) [
      | yes h ↦
          let same : get_or parts d (part 0 0 0 0) ≡ p = cc (lt-ltb d 8 h) in
          rw (← same) (limits _ (at within parts (part 0 0 0 0) refl d h))
      | no h ↦ let z : ◌≡◌ {A = ℕ} 0 1 = cc (le-ltb d 8 (omega arith)) in absurd (omega arith)
    ]
