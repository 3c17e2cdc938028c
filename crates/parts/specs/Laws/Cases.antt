-- What holds in both cases of a test holds of what the test picks.
-- By the two cases of the test, with the case as a hypothesis of each.
use Rattle.std.specs.Prelude.{◌≡◌, refl, Bool, true, false, cond}

pub either : {A : Type 0} (P : A → Type 0) (t : Bool) {a b : A} → (t ≡ true → P a) → (t ≡ false → P b) → P (cond t a b)
either P true f g = f refl
either P false f g = g refl
