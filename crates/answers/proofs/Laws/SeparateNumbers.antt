-- 02, W2: "Give separate numbers"; "31 is no longer given". Every refusal has a number of its own, and no answer has 31.
-- A number is looked up among all refusals, which gives back the refusal that has it; 31 is looked up and found at none.
use Rattle.std.specs.Prelude.{◌≡◌, refl, List, [], ◌∷◌, cond, ℕ, eqb, Ok, Err}
use Rattle.std.proofs.Common.{◌∙◌, sym, ap, arith}
use Rattle.answers.specs.StopsAndRefusals.{stop_number, refusal_number}
use Rattle.answers.specs.AnswerNumbers.{Answer, LoadAnswer, answer_number, load_number}
use Rattle.answers.specs.declared.Stop.{Stop}
use Rattle.answers.specs.declared.Refusal.{Refusal}
use Rattle.answers.specs.declared.LoadError.{LoadError}

abbrev refusals : List Refusal
refusals =
    Refusal.UnknownDevice ∷ Refusal.Inconsistent ∷ Refusal.WrongMemory ∷ Refusal.NotHunting ∷ Refusal.WrongEdition ∷ Refusal.WrongDevice
    ∷ Refusal.OutsidePart ∷ Refusal.OutsideRange ∷ Refusal.ShortOutput ∷ Refusal.WrongRange ∷ Refusal.BadForm ∷ Refusal.Missing
    ∷ Refusal.UnknownKind ∷ Refusal.ZeroCount ∷ Refusal.NotRising ∷ Refusal.TooManySteps ∷ Refusal.Trailing ∷ []

-- the first of some refusals that has a number, UnknownDevice where none has it
found : ℕ → List Refusal → Refusal
found n [] = Refusal.UnknownDevice
found n (c ∷ cs) = cond (eqb (refusal_number c) n) c (found n cs)

found_back : (c : Refusal) → found (refusal_number c) refusals ≡ c
unfolding found
found_back Refusal.UnknownDevice = refl
found_back Refusal.Inconsistent = refl
found_back Refusal.WrongMemory = refl
found_back Refusal.NotHunting = refl
found_back Refusal.WrongEdition = refl
found_back Refusal.WrongDevice = refl
found_back Refusal.OutsidePart = refl
found_back Refusal.OutsideRange = refl
found_back Refusal.ShortOutput = refl
found_back Refusal.WrongRange = refl
found_back Refusal.BadForm = refl
found_back Refusal.Missing = refl
found_back Refusal.UnknownKind = refl
found_back Refusal.ZeroCount = refl
found_back Refusal.NotRising = refl
found_back Refusal.TooManySteps = refl
found_back Refusal.Trailing = refl

-- a number says what is refused
pub separate : (c e : Refusal) → refusal_number c ≡ refusal_number e → c ≡ e
separate c e same = sym (found_back c) ∙ ap (λ n. found n refusals) same ∙ found_back e

pub no_refusal_31 : (c : Refusal) → refusal_number c ≡ 31 → ⊥
unfolding found
no_refusal_31 c h =
    let none : c ≡ Refusal.UnknownDevice = sym (found_back c) ∙ ap (λ n. found n refusals) h in
    let z : ◌≡◌ {A = ℕ} 21 31 = sym (ap refusal_number none) ∙ h in
    omega (arith, z)

pub no_answer_31 : (a : Answer) → answer_number a ≡ 31 → ⊥
no_answer_31 (Ok n) h = omega (arith, h)
no_answer_31 (Err e) h = no_refusal_31 e.refusal h

no_stop_31 : (s : Stop) → stop_number s ≡ 31 → ⊥
no_stop_31 Stop.BadHeader h = omega (arith, h)
no_stop_31 Stop.BadRegister h = omega (arith, h)
no_stop_31 Stop.ReadOperation h = omega (arith, h)
no_stop_31 Stop.WrongIdcode h = omega (arith, h)
no_stop_31 Stop.WrongFrameLength h = omega (arith, h)
no_stop_31 Stop.NotReady h = omega (arith, h)
no_stop_31 Stop.WrongCount h = omega (arith, h)
no_stop_31 Stop.CrcMismatch h = omega (arith, h)
no_stop_31 Stop.NoCurrentFrame h = omega (arith, h)
no_stop_31 Stop.UnknownCommand h = omega (arith, h)

pub no_load_31 : (a : LoadAnswer) → load_number a ≡ 31 → ⊥
no_load_31 (Ok u) h = omega (arith, h)
no_load_31 (Err (LoadError.Stopped s)) h = no_stop_31 s h
no_load_31 (Err (LoadError.Refused c)) h = no_refusal_31 c h
