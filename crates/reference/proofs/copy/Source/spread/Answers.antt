-- `Source::spread` meets its contract. The invariant goes by what is left: the targets not yet written, read from
-- where the code stands, make what all of them make of the memory at first.
use Rattle.std.proofs.Common.{◌≡◌, ◌∙◌, ◌+◌, ◌-◌, ◌*◌, length, drop, length-take-le, sym, subst, arith}
use Rattle.parts.specs.Table.{length_at}
use Rattle.reference.specs.Inner.MachineTurns.{spread_one, spread_none}
use Rattle.layout.specs.Inner.TargetNumbers.{Roomy, numbers_none, numbers_value, numbers_refused}
use Rattle.reference.proofs.copy.Source.spread.Goals as goal

pub returns-in_default : goal.returns-in_default
returns-in_default c =
    let l = c.loop in
    let a = c.args in
    let n = length_at a.self.device in
    let size : a.body + c.frame_size.result - a.body ≡ 4 * n = omega (arith, c.frame_size.ensures) in
    let none = numbers_refused a.self.layout.now (a.count - l.counter) l.at _ (omega arith) (sym c.read_number.ensures ∙ c.in_default.is) in
    rw size at (sym (spread_none n _ _ l.memory none) ∙ l.invariant.2)

pub frame-requires : goal.frame-requires
frame-requires c =
    let l = c.loop in
    let a = c.args in
    let n = length_at a.self.device in
    let value = numbers_value a.self.layout.now (a.count - l.counter) l.at _ _ (omega arith) (sym c.read_number.ensures ∙ c.in-Ok.is) in
    let fits = subst (Roomy n (length a.memory.now)) value l.invariant.0 in
    (omega (arith, c.frame_size.ensures, length-take-le (a.body + c.frame_size.result - a.body) (drop a.body a.self.layout.now)), rw l.invariant.1 fits.0)

pub loop-preserved : goal.loop-preserved
loop-preserved c =
    let l = c.loop in
    let a = c.args in
    let n = length_at a.self.device in
    let left : a.count - (l.counter + 1) ≡ a.count - l.counter - 1 = omega arith in
    let value = numbers_value a.self.layout.now (a.count - l.counter) l.at _ _ (omega arith) (sym c.read_number.ensures ∙ c.in-Ok.is) in
    let fits = subst (Roomy n (length a.memory.now)) value l.invariant.0 in
    rw left (fits.1, c.frame.auto.memory ∙ l.invariant.1, rw c.frame.ensures (spread_one n _ c.in-Ok.target.value _ _ l.memory value ∙ l.invariant.2))

pub returns : goal.returns
returns c =
    let l = c.loop in
    let a = c.args in
    let n = length_at a.self.device in
    let size : a.body + c.frame_size.result - a.body ≡ 4 * n = omega (arith, c.frame_size.ensures) in
    rw size at (sym (spread_none n _ _ l.memory (numbers_none a.self.layout.now (a.count - l.counter) l.at (omega arith))) ∙ l.invariant.2)
