-- `numbers::read_number` meets its contract. The invariant goes by what is left: the groups not yet read, over the value of those
-- that were, give the number.
use native.Mathlib.Omega.{arith}
use Rattle.numbers.specs.Inner.Groups.{reading_start, reading_last, reading_more, reading_weight, reading_end}
use Rattle.numbers.proofs.read_number.Goals as goal

pub loop-i-preserved : goal.loop-i-preserved
loop-i-preserved c =
    let l = c.loop-i in
    reading_more l.invariant (omega arith) (c.type_inv.bytes l.i).fits (omega arith) (λ e. grind arith)

pub loop-i-init : goal.loop-i-init
loop-i-init c = reading_start _ _

pub last_group-requires : goal.last_group-requires
last_group-requires c =
    let l = c.loop-i in
    (reading_last l.invariant (omega arith) (omega arith) (λ e. grind arith)).0

pub returns-then-x-lt128 : goal.returns-then-x-lt128
returns-then-x-lt128 c =
    let l = c.loop-i in
    rw c.last_group.ensures (reading_last l.invariant (omega arith) (omega arith) (λ e. grind arith)).1

pub overflow_mul-low : goal.overflow_mul-low
overflow_mul-low c = omega (arith, (loop-i-preserved c).under, reading_weight (loop-i-preserved c))

pub overflow_add-low : goal.overflow_add-low
overflow_add-low c = omega (arith, (loop-i-preserved c).under, reading_weight (loop-i-preserved c))

pub overflow_mul-weight : goal.overflow_mul-weight
overflow_mul-weight c = omega (arith, reading_weight (loop-i-preserved c))

pub returns : goal.returns
returns c = reading_end c.loop-i.invariant (omega arith)
