-- `Source::list` meets its contract. The invariant goes by what is left: the steps not yet done, read from where
-- the code stands, make what all of them make of the memory at first; and they can all be read.
use Rattle.std.proofs.Common.{◌≡◌, ◌∙◌, ◌+◌, ◌-◌, length, sym, arith}
use Rattle.parts.specs.Table.{length_at, count_at}
use Rattle.parts.proofs.Laws.Figures.{memory_size}
use Rattle.layout.specs.Ownership.{owns}
use Rattle.layout.specs.Inner.FirstStep.{step_there, step_bytes}
use Rattle.reference.specs.Inner.StepList.{none_done, step_made, step_roomy}
use Rattle.reference.proofs.copy.Source.list.Goals as goal

pub step-requires : goal.step-requires
step-requires c =
    let l = c.loop in
    let s = c.args.self in
    let d = s.device in
    let e = sym c.read_step.ensures ∙ c.in-Ok.is in (
      step_bytes (length_at d) (count_at d) (owns s.range) s.layout.now l.at _ e,
      step_roomy (length_at d) (count_at d) (owns s.range) s.layout.now l.at (length l.memory) _ e (omega (arith, memory_size d, c.requires.1, l.invariant.1)),
    )

pub loop-preserved : goal.loop-preserved
loop-preserved c =
    let l = c.loop in
    let s = c.args.self in
    let d = s.device in
    let left : c.args.count - (l.counter + 1) ≡ c.args.count - l.counter - 1 = omega arith in
    let done = step_made (length_at d) (count_at d) (owns s.range) s.layout.now (c.args.count - l.counter) l.at _ l.memory (sym c.read_step.ensures ∙ c.in-Ok.is) (omega arith) l.invariant.0 in
    rw (c.step_offset-at.ensures, left) (done.0, c.step.auto.memory ∙ l.invariant.1, rw c.step.ensures (done.1 ∙ l.invariant.2))

pub returns-in_default : goal.returns-in_default
returns-in_default c =
    let l = c.loop in
    let s = c.args.self in
    let d = s.device in
    absurd (step_there (length_at d) (count_at d) (owns s.range) s.layout.now (c.args.count - l.counter) l.at _ (sym c.read_step.ensures ∙ c.in_default.is) (omega arith) l.invariant.0)

pub returns : goal.returns
returns c =
    let l = c.loop in
    let s = c.args.self in
    let d = s.device in
    sym (none_done (length_at d) (count_at d) (owns s.range) s.layout.now (c.args.count - l.counter) l.at l.memory (omega arith)) ∙ l.invariant.2
