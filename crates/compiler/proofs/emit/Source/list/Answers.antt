-- `Source::list` meets its contract. The invariant goes by what is left: the steps not yet written, read from where the code
-- stands and written by the writer as it is then, give what all of them give; and they can all be read.
use Rattle.std.proofs.Common.{◌≡◌, ◌∙◌, ◌+◌, ◌-◌, sym, subst, arith}
use Rattle.parts.specs.Table.{length_at, count_at}
use Rattle.layout.specs.Ownership.{owns}
use Rattle.layout.specs.Inner.FirstStep.{step_there, step_bytes}
use Rattle.compiler.specs.Inner.PacketWriting.{Room, front_room, joined, joined_room, nothing}
use Rattle.compiler.specs.Inner.StepPackets.{none_put, step_put, step_count}
use Rattle.compiler.proofs.emit.Source.list.Goals as goal

pub returns-in_default : goal.returns-in_default
returns-in_default c =
    let l = c.loop in
    let s = c.args.self in
    let d = s.device in
    absurd (step_there (length_at d) (count_at d) (owns s.range) s.layout.now (c.args.count - l.counter) l.at _ (sym c.read_step.ensures ∙ c.in_default.is) (omega arith) l.invariant.0)

pub step-requires : goal.step-requires
step-requires c =
    let l = c.loop in
    let s = c.args.self in
    let d = s.device in
    let e = sym c.read_step.ensures ∙ c.in-Ok.is in
    let split = step_put d (length_at d) (count_at d) (owns s.range) s.layout.now (c.args.count - l.counter) l.at _ e (omega arith) l.invariant.0 in (
      step_bytes (length_at d) (count_at d) (owns s.range) s.layout.now l.at _ e,
      step_count d (length_at d) (count_at d) (owns s.range) s.layout.now l.at _ e,
      front_room l.writer _ _ (subst (Room l.writer) split.1 l.invariant.1),
    )

pub loop-preserved : goal.loop-preserved
loop-preserved c =
    let l = c.loop in
    let s = c.args.self in
    let d = s.device in
    let e = sym c.read_step.ensures ∙ c.in-Ok.is in
    let left : c.args.count - (l.counter + 1) ≡ c.args.count - l.counter - 1 = omega arith in
    let split = step_put d (length_at d) (count_at d) (owns s.range) s.layout.now (c.args.count - l.counter) l.at _ e (omega arith) l.invariant.0 in
    let turn = c.step.ensures in
    rw (c.step_offset-at.ensures, left) (
      split.0,
      joined_room turn _ (subst (Room l.writer) split.1 l.invariant.1),
      λ v w. l.invariant.2 v (rw split.1 (joined turn w)),
    )

pub returns : goal.returns
returns c =
    let l = c.loop in
    let s = c.args.self in
    let d = s.device in
    l.invariant.2 _ (rw (none_put d (length_at d) (count_at d) (owns s.range) s.layout.now (c.args.count - l.counter) l.at (omega arith)) (nothing l.writer))
