-- `Source::steps` meets its contract: the steps that the layout lists are those of the layout.
-- From the law on the list of steps of an accepted layout.
use Rattle.std.proofs.Common.{◌∙◌}
use Rattle.layout.specs.Laws.AcceptedLayout.{steps_listed, machine_read}
use Rattle.reference.proofs.copy.Source.steps.Goals as goal

pub list-requires : goal.list-requires
list-requires c =
    let s = c.args.self in
    rw (c.step_list-list.ensures, steps_listed s.device s.range s.layout.now c.requires.0 c.requires.1) (c.requires.1, c.requires.2)

pub returns : goal.returns
returns c =
    let s = c.args.self in
    (rw (c.step_list-list.ensures, steps_listed s.device s.range s.layout.now c.requires.0 c.requires.1) at c.list.ensures)
    ∙ machine_read s.device s.range s.layout.now c.args.memory.now c.requires.1
