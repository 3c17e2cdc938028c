-- `reference::apply` meets its contract: the check's refusals, then the memory's length, then the steps.
-- By what an accepted check tells.
use Rattle.std.proofs.Common.{◌∙◌, sym}
use Rattle.layout.specs.Laws.AcceptedLayout.{is_read, accepted}
use Rattle.reference.proofs.apply.Goals as goal

pub steps-requires : goal.steps-requires
unfolding is_read
steps-requires c =
    let a = c.args in
    let taken = accepted a.device _ a.range a.layout.now (sym c.check.ensures ∙ c.in_ok-length.was) in
    (taken.known, rw taken.was_read, c.if-memory-memory_at.false ∙ c.memory_at.ensures)
