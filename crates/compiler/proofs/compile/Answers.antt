-- `compiler::compile` meets its contract: the check's refusals, then the output's length, then the stream.
-- By what an accepted check tells; the length that it answers is the stream's.
use Rattle.std.proofs.Common.{◌∙◌, sym, arith}
use Rattle.layout.specs.Laws.AcceptedLayout.{accepted}
use Rattle.compiler.proofs.Laws.CompilerAnswer.{accepted_read, accepted_length}
use Rattle.compiler.proofs.compile.Goals as goal

pub stream-requires : goal.stream-requires
stream-requires c =
    let a = c.args in
    let e = sym c.check.ensures ∙ c.in_ok-length.was in
    ((accepted a.device _ a.range a.layout.now e).known, accepted_read a.device _ a.range a.layout.now e, omega (arith, accepted_length a.device _ a.range a.layout.now e))
