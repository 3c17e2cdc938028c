-- The stream of an accepted layout lies in the output: the compiler's contract says that it has room.
use Rattle.std.proofs.Common.{◌∙◌, sym, arith, length-take-le}
use Rattle.compiler.proofs.Laws.CompilerAnswer.{compiled_accepts}
use Rattle.build.proofs.write_stream.Goals as goal

pub slice_bounds-write_all-end : goal.slice_bounds-write_all-end
slice_bounds-write_all-end g c =
    let answered = sym c.compile.ensures.value ∙ c.in_ok-length.was in
    rw c.compile.auto.output (compiled_accepts _ _ _ _ _ answered).1

pub slice_bounds-write_all-end-2 : goal.slice_bounds-write_all-end-2
slice_bounds-write_all-end-2 g c = sym (length-take-le _ _ (slice_bounds-write_all-end g c))
