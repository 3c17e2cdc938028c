-- Each piece is at most the buffer, so the bytes taken are at most the pieces read times its length.
use Rattle.std.proofs.Common.{◌≡◌, ◌*◌, ◌≤◌, length}
use Rattle.load50.proofs.load_input.Given as goal

abbrev pub invariant-loop : goal.invariant-loop
invariant-loop g l = (l.session.taken ≤ 65536 * l.counter) × (length l.buffer ≡ 65536)
