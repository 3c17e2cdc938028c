-- `reference::copy::copy` meets its contract: the places passed hold the bytes at their indices.
use Rattle.std.proofs.Common.{◌≡◌, take}
use Rattle.reference.proofs.copy.copy.Given as goal

abbrev pub invariant-loop-k : goal.invariant-loop-k
invariant-loop-k l = take l.k l.places ≡ take l.k l.bytes
