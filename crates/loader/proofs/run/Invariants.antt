-- `loader::run` meets its contract. The invariant goes by what is left: the rest of the bytes, run from here, gives what all of
-- them give. A turn is `advance`'s; a stop or the end leaves nothing to run.
use Rattle.std.proofs.Common.{◌≡◌, ◌-◌, ◌≤◌, length}
use Rattle.loader.specs.Run.{after, run}
use Rattle.loader.proofs.run.Given as goal

abbrev pub invariant-loop-device : goal.invariant-loop-device
invariant-loop-device l = record {
  within : length l.rest ≤ length l.bytes;
  runs : after (length l.bytes - length l.rest) (run l.device l.memory l.rest) ≡ run l.initial.device l.initial.memory l.bytes;
}

abbrev pub decreases-loop-device : goal.decreases-loop-device
decreases-loop-device l = length l.rest
