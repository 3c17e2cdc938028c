-- What the digits that are left give, after the value so far, is what the text gives.
use Rattle.std.proofs.Common.{◌≡◌, ◌<◌, drop}
use Rattle.build.specs.Inner.Decimal.{digits_from, parsed}
use Rattle.build.proofs.argument.parse.Given as goal

abbrev pub invariant-loop-x : goal.invariant-loop-x
invariant-loop-x l = (l.value < 4294967296) × (digits_from l.value (drop l.x-index l.text) ≡ parsed l.text)
