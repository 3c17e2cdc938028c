-- `words::put_all` meets its contract. The invariant goes by what is left: the words not yet written give what all of them give.
use mathlib.Core.Path.{◌≡◌}
use Prim.Native.Nat.{◌+◌, ◌*◌, ◌≤◌}
use lib.ListN.{length, drop}
use Rattle.words.specs.WordsInBytes.{put_words}
use Rattle.words.proofs.put_all.Given as goal

abbrev pub invariant-loop-i : goal.invariant-loop-i
invariant-loop-i l = (l.i ≤ length l.words) × (length l.bytes ≡ length l.initial.bytes) × (put_words l.bytes (l.at + 4 * l.i) (drop l.i l.words) ≡ put_words l.initial.bytes l.at l.words)
