-- Demand 3's premise can be met, and from power-on the stream of any accepted layout does its steps.
-- Power-on's record of every part is consistent and hunts, and its memory has the part's length: it waits for sync.
use Rattle.std.specs.Prelude.{◌≡◌, refl, List, ℕ, ◌≤◌, length, replicate, take, Ok}
use Rattle.std.proofs.lemmas.List.{length-replicate}
use Rattle.parts.specs.Table.{memory_at}
use Rattle.words.specs.Laws.ByteLists.{AreBytes}
use Rattle.config.specs.declared.PartialWord.TheVariants as PartialWord
use Rattle.record.specs.PowerOn.{fresh_control, fresh, power_on}
use Rattle.record.specs.Laws.FreshRecord.{powered_so, fresh_consistent}
use Rattle.layout.specs.Laws.AcceptedLayout.{accepted}
use Rattle.layout.specs.declared.FrameRange.{FrameRange}
use Rattle.compiler.specs.Compiled.{compiled}
use Rattle.compiler.proofs.Laws.CompilerAnswer.{compiled_accepts}
use Rattle.loader.specs.Load.{load}
use Rattle.reconfigure.proofs.Laws.Demand3.{AwaitsSync, LoadEffect, demand_3}

waits_fresh : (d : ℕ) → d ≤ 7 → AwaitsSync d (fresh d) (replicate (memory_at d) 0)
unfolding fresh fresh_control
waits_fresh d h = record { part = refl; consistent = fresh_consistent d h; window = PartialWord.Zero; hunting = refl; buffer = refl; memory = length-replicate (memory_at d) 0 }

-- power-on's record of every part waits for sync
pub fresh_waits : (d : ℕ) (m : List ℕ) → d ≤ 7 → length m ≡ memory_at d → AwaitsSync d (power_on d m).«record» (power_on d m).memory
fresh_waits d m h room = rw (powered_so d m h room) (waits_fresh d h)

-- and so demand 3 holds of it, with the steps done on a memory of zeros
pub fresh_effect : (d n : ℕ) (r : FrameRange) (b out m : List ℕ) → AreBytes b → (compiled d r b out).answer ≡ Ok n → length m ≡ memory_at d
    → LoadEffect d n r b (replicate (memory_at d) 0) (load (power_on d m).«record» (power_on d m).memory (take n (compiled d r b out).output))
fresh_effect d n r b out m bytes answered room =
    let known = (accepted d n r b (compiled_accepts d n r b out answered).0).known in
    rw (powered_so d m known room) (demand_3 d n r b out bytes answered (fresh d) (replicate (memory_at d) 0) (waits_fresh d known))
