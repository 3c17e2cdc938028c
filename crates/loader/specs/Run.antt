-- A run over the bytes of a piece: the device record and the memory byte by byte, up to the end or a stop.
-- Sources: 01, "Words and packets"; "Stops and refusals": "the bytes taken from this piece, up to and with the byte that
-- ended the bad word. A stopped device takes nothing and answers the same number."
use Rattle.std.specs.Prelude.{ℕ, ◌+◌, List, [], ◌∷◌, cond}
use Rattle.parts.specs.Table.{length_at}
use Rattle.config.specs.PhaseTests.{is_stopped}
use Rattle.config.specs.StreamBytes.{byte}
use Rattle.config.specs.declared.Transition.{Transition}
use Rattle.loader.specs.EventEffects.{buffered, stored}
use Rattle.record.specs.declared.Record.{Record}

-- what the control machine makes of a byte
abbrev pub byte_transition : Record → ℕ → Transition
byte_transition d x = byte d.phase d.control x

-- the record after what the control machine made of a word or a byte
abbrev pub record_after : Transition → Record → Record
record_after f d = record { phase = f.phase; control = f.control; frame = buffered f.event d.frame }

-- the memory after it
abbrev pub memory_after : Transition → Record → List ℕ → List ℕ
memory_after f d m = stored (length_at d.control.device) f.event d.frame m

-- what a run leaves: the record, the memory, and the bytes taken
pub record Ran : Type 0 where
  pub «record» : Record
  pub memory : List ℕ
  pub taken : ℕ

abbrev pub ran : Record → List ℕ → ℕ → Ran
ran d m n = record { «record» = d; memory = m; taken = n }

-- with n bytes taken before
abbrev pub after : ℕ → Ran → Ran
after n r = ran r.«record» r.memory (n + r.taken)

unfoldable pub run : Record → List ℕ → List ℕ → Ran
run d m [] = ran d m 0
run d m (x ∷ xs) = cond (is_stopped d.phase) (ran d m 0) (after 1 (run (record_after (byte_transition d x) d) (memory_after (byte_transition d x) d m) xs))
