-- A reconfiguration: a layout compiled for the record's own device, and the stream loaded.
-- Sources: docs/C-INTERFACE.md, sw_reconfigure: "22, 23, 37, the layout's refusals, 36"; 01, "Layouts": demand 3, in the words of the
-- reference machine. A consistent record that does not wait for sync would take the stream for something else: refused before 37.
use Rattle.std.specs.Prelude.{ℕ, List, cond, eqb, length, Ok, Err}
use Rattle.parts.specs.Table.{memory_at}
use Rattle.answers.specs.declared.Refusal.TheVariants as Refusal
use Rattle.config.specs.PhaseTests.{is_hunting}
use Rattle.record.specs.Consistency.{consistent}
use Rattle.record.specs.declared.Record.{Record}
use Rattle.layout.specs.ReferenceMachine.{machine}
use Rattle.layout.specs.declared.FrameRange.{FrameRange}
use Rattle.compiler.specs.Compiled.{stream_for, overwritten, compiled}
use Rattle.loader.specs.Load.{load}
use Rattle.answers.specs.AnswerNumbers.{refused, Answer}

pub record Reconfigured : Type 0 where
  pub «record» : Record
  pub memory : List ℕ
  pub output : List ℕ
  pub answer : Answer

module _ (e : Record) (m : List ℕ) (r : FrameRange) (b out : List ℕ) where
  -- a refusal changes nothing
  abbrev pub unchanged : Answer → Reconfigured
  unchanged a = record { «record» = e; memory = m; output = out; answer = a }

  -- what the compiler's answer leads to: the record is what the load leaves, the memory what the reference machine makes of it
  unfoldable pub reconfigured_after : Answer → Reconfigured
  reconfigured_after (Ok n) = record {
    «record» = (load e m (stream_for e.control.device r b)).«record»;
    memory = machine e.control.device b m;
    output = overwritten (stream_for e.control.device r b) out;
    answer = Ok n;
  }
  reconfigured_after (Err x) = unchanged (Err x)

  -- 22, 23, then 24, then the compiler's
  unfoldable pub reconfigured : Reconfigured
  reconfigured =
      cond (consistent e.phase e.control)
      (cond (eqb (length m) (memory_at e.control.device))
      (cond (is_hunting e.phase) (reconfigured_after (compiled e.control.device r b out).answer) (unchanged (Err (refused Refusal.NotHunting 0))))
      (unchanged (Err (refused Refusal.WrongMemory 0))))
      (unchanged (Err (refused Refusal.Inconsistent 0)))
