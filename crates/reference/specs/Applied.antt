-- A layout applied to a memory: the check's refusals, then 23, then what the reference machine makes of it.
-- Sources: 01, "Layouts": "A refused layout has no stream and does nothing"; "Stops and refusals": 23 "memory length not 4·L·F";
-- docs/C-INTERFACE.md, sw_apply: the check's refusals, then 23 with value 0.
use Rattle.std.specs.Prelude.{ℕ, List, cond, eqb, length, Ok, Err}
use Rattle.parts.specs.Table.{memory_at}
use Rattle.answers.specs.declared.Refusal.TheVariants as Refusal
use Rattle.layout.specs.Layout.{check}
use Rattle.layout.specs.ReferenceMachine.{machine}
use Rattle.layout.specs.declared.FrameRange.{FrameRange}
use Rattle.answers.specs.AnswerNumbers.{refused, Answer}

pub record Applied : Type 0 where
  pub answer : Answer
  pub memory : List ℕ

abbrev pub applies : Answer → List ℕ → Applied
applies v m = record { answer = v; memory = m }

-- what a check's answer leads to
unfoldable pub applied_after : Answer → ℕ → List ℕ → List ℕ → Applied
applied_after (Ok n) d b m = cond (eqb (length m) (memory_at d)) (applies (Ok n) (machine d b m)) (applies (Err (refused Refusal.WrongMemory 0)) m)
applied_after (Err e) d b m = applies (Err e) m

abbrev pub applied : ℕ → FrameRange → List ℕ → List ℕ → Applied
applied d r b m = applied_after (check d r b) d b m
