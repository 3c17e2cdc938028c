-- What a reconfiguration promises, by its answer: where it is done, demand 3; where it is refused, that nothing changed.
-- Source: demand 3 (docs/DEMAND-3.md); 01, "Layouts": "Demand 3 does the steps on a plain machine"; "A refused layout has no stream and does nothing".
use Rattle.std.specs.Prelude.{◌≡◌, List, true, false, ℕ, Ok, Err}
use Rattle.parts.specs.Table.{length_at}
use Rattle.parts.specs.FrameMemory.{frame_of}
use Rattle.config.specs.declared.PartialWord.{PartialWord}
use Rattle.config.specs.declared.Phase.{Phase}
use Rattle.record.specs.Consistency.{consistent}
use Rattle.record.specs.declared.Record.{Record}
use Rattle.layout.specs.Ownership.{owns}
use Rattle.layout.specs.ReferenceMachine.{machine}
use Rattle.layout.specs.declared.FrameRange.{FrameRange}
use Rattle.answers.specs.AnswerNumbers.{Answer}

-- the record is still the part's and waits for sync again, with no bytes remembered, neither of a sync word nor of another; the memory is
-- the reference machine's; frames outside the range stay
pub record Effect (d : ℕ) (r : FrameRange) (b m : List ℕ) (e : Record) (k : List ℕ) : Type 0 where
  pub part : e.control.device ≡ d
  pub consistent : consistent e.phase e.control ≡ true
  pub hunting : e.phase ≡ Phase.Hunting PartialWord.Zero
  pub partial : e.control.partial ≡ PartialWord.Zero
  pub memory : k ≡ machine d b m
  pub outside : (n : ℕ) → owns r n ≡ false → frame_of (length_at d) n k ≡ frame_of (length_at d) n m

-- of record e₀ and memory m, by the answer, with record e and memory k afterwards: done, the effect; refused, both as they were
abbrev pub Promised : FrameRange → List ℕ → Record → List ℕ → Answer → Record → List ℕ → Type 0
Promised r b e₀ m (Ok n) e k = Effect e₀.control.device r b m e k
Promised r b e₀ m (Err x) e k = (e ≡ e₀) × (k ≡ m)
