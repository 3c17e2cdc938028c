-- Power-on, with its refusals.
-- Sources: 01, "Power-on"; "Stops and refusals", the sentence on refusals 21 and 23.
use Rattle.std.specs.Prelude.{ℕ, List, false, cond, eqb, length, replicate, Some, Result, Ok, Err}
use Rattle.parts.specs.Table.{part_of, memory_at}
use Rattle.answers.specs.declared.Refusal.{Refusal}
use Rattle.config.specs.declared.PartialWord.TheVariants as PartialWord
use Rattle.config.specs.declared.Control.{Control}
use Rattle.config.specs.declared.Phase.TheVariants as Phase
use Rattle.record.specs.declared.Record.{Record}
use Rattle.answers.specs.AnswerNumbers.{LoadAnswer}
use Rattle.parts.specs.declared.table.Part.{Part}
use Rattle.answers.specs.declared.LoadError.{LoadError}

-- what a call leaves and answers; power-on takes no bytes
pub record Outcome : Type 0 where
  pub «record» : Record
  pub memory : List ℕ
  pub answer : LoadAnswer
  pub taken : ℕ

-- 01: "registers and frame words zero, all flags clear, current frame 0, hunting"
unfoldable pub fresh_control : ℕ → Control
fresh_control d = record {
  device = d;
  registers = record { crc = 0; far = 0; fdri = 0; cmd = 0; ctl = 0; mask = 0; lout = 0; cor = 0; mfwr = 0; flr = 0; idcode = 0 };
  flags = record {
    idcode_ok = false;
    flr_ok = false;
    buffer_valid = false;
    ghigh = false;
    start_pending = false;
    check_passed = false;
    started = false;
  };
  current = Some 0;
  partial = PartialWord.Zero;
}

-- 01: "hunting"; "a frame in hand of 213 words"
unfoldable pub fresh : ℕ → Record
fresh d = record { phase = Phase.Hunting PartialWord.Zero; control = fresh_control d; frame = replicate 213 0 }

-- 01: "Refusals 21 to 23 change no memory" and hand back, at power-on, "the fresh record of device 0"
abbrev pub not_powered : Refusal → List ℕ → Outcome
not_powered c m = record { «record» = fresh 0; memory = m; answer = Err (LoadError.Refused c); taken = 0 }

-- 01: "order 21 or 22, then 23"; "memory, registers and frame words zero"
unfoldable pub powered : Result Part Refusal → ℕ → List ℕ → Outcome
powered (Ok p) d m =
    cond (eqb (length m) (memory_at d)) (record { «record» = fresh d; memory = replicate (memory_at d) 0; answer = Ok tt; taken = 0 })
    (not_powered Refusal.WrongMemory m)
powered (Err c) d m = not_powered c m

abbrev pub power_on : ℕ → List ℕ → Outcome
power_on d m = powered (part_of d) d m
