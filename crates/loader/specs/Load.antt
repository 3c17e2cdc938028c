-- Load, with its refusals.
-- Source: 01, "Stops and refusals", the sentence on refusals 22 and 23.
use Rattle.std.specs.Prelude.{ℕ, List, cond, eqb, length, Ok, Err}
use Rattle.parts.specs.Table.{memory_at}
use Rattle.record.specs.Consistency.{consistent}
use Rattle.record.specs.PowerOn.{Outcome}
use Rattle.config.specs.declared.Phase.{Phase}
use Rattle.loader.specs.Run.{Ran, run}
use Rattle.record.specs.declared.Record.{Record}
use Rattle.answers.specs.declared.Refusal.{Refusal}
use Rattle.answers.specs.AnswerNumbers.{LoadAnswer}
use Rattle.answers.specs.declared.LoadError.{LoadError}

-- 01: "A load answers its stop number (0 for none)"
unfoldable pub answer_of : Phase → LoadAnswer
answer_of (Phase.Hunting b) = Ok tt
answer_of (Phase.Header o) = Ok tt
answer_of (Phase.Data r left filled) = Ok tt
answer_of Phase.Crc = Ok tt
answer_of (Phase.Stopped s) = Err (LoadError.Stopped s)

-- 01: refusals "change no memory and hand the same record back"; "taken is 0"
abbrev pub refused : Refusal → Record → List ℕ → Outcome
refused c d m = record { «record» = d; memory = m; answer = Err (LoadError.Refused c); taken = 0 }

abbrev pub finished : Ran → Outcome
finished r = record { «record» = r.«record»; memory = r.memory; answer = answer_of r.«record».phase; taken = r.taken }

-- 01: 22, then 23, then the bytes
unfoldable pub load : Record → List ℕ → List ℕ → Outcome
load d m bytes =
    cond (consistent d.phase d.control)
    (cond (eqb (length m) (memory_at d.control.device)) (finished (run d m bytes)) (refused Refusal.WrongMemory d m))
    (refused Refusal.Inconsistent d m)
