-- `loader::run` meets its contract. The invariant goes by what is left: the rest of the bytes, run from here, gives what all of
-- them give. A turn is `advance`'s; a stop or the end leaves nothing to run.
use Rattle.std.proofs.Common.{◌≡◌, ◌∙◌, sym, ap, List, [], ◌∷◌, ℕ, true, eqb, length, refl, add-zero, arith}
use borrow.Author.Tests.{eqb-true}
use Rattle.loader.specs.Run.{Ran, ran, after, run}
use Rattle.loader.specs.Laws.Pieces.{stopped_run}
use Rattle.record.specs.declared.Record.{Record}
use Rattle.loader.proofs.run.Goals.{then-loop-device-test+else-not-is_stopped, else-loop-device-test}
use Rattle.loader.proofs.run.Goals as goal

-- a run that is over, by its parts
ended : {d : Record} {m : List ℕ} (s : List ℕ) {i : ℕ} {r : Ran} → run d m s ≡ ran d m 0 → after i (run d m s) ≡ r
    → record { record_value : d ≡ r.«record»; memory_after : m ≡ r.memory; taken_value : i ≡ r.taken }
ended s {i = i} over e =
    let here = sym (ap (after i) over) ∙ e in
    record { record_value = ap (λ (q : Ran). q.«record») here; memory_after = ap (λ (q : Ran). q.memory) here; taken_value = sym (add-zero i) ∙ ap (λ (q : Ran). q.taken) here }

-- no bytes are left
none_left : (d : Record) (m s : List ℕ) → eqb (length s) 0 ≡ true → run d m s ≡ ran d m 0
unfolding run
none_left d m [] h = refl
none_left d m (x ∷ xs) h = absurd (omega (arith, eqb-true (length (x ∷ xs)) 0 h))

pub returns : goal.returns
returns c =
    let l = c.loop-device in
    elim c.loop-device-test.branch [
      | then-loop-device-test+else-not-is_stopped w ↦ ended l.rest.now (stopped_run l.device l.memory l.rest.now (sym w.is_stopped.ensures ∙ w.if-not-is_stopped.false)) l.invariant.runs
      | else-loop-device-test w ↦ ended l.rest.now (none_left l.device l.memory l.rest.now (sym c.is_empty.ensures ∙ w.loop-device-test.false)) l.invariant.runs
    ]
