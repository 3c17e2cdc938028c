-- `reconfigure::reconfigure` meets its contract: the refusals in their order, then the compiler's answer, then the load of the stream.
-- By the law of each answer, once its tests are known; the load's memory is the reference machine's by demand 3.
use mathlib.Core.Path.{◌≡◌, ◌∙◌, refl, sym}
use mathlib.Core.Logic.{◌≢◌}
use mathlib.Core.Bool.{true}
use Prim.Native.Nat.{ℕ}
use native.Mathlib.Omega.{arith}
use Rattle.std.specs.Prelude.{List, take, Ok}
use Rattle.record.specs.declared.Record.{Record}
use Rattle.layout.specs.declared.FrameRange.{FrameRange}
use Rattle.loader.specs.Load.{load}
use lib.ListN.{length}
use lib.Seq.{length-take-le}
use borrow.Author.Rules.{rules}
use Rattle.words.specs.Laws.ByteLists.{AreBytes, all_bytes}
use Rattle.config.specs.PhaseTests.{is_hunting}
use Rattle.parts.specs.Table.{memory_at}
use Rattle.record.specs.Consistency.{consistent}
use Rattle.compiler.specs.Compiled.{Compiled, compiled}
use Rattle.compiler.proofs.Laws.CompilerAnswer.{compiled_accepts, refused_keeps}
use Rattle.reconfigure.specs.Reconfigured.{Reconfigured, unchanged, reconfigured_after, reconfigured}
use Rattle.reconfigure.proofs.Laws.AnswerCases.{inconsistent_so, wrong_memory_so, not_hunting_so, compiled_so, refused_so}
use Rattle.reconfigure.specs.Promise.{Promised}
use Rattle.reconfigure.proofs.Laws.PromiseKept.{awaits_sync, accepted_so, promised}
use Rattle.reconfigure.proofs.reconfigure.Goals as goal

module _ (e : Record) (m : List ℕ) (r : FrameRange) (b out : List ℕ) (bytes : AreBytes b) (full : length e.frame ≡ 213) where
  abbrev whole : Reconfigured
  whole = reconfigured e m r b out

  abbrev written : Compiled
  written = compiled e.control.device r b out

  -- what is to be shown, of the whole by its parts
  told : (x : Reconfigured) → whole ≡ x
      → (x.answer ≡ whole.answer) × (x.«record» ≡ whole.«record») × (x.memory ≡ whole.memory) × (x.output ≡ whole.output)
      × Promised r b e m x.answer x.«record» x.memory
  told x eq = rw (← eq) (refl, refl, refl, refl, promised e m r b out bytes full)

  -- past the three tests the record waits for sync, and the answer is the compiler's
  module _ (fits : consistent e.phase e.control ≡ true) (sized : length m ≡ memory_at e.control.device) (hunts : is_hunting e.phase ≡ true) where
    judged : whole ≡ reconfigured_after e m r b out written.answer
    judged = compiled_so e m r b out fits sized hunts

    -- where the compiler accepts
    done : (n : ℕ) → written.answer ≡ Ok n
        → whole ≡ record {
          «record» = (load e m (take n written.output)).«record»;
          memory = (load e m (take n written.output)).memory;
          output = written.output;
          answer = Ok n;
        }
    done n accepts =
        judged ∙ accepted_so e m r b out bytes full n (awaits_sync e m r b out bytes full fits sized hunts) accepts

    -- where it refuses
    refuses : ((n : ℕ) → written.answer ≢ Ok n) → whole ≡ unchanged e m r b out written.answer
    refuses never = judged ∙ refused_so e m r b out written.answer never

pub slice_bounds-load-end : goal.slice_bounds-load-end
slice_bounds-load-end c =
    let a = c.args in
    let accepts = sym c.compile-answer.ensures.value ∙ c.in-Ok.is in
    rw c.compile-answer.auto.output (compiled_accepts a.«record».control.device _ a.range a.layout.now a.output.now accepts).1

pub slice_bounds-load-end-2 : goal.slice_bounds-load-end-2
slice_bounds-load-end-2 c =
    let a = c.args in
    let accepts = sym c.compile-answer.ensures.value ∙ c.in-Ok.is in
    let room = (compiled_accepts a.«record».control.device _ a.range a.layout.now a.output.now accepts).1 in
    sym (length-take-le _ _ (rw c.compile-answer.auto.output room))

pub returns-then-not-consistent : goal.returns-then-not-consistent
returns-then-not-consistent c =
    let a = c.args in
    let bytes = all_bytes a.layout.now (λ i. omega (arith, c.type_inv.layout i)) in
    let t = told a.«record» a.memory.now a.range a.layout.now a.output.now bytes (search rules) _ (inconsistent_so a.«record» a.memory.now a.range a.layout.now a.output.now (sym c.consistent.ensures ∙ c.if-not-consistent.true)) in
    record {
      answer_value = c.refused.ensures.answer_value ∙ t.0;
      record_value = c.refused.ensures.record_value ∙ t.1;
      memory_after = t.2;
      output_after = t.3;
      promised = rw (c.refused.ensures.answer_value, c.refused.ensures.record_value) t.4;
    }

pub returns-then-memory-memory_at : goal.returns-then-memory-memory_at
returns-then-memory-memory_at c =
    let a = c.args in
    let r = c.refused-then-memory-memory_at.ensures in
    let bytes = all_bytes a.layout.now (λ i. omega (arith, c.type_inv.layout i)) in
    let fits = sym c.consistent.ensures ∙ c.if-not-consistent.false in
    let t = told a.«record» a.memory.now a.range a.layout.now a.output.now bytes (search rules) _ (wrong_memory_so a.«record» a.memory.now a.range a.layout.now a.output.now fits (rw c.memory_at.ensures at c.if-memory-memory_at.true)) in
    record {
      answer_value = r.answer_value ∙ t.0;
      record_value = r.record_value ∙ t.1;
      memory_after = t.2;
      output_after = t.3;
      promised = rw (r.answer_value, r.record_value) t.4;
    }

pub returns-then-not-is_hunting : goal.returns-then-not-is_hunting
returns-then-not-is_hunting c =
    let a = c.args in
    let r = c.refused-then-not-is_hunting.ensures in
    let bytes = all_bytes a.layout.now (λ i. omega (arith, c.type_inv.layout i)) in
    let fits = sym c.consistent.ensures ∙ c.if-not-consistent.false in
    let sized = c.if-memory-memory_at.false ∙ c.memory_at.ensures in
    let t = told a.«record» a.memory.now a.range a.layout.now a.output.now bytes (search rules) _ (not_hunting_so a.«record» a.memory.now a.range a.layout.now a.output.now fits sized (sym c.is_hunting.ensures ∙ c.if-not-is_hunting.true)) in
    record {
      answer_value = r.answer_value ∙ t.0;
      record_value = r.record_value ∙ t.1;
      memory_after = t.2;
      output_after = t.3;
      promised = rw (r.answer_value, r.record_value) t.4;
    }

pub returns : goal.returns
returns c =
    let a = c.args in
    let l = c.load-loaded in
    let bytes = all_bytes a.layout.now (λ i. omega (arith, c.type_inv.layout i)) in
    let fits = sym c.consistent.ensures ∙ c.if-not-consistent.false in
    let sized = c.if-memory-memory_at.false ∙ c.memory_at.ensures in
    let hunts = sym c.is_hunting.ensures ∙ c.if-not-is_hunting.false in
    let accepts = sym c.compile-answer.ensures.value ∙ c.in-Ok.is in
    let made = done a.«record» a.memory.now a.range a.layout.now a.output.now bytes (search rules) fits sized hunts c.in-Ok.length accepts in
    let t = told a.«record» a.memory.now a.range a.layout.now a.output.now bytes (search rules) _ made in
    let w = c.compile-answer.ensures.output_after in
    record {
      answer_value = t.0;
      record_value = rw w at l.ensures.record_value ∙ t.1;
      memory_after = rw w at l.ensures.memory_after ∙ t.2;
      output_after = w ∙ t.3;
      promised = rw (l.ensures.record_value, l.ensures.memory_after, w) t.4;
    }

pub returns-in_default : goal.returns-in_default
returns-in_default c =
    let a = c.args in
    let bytes = all_bytes a.layout.now (λ i. omega (arith, c.type_inv.layout i)) in
    let fits = sym c.consistent.ensures ∙ c.if-not-consistent.false in
    let sized = c.if-memory-memory_at.false ∙ c.memory_at.ensures in
    let hunts = sym c.is_hunting.ensures ∙ c.if-not-is_hunting.false in
    let v = c.compile-answer.ensures.value in
    let never : (n : ℕ) → (compiled a.«record».control.device a.range a.layout.now a.output.now).answer ≢ Ok n
    = λ n e. c.in_default.not-Ok n (v ∙ e) in
    let made = refuses a.«record» a.memory.now a.range a.layout.now a.output.now bytes (search rules) fits sized hunts never in
    let t = told a.«record» a.memory.now a.range a.layout.now a.output.now bytes (search rules) _ made in
    record {
      answer_value = v ∙ t.0;
      record_value = t.1;
      memory_after = t.2;
      output_after = c.compile-answer.ensures.output_after ∙ refused_keeps a.«record».control.device a.range a.layout.now a.output.now never ∙ t.3;
      promised = rw v t.4;
    }
