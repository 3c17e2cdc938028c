-- A reconfiguration keeps its promise: where it is done, demand 3; where it is refused, nothing changed.
-- By the cases of the definition, and demand 3 at the record's own device.
use Rattle.std.specs.Prelude.{◌≡◌, refl, List, true, ℕ, eqb, length, take, Ok, Err}
use Rattle.std.proofs.Common.{◌∙◌, sym, arith, eqb-true}
use Rattle.std.proofs.Math.Path.{ap}
use Rattle.parts.specs.Laws.Cases.{either}
use Rattle.parts.specs.Table.{length_at, memory_at}
use Rattle.parts.specs.FrameMemory.{frame_of}
use Rattle.words.specs.Laws.ByteLists.{AreBytes}
use Rattle.config.specs.PhaseTests.{is_hunting}
use Rattle.config.specs.declared.PartialWord.{PartialWord}
use Rattle.config.specs.declared.Phase.{Phase}
use Rattle.record.specs.Consistency.{consistent}
use Rattle.record.specs.declared.Record.{Record}
use Rattle.layout.specs.declared.FrameRange.{FrameRange}
use Rattle.compiler.specs.Compiled.{compiled}
use Rattle.compiler.proofs.Laws.CompilerAnswer.{compiled_accepts, compiled_written}
use Rattle.loader.specs.Load.{load}
use Rattle.reconfigure.proofs.Laws.Demand3.{AwaitsSync, stream_effect}
use Rattle.reconfigure.specs.Reconfigured.{Reconfigured, reconfigured_after, reconfigured}
use Rattle.reconfigure.specs.Promise.{Promised}
use Rattle.answers.specs.AnswerNumbers.{Answer}

hunting_window : (p : Phase) → is_hunting p ≡ true → (b : PartialWord) × (p ≡ Phase.Hunting b)
hunting_window (Phase.Hunting b) h = (b, refl)
hunting_window (Phase.Header o) h = let z : ◌≡◌ {A = ℕ} 0 1 = cc in absurd (omega arith)
hunting_window (Phase.Data r left filled) h = let z : ◌≡◌ {A = ℕ} 0 1 = cc in absurd (omega arith)
hunting_window Phase.Crc h = let z : ◌≡◌ {A = ℕ} 0 1 = cc in absurd (omega arith)
hunting_window (Phase.Stopped s) h = let z : ◌≡◌ {A = ℕ} 0 1 = cc in absurd (omega arith)

module _ (e : Record) (m : List ℕ) (r : FrameRange) (b out : List ℕ) (bytes : AreBytes b) (full : length e.frame ≡ 213) where
  -- the record that is neither refused for itself, nor for the memory, nor for its phase
  pub awaits_sync : consistent e.phase e.control ≡ true → length m ≡ memory_at e.control.device → is_hunting e.phase ≡ true → AwaitsSync e.control.device e m
  awaits_sync fits room hunts =
      let w = hunting_window e.phase hunts in
      record { part = refl; consistent = fits; window = w.0; hunting = w.1; buffer = full; memory = room }

  -- the compiler's output, loaded
  pub accepted_so : (n : ℕ) → AwaitsSync e.control.device e m → (compiled e.control.device r b out).answer ≡ Ok n
      → let o = load e m (take n (compiled e.control.device r b out).output) in reconfigured_after e m r b out (compiled e.control.device r b out).answer
      ≡ record { «record» = o.«record»; memory = o.memory; output = (compiled e.control.device r b out).output; answer = Ok n }
  unfolding reconfigured_after
  accepted_so n w answered =
      let told = compiled_accepts e.control.device n r b out answered in
      let does = stream_effect e.control.device n r b bytes told.0 e m w in
      rw (answered, compiled_written e.control.device n r b out answered, told.2, does.effect.memory)

  abbrev KeepsPromise : Reconfigured → Type 0
  KeepsPromise x = Promised r b e m x.answer x.«record» x.memory

  after_keeps : AwaitsSync e.control.device e m → (v : Answer) → (compiled e.control.device r b out).answer ≡ v → KeepsPromise (reconfigured_after e m r b out v)
  unfolding reconfigured_after
  after_keeps w (Ok n) v =
      let does = stream_effect e.control.device n r b bytes (compiled_accepts e.control.device n r b out v).0 e m w in
      record {
        part = does.effect.part;
        consistent = does.effect.consistent;
        hunting = does.effect.hunting;
        partial = does.effect.partial;
        memory = refl;
        outside = λ k o. ap (frame_of (length_at e.control.device) k) (sym does.effect.memory) ∙ does.effect.outside k o;
      }
  after_keeps w (Err e) v = (refl, refl)

  pub promised : KeepsPromise (reconfigured e m r b out)
  unfolding reconfigured
  promised =
      either KeepsPromise (consistent e.phase e.control)
      (λ fits. either KeepsPromise (eqb (length m) (memory_at e.control.device))
      (λ room. either KeepsPromise (is_hunting e.phase) (λ hunts. after_keeps (awaits_sync fits (eqb-true _ _ room) hunts) _ refl) (λ busy. (refl, refl)))
      (λ other. (refl, refl)))
      (λ bad. (refl, refl))
