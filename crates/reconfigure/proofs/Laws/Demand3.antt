-- Demand 3: the stream that the compiler wrote, loaded into any record of its part that waits for sync, does the layout's steps.
-- The stream's words lead there; the reference machine does the steps that the check read; these name frames of the range alone.
use Rattle.std.specs.Prelude.{◌≡◌, List, true, ℕ, take, Ok}
use Rattle.std.proofs.Common.{◌∙◌}
use Rattle.std.proofs.Math.Path.{sym, ap}
use Rattle.std.proofs.Math.ListN.{length}
use Rattle.parts.specs.Table.{length_at, count_at, memory_at}
use Rattle.parts.proofs.Laws.Figures.{memory_size}
use Rattle.parts.specs.FrameMemory.{frame_of}
use Rattle.words.specs.Laws.ByteLists.{AreBytes}
use Rattle.config.specs.declared.PartialWord.{PartialWord}
use Rattle.config.specs.declared.Phase.TheVariants as Phase
use Rattle.record.specs.Consistency.{consistent}
use Rattle.record.specs.PowerOn.{Outcome}
use Rattle.record.specs.declared.Record.{Record}
use Rattle.layout.specs.Ownership.{owns}
use Rattle.layout.specs.Layout.{check}
use Rattle.layout.specs.ReferenceMachine.{steps_applied}
use Rattle.layout.specs.Laws.AcceptedSteps.{accepted_fits}
use Rattle.layout.specs.Laws.AcceptedLayout.{accepted, machine_done}
use Rattle.layout.specs.Laws.ByteFrames.{accepted_bytes}
use Rattle.layout.specs.Laws.UnownedFrames.{outside_kept}
use Rattle.layout.specs.declared.FrameRange.{FrameRange}
use Rattle.stream.specs.Stream.{stream}
use Rattle.compiler.specs.Compiled.{stream_of, stream_for, compiled}
use Rattle.compiler.proofs.Laws.CompilerAnswer.{accepted_length, compiled_accepts, compiled_written}
use Rattle.loader.specs.Run.{run, ran}
use Rattle.loader.specs.Load.{answer_of, finished, load}
use Rattle.loader.specs.Laws.Pieces.{load_accepted}
use Rattle.loader.specs.Laws.UntouchedFrames.{run_device}
use Rattle.loader.specs.Laws.LoadKeeps.{load_consistent}
use Rattle.reconfigure.specs.Promise.{Effect}
use Rattle.reconfigure.specs.Laws.WholeLoad.{stream_reaches, reaches_all}

-- a record of device d that waits for sync, with any bytes remembered and anything else that a consistent record may hold, and a
-- memory of the right length
pub record AwaitsSync (d : ℕ) (e : Record) (m : List ℕ) : Type 0 where
  pub part : e.control.device ≡ d
  pub consistent : consistent e.phase e.control ≡ true
  pub window : PartialWord
  pub hunting : e.phase ≡ Phase.Hunting window
  pub buffer : length e.frame ≡ 213
  pub memory : length m ≡ memory_at d

-- what demand 3 says of a load of n bytes
pub record LoadEffect (d n : ℕ) (r : FrameRange) (b : List ℕ) (m : List ℕ) (o : Outcome) : Type 0 where
  pub stop : o.answer ≡ Ok tt
  pub taken : o.taken ≡ n
  pub effect : Effect d r b m o.«record» o.memory

module _ (d n : ℕ) (r : FrameRange) (b : List ℕ) (bytes : AreBytes b) (taken : check d r b ≡ Ok n) where
  -- the stream of an accepted layout
  pub stream_effect : (e : Record) (m : List ℕ) → AwaitsSync d e m → LoadEffect d n r b m (load e m (stream_for d r b))
  unfolding stream_of answer_of
  stream_effect e m w =
      let t = accepted d n r b taken in
      let fits = accepted_fits (length_at d) (count_at d) (owns r) b d t.steps t.next t.was_read in
      let room = w.memory ∙ memory_size d in
      let end = stream_reaches d t.known (owns r) t.steps fits (accepted_bytes (length_at d) (count_at d) (owns r) b bytes d t.steps t.next t.was_read)
      w.window e.control e.frame m w.part w.buffer room in
      let hunting : e ≡ record { phase = Phase.Hunting w.window; control = e.control; frame = e.frame }
      = ap (λ p. record { phase = p; control = e.control; frame = e.frame }) w.hunting in
      let ran_so : run e m (stream d t.steps) ≡ ran end.next (steps_applied (length_at d) t.steps m) (length (stream d t.steps))
      = ap (λ (x : Record). run x m (stream d t.steps)) hunting ∙ reaches_all end.reaches in
      let same : stream_for d r b ≡ stream d t.steps = ap (stream_of d) t.was_read in
      let as_run = load_accepted e m (stream_for d r b) (record { fits = w.consistent; sized = rw w.part w.memory }) in
      let loaded : load e m (stream_for d r b) ≡ finished (ran end.next (steps_applied (length_at d) t.steps m) (length (stream d t.steps))) = rw (as_run, same, ran_so) in
      let made = machine_done d r b m t.steps t.next t.was_read in
      record {
        stop = rw (loaded, end.hunts);
        taken = ap (λ (o : Outcome). o.taken) loaded ∙ ap length (sym same) ∙ accepted_length d n r b taken;
        effect = record {
          part = ap (λ (o : Outcome). o.«record».control.device) as_run ∙ run_device e m (stream_for d r b) ∙ w.part;
          consistent = load_consistent e m (stream_for d r b) w.consistent;
          hunting = ap (λ (o : Outcome). o.«record».phase) loaded ∙ end.hunts;
          partial = ap (λ (o : Outcome). o.«record».control.partial) loaded ∙ end.empty;
          memory = ap (λ (o : Outcome). o.memory) loaded ∙ sym made;
          outside = λ k out.
              ap (λ (o : Outcome). frame_of (length_at d) k o.memory) loaded ∙ outside_kept (length_at d) (count_at d) (owns r) t.steps m k fits room out;
        };
      }

-- 01: "Accepted means that the compiler answers 0; the stream is the bytes it then wrote"
pub demand_3 : (d n : ℕ) (r : FrameRange) (b out : List ℕ) → AreBytes b → (compiled d r b out).answer ≡ Ok n
    → (e : Record) (m : List ℕ) → AwaitsSync d e m → LoadEffect d n r b m (load e m (take n (compiled d r b out).output))
demand_3 d n r b out bytes answered e m w =
    rw (compiled_written d n r b out answered) (stream_effect d n r b bytes (compiled_accepts d n r b out answered).0 e m w)
