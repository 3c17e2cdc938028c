-- Two layouts one after the other, and a stream with any bytes after it.
-- A load leaves a record that waits for sync again, so the next stream finds what demand 3 asks; a load by pieces is the joined load.
use Rattle.std.specs.Prelude.{◌≡◌, refl, List, ◌++◌, false, ℕ, ◌+◌, ◌≤◌, length, Ok}
use Rattle.std.proofs.Common.{◌∙◌, ap, arith}
use Rattle.parts.specs.Table.{length_at}
use Rattle.parts.proofs.Laws.Figures.{length_fits}
use Rattle.parts.specs.FrameMemory.{frame_of}
use Rattle.words.specs.Laws.ByteLists.{AreBytes}
use Rattle.config.specs.declared.PartialWord.TheVariants as PartialWord
use Rattle.record.specs.declared.Record.{Record}
use Rattle.layout.specs.Ownership.{owns}
use Rattle.layout.specs.Layout.{check}
use Rattle.layout.specs.ReferenceMachine.{machine}
use Rattle.layout.specs.declared.FrameRange.{FrameRange}
use Rattle.compiler.specs.Compiled.{stream_for}
use Rattle.loader.specs.Load.{load}
use Rattle.loader.specs.Laws.Pieces.{load_accepted, later}
use Rattle.loader.specs.Laws.UntouchedFrames.{run_buffer, load_keeps}
use Rattle.loader.specs.Laws.LoadKeeps.{load_pieces}
use Rattle.reconfigure.proofs.Laws.Demand3.{AwaitsSync, stream_effect}

module _ (d n : ℕ) (r : FrameRange) (b : List ℕ) (bytes : AreBytes b) (taken : check d r b ≡ Ok n) (e : Record) (m : List ℕ) (w : AwaitsSync d e m) where
  -- the record and the memory that the load leaves
  abbrev pub left : Record
  left = (load e m (stream_for d r b)).«record»

  abbrev pub made : List ℕ
  made = (load e m (stream_for d r b)).memory

  -- they wait for the next stream
  pub waits_again : AwaitsSync d left made
  waits_again =
      let does = stream_effect d n r b bytes taken e m w in
      let loaded = load_accepted e m (stream_for d r b) (record { fits = w.consistent; sized = rw w.part w.memory }) in
      let room : length_at e.control.device ≤ length e.frame = omega (arith, length_fits e.control.device, w.buffer) in
      record {
        part = does.effect.part;
        consistent = does.effect.consistent;
        window = PartialWord.Zero;
        hunting = does.effect.hunting;
        buffer = ap (λ o. length o.«record».frame) loaded ∙ run_buffer e m (stream_for d r b) ∙ w.buffer;
        memory = (load_keeps (length_at e.control.device) e m (stream_for d r b) refl room).size ∙ w.memory;
      }

  -- whatever follows the stream: at its end the record waits for sync, and no byte outside the range has changed
  pub stream_first : (rest : List ℕ) → load e m (stream_for d r b ++ rest) ≡ later n (load left made rest)
  stream_first rest = rw (← (stream_effect d n r b bytes taken e m w).taken) (load_pieces e m (stream_for d r b) rest w.buffer)

  pub outside_stays : (k : ℕ) → owns r k ≡ false → frame_of (length_at d) k made ≡ frame_of (length_at d) k m
  outside_stays = (stream_effect d n r b bytes taken e m w).effect.outside

  -- another accepted layout, for any range: the reference machine one after the other
  pub then_another : (n' : ℕ) (r' : FrameRange) (b' : List ℕ) → AreBytes b' → check d r' b' ≡ Ok n'
      → ((load left made (stream_for d r' b')).answer ≡ Ok tt) × ((load left made (stream_for d r' b')).memory ≡ machine d b' (machine d b m))
  then_another n' r' b' bytes' taken' =
      let next = stream_effect d n' r' b' bytes' taken' left made waits_again in
      (next.stop, next.effect.memory ∙ ap (machine d b') (stream_effect d n r b bytes taken e m w).effect.memory)

  -- and so the two streams as one
  pub both : (n' : ℕ) (r' : FrameRange) (b' : List ℕ) → AreBytes b' → check d r' b' ≡ Ok n'
      → let o = load e m (stream_for d r b ++ stream_for d r' b') in (o.answer ≡ Ok tt) × (o.taken ≡ n + n') × (o.memory ≡ machine d b' (machine d b m))
  both n' r' b' bytes' taken' =
      let next = then_another n' r' b' bytes' taken' in
      let all = (stream_effect d n' r' b' bytes' taken' left made waits_again).taken in
      rw (stream_first (stream_for d r' b')) (next.0, ap (λ (j : ℕ). n + j) all, next.1)
