-- At every byte of a stream, not at its end alone, each frame outside the range has the bytes that it had.
-- What a run stores does not depend on the memory. So the stream, begun anew on the memory that a part of it left, ends with the same
-- frame as from the memory before; and at its end a frame outside the range is as it was at the start, of both.
use Rattle.std.specs.Prelude.{◌≡◌, refl, ◌≢◌, List, [], ◌∷◌, ◌++◌, Bool, true, false, ℕ, ◌+◌, ◌*◌, ◌≤◌, length, take, set, eqb, Ok}
use Rattle.std.proofs.Common.{◌∙◌, sym, ap, arith, length-set}
use Rattle.std.proofs.Math.Decide.{dec_le}
use borrow.Author.Tests.{le-leb, lt-leb, eqb-true, eqb-false}
use Rattle.parts.specs.Table.{length_at}
use Rattle.parts.proofs.Laws.Figures.{length_fits}
use Rattle.words.specs.WordsInBytes.{bytes_of}
use Rattle.words.specs.Laws.ByteLists.{AreBytes}
use Rattle.parts.specs.FrameMemory.{frame_of, placed}
use Rattle.parts.specs.Laws.FramePlacing.{placed_length, placed_reads_back, placed_other}
use Rattle.config.specs.PhaseTests.{is_stopped}
use Rattle.config.proofs.Laws.StaysSet.{byte_keeps}
use Rattle.config.specs.declared.Event.{Event}
use Rattle.record.specs.declared.Record.{Record}
use Rattle.layout.specs.Ownership.{owns}
use Rattle.layout.specs.Layout.{check}
use Rattle.layout.specs.declared.FrameRange.{FrameRange}
use Rattle.compiler.specs.Compiled.{stream_for}
use Rattle.loader.specs.EventEffects.{store_within, stored}
use Rattle.loader.specs.Run.{byte_transition, run}
use Rattle.loader.specs.Load.{load}
use Rattle.loader.specs.Laws.Pieces.{next, next_memory, byte_run, stopped_run, run_append, load_accepted}
use Rattle.words.proofs.Laws.WordBytes.{first_bytes}
use Rattle.loader.specs.Laws.UntouchedFrames.{buffered_length, run_device, run_buffer, run_keeps}
use Rattle.reconfigure.proofs.Laws.Demand3.{AwaitsSync, stream_effect}

-- frame j of memory m' has the bytes that it has in m, or bytes x
data Near (l j : ℕ) (x m m' : List ℕ) : Type 0 where
  same : frame_of l j m' ≡ frame_of l j m → Near l j x m m'
  final : frame_of l j m' ≡ x → Near l j x m m'

record Pair (l j : ℕ) (x m m' : List ℕ) : Type 0 where
  size : length m' ≡ length m
  near : Near l j x m m'

-- ---- a store of the same words in both

module _ (l j n : ℕ) (x f m m' : List ℕ) (full : l ≤ length f) (p : Pair l j x m m') where
  other_near : {k k' : List ℕ} → frame_of l j k ≡ frame_of l j m → frame_of l j k' ≡ frame_of l j m' → Near l j x m m' → Near l j x k k'
  other_near h h' (Near.same e) = Near.same (h' ∙ e ∙ sym h)
  other_near h h' (Near.final e) = Near.final (h' ∙ e)

  place_near : 4 * l * n + 4 * l ≤ length m → Pair l j x (placed l n (bytes_of (take l f)) m) (placed l n (bytes_of (take l f)) m')
  place_near fits = record { size = placed_length l n _ m' fits' size ∙ p.size ∙ sym (placed_length l n _ m fits size); near = go (eqb n j) refl }
    where
      size : length (bytes_of (take l f)) ≡ 4 * l
      size = first_bytes l f full

      fits' : 4 * l * n + 4 * l ≤ length m'
      fits' = omega (arith, p.size)

      go : (t : Bool) → eqb n j ≡ t → Near l j x (placed l n (bytes_of (take l f)) m) (placed l n (bytes_of (take l f)) m')
      go true e = rw (← eqb-true n j e) (Near.same (placed_reads_back l n _ m' fits' size ∙ sym (placed_reads_back l n _ m fits size)))
      go false e =
          let apart : j ≢ n = λ h. eqb-false n j e (sym h) in
          other_near (placed_other l n _ m fits size j apart) (placed_other l n _ m' fits' size j apart) p.near

  store_near : Pair l j x (store_within l n f m) (store_within l n f m')
  unfolding store_within
  store_near =
      elim (dec_le (4 * l * n + 4 * l) (length m)) [
        | yes fits ↦ rw (le-leb (4 * l * n + 4 * l) (length m) fits, le-leb (4 * l * n + 4 * l) (length m') (omega (arith, p.size))) (place_near fits)
        | no out ↦ rw (lt-leb (4 * l * n + 4 * l) (length m) (omega arith), lt-leb (4 * l * n + 4 * l) (length m') (omega (arith, p.size))) p
      ]

event_near : (l j : ℕ) (x f m m' : List ℕ) (e : Event) → l ≤ length f → Pair l j x m m' → Pair l j x (stored l e f m) (stored l e f m')
unfolding stored
event_near l j x f m m' Event.Nothing full p = p
event_near l j x f m m' (Event.Keep at w) full p = p
event_near l j x f m m' (Event.KeepAndStore at w n) full p = store_near l j n x (set f at w) m m' (rw length-set full) p
event_near l j x f m m' (Event.Store n) full p = store_near l j n x f m m' full p

-- ---- a run from both

next_near : (l j : ℕ) (x : List ℕ) (d : Record) (m m' : List ℕ) (y : ℕ) → length_at d.control.device ≡ l → l ≤ length d.frame
    → Pair l j x m m' → Pair l j x (next_memory d m y) (next_memory d m' y)
next_near l j x d m m' y at full p = rw at (event_near l j x d.frame m m' (byte_transition d y).event full p)

near_ends : (l j : ℕ) (x m m' : List ℕ) → Near l j x m m' → x ≡ frame_of l j m → frame_of l j m' ≡ frame_of l j m
near_ends l j x m m' (Near.same e) h = e
near_ends l j x m m' (Near.final e) h = e ∙ h

-- where frame j has the bytes that it has in the other memory, or those that the other run ends with, both runs end with the same
run_near : (l j : ℕ) (d : Record) (m m' xs : List ℕ) → length_at d.control.device ≡ l → l ≤ length d.frame
    → Pair l j (frame_of l j (run d m xs).memory) m m' → frame_of l j (run d m' xs).memory ≡ frame_of l j (run d m xs).memory
unfolding run
run_near l j d m m' [] at full p = near_ends l j _ m m' p.near refl
run_near l j d m m' (y ∷ ys) at full p = go (is_stopped d.phase) refl p (run_near l j (next d y) (next_memory d m y) (next_memory d m' y) ys)
  where
    go : (t : Bool) → is_stopped d.phase ≡ t → Pair l j (frame_of l j (run d m (y ∷ ys)).memory) m m'
        → (length_at (next d y).control.device ≡ l → l ≤ length (next d y).frame
        → Pair l j (frame_of l j (run (next d y) (next_memory d m y) ys).memory) (next_memory d m y) (next_memory d m' y)
        → frame_of l j (run (next d y) (next_memory d m' y) ys).memory ≡ frame_of l j (run (next d y) (next_memory d m y) ys).memory)
        → frame_of l j (run d m' (y ∷ ys)).memory ≡ frame_of l j (run d m (y ∷ ys)).memory
    go true h p later =
        rw (stopped_run d m (y ∷ ys) h, stopped_run d m' (y ∷ ys) h)
        (near_ends l j _ m m' p.near (ap (λ r. frame_of l j r.memory) (stopped_run d m (y ∷ ys) h)))
    go false h p later =
        rw (byte_run d m y ys h, byte_run d m' y ys h)
        (later (rw (byte_keeps d.phase d.control y).device at) (rw buffered_length full)
        (next_near l j _ d m m' y at full (rw (byte_run d m y ys h) at p)))

-- the record after a run does not depend on the memory
run_blind : (d : Record) (m m' xs : List ℕ) → (run d m' xs).«record» ≡ (run d m xs).«record»
unfolding run
run_blind d m m' [] = refl
run_blind d m m' (y ∷ ys) = go (is_stopped d.phase) refl (run_blind (next d y) (next_memory d m y) (next_memory d m' y) ys)
  where
    go : (t : Bool) → is_stopped d.phase ≡ t → (run (next d y) (next_memory d m' y) ys).«record» ≡ (run (next d y) (next_memory d m y) ys).«record»
        → (run d m' (y ∷ ys)).«record» ≡ (run d m (y ∷ ys)).«record»
    go true h later = rw (stopped_run d m (y ∷ ys) h, stopped_run d m' (y ∷ ys) h)
    go false h later = rw (byte_run d m y ys h, byte_run d m' y ys h) later

-- ---- any part of a stream

module _ (d n : ℕ) (r : FrameRange) (b : List ℕ) (bytes : AreBytes b) (taken : check d r b ≡ Ok n) (e : Record) where
  -- the run of the stream, of any memory
  ended_as : (m : List ℕ) (k : ℕ) → AwaitsSync d e m → owns r k ≡ false → frame_of (length_at d) k (run e m (stream_for d r b)).memory ≡ frame_of (length_at d) k m
  ended_as m k w out =
      let loaded = load_accepted e m (stream_for d r b) (record { fits = w.consistent; sized = rw w.part w.memory }) in
      rw loaded at ((stream_effect d n r b bytes taken e m w).effect.outside k out)

  -- wherever the stream is cut, the part of it that was loaded has changed no byte outside the range
  pub never_outside : (m begun rest : List ℕ) (k : ℕ) → AwaitsSync d e m → stream_for d r b ≡ begun ++ rest → owns r k ≡ false
      → frame_of (length_at d) k (load e m begun).memory ≡ frame_of (length_at d) k m
  never_outside m begun rest k w cut out =
      let l = length_at d in
      let at : length_at e.control.device ≡ l = ap length_at w.part in
      let full : l ≤ length e.frame = omega (arith, length_fits d, w.buffer) in
      let half = (run e m begun).memory in
      let size : length half ≡ length m = (run_keeps l e m begun at full).size in
      let w' : AwaitsSync d e half = record { part = w.part; consistent = w.consistent; window = w.window; hunting = w.hunting; buffer = w.buffer; memory = size ∙ w.memory } in
      let again = run_near l k e m half begun at full (record { size = size; near = Near.final refl }) in
      let on = (run e m begun).«record» in
      let last = run_near l k on half (run e half begun).memory rest (ap length_at (run_device e m begun) ∙ at) (rw (run_buffer e m begun) full)
      (record { size = (run_keeps l e half begun at full).size; near = Near.same again }) in
      let first_so : frame_of l k (run on half rest).memory ≡ frame_of l k m
      = rw (cut, run_append e m begun rest) at (ended_as m k w out) in
      let again_so : frame_of l k (run on (run e half begun).memory rest).memory ≡ frame_of l k half
      = rw (cut, run_append e half begun rest, run_blind e m half begun) at (ended_as half k w' out) in
      let loaded = load_accepted e m begun (record { fits = w.consistent; sized = rw w.part w.memory }) in
      ap (λ o. frame_of l k o.memory) loaded ∙ sym again_so ∙ last ∙ first_so
