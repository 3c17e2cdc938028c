-- From a consistent record every store finds its frame in the memory, and no load touches the buffer's words from L on.
-- By the place that each event has from a consistent state: a word under L, a frame under F.
use Rattle.std.specs.Prelude.{◌≡◌, refl, List, true, ℕ, ◌+◌, ◌*◌, ◌≤◌, length, drop}
use Rattle.std.proofs.Common.{◌∙◌, ap, drop-set-lt}
use Rattle.parts.specs.Table.{length_at}
use Rattle.record.specs.Consistency.{consistent}
use Rattle.record.specs.Laws.StaysConsistent.{byte_consistent}
use Rattle.config.proofs.Laws.StaysSet.{byte_keeps}
use Rattle.record.specs.Laws.EventPlaces.{EventFits, byte_placed}
use Rattle.config.specs.declared.Control.{Control}
use Rattle.config.specs.declared.Event.{Event}
use Rattle.loader.specs.EventEffects.{buffered}
use Rattle.loader.specs.Run.{byte_transition, run}
use Rattle.parts.specs.Table.{memory_at}
use Rattle.loader.specs.Laws.Pieces.{run_invariant, Loadable}
use Rattle.parts.proofs.Laws.Figures.{frame_fits}
use Rattle.record.specs.declared.Record.{Record}

-- the frame that an event stores, of l words, lies in the memory
abbrev pub Lands : ℕ → List ℕ → Event → Type 0
Lands l m Event.Nothing = Unit {0}
Lands l m (Event.Keep at w) = Unit {0}
Lands l m (Event.KeepAndStore at w n) = 4 * l * n + 4 * l ≤ length m
Lands l m (Event.Store n) = 4 * l * n + 4 * l ≤ length m

lands : (c : Control) (m : List ℕ) (e : Event) → length m ≡ memory_at c.device → EventFits c e → Lands (length_at c.device) m e
lands c m Event.Nothing sized p = tt
lands c m (Event.Keep at w) sized p = tt
lands c m (Event.KeepAndStore at w n) sized p = rw sized (frame_fits c.device n p.target.inside)
lands c m (Event.Store n) sized p = rw sized (frame_fits c.device n p.target.inside)

-- so the memory after an event is `placed`'s wherever it stores
pub byte_lands : (d : Record) (m : List ℕ) (x : ℕ) → Loadable d m → Lands (length_at d.control.device) m (byte_transition d x).event
byte_lands d m x ok = lands d.control m (byte_transition d x).event ok.sized (byte_placed d.phase d.control x ok.fits)

spare : (l : ℕ) (c : Control) (e : Event) (f : List ℕ) → length_at c.device ≡ l → EventFits c e → drop l (buffered e f) ≡ drop l f
unfolding buffered
spare l c Event.Nothing f h p = refl
spare l c (Event.Keep at w) f h p = drop-set-lt l f at w (rw h at p.below)
spare l c (Event.KeepAndStore at w n) f h p = drop-set-lt l f at w (rw h at p.place.below)
spare l c (Event.Store n) f h p = refl

-- the record e of a run from d
record Spared (d e : Record) : Type 0 where
  fits : consistent e.phase e.control ≡ true
  same : e.control.device ≡ d.control.device
  words : drop (length_at d.control.device) e.frame ≡ drop (length_at d.control.device) d.frame

-- 01: "a frame in hand of 213 words, of which the first L count"
pub run_spares : (d : Record) (m xs : List ℕ) → consistent d.phase d.control ≡ true
    → drop (length_at d.control.device) (run d m xs).«record».frame ≡ drop (length_at d.control.device) d.frame
run_spares d m xs h =
    (run_invariant (λ e _. Spared d e)
    (λ e _ x _ i. record {
      fits = byte_consistent e.phase e.control x i.fits;
      same = (byte_keeps e.phase e.control x).device ∙ i.same;
      words = spare _ e.control (byte_transition e x).event e.frame (ap length_at i.same) (byte_placed e.phase e.control x i.fits) ∙ i.words;
    }) d m xs (record { fits = h; same = refl; words = refl })).words
