-- What every load keeps: a consistent record stays consistent, the four flags stay set, pieces join, and a stop keeps the frames
-- stored before. Each is a theorem of a byte or a word, carried over the bytes of a run.
use Rattle.std.specs.Prelude.{◌≡◌, refl, ◌≢◌, List, ◌∷◌, ◌++◌, Bool, true, false, ℕ, ◌≤◌, length, Ok}
use Rattle.std.proofs.Common.{◌∙◌, sym, ap, arith}
use Rattle.std.proofs.Math.Decide.{ℕ_discrete}
use Rattle.config.specs.PhaseTests.{is_stopped, takes_words}
use Rattle.config.specs.Laws.TakesWords.{takes_runs}
use Rattle.config.specs.ControlState.{with_partial, stopped}
use Rattle.record.specs.Consistency.{consistent}
use Rattle.record.specs.Laws.StaysConsistent.{byte_consistent}
use Rattle.config.proofs.Laws.StaysSet.{Grown, grown_refl, grown_trans, byte_keeps}
use Rattle.words.specs.WordsInBytes.{word_of}
use Rattle.config.proofs.Laws.StopLeaves.{left_at, left_partial, word_stops}
use Rattle.config.specs.StreamBytes.{byte}
use Rattle.config.specs.declared.Control.{Control}
use Rattle.config.specs.declared.Transition.{Transition}
use Rattle.answers.specs.declared.Stop.{Stop}
use Rattle.config.specs.declared.PartialWord.TheVariants as PartialWord
use Rattle.config.specs.declared.Phase.{Phase}
use Rattle.loader.specs.Run.{Ran, ran, run}
use Rattle.record.specs.PowerOn.{Outcome}
use Rattle.parts.specs.Table.{memory_at}
use Rattle.loader.specs.Load.{answer_of, load}
use Rattle.loader.specs.Laws.Pieces.{run_invariant, run_append, taken_le, taken_all, load_accepted, load_inconsistent, load_wrong_memory, load_cases, loadable_again, later, load_append}
use Rattle.loader.specs.Laws.WordRun.{partial_empty, word_transition}
use Rattle.loader.specs.Laws.WordRun.{word_stops as run_stops}
use Rattle.parts.proofs.Laws.Figures.{length_fits}
use Rattle.loader.specs.Laws.UntouchedFrames.{run_device, run_keeps}
use Rattle.record.specs.declared.Record.{Record}

pub run_consistent : (d : Record) (m xs : List ℕ) → consistent d.phase d.control ≡ true → consistent (run d m xs).«record».phase (run d m xs).«record».control ≡ true
run_consistent = run_invariant (λ e _. consistent e.phase e.control ≡ true) (λ e _ x _ i. byte_consistent e.phase e.control x i)

pub load_consistent : (d : Record) (m xs : List ℕ) → consistent d.phase d.control ≡ true → consistent (load d m xs).«record».phase (load d m xs).«record».control ≡ true
load_consistent d m xs h = load_cases (λ o. consistent o.«record».phase o.«record».control ≡ true) d m xs (run_consistent d m xs h) (λ a. h)

-- the bytes taken never exceed the piece
pub load_taken : (d : Record) (m xs : List ℕ) → (load d m xs).taken ≤ length xs
load_taken d m xs = load_cases (λ o. o.taken ≤ length xs) d m xs (taken_le d m xs) (λ a. omega arith)

-- and with stop 0 they are all of it
done_runs : (p : Phase) → answer_of p ≡ Ok tt → is_stopped p ≡ false
unfolding answer_of
done_runs (Phase.Hunting b) h = refl
done_runs (Phase.Header o) h = refl
done_runs (Phase.Data r left filled) h = refl
done_runs Phase.Crc h = refl
done_runs (Phase.Stopped s) h = let z : ◌≡◌ {A = ℕ} 0 1 = cc in absurd (omega arith)

pub load_all : (d : Record) (m xs : List ℕ) → (load d m xs).answer ≡ Ok tt → (load d m xs).taken ≡ length xs
load_all d m xs h = go (consistent d.phase d.control) refl
  where
    go : (t : Bool) → consistent d.phase d.control ≡ t → (load d m xs).taken ≡ length xs
    go false c = let z : ◌≡◌ {A = ℕ} 0 1 = cc (ap (λ (o : Outcome). o.answer) (load_inconsistent d m xs c)) in absurd (omega arith)
    go true c =
        elim (ℕ_discrete (length m) (memory_at d.control.device)) [
          | yes e ↦
              let ok = load_accepted d m xs (record { fits = c; sized = e }) in
              ap (λ (o : Outcome). o.taken) ok ∙ taken_all d m xs (done_runs _ (sym (ap (λ (o : Outcome). o.answer) ok) ∙ h))
          | no n ↦ let z : ◌≡◌ {A = ℕ} 0 1 = cc (ap (λ (o : Outcome). o.answer) (load_wrong_memory d m xs c n)) in absurd (omega arith)
        ]

-- no load clears started, buffer_valid, idcode_ok or flr_ok
pub run_grown : (d : Record) (m xs : List ℕ) → Grown d.control.flags (run d m xs).«record».control.flags
run_grown d m xs =
    run_invariant (λ e _. Grown d.control.flags e.control.flags)
    (λ e _ x _ i. grown_trans d.control.flags e.control.flags (byte e.phase e.control x).control.flags i (byte_keeps e.phase e.control x).flags) d m xs (grown_refl d.control.flags)

pub load_grown : (d : Record) (m xs : List ℕ) → Grown d.control.flags (load d m xs).«record».control.flags
load_grown d m xs = load_cases (λ o. Grown d.control.flags o.«record».control.flags) d m xs (run_grown d m xs) (λ a. grown_refl d.control.flags)

-- 01: "A load by pieces, cut at any byte, ends as the joined load"; the buffer of a record has 213 words
pub load_pieces : (d : Record) (m a b : List ℕ) → length d.frame ≡ 213
    → load d m (a ++ b) ≡ later (load d m a).taken (load (load d m a).«record» (load d m a).memory b)
load_pieces d m a b full =
    load_append d m a b
    (λ ok. loadable_again d m (run d m a) ok (run_consistent d m a ok.fits) (run_keeps _ d m a refl (omega (arith, length_fits d.control.device))).size (run_device d m a))

-- 01: "The bad word is dropped: not fed, not kept, with nothing in the record changed but the phase and an emptied part word.
-- Only at 8 it is fed first": a word that stops leaves the record as it was before it but for that, and the memory as it was
pub stop_leaves : (d : Record) (m : List ℕ) (a b c e : ℕ) (rest : List ℕ) (s : Stop)
    → takes_words d.phase ≡ true → d.control.partial ≡ PartialWord.Zero → (word_transition d (word_of a b c e)).phase ≡ Phase.Stopped s
    → run d m (a ∷ b ∷ c ∷ e ∷ rest) ≡ ran (record { phase = Phase.Stopped s; control = left_at s d.control (word_of a b c e); frame = d.frame }) m 4
stop_leaves d m a b c e rest s takes empty stops =
    let w = word_of a b c e in
    let all : word_transition d w ≡ stopped s (left_at s (with_partial PartialWord.Zero d.control) w) = word_stops d.phase (with_partial PartialWord.Zero d.control) w (takes_runs d.phase takes) s stops in
    run_stops d takes m a b c e rest s empty stops (ap (λ (f : Transition). f.event) all)
    ∙ ap (λ (k : Control). ran (record { phase = Phase.Stopped s; control = k; frame = d.frame }) m 4)
    (ap (λ (f : Transition). f.control) all ∙ sym (left_partial s PartialWord.Zero (with_partial PartialWord.Zero d.control) w) ∙ ap (λ (k : Control). left_at s k w) (partial_empty d.control empty))

module _ (d : Record) (m xs : List ℕ) (a b c e : ℕ) (rest : List ℕ) (s : Stop) where
  -- the word a, b, c, e stops the run after the bytes xs
  abbrev pub Stops : Type 0
  Stops =
      let k = (run d m xs).«record» in
      record { takes : takes_words k.phase ≡ true; empty : k.control.partial ≡ PartialWord.Zero; stops : (word_transition k (word_of a b c e)).phase ≡ Phase.Stopped s }

  -- 01: "Stops 1 to 10 keep frames stored before": the memory is what the bytes before the bad word have made of it
  pub stop_keeps : Stops → (run d m (xs ++ a ∷ b ∷ c ∷ e ∷ rest)).memory ≡ (run d m xs).memory
  stop_keeps h =
      ap (λ (r : Ran). r.memory) (run_append d m xs (a ∷ b ∷ c ∷ e ∷ rest))
      ∙ ap (λ (r : Ran). r.memory) (stop_leaves (run d m xs).«record» (run d m xs).memory a b c e rest s h.takes h.empty h.stops)

  -- so a loader that takes them back breaks the statement wherever they had changed a byte
  pub undoing_breaks : Stops → (run d m xs).memory ≢ m → (run d m (xs ++ a ∷ b ∷ c ∷ e ∷ rest)).memory ≢ m
  undoing_breaks h changed undone = changed (sym (stop_keeps h) ∙ undone)
