-- A load changes no byte of a frame that none of its stores names, and keeps the memory's length.
-- By induction on the bytes: each byte's event stores at most one frame, and a store changes only the frame that it names.
use Rattle.std.specs.Prelude.{◌≡◌, refl, ◌≢◌, false, cond, ℕ, ◌+◌, ◌*◌, ◌≤◌, length, set}
use Rattle.std.proofs.Common.{◌∙◌, arith, le-leb}
use mathlib.Core.List.Memᴰ
use mathlib.Core.List.{List, [], ◌∷◌, ◌++◌, Memᴰ}
use Rattle.std.proofs.Math.Decide.{dec_le}
use Rattle.std.proofs.Math.ListN.{length-set}
use Rattle.std.proofs.lemmas.Bool.{lt-leb}
use Rattle.parts.specs.Table.{length_at}
use Rattle.config.specs.PhaseTests.{is_stopped}
use Rattle.config.proofs.Laws.StaysSet.{byte_keeps}
use Rattle.config.specs.declared.Event.{Event}
use Rattle.loader.specs.EventEffects.{store_within, buffered, stored}
use Rattle.loader.specs.Run.{byte_transition, run}
use Rattle.loader.specs.Load.{load}
use Rattle.loader.specs.Laws.Pieces.{next, next_memory, run_induction, run_invariant, load_cases}
use Rattle.parts.specs.FrameMemory.{frame_of}
use Rattle.parts.specs.Laws.FramePlacing.{placed_length, placed_other}
use Rattle.words.proofs.Laws.WordBytes.{first_bytes}
use Rattle.record.specs.declared.Record.{Record}

-- the frame that an event stores
unfoldable pub stores_of : Event → List ℕ
stores_of Event.Nothing = []
stores_of (Event.Keep at w) = []
stores_of (Event.KeepAndStore at w n) = n ∷ []
stores_of (Event.Store n) = n ∷ []

-- the frames that the stores of a run name, in order
unfoldable pub stores : Record → List ℕ → List ℕ
stores d [] = []
stores d (x ∷ xs) = cond (is_stopped d.phase) [] (stores_of (byte_transition d x).event ++ stores (next d x) xs)

-- frame k is not among them
abbrev pub Apart : ℕ → List ℕ → Type 0
Apart k ns = (n : ℕ) → Memᴰ n ns → k ≢ n

-- a memory of frames of l words after stores that name the frames ns
pub record Untouched (l : ℕ) (ns m m' : List ℕ) : Type 0 where
  pub size : length m' ≡ length m
  pub frames : (k : ℕ) → Apart k ns → frame_of l k m' ≡ frame_of l k m

untouched_same : {l : ℕ} {ns m : List ℕ} → Untouched l ns m m
untouched_same = record { size = refl; frames = λ k apart. refl }

untouched_on : {l : ℕ} {ns ns' m m' m'' : List ℕ} → Untouched l ns m m' → Untouched l ns' m' m'' → Untouched l (ns ++ ns') m m''
untouched_on {ns} {ns'} a b = record {
  size = b.size ∙ a.size;
  frames = λ k apart. b.frames k (λ n i. apart n (Memᴰ.append_right ns i)) ∙ a.frames k (λ n i. apart n (Memᴰ.append_left ns' i));
}

-- ---- one event

pub buffered_length : (e : Event) (f : List ℕ) → length (buffered e f) ≡ length f
unfolding buffered
buffered_length Event.Nothing f = refl
buffered_length (Event.Keep at w) f = length-set f at w
buffered_length (Event.KeepAndStore at w n) f = length-set f at w
buffered_length (Event.Store n) f = refl

module _ (l : ℕ) (m : List ℕ) where
  store_keeps : (n : ℕ) (f : List ℕ) → l ≤ length f → Untouched l (n ∷ []) m (store_within l n f m)
  unfolding store_within
  store_keeps n f full =
      elim (dec_le (4 * l * n + 4 * l) (length m)) [
        | yes fit ↦
            rw (le-leb (4 * l * n + 4 * l) (length m) fit)
            (record { size = placed_length l n _ m fit (first_bytes l f full); frames = λ k apart. placed_other l n _ m fit (first_bytes l f full) k (apart n (Memᴰ.head refl)) })
        | no out ↦ rw (lt-leb (4 * l * n + 4 * l) (length m) (omega arith)) untouched_same
      ]

  pub stored_keeps : (e : Event) (f : List ℕ) → l ≤ length f → Untouched l (stores_of e) m (stored l e f m)
  unfolding stored stores_of
  stored_keeps Event.Nothing f full = untouched_same
  stored_keeps (Event.Keep at w) f full = untouched_same
  stored_keeps (Event.KeepAndStore at w n) f full = store_keeps n (set f at w) (rw length-set full)
  stored_keeps (Event.Store n) f full = store_keeps n f full

-- ---- a run and a load

pub run_device : (d : Record) (m xs : List ℕ) → (run d m xs).«record».control.device ≡ d.control.device
run_device d m xs = run_invariant (λ e _. e.control.device ≡ d.control.device) (λ e _ x _ i. (byte_keeps e.phase e.control x).device ∙ i) d m xs refl

pub run_buffer : (d : Record) (m xs : List ℕ) → length (run d m xs).«record».frame ≡ length d.frame
run_buffer d m xs = run_invariant (λ e _. length e.frame ≡ length d.frame) (λ e _ x _ i. buffered_length (byte_transition e x).event e.frame ∙ i) d m xs refl

stores_step : (d : Record) (x : ℕ) (xs : List ℕ) → is_stopped d.phase ≡ false → stores d (x ∷ xs) ≡ stores_of (byte_transition d x).event ++ stores (next d x) xs
unfolding stores
stores_step d x xs h = rw h

module _ (l : ℕ) where
  pub run_keeps : (d : Record) (m xs : List ℕ) → length_at d.control.device ≡ l → l ≤ length d.frame → Untouched l (stores d xs) m (run d m xs).memory
  run_keeps =
      run_induction (λ d m xs r. length_at d.control.device ≡ l → l ≤ length d.frame → Untouched l (stores d xs) m r.memory)
      (λ d m hl full. untouched_same)
      (λ d m xs h hl full. untouched_same)
      (λ d m x xs r h later hl full.
      let e = (byte_transition d x).event in
      let here : Untouched l (stores_of e) m (next_memory d m x) = rw hl (stored_keeps l m e d.frame full) in
      rw (stores_step d x xs h) (untouched_on here (later (rw (byte_keeps d.phase d.control x).device hl) (rw buffered_length full))))

  -- a load that is refused changes nothing
  pub load_keeps : (d : Record) (m xs : List ℕ) → length_at d.control.device ≡ l → l ≤ length d.frame → Untouched l (stores d xs) m (load d m xs).memory
  load_keeps d m xs hl full = load_cases (λ o. Untouched l (stores d xs) m o.memory) d m xs (run_keeps d m xs hl full) (λ a. untouched_same)
