-- A load by pieces, cut at any byte, ends as the joined load; a stopped record takes nothing; a refusal changes nothing.
-- By induction on the first piece: from a stop on nothing changes, and before it each byte is one step of both runs.
use Rattle.std.specs.Prelude.{◌≡◌, refl, ◌≢◌, List, [], ◌∷◌, ◌++◌, Bool, true, false, ℕ, suc, ◌+◌, ◌≤◌, eqb, length, Err}
use Rattle.std.proofs.Common.{◌∙◌, sym, ap, zero-add, add_assoc, one-add, arith}
use borrow.Author.Tests.{eq-eqb, ne_eqb, eqb-true, eqb-false}
use Rattle.record.specs.Consistency.{consistent}
use Rattle.config.specs.PhaseTests.{is_stopped}
use Rattle.config.specs.declared.Phase.{Phase}
use Rattle.answers.specs.declared.Refusal.{Refusal}
use Rattle.answers.specs.declared.Stop.{Stop}
use Rattle.loader.specs.Run.{byte_transition, record_after, memory_after, Ran, ran, after, run}
use Rattle.record.specs.PowerOn.{Outcome}
use Rattle.parts.specs.Table.{memory_at}
use Rattle.loader.specs.Load.{answer_of, refused, finished, load}
use Rattle.record.specs.declared.Record.{Record}
use Rattle.answers.specs.declared.LoadError.{LoadError}

-- ---- a run

-- 01: "A stopped device takes nothing"
pub stopped_run : (d : Record) (m xs : List ℕ) → is_stopped d.phase ≡ true → run d m xs ≡ ran d m 0
unfolding run
stopped_run d m [] h = refl
stopped_run d m (x ∷ xs) h = rw h

-- the record and the memory after one byte
abbrev pub next : Record → ℕ → Record
next d x = record_after (byte_transition d x) d

abbrev pub next_memory : Record → List ℕ → ℕ → List ℕ
next_memory d m x = memory_after (byte_transition d x) d m

-- a byte that is taken
pub byte_run : (d : Record) (m : List ℕ) (x : ℕ) (xs : List ℕ) → is_stopped d.phase ≡ false
    → run d m (x ∷ xs) ≡ after 1 (run (next d x) (next_memory d m x) xs)
unfolding run
byte_run d m x xs h = rw h

-- what holds of a run that ends at once, and of a byte and the run after it, holds of every run
pub run_induction : (P : Record → List ℕ → List ℕ → Ran → Type 0)
    → ((d : Record) (m : List ℕ) → P d m [] (ran d m 0))
    → ((d : Record) (m xs : List ℕ) → is_stopped d.phase ≡ true → P d m xs (ran d m 0))
    → ((d : Record) (m : List ℕ) (x : ℕ) (xs : List ℕ) (r : Ran) → is_stopped d.phase ≡ false → P (next d x) (next_memory d m x) xs r → P d m (x ∷ xs) (after 1 r))
    → (d : Record) (m xs : List ℕ) → P d m xs (run d m xs)
unfolding run
run_induction P end stop step d m [] = end d m
run_induction P end stop step d m (x ∷ xs) = go (is_stopped d.phase) refl (run_induction P end stop step (next d x) (next_memory d m x) xs)
  where
    go : (t : Bool) → is_stopped d.phase ≡ t → P (next d x) (next_memory d m x) xs (run (next d x) (next_memory d m x) xs) → P d m (x ∷ xs) (run d m (x ∷ xs))
    go true h ih = rw h (stop d m (x ∷ xs) h)
    go false h ih = rw h (step d m x xs _ h ih)

-- what every byte that is taken keeps, a run keeps
pub run_invariant : (P : Record → List ℕ → Type 0)
    → ((d : Record) (m : List ℕ) (x : ℕ) → is_stopped d.phase ≡ false → P d m → P (next d x) (next_memory d m x))
    → (d : Record) (m xs : List ℕ) → P d m → P (run d m xs).«record» (run d m xs).memory
run_invariant P step =
    run_induction (λ d m xs r. P d m → P r.«record» r.memory) (λ d m i. i) (λ d m xs h i. i) (λ d m x xs r h later i. later (step d m x h i))

pub after_zero : (r : Ran) → after 0 r ≡ r
after_zero r = ap (ran r.«record» r.memory) (zero-add r.taken)

pub after_after : (j k : ℕ) (r : Ran) → after j (after k r) ≡ after (j + k) r
after_after j k r = ap (ran r.«record» r.memory) (sym (add_assoc j k r.taken))

-- 01: "A load by pieces, cut at any byte, ends as the joined load"
pub run_append : (d : Record) (m a b : List ℕ) → run d m (a ++ b) ≡ after (run d m a).taken (run (run d m a).«record» (run d m a).memory b)
run_append d m a b =
    run_induction (λ d m a r. run d m (a ++ b) ≡ after r.taken (run r.«record» r.memory b))
    (λ d m. sym (after_zero (run d m b)))
    (λ d m a h. rw (stopped_run d m (a ++ b) h, stopped_run d m b h))
    (λ d m x a r h later. byte_run d m x (a ++ b) h ∙ ap (after 1) later ∙ after_after 1 r.taken _)
    d m a

pub taken_le : (d : Record) (m xs : List ℕ) → (run d m xs).taken ≤ length xs
taken_le = run_induction (λ d m xs r. r.taken ≤ length xs) (λ d m. omega arith) (λ d m xs h. omega arith) (λ d m x xs r h later. omega arith)

-- a run that is not stopped has taken every byte
pub taken_all : (d : Record) (m xs : List ℕ) → is_stopped (run d m xs).«record».phase ≡ false → (run d m xs).taken ≡ length xs
taken_all =
    run_induction (λ d m xs r. is_stopped r.«record».phase ≡ false → r.taken ≡ length xs)
    (λ d m n. refl)
    (λ d m xs h n. let z : ◌≡◌ {A = ℕ} 0 1 = cc in absurd (omega arith))
    (λ d m x xs r h later n. one-add r.taken ∙ ap suc (later n))

-- ---- a load

-- the record and the memory that no load refuses
pub record Loadable (d : Record) (m : List ℕ) : Type 0 where
  pub fits : consistent d.phase d.control ≡ true
  pub sized : length m ≡ memory_at d.control.device

module _ (d : Record) (m xs : List ℕ) where
  pub load_accepted : Loadable d m → load d m xs ≡ finished (run d m xs)
  unfolding load
  load_accepted h = rw (h.fits, eq-eqb _ _ h.sized)

  -- 01: "Refusals 21 to 23 change no memory and hand the same record back"; "taken is 0"
  pub load_inconsistent : consistent d.phase d.control ≡ false → load d m xs ≡ refused Refusal.Inconsistent d m
  unfolding load
  load_inconsistent h = rw h

  pub load_wrong_memory : consistent d.phase d.control ≡ true → length m ≢ memory_at d.control.device → load d m xs ≡ refused Refusal.WrongMemory d m
  unfolding load
  load_wrong_memory h n = rw (h, ne_eqb _ _ n)

  -- 01: "A stopped device takes nothing and answers the same number"
  pub load_stopped : (s : Stop) → Loadable d m → d.phase ≡ Phase.Stopped s
      → load d m xs ≡ record { «record» = d; memory = m; answer = Err (LoadError.Stopped s); taken = 0 }
  unfolding answer_of
  load_stopped s h p = rw (load_accepted h, stopped_run d m xs (ap is_stopped p), p)

-- a load is the run, or a refusal whatever the bytes are
pub data LoadCase (d : Record) (m : List ℕ) : Type 0 where
  accepts : Loadable d m → LoadCase d m
  refuses : (c : Refusal) → ((xs : List ℕ) → load d m xs ≡ refused c d m) → LoadCase d m

pub load_case : (d : Record) (m : List ℕ) → LoadCase d m
load_case d m = go (consistent d.phase d.control) (eqb (length m) (memory_at d.control.device)) refl refl
  where
    go : (s t : Bool) → consistent d.phase d.control ≡ s → eqb (length m) (memory_at d.control.device) ≡ t → LoadCase d m
    go true true h e = LoadCase.accepts (record { fits = h; sized = eqb-true _ _ e })
    go true false h e = LoadCase.refuses Refusal.WrongMemory (λ xs. load_wrong_memory d m xs h (eqb-false _ _ e))
    go false t h e = LoadCase.refuses Refusal.Inconsistent (λ xs. load_inconsistent d m xs h)

-- what holds of the run and of every refusal holds of the load
pub load_cases : (P : Outcome → Type 0) (d : Record) (m xs : List ℕ) → P (finished (run d m xs)) → ((c : Refusal) → P (refused c d m)) → P (load d m xs)
load_cases P d m xs ran_so refused_so = go (load_case d m)
  where
    go : LoadCase d m → P (load d m xs)
    go (LoadCase.accepts ok) = rw (load_accepted d m xs ok) ran_so
    go (LoadCase.refuses a no_load) = rw (no_load xs) (refused_so a)

-- no load refuses what is left of a record and a memory that none refused
pub loadable_again : (d : Record) (m : List ℕ) (r : Ran) → Loadable d m → consistent r.«record».phase r.«record».control ≡ true
    → length r.memory ≡ length m → r.«record».control.device ≡ d.control.device → Loadable r.«record» r.memory
loadable_again d m r h c l n = record { fits = c; sized = rw n (l ∙ h.sized) }

-- with n bytes taken before
abbrev pub later : ℕ → Outcome → Outcome
later n o = record { «record» = o.«record»; memory = o.memory; answer = o.answer; taken = n + o.taken }

-- 01: "A load by pieces, cut at any byte, ends as the joined load", refused or not: record, memory, answer, and bytes taken in all
pub load_append : (d : Record) (m a b : List ℕ) → (Loadable d m → Loadable (run d m a).«record» (run d m a).memory)
    → load d m (a ++ b) ≡ later (load d m a).taken (load (load d m a).«record» (load d m a).memory b)
load_append d m a b again = go (load_case d m)
  where
    go : LoadCase d m → load d m (a ++ b) ≡ later (load d m a).taken (load (load d m a).«record» (load d m a).memory b)
    go (LoadCase.accepts ok) = rw (load_accepted d m (a ++ b) ok, load_accepted d m a ok, load_accepted _ _ b (again ok), run_append d m a b)
    go (LoadCase.refuses r no_load) = rw (no_load (a ++ b), no_load a, no_load b)
