-- The lookups a run of columns at a time, as the code goes.
-- By induction on the length of the run, and by the place of a run among the six.
use Rattle.std.specs.Prelude.{◌≡◌, List, [], ◌∷◌, ◌++◌, Bool, true, false, ◌&&◌, eqb, leb, ltb, length, get_or, drop, Some, Result, Ok, Err}
use Rattle.std.proofs.Common.{◌∙◌, sym, ap, true≢false, le_of_suc-le-suc, not-suc-le-zero, mul-le-mul_right, add-zero, add-one, drop_of_length-le, drop-cons, lt-ltb, le-leb, eq-eqb, eqb-true, leb-true, ltb-true}
use Rattle.std.proofs.Math.Bool.{and-eq-true_iff}
use Prim.Native.Nat.{ℕ, zero, suc, ◌+◌, ◌-◌, ◌*◌, ◌≤◌, ◌<◌}
use Rattle.std.proofs.Math.Nat.{sub-zero}
use Rattle.std.proofs.Math.Decide.{dec_lt}
use native.Mathlib.Omega.{arith}
use Rattle.parts.specs.Inner.PartLimits.{Limits}
use Rattle.parts.specs.Columns.{Column, run, runs, columns_from, run_columns, columns_of, total}
use Rattle.parts.specs.FrameAddress.{address, address_in, number_in}
use Rattle.parts.specs.Laws.ColumnLookup.{address_here, address_later, number_here, number_later, names_frame, frame_names, fails}
use Rattle.parts.specs.declared.table.Part.{Part}
use Rattle.parts.specs.declared.frame.Run.{Run}
use Rattle.answers.specs.AnswerNumbers.{Answer}

-- every column of the run fits the fields of an address
pub record FieldsFit (r : Run) : Type 0 where
  pub block : r.block < 4
  pub majors : r.major + r.columns ≤ 256
  pub minors : r.minors ≤ 256

-- the answer where a search of a run ended so and these columns follow
unfoldable pub resumed : Result ℕ ℕ → List Column → Answer
resumed (Ok a) rest = Ok a
resumed (Err n) rest = address_in rest n

-- the frame at block b, major m, minor k is in the run
unfoldable pub in_run : Run → ℕ → ℕ → ℕ → Bool
in_run r b m k = eqb r.block b && leb r.major m && ltb m (r.major + r.columns) && ltb k r.minors

-- ---- a number among the columns of a run that are left after i of them

module _ (n b m k : ℕ) (rest : List Column) (i left : ℕ) where
  abbrev after : ℕ → List Column
  after j = columns_from (n - j) b (m + j) k ++ rest

  pub run_here : i < n → left < k → address_in (after i) left ≡ Ok (address b (m + i) left)
  unfolding columns_from
  run_here h l = let s : n - i ≡ suc (n - suc i) = omega arith in rw s (address_here _ _ left l)

  pub run_later : i < n → k ≤ left → address_in (after i) left ≡ address_in (after (i + 1)) (left - k)
  unfolding columns_from
  run_later h l =
      let s : n - i ≡ suc (n - (i + 1)) = omega arith in
      let t : m + i + 1 ≡ m + (i + 1) = omega arith in
      rw s (address_later _ _ left l ∙ rw t)

  pub run_end : n ≤ i → after i ≡ rest
  unfolding columns_from
  run_end h = let s : n - i ≡ 0 = omega arith in rw s

-- a number past the first j columns is looked for in those after them
pub run_past : (n b m k : ℕ) (rest : List Column) (left j : ℕ) → j ≤ n → j * k ≤ left
    → address_in (columns_from n b m k ++ rest) left ≡ address_in (columns_from (n - j) b (m + j) k ++ rest) (left - j * k)
run_past n b m k rest left zero h l = let z : left - 0 * k ≡ left = omega arith in simp (z, sub-zero, add-zero)
run_past n b m k rest left (suc j) h l =
    let s : left - suc j * k ≡ left - j * k - k = omega arith in
    let t : suc j ≡ j + 1 = omega arith in
    rw (s, t) (run_past n b m k rest left j (omega arith) (omega arith) ∙ run_later n b m k rest j (left - j * k) (omega arith) (omega arith))

-- ---- a frame of a run, and a frame that is not in it

pub in_run_frame : (r : Run) (B M K : ℕ) → in_run r B M K ≡ true → (r.block ≡ B) × (r.major ≤ M) × (M < r.major + r.columns) × (K < r.minors)
unfolding in_run
in_run_frame r B M K t =
    let abc = (and-eq-true_iff (eqb r.block B && leb r.major M && ltb M (r.major + r.columns)) (ltb K r.minors)).0 t in
    let ab = (and-eq-true_iff (eqb r.block B && leb r.major M) (ltb M (r.major + r.columns))).0 abc.0 in
    let a = (and-eq-true_iff (eqb r.block B) (leb r.major M)).0 ab.0 in
    (eqb-true _ _ a.0, leb-true _ _ a.1, ltb-true _ _ ab.1, ltb-true _ _ abc.1)

pub frame_in_run : (r : Run) (B M K : ℕ) → r.block ≡ B → r.major ≤ M → M < r.major + r.columns → K < r.minors → in_run r B M K ≡ true
unfolding in_run
frame_in_run r B M K b m n k = simp (eq-eqb _ _ b, le-leb _ _ m, lt-ltb _ _ n, lt-ltb _ _ k)

pub number_in_run : (n b m k : ℕ) (rest : List Column) (first B M K : ℕ) → b ≡ B → m ≤ M → M < m + n → K < k
    → number_in (columns_from n b m k ++ rest) first B M K ≡ Some (first + (M - m) * k + K)
unfolding columns_from
number_in_run zero b m k rest first B M K hb hm hn hk = absurd (omega arith)
number_in_run (suc n) b m k rest first B M K hb hm hn hk =
    elim (dec_lt m M) [
      | yes h ↦
          let s : M - m ≡ suc (M - (m + 1)) = omega arith in
          number_later _ _ first B M K (fails _ (λ t. omega (arith, (names_frame _ B M K t).1)))
          ∙ number_in_run n b (m + 1) k rest (first + k) B M K hb (omega arith) (omega arith) hk
          ∙ ap Some (rw s (omega arith))
      | no h ↦
          let e : m ≡ M = omega arith in
          let z : M - m ≡ 0 = omega arith in
          number_here _ _ first B M K (rw (← hb, ← e) (frame_names _ K hk))
          ∙ ap Some (rw z (omega arith))
    ]

pub number_past_run : (n b m k : ℕ) (rest : List Column) (first B M K : ℕ) → (b ≡ B → m ≤ M → M < m + n → K < k → ⊥)
    → number_in (columns_from n b m k ++ rest) first B M K ≡ number_in rest (first + n * k) B M K
unfolding columns_from
number_past_run zero b m k rest first B M K out = ap (λ f. number_in rest f B M K) (omega arith)
number_past_run (suc n) b m k rest first B M K out =
    number_later _ _ first B M K (fails _ (λ t. let named = names_frame _ B M K t in out named.0 (omega arith) (omega arith) named.2))
    ∙ number_past_run n b (m + 1) k rest (first + k) B M K (λ hb hm hn hk. out hb (omega arith) (omega arith) hk)
    ∙ ap (λ f. number_in rest f B M K) (omega arith)

-- the frames of a run
pub run_total : (n b m k : ℕ) (rest : List Column) → total (columns_from n b m k ++ rest) ≡ n * k + total rest
unfolding columns_from total
run_total zero b m k rest = omega arith
run_total (suc n) b m k rest = omega (arith, run_total n b (m + 1) k rest)

-- a frame of a run is among them
pub in_run_below : (n m k M K : ℕ) → M < m + n → m ≤ M → K < k → (M - m) * k + K < n * k
in_run_below n m k M K hn hm hk = let h : suc (M - m) ≤ n = omega arith in omega (arith, mul-le-mul_right k h)

-- ---- the runs of a part that are left after i of them

-- a run of the array is that of the list
pub run_in : (p : Part) (rs : List Run) (i : ℕ) → rs ≡ runs p → get_or rs i (run 0 0 0 0) ≡ get_or (runs p) i (run 0 0 0 0)
run_in p rs i e = ap (λ rs. get_or rs i (run 0 0 0 0)) e

pub runs_left : (p : Part) (i : ℕ) → i < 6 → columns_of (drop i (runs p)) ≡ run_columns (get_or (runs p) i (run 0 0 0 0)) ++ columns_of (drop (i + 1) (runs p))
unfolding columns_of runs
runs_left p i h = rw (add-one i, drop-cons (runs p) i (run 0 0 0 0) h)

-- a search of the next run resumes with the runs after it
module _ (p : Part) (i left : ℕ) (r : Run) (s : Result ℕ ℕ) (h : i < 6) (e : r ≡ get_or (runs p) i (run 0 0 0 0))
    (ended : (rest : List Column) → address_in (run_columns r ++ rest) left ≡ resumed s rest) where
  pub runs_found : (a : ℕ) → s ≡ Ok a → Ok a ≡ address_in (columns_of (drop i (runs p))) left
  unfolding resumed
  runs_found a k = rw (runs_left p i h, ← e, ended _, k)

  pub runs_past : (n : ℕ) → s ≡ Err n → address_in (columns_of (drop (i + 1) (runs p))) n ≡ address_in (columns_of (drop i (runs p))) left
  unfolding resumed
  runs_past n k = rw (runs_left p i h, ← e, ended _, k)

-- a frame that the next run has is found, and for any other the runs after it are looked through
module _ (p : Part) (i first : ℕ) (r : Run) (B M K : ℕ) (h : i < 6) (e : r ≡ get_or (runs p) i (run 0 0 0 0)) where
  pub runs_number : in_run r B M K ≡ true → Some (first + (M - r.major) * r.minors + K) ≡ number_in (columns_of (drop i (runs p))) first B M K
  runs_number t =
      let f = in_run_frame r B M K t in
      rw (runs_left p i h, ← e) (sym (number_in_run r.columns r.block r.major r.minors _ first B M K f.0 f.1 f.2 f.3))

  pub runs_no_number : in_run r B M K ≡ false → number_in (columns_of (drop (i + 1) (runs p))) (first + r.columns * r.minors) B M K ≡ number_in (columns_of (drop i (runs p))) first B M K
  runs_no_number t =
      rw (runs_left p i h, ← e)
      (sym (number_past_run r.columns r.block r.major r.minors _ first B M K (λ b m n k. true≢false (sym (frame_in_run r B M K b m n k) ∙ t))))

pub runs_total : (p : Part) (i : ℕ) (r : Run) → i < 6 → r ≡ get_or (runs p) i (run 0 0 0 0)
    → total (columns_of (drop i (runs p))) ≡ r.columns * r.minors + total (columns_of (drop (i + 1) (runs p)))
runs_total p i r h e = rw (runs_left p i h, ← e) (run_total r.columns r.block r.major r.minors _)

pub runs_end : (p : Part) (i : ℕ) → 6 ≤ i → columns_of (drop i (runs p)) ≡ []
unfolding columns_of runs
runs_end p i h = rw (drop_of_length-le (runs p) h)

-- every run of a part of the table fits the fields of an address
Every : (Run → Type 0) → List Run → Type 0
Every P [] = Unit {0}
Every P (r ∷ rs) = P r × Every P rs

every_at : (P : Run → Type 0) (rs : List Run) (z : Run) → Every P rs → (i : ℕ) → i < length rs → P (get_or rs i z)
unfolding Every
every_at P [] z e i h = absurd (not-suc-le-zero h)
every_at P (r ∷ rs) z e zero h = e.0
every_at P (r ∷ rs) z e (suc i) h = every_at P rs z e.1 i (le_of_suc-le-suc h)

pub runs_fit : (p : Part) → Limits p → (i : ℕ) → i < 6 → FieldsFit (get_or (runs p) i (run 0 0 0 0))
unfolding runs Every
runs_fit p l i h = every_at FieldsFit (runs p) _ (omega arith, (omega arith, (omega arith, (omega arith, (omega arith, (omega arith, tt)))))) i h
