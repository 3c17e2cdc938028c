-- `parts::table::TablePart::number` meets its contract. The invariant goes by what is left: the runs not yet passed, with the number of
-- their first frame, give what all columns give, and the frames passed and left are F, so that no sum wraps.
use Rattle.std.specs.Prelude.{ℕ, true}
use mathlib.Core.Path.{◌≡◌, ◌∙◌, refl, sym, ap}
use Prim.Native.Nat.{◌+◌, ◌-◌, ◌*◌, ◌≤◌, ◌<◌}
use native.Mathlib.Omega.{arith}
use lib.ListN.{get_or, drop}
use Rattle.parts.specs.Table.{frame_count}
use Rattle.parts.proofs.Laws.PrintedFigures.{count_limit}
use Rattle.parts.specs.Columns.{run, runs, columns_of, total}
use Rattle.parts.specs.FrameAddress.{number_in}
use Rattle.parts.specs.declared.table.Part.{Part}
use Rattle.parts.specs.declared.frame.Run.{Run}
use Rattle.parts.specs.Inner.PartLimits.{Limits}
use Rattle.parts.specs.Inner.ColumnRuns.{in_run, in_run_frame, in_run_below, runs_number, runs_no_number, runs_total, runs_end, runs_fit}
use Rattle.parts.proofs.Laws.FrameNumbers.{frames_total}
use Rattle.parts.proofs.table.TablePart.number.Goals as goal

module _ (p : Part) (limits : Limits p) (i first : ℕ) (r : Run) (here : i < 6) (is : r ≡ get_or (runs p) i (run 0 0 0 0))
    (left : first + total (columns_of (drop i (runs p))) ≡ frame_count p) where
  -- the next run has the frame: its number is under F
  found : (block major minor : ℕ) → in_run r block major minor ≡ true
      → (r.major ≤ major) × (first + (major - r.major) * r.minors + minor < 1945)
  found block major minor t =
      let f = in_run_frame r block major minor t in (
        f.1,
        omega (
          arith,
          in_run_below r.columns r.major r.minors major minor f.2 f.1 f.3,
          runs_total p i r here is,
          count_limit p limits,
        ),
      )

  -- the frames of the runs up to and with the next are at most F
  passed : first + r.columns * r.minors ≤ 1945
  passed = omega (arith, runs_total p i r here is, count_limit p limits)

pub loop-i-init : goal.loop-i-init
loop-i-init c = (omega (arith, frames_total c.args.self.part), refl)

pub contains-requires : goal.contains-requires
contains-requires c = rw c.run-run.ensures (runs_fit _ c.args.self.limits _ (omega arith))

pub overflow_sub-result : goal.overflow_sub-result
overflow_sub-result c = (found c.args.self.part c.args.self.limits c.loop-i.i c.loop-i.first _ (omega arith) c.run-run.ensures c.loop-i.invariant.0 _ _ _ (sym c.contains.ensures ∙ c.if-contains.true)).0

pub overflow_mul-result : goal.overflow_mul-result
overflow_mul-result c = omega (arith, (found c.args.self.part c.args.self.limits c.loop-i.i c.loop-i.first _ (omega arith) c.run-run.ensures c.loop-i.invariant.0 _ _ _ (sym c.contains.ensures ∙ c.if-contains.true)).1)

pub overflow_add-result : goal.overflow_add-result
overflow_add-result c = omega (arith, (found c.args.self.part c.args.self.limits c.loop-i.i c.loop-i.first _ (omega arith) c.run-run.ensures c.loop-i.invariant.0 _ _ _ (sym c.contains.ensures ∙ c.if-contains.true)).1)

pub overflow_add-result-then-contains : goal.overflow_add-result-then-contains
overflow_add-result-then-contains c = omega (arith, (found c.args.self.part c.args.self.limits c.loop-i.i c.loop-i.first _ (omega arith) c.run-run.ensures c.loop-i.invariant.0 _ _ _ (sym c.contains.ensures ∙ c.if-contains.true)).1)

pub returns-then-contains : goal.returns-then-contains
returns-then-contains c =
    let l = c.loop-i in
    runs_number _ l.i l.first _ _ _ _ (omega arith) c.run-run.ensures (sym c.contains.ensures ∙ c.if-contains.true)
    ∙ l.invariant.1

pub overflow_mul-first : goal.overflow_mul-first
overflow_mul-first c = omega (arith, (passed c.args.self.part c.args.self.limits c.loop-i.i c.loop-i.first _ (omega arith) c.run-run.ensures c.loop-i.invariant.0))

pub overflow_add-first : goal.overflow_add-first
overflow_add-first c = omega (arith, (passed c.args.self.part c.args.self.limits c.loop-i.i c.loop-i.first _ (omega arith) c.run-run.ensures c.loop-i.invariant.0))

pub loop-i-preserved : goal.loop-i-preserved
loop-i-preserved c =
    let l = c.loop-i in
    let a = c.args in
    let e = c.run-run.ensures in (
      omega (arith, runs_total a.self.part l.i _ (omega arith) e, l.invariant.0),
      runs_no_number a.self.part l.i l.first _ a.block a.major a.minor (omega arith) e (sym c.contains.ensures ∙ c.if-contains.false)
          ∙ l.invariant.1,
    )

pub returns : goal.returns
unfolding number_in
returns c =
    let l = c.loop-i in
    let a = c.args in
    sym (ap (λ cs. number_in cs l.first a.block a.major a.minor) (runs_end a.self.part l.i (omega arith))) ∙ l.invariant.1
