-- What is accepted for some frames is accepted for more of them, with the same steps.
-- By induction over steps and targets: each view of what was read is one for the wider frames too, since only ownership differs.
use Rattle.std.specs.Prelude.{◌≡◌, Bool, true}
use Rattle.std.proofs.Math.Path.{refl}
use Prim.Native.Nat.{ℕ, zero, suc, ◌+◌, ◌≤◌, ◌<◌}
use Rattle.std.proofs.Common.{arith}
use mathlib.Core.List.{List}
use Rattle.std.proofs.Math.Bool.{and-eq-true_iff}
use Rattle.layout.specs.Ownership.{owns_run}
use Rattle.layout.specs.Step.{Step, Read}
use Rattle.layout.specs.StepReading.{targets_at, steps_at}
use Rattle.layout.specs.Layout.{layout_read}
use Rattle.layout.specs.Laws.StepViews.{WriteView, MultiView, target_view}
use Rattle.layout.specs.Laws.ViewConverse.{target_reads}
use Rattle.layout.specs.Laws.LayoutViews.{FirstStep, first_step, steps_read, layout_view, layout_reads}

module _ (l f : ℕ) (own wide : ℕ → Bool) (b : List ℕ) (more : (n : ℕ) → n < f → own n ≡ true → wide n ≡ true) where
  wider_run : (k n : ℕ) → n + k ≤ f → owns_run own k n ≡ true → owns_run wide k n ≡ true
  unfolding owns_run
  wider_run zero n inside o = refl
  wider_run (suc k) n inside o =
      let both = (and-eq-true_iff (own n) (owns_run own k (n + 1))).0 o in
      rw (more n (omega arith) both.0) (wider_run k (n + 1) (omega arith) both.1)

  wider_targets : (k low at : ℕ) (ts : List ℕ) (next : ℕ) → targets_at f own b k low at ≡ Read ts next → targets_at f wide b k low at ≡ Read ts next
  unfolding targets_at
  wider_targets zero low at ts next e = e
  wider_targets (suc k) low at ts next e =
      let v = target_view l f own b k low at ts next e in
      target_reads l f wide b k low at ts next record {
        target = v.target;
        rest = v.rest;
        after = v.after;
        split = v.split;
        target_read = v.target_read;
        rising = v.rising;
        part = v.part;
        owned = more v.target v.part v.owned;
        rest_read = wider_targets k (v.target + 1) v.after v.rest next v.rest_read;
      }

  wider_write : (at n k body next : ℕ) → WriteView l f own b at n k body next → WriteView l f wide b at n k body next
  wider_write at n k body next v =
      record {
        first = v.first;
        count = v.count;
        kind_read = v.kind_read;
        first_read = v.first_read;
        count_read_lem = v.count_read_lem;
        positive = v.positive;
        part = v.part;
        owned = wider_run k n v.part v.owned;
        size = v.size;
        within = v.within;
      }

  wider_multi : (at k body targets next : ℕ) → MultiView l f own b at k body targets next → MultiView l f wide b at k body targets next
  wider_multi at k body targets next v =
      record {
        count = v.count;
        kind_read = v.kind_read;
        count_read_lem = v.count_read_lem;
        positive = v.positive;
        part = v.part;
        place = v.place;
        room = v.room;
        list = v.list;
        list_read = wider_targets k 0 targets v.list next v.list_read;
      }

  wider_steps : (n at : ℕ) (ss : List Step) (next : ℕ) → steps_at l f own b n at ≡ Read ss next → steps_at l f wide b n at ≡ Read ss next
  unfolding steps_at wider_multi
  wider_steps zero at ss next e = e
  wider_steps (suc n) at ss next e = steps_read l f wide b n at ss next (go (first_step l f own b n at ss next e) (λ after rest. wider_steps n after rest next))
    where
      go : FirstStep l f own b n at ss next → ((after : ℕ) (rest : List Step) → steps_at l f own b n after ≡ Read rest next → steps_at l f wide b n after ≡ Read rest next)
          → FirstStep l f wide b n at ss next
      go (FirstStep.write first k body after rest v split r) later =
          FirstStep.write first k body after rest (wider_write at first k body after v) split (later after rest r)
      go (FirstStep.multi k body targets after rest v split r) later =
          FirstStep.multi k body targets after rest (wider_multi at k body targets after v) split (later after rest r)

-- what is accepted for the frames of own is accepted for those of wide
pub narrower : (l f d : ℕ) (own wide : ℕ → Bool) (b : List ℕ) (ss : List Step) (next : ℕ) → ((n : ℕ) → n < f → own n ≡ true → wide n ≡ true)
    → layout_read l f own b d ≡ Read ss next → layout_read l f wide b d ≡ Read ss next
narrower l f d own wide b ss next more e =
    let v = layout_view l f own b d ss next e in
    layout_reads l f wide b d ss next record {
      device = v.device;
      count = v.count;
      first = v.first;
      number = v.number;
      edition_read_lem = v.edition_read_lem;
      device_read_lem = v.device_read_lem;
      count_read_lem = v.count_read_lem;
      few = v.few;
      all_read = wider_steps l f own wide b more v.number v.first ss next v.all_read;
      end = v.end;
    }
