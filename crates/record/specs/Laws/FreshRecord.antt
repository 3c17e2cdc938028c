-- Power-on, case by case: 21, 23, or done, with a memory of zeros and a record that is consistent.
-- By the part that the device number names; frame 0 is a frame of every part, since F is at least 45.
use Rattle.std.specs.Prelude.{◌≡◌, refl, ◌≢◌, List, true, ℕ, ◌≤◌, ◌<◌, length, replicate, Result, Ok, Err}
use Rattle.std.proofs.Common.{◌∙◌, sym, arith, lt-ltb, le-leb, eq-eqb, ne_eqb}
use Rattle.std.proofs.Math.Path.{ap}
use Rattle.parts.specs.Table.{part_of, frame_count, count_at, memory_at}
use Rattle.parts.proofs.Laws.Figures.{figures}
use Rattle.parts.specs.declared.table.Part.{Part}
use Rattle.answers.specs.declared.Refusal.{Refusal}
use Rattle.record.specs.Consistency.{current_fits, phase_fits, consistent}
use Rattle.record.specs.PowerOn.{fresh_control, fresh, not_powered, powered, power_on}

count_positive : (p : Part) → 0 < frame_count p
unfolding frame_count
count_positive p = omega arith

-- ---- power-on, case by case

module _ (d : ℕ) (m : List ℕ) (q : Result Part Refusal) (e : q ≡ part_of d) where
  pub power_no_part : (c : Refusal) → q ≡ Err c → not_powered c m ≡ power_on d m
  unfolding powered
  power_no_part c k = ap (λ (v : Result Part Refusal). powered v d m) (sym k ∙ e)

  pub power_wrong_memory : (p : Part) → q ≡ Ok p → length m ≢ memory_at d → not_powered Refusal.WrongMemory m ≡ power_on d m
  unfolding powered
  power_wrong_memory p k other = simp (ne_eqb _ _ other) at (ap (λ (v : Result Part Refusal). powered v d m) (sym k ∙ e))

  -- 01: "memory, registers and frame words zero, all flags clear, current frame 0, hunting"
  pub power_done : (p : Part) → q ≡ Ok p → length m ≡ memory_at d
      → record { «record» = fresh d; memory = replicate (memory_at d) 0; answer = Ok tt; taken = 0 } ≡ power_on d m
  unfolding powered
  power_done p k room = simp (eq-eqb _ _ room) at (ap (λ (v : Result Part Refusal). powered v d m) (sym k ∙ e))

pub powered_so : (d : ℕ) (m : List ℕ) → d ≤ 7 → length m ≡ memory_at d
    → power_on d m ≡ record { «record» = fresh d; memory = replicate (memory_at d) 0; answer = Ok tt; taken = 0 }
powered_so d m h room = let f = figures d h in sym (power_done d m (part_of d) refl f.part f.known room)

pub fresh_consistent : (d : ℕ) → d ≤ 7 → consistent (fresh d).phase (fresh d).control ≡ true
unfolding consistent current_fits phase_fits fresh fresh_control
fresh_consistent d h =
    let f = figures d h in
    let some : 0 < count_at d = omega (arith, f.count, count_positive f.part) in
    simp (le-leb d 7 h, lt-ltb 0 (count_at d) some)
