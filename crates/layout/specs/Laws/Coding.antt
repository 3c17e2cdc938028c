-- A layout's steps have one coding: the bytes of an accepted layout are the code of its steps, and reading that code gives the steps.
-- By induction over steps and targets, over the bytes from an offset on: each number, frame and target is followed by the rest.
use Rattle.std.specs.Prelude.{◌≡◌, refl, Bool, take, Ok}
use Rattle.std.proofs.Common.{◌∙◌, add-zero, mul-zero, mul-suc, add_comm, arith, lit<, length-append, length-drop, drop_of_length-le, drop_at}
use Rattle.std.proofs.Math.Path.{sym, ap, subst}
use Prim.Native.Nat.{ℕ, zero, suc, ◌+◌, ◌*◌, ◌^◌, ◌≤◌, ◌<◌}
use Rattle.std.proofs.Math.Nat.{le_refl}
use mathlib.Core.List.{List, [], ◌∷◌, ◌++◌, append-nil, append_assoc, flatten, flat_map}
use Rattle.std.proofs.Math.ListN.{length, drop, take-append-drop}
use Rattle.std.proofs.Math.Seq.{take_at, drop-drop, drop-append_seam}
use Rattle.words.specs.Laws.ByteLists.{AreBytes}
use Rattle.numbers.specs.Number.{read, number_at}
use Rattle.numbers.specs.Laws.ShortestForm.{code, read_code, number_spans, code_read}
use Rattle.layout.specs.Step.{Step, FrameWrite, MultiFrameWrite, Read, frames}
use Rattle.layout.specs.StepReading.{targets_at, steps_at}
use Rattle.layout.specs.Layout.{most_steps, layout_read}
use Rattle.layout.specs.Laws.StepViews.{WriteView, MultiView, target_view}
use Rattle.layout.specs.Laws.ViewConverse.{target_reads}
use Rattle.layout.specs.Laws.LayoutViews.{FirstStep, first_step, steps_read, layout_view, layout_reads}
use Rattle.layout.specs.Laws.AcceptedSteps.{Sized, Targets, FitsWrite, FitsMulti, Fits, AllFit, frames_length, targets_fit, steps_fit}

-- ---- the code

-- 01: "Step kind 1: first frame, count k (at least 1), k frames of bytes. Kind 2: count k (1 to F), one frame of bytes, k frame numbers"
unfoldable pub code_step : Step → List ℕ
code_step (FrameWrite n fs) = code 1 ++ (code n ++ (code (length fs) ++ flatten fs))
code_step (MultiFrameWrite x ts) = code 2 ++ (code (length ts) ++ (x ++ flat_map code ts))

-- 01: "A layout: edition 1, device, step count (at most 4096), steps, end"
unfoldable pub code_layout : ℕ → List Step → List ℕ
code_layout d ss = code 1 ++ (code d ++ (code (length ss) ++ flat_map code_step ss))

-- ---- frames, one after the other

frames_split : (l k : ℕ) (xs : List ℕ) → xs ≡ flatten (frames l k xs) ++ drop (4 * l * k) xs
unfolding frames flatten
frames_split l zero xs = rw mul-zero
frames_split l (suc k) xs =
    let front = take (4 * l) xs in
    let others = drop (4 * l) xs in
    rw (append_assoc front (flatten (frames l k others)) (drop (4 * l * suc k) xs), mul-suc (4 * l) k, add_comm (4 * l * k) (4 * l), ← drop-drop (4 * l * k) (4 * l) xs, ← frames_split l k others)
    (sym (take-append-drop (4 * l) xs))

frames_joined : (l : ℕ) (fs : List (List ℕ)) (rest : List ℕ) → Sized l fs → frames l (length fs) (flatten fs ++ rest) ≡ fs
unfolding frames flatten
frames_joined l [] rest sized = refl
frames_joined l (x ∷ xs) rest sized =
    rw (append_assoc x (flatten xs) rest, take_at x (flatten xs ++ rest) (4 * l) sized.0, drop_at x (flatten xs ++ rest) (4 * l) sized.0, frames_joined l xs rest sized.1)

joined_length : (l : ℕ) (fs : List (List ℕ)) → Sized l fs → length (flatten fs) ≡ 4 * l * length fs
unfolding flatten
joined_length l [] sized = omega arith
joined_length l (x ∷ xs) sized = omega (arith, length-append x (flatten xs), sized.0, joined_length l xs sized.1)

-- ---- the bytes of an accepted layout

module _ (l f : ℕ) (own : ℕ → Bool) (b : List ℕ) (bytes : AreBytes b) where
  targets_coded : (k low at : ℕ) (ts : List ℕ) (next : ℕ) → targets_at f own b k low at ≡ Read ts next → drop at b ≡ flat_map code ts ++ drop next b
  unfolding targets_at flat_map
  targets_coded zero low at ts next e = cc
  targets_coded (suc k) low at ts next e =
      let v = target_view l f own b k low at ts next e in
      let others = targets_coded k (v.target + 1) v.after v.rest next v.rest_read in
      rw (v.split, append_assoc (code v.target) (flat_map code v.rest) (drop next b), ← others) (code_read b at v.target v.after bytes v.target_read)

  write_coded : (at n k body next : ℕ) → WriteView l f own b at n k body next → drop at b ≡ code_step (FrameWrite n (frames l k (drop body b))) ++ drop next b
  unfolding code_step
  write_coded at n k body next v =
      simp (
        append_assoc,
        frames_length l k (drop body b),
        v.size,
        ← drop-drop (4 * l * k) body b,
        ← frames_split l k (drop body b),
        ← code_read b v.count k body bytes v.count_read_lem,
        ← code_read b v.first n v.count bytes v.first_read,
        ← code_read b at 1 v.first bytes v.kind_read,
      )

  multi_coded : (at k body targets next : ℕ) (v : MultiView l f own b at k body targets next)
      → drop at b ≡ code_step (MultiFrameWrite (take (4 * l) (drop body b)) v.list) ++ drop next b
  unfolding code_step
  multi_coded at k body targets next v =
      simp (
        append_assoc,
        (targets_fit l f own b k 0 targets v.list next v.list_read).0,
        ← targets_coded k 0 targets v.list next v.list_read,
        v.place,
        ← drop-drop (4 * l) body b,
        take-append-drop (4 * l) (drop body b),
        ← code_read b v.count k body bytes v.count_read_lem,
        ← code_read b at 2 v.count bytes v.kind_read,
      )

  steps_coded : (n at : ℕ) (ss : List Step) (next : ℕ) → steps_at l f own b n at ≡ Read ss next → drop at b ≡ flat_map code_step ss ++ drop next b
  unfolding steps_at flat_map
  steps_coded zero at ss next e = cc
  steps_coded (suc n) at ss next e = go (first_step l f own b n at ss next e) (λ after rest. steps_coded n after rest next)
    where
      go : FirstStep l f own b n at ss next → ((after : ℕ) (rest : List Step) → steps_at l f own b n after ≡ Read rest next → drop after b ≡ flat_map code_step rest ++ drop next b)
          → drop at b ≡ flat_map code_step ss ++ drop next b
      go (FirstStep.write first k body after rest v split r) later =
          rw (split, append_assoc (code_step (FrameWrite first (frames l k (drop body b)))) (flat_map code_step rest) (drop next b), ← later after rest r) (write_coded at first k body after v)
      go (FirstStep.multi k body targets after rest v split r) later =
          rw (split, append_assoc (code_step (MultiFrameWrite (take (4 * l) (drop body b)) v.list)) (flat_map code_step rest) (drop next b), ← later after rest r) (multi_coded at k body targets after v)

  -- no two byte strings are accepted for the same device and steps
  pub layout_coded : (d : ℕ) (ss : List Step) (next : ℕ) → layout_read l f own b d ≡ Read ss next → b ≡ code_layout d ss
  unfolding code_layout
  layout_coded d ss next e =
      let v = layout_view l f own b d ss next e in
      let all : flat_map code_step ss ≡ drop v.first b = sym (steps_coded v.number v.first ss next v.all_read ∙ rw (drop_of_length-le b v.end) (append-nil _)) in
      simp (
        all,
        (steps_fit l f own b v.number v.first ss next v.all_read).0,
        ← code_read b v.count v.number v.first bytes v.count_read_lem,
        ← code_read b v.device d v.count bytes v.device_read_lem,
        ← code_read b 0 1 v.device bytes v.edition_read_lem,
      )

-- ---- reading the code

-- the offset after parts that lie one after the other
after_both : (at : ℕ) (x y : List ℕ) → at + length x + length y ≡ at + length (x ++ y)
after_both at x y = omega (arith, length-append x y)

after_four : (at : ℕ) (w x y z : List ℕ) → at + length w + length x + length y + length z ≡ at + length (w ++ (x ++ (y ++ z)))
after_four at w x y z = simp (after_both, append_assoc)

module _ (b : List ℕ) where
  -- what follows x, which begins at an offset
  past : (at : ℕ) (x rest : List ℕ) → drop at b ≡ x ++ rest → drop (at + length x) b ≡ rest
  past at x rest e = rw (← drop-drop (length x) at b, e) (drop-append_seam x rest)

  reaches : (at : ℕ) (x rest : List ℕ) → at ≤ length b → drop at b ≡ x ++ rest → at + length x ≤ length b
  reaches at x rest h e = omega (arith, length-drop at b, ap length e, length-append x rest)

  code_reads : (n at : ℕ) (rest : List ℕ) → n < 2 ^ 32 → drop at b ≡ code n ++ rest → number_at b at ≡ Ok (read n (at + length (code n)))
  code_reads n at rest h e = rw e (read_code n at rest h)

module _ (l f : ℕ) (own : ℕ → Bool) (b : List ℕ) (small : f < 2 ^ 32) where
  targets_read_lem : (ts : List ℕ) (low at : ℕ) (rest : List ℕ) → Targets l f own low ts → drop at b ≡ flat_map code ts ++ rest
      → targets_at f own b (length ts) low at ≡ Read ts (at + length (flat_map code ts))
  unfolding targets_at flat_map
  targets_read_lem [] low at rest fit e = ap (Read []) (sym (add-zero at))
  targets_read_lem (t ∷ ts) low at rest fit e =
      let here : drop at b ≡ code t ++ (flat_map code ts ++ rest) = e ∙ append_assoc (code t) (flat_map code ts) rest in
      target_reads l f own b (length ts) low at (t ∷ ts) _ record {
        target = t;
        rest = ts;
        after = at + length (code t);
        split = refl;
        target_read = code_reads b t at (flat_map code ts ++ rest) (omega (arith, fit.1)) here;
        rising = fit.0;
        part = fit.1;
        owned = fit.2;
        rest_read = rw (← after_both at (code t) (flat_map code ts)) (targets_read_lem ts (t + 1) (at + length (code t)) rest fit.3 (past b at (code t) _ here));
      }

  write_read : (n : ℕ) (fs : List (List ℕ)) (ss : List Step) (at next : ℕ) (rest : List ℕ) → FitsWrite l f own n fs → drop at b ≡ code_step (FrameWrite n fs) ++ rest
      → steps_at l f own b (length ss) (at + length (code_step (FrameWrite n fs))) ≡ Read ss next → FirstStep l f own b (length ss) at (FrameWrite n fs ∷ ss) next
  unfolding code_step
  write_read n fs ss at next rest fit e later =
      let k = length fs in
      let first = at + length (code 1) in
      let count = first + length (code n) in
      let body = count + length (code k) in
      let kind_here : drop at b ≡ code 1 ++ (code n ++ (code k ++ (flatten fs ++ rest))) = e ∙ simp append_assoc in
      let first_here = past b at (code 1) _ kind_here in
      let count_here = past b first (code n) _ first_here in
      let frames_here = past b count (code k) _ count_here in
      let size = joined_length l fs fit.sized in
      let counted = code_reads b k count _ (omega (arith, fit.part)) count_here in
      FirstStep.write n k body (at + length (code_step (FrameWrite n fs))) ss record {
        first = first;
        count = count;
        kind_read = code_reads b 1 at _ (lit< tt) kind_here;
        first_read = code_reads b n first _ (omega (arith, fit.part)) first_here;
        count_read_lem = counted;
        positive = fit.positive;
        part = fit.part;
        owned = fit.owned;
        size = omega (arith, after_four at (code 1) (code n) (code k) (flatten fs), size);
        within = rw (← after_four at (code 1) (code n) (code k) (flatten fs)) (reaches b body (flatten fs) rest (number_spans b count k body counted).within frames_here);
      } (rw (frames_here, frames_joined l fs rest fit.sized)) later

  multi_read : (x ts : List ℕ) (ss : List Step) (at next : ℕ) (rest : List ℕ) → FitsMulti l f own x ts → drop at b ≡ code_step (MultiFrameWrite x ts) ++ rest
      → steps_at l f own b (length ss) (at + length (code_step (MultiFrameWrite x ts))) ≡ Read ss next → FirstStep l f own b (length ss) at (MultiFrameWrite x ts ∷ ss) next
  unfolding code_step
  multi_read x ts ss at next rest fit e later =
      let k = length ts in
      let count = at + length (code 2) in
      let body = count + length (code k) in
      let kind_here : drop at b ≡ code 2 ++ (code k ++ (x ++ (flat_map code ts ++ rest))) = e ∙ simp append_assoc in
      let count_here = past b at (code 2) _ kind_here in
      let frame_here = past b count (code k) _ count_here in
      let counted = code_reads b k count _ (omega (arith, fit.part)) count_here in
      let targets_here : drop (body + 4 * l) b ≡ flat_map code ts ++ rest = rw (← fit.size) (past b body x _ frame_here) in
      FirstStep.multi k body (body + 4 * l) (at + length (code_step (MultiFrameWrite x ts))) ss record {
        count = count;
        kind_read = code_reads b 2 at _ (lit< tt) kind_here;
        count_read_lem = counted;
        positive = fit.positive;
        part = fit.part;
        place = refl;
        room = rw (← fit.size) (reaches b body x _ (number_spans b count k body counted).within frame_here);
        list = ts;
        list_read = rw (← after_four at (code 2) (code k) x (flat_map code ts), fit.size) (targets_read_lem ts 0 (body + 4 * l) rest fit.targets targets_here);
      } (rw (frame_here, take_at x _ (4 * l) fit.size)) later

  first_read : (s : Step) (ss : List Step) (at next : ℕ) (rest : List ℕ) → Fits l f own s → drop at b ≡ code_step s ++ rest
      → steps_at l f own b (length ss) (at + length (code_step s)) ≡ Read ss next → FirstStep l f own b (length ss) at (s ∷ ss) next
  first_read (FrameWrite n fs) ss at next rest fit e later = write_read n fs ss at next rest fit e later
  first_read (MultiFrameWrite x ts) ss at next rest fit e later = multi_read x ts ss at next rest fit e later

  all_read : (ss : List Step) (at : ℕ) (rest : List ℕ) → AllFit l f own ss → drop at b ≡ flat_map code_step ss ++ rest
      → steps_at l f own b (length ss) at ≡ Read ss (at + length (flat_map code_step ss))
  unfolding steps_at flat_map
  all_read [] at rest fit e = ap (Read []) (sym (add-zero at))
  all_read (s ∷ ss) at rest fit e =
      let here : drop at b ≡ code_step s ++ (flat_map code_step ss ++ rest) = e ∙ append_assoc (code_step s) (flat_map code_step ss) rest in
      steps_read l f own b (length ss) at (s ∷ ss) _
      (first_read s ss at _ (flat_map code_step ss ++ rest) fit.0 here
      (rw (← after_both at (code_step s) (flat_map code_step ss)) (all_read ss (at + length (code_step s)) rest fit.1 (past b at (code_step s) _ here))))

  layout_read_lem : (d : ℕ) (ss : List Step) → d < 2 ^ 32 → AllFit l f own ss → length ss ≤ most_steps → b ≡ code_layout d ss → layout_read l f own b d ≡ Read ss (length b)
  unfolding code_layout
  layout_read_lem d ss h fit few e =
      let device = 0 + length (code 1) in
      let count = device + length (code d) in
      let first = count + length (code (length ss)) in
      let device_here = past b 0 (code 1) _ e in
      let count_here = past b device (code d) _ device_here in
      let steps_here = past b count (code (length ss)) _ count_here in
      let total : first + length (flat_map code_step ss) ≡ length b = omega (arith, after_four 0 (code 1) (code d) (code (length ss)) (flat_map code_step ss), ap length e) in
      layout_reads l f own b d ss (length b) record {
        device = device;
        count = count;
        first = first;
        number = length ss;
        edition_read_lem = code_reads b 1 0 _ (lit< tt) e;
        device_read_lem = code_reads b d device _ h device_here;
        count_read_lem = code_reads b (length ss) count _ (omega arith) count_here;
        few = few;
        all_read = subst (λ next. steps_at l f own b (length ss) first ≡ Read ss next) total (all_read ss first [] fit (steps_here ∙ sym (append-nil _)));
        end = le_refl (length b);
      }

-- every list of steps that fit has a layout
pub coded_read : (l f : ℕ) (own : ℕ → Bool) (d : ℕ) (ss : List Step) → f < 2 ^ 32 → d < 2 ^ 32 → AllFit l f own ss → length ss ≤ most_steps
    → layout_read l f own (code_layout d ss) d ≡ Read ss (length (code_layout d ss))
coded_read l f own d ss small h fit few = layout_read_lem l f own (code_layout d ss) small d ss h fit few refl
