-- The columns of a part stand in order and have F frames, and so frame number and frame address give each other.
-- Over C and B alone: each run of columns is in order and counts its frames, by induction on its length.
use Rattle.std.specs.Prelude.{◌≡◌, ℕ, zero, suc, ◌+◌, ◌^◌, ◌≤◌, ◌<◌, Some, Result, Ok, Err}
use Rattle.std.proofs.Common.{◌∙◌, sym, lt-ltb, le-ltb}
use Rattle.std.proofs.Math.Path.{refl, ap}
use mathlib.Core.List.{List, [], ◌∷◌, ◌++◌}
use Rattle.std.proofs.Math.Nat.{sub-zero}
use native.Mathlib.Omega.{arith}
use Rattle.std.proofs.Math.Decide.{dec_lt}
use Rattle.answers.specs.AnswerNumbers.{answer_value, refused, Answer}
use Rattle.answers.specs.declared.Refusal.{Refusal}
use Rattle.parts.specs.Table.{part_of, frame_count}
use Rattle.parts.proofs.Laws.PrintedFigures.{known_limits}
use Rattle.parts.specs.Columns.{Column, columns_from, runs, columns_of, columns, total}
use Rattle.parts.specs.FrameAddress.{address, block, major, minor, cleared, address_in, number_in, address_for, frame_address, address_at, number_for, frame_number}
use Rattle.parts.specs.Inner.ColumnRuns.{run_total}
use Rattle.parts.specs.Laws.ColumnRoundTrip.{place, InOrder, number_of_address, address_of_number, address_below, address_outside}
use Rattle.parts.specs.declared.table.Part.{Part}

weaken : (from from' : ℕ) (cs : List Column) → from ≤ from' → InOrder from' cs → InOrder from cs
weaken from from' [] h o = tt
weaken from from' (c ∷ cs) h o = (omega arith, o.1, o.2, o.3, o.4)

run_in_order : (n b m k from end : ℕ) (rest : List Column) → from ≤ place b m → b < 4 → m + n ≤ 256 → k ≤ 256
    → place b (m + n) ≤ end → InOrder end rest → InOrder from (columns_from n b m k ++ rest)
unfolding columns_from
run_in_order zero b m k from end rest hf hb hm hk he o = weaken from end rest (omega arith) o
run_in_order (suc n) b m k from end rest hf hb hm hk he o =
    (hf, hb, omega arith, hk, run_in_order n b (m + 1) k _ end rest (omega arith) hb (omega arith) hk (omega arith) o)

module _ (p : Part) where
  -- 01: "Frames F = 45 + 19C + 95B" are the frames of the columns
  pub frames_total : total (columns p) ≡ frame_count p
  unfolding columns_of runs frame_count total
  frames_total = simp run_total (omega arith)

  module _ (hc : p.columns + 5 ≤ 256) (hb : p.ram_columns ≤ 256) where
    in_order : InOrder 0 (columns p)
    unfolding columns_of runs
    in_order =
        run_in_order 1 0 0 3 0 1 _ (omega arith) (omega arith) (omega arith) (omega arith) (omega arith)
        (run_in_order 1 0 1 2 1 2 _ (omega arith) (omega arith) (omega arith) (omega arith) (omega arith)
        (run_in_order (p.columns + 2) 0 2 19 2 (p.columns + 4) _ (omega arith) (omega arith) (omega arith) (omega arith) (omega arith)
        (run_in_order 1 0 (p.columns + 4) 2 (p.columns + 4) 256 _ (omega arith) (omega arith) (omega arith) (omega arith) (omega arith)
        (run_in_order p.ram_columns 1 0 76 256 512 _ (omega arith) (omega arith) (omega arith) (omega arith) (omega arith)
        (run_in_order p.ram_columns 2 0 19 512 768 [] (omega arith) (omega arith) (omega arith) (omega arith) (omega arith)
        tt)))))

-- ---- the lookups by device number, in each case of the part

module _ (d : ℕ) (q : Result Part Refusal) (e : q ≡ part_of d) where
  -- where a number is not under F the search ends outside the part by itself
  pub address_known : (p : Part) (n : ℕ) → q ≡ Ok p → address_in (columns p) n ≡ frame_address d n
  unfolding address_for
  address_known p n k =
      elim (dec_lt n (frame_count p)) [
        | yes h ↦ rw (← e, k) (simp (lt-ltb n (frame_count p) h))
        | no h ↦ rw (← e, k) (simp (le-ltb n (frame_count p) (omega arith)) (address_outside (columns p) n (omega (arith, frames_total p))))
      ]

  pub address_unknown : (c : Refusal) (n : ℕ) → q ≡ Err c → Err (refused c 0) ≡ frame_address d n
  unfolding address_for
  address_unknown c n k = rw (← e, k)

  pub number_known : (p : Part) (a : ℕ) → q ≡ Ok p → Ok (number_in (columns p) 0 (block a) (major a) (minor a)) ≡ frame_number d a
  unfolding number_for
  number_known p a k = rw (← e, k)

  pub number_unknown : (c : Refusal) (a : ℕ) → q ≡ Err c → Err c ≡ frame_number d a
  unfolding number_for
  number_unknown c a k = rw (← e, k)

-- ---- what an answer says of the part

address_part : (q : Result Part Refusal) (n a : ℕ) → address_for q n ≡ Ok a → (p : Part) × (q ≡ Ok p) × (address_in (columns p) n ≡ Ok a)
unfolding address_for
address_part (Ok p) n a e =
    elim (dec_lt n (frame_count p)) [
      | yes h ↦ (p, refl, cc (lt-ltb n (frame_count p) h))
      | no h ↦ let z : ◌≡◌ {A = ℕ} 0 1 = cc (le-ltb n (frame_count p) (omega arith)) in absurd (omega arith)
    ]
address_part (Err c) n a e = let z : ◌≡◌ {A = ℕ} 0 1 = cc in absurd (omega arith)

number_part : (q : Result Part Refusal) (a n : ℕ) → number_for q a ≡ Ok (Some n) → (p : Part) × (q ≡ Ok p) × (number_in (columns p) 0 (block a) (major a) (minor a) ≡ Some n)
unfolding number_for
number_part (Ok p) a n e = (p, refl, cc)
number_part (Err c) a n e = let z : ◌≡◌ {A = ℕ} 0 1 = cc in absurd (omega arith)

-- ---- the theorems, for any device number

module _ (d : ℕ) where
  -- frame number to frame address to frame number
  pub number_address_number : (n a : ℕ) → frame_address d n ≡ Ok a → frame_number d a ≡ Ok (Some n)
  unfolding number_for
  number_address_number n a e =
      let f = address_part (part_of d) n a e in
      let l = known_limits d f.0 f.1 in
      rw f.1 (ap Ok (number_of_address 0 0 (columns f.0) n a (in_order f.0 (omega arith) (omega arith)) f.2 ∙ ap Some (omega arith)))

  -- every number found is under F, and has the address that gave it, with the ignored bits cleared
  pub number_below : (p : Part) (a n : ℕ) → part_of d ≡ Ok p → frame_number d a ≡ Ok (Some n) → n < frame_count p
  unfolding number_for
  number_below p a n k e =
      let found : number_in (columns p) 0 (block a) (major a) (minor a) ≡ Some n = cc (rw k at e) in
      omega (arith, (address_of_number (columns p) 0 (block a) (major a) (minor a) n found).below, frames_total p)

  pub address_number_address : (a n : ℕ) → frame_number d a ≡ Ok (Some n) → frame_address d n ≡ Ok (cleared a)
  unfolding address_for
  address_number_address a n e =
      let f = number_part (part_of d) a n e in
      let g = address_of_number (columns f.0) 0 (block a) (major a) (minor a) n f.2 in
      rw f.1 (simp (lt-ltb n (frame_count f.0) (number_below f.0 a n f.1 e)) ((rw (sub-zero n) at g.found)))

  -- an address has its fields alone
  pub address_fits : (n a : ℕ) → frame_address d n ≡ Ok a → a < 2 ^ 27
  unfolding address block major minor
  address_fits n a e =
      let fields : a ≡ cleared a = ap answer_value (sym e ∙ address_number_address a n (number_address_number n a e)) in
      rw fields (omega arith)

  -- distinct numbers have distinct addresses
  pub distinct : (n m a : ℕ) → frame_address d n ≡ Ok a → frame_address d m ≡ Ok a → n ≡ m
  distinct n m a e f = cc (number_address_number n a e, number_address_number m a f)

  -- every number under F has an address
  pub has_address : (p : Part) (n : ℕ) → part_of d ≡ Ok p → n < frame_count p → (a : ℕ) × (frame_address d n ≡ Ok a)
  unfolding address_for
  has_address p n k h =
      let f = address_below (columns p) n (omega (arith, frames_total p)) in
      (f.0, rw k (simp (lt-ltb n (frame_count p) h) f.1))

  -- the address at any number is a word: 0 where there is none
  pub address_small : (n : ℕ) → address_at d n < 2 ^ 27
  unfolding address_for
  address_small n = go (part_of d) refl
    where
      go : (q : Result Part Refusal) → part_of d ≡ q → answer_value (address_for q n) < 2 ^ 27
      go (Ok p) e =
          elim (dec_lt n (frame_count p)) [
            | yes h ↦ let f = has_address p n e h in let g : address_for (Ok p) n ≡ Ok f.0 = (rw e at f.1) in rw g (address_fits n f.0 f.1)
            | no h ↦ simp (le-ltb n (frame_count p) (omega arith)) (omega arith)
          ]
      go (Err c) e = omega arith

-- what a lookup tells is a word
pub told_small : (d n : ℕ) (a : Answer) → a ≡ frame_address d n → answer_value a < 2 ^ 27
told_small d n a e = rw e (address_small d n)
