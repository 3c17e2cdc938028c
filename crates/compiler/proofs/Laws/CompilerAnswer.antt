-- What the compiler's answer tells: accepted, the check accepts, the stream has room and is written; refused, the output is kept.
-- By the cases of the check's answer; the length that an accepted check tells is the stream's.
use Rattle.std.proofs.Math.Path.{◌≡◌, refl, sym}
use Rattle.std.proofs.Common.{◌∙◌, ap, arith, take_at, lt-ltb, le-ltb, ltb-false}
use Rattle.std.specs.Prelude.{◌≢◌, List, true, ℕ, ◌≤◌, ◌<◌, ltb, length, take, Ok, Err}
use Rattle.parts.specs.Laws.Cases.{either}
use Rattle.parts.specs.Table.{length_at, count_at}
use Rattle.answers.specs.declared.Refusal.TheVariants as Refusal
use Rattle.layout.specs.Ownership.{owns}
use Rattle.layout.specs.Layout.{desk_layout, check}
use Rattle.layout.specs.Laws.AcceptedSteps.{accepted_fits}
use Rattle.layout.specs.Laws.AcceptedLayout.{is_read, accepted}
use Rattle.layout.specs.declared.FrameRange.{FrameRange}
use Rattle.stream.specs.Laws.StreamLength.{stream_length}
use Rattle.compiler.specs.Compiled.{stream_of, stream_for, Compiled, compiles, overwritten, compiled_after, compiled}
use Rattle.answers.specs.AnswerNumbers.{refused, Answer}

module _ (d n : ℕ) (r : FrameRange) (b : List ℕ) (e : check d r b ≡ Ok n) where
  -- the layout was read
  pub accepted_read : is_read (desk_layout d r b) ≡ true
  unfolding is_read
  accepted_read = rw (accepted d n r b e).was_read

  -- "success answers 0 and the stream's length"
  pub accepted_length : length (stream_for d r b) ≡ n
  unfolding stream_of
  accepted_length =
      let t = accepted d n r b e in
      rw t.was_read
      (stream_length d (count_at d) (owns r) t.steps (accepted_fits (length_at d) (count_at d) (owns r) b d t.steps t.next t.was_read) ∙ sym t.size)

-- "Accepted means that the compiler answers 0; the stream is the bytes it then wrote"
module _ (d n : ℕ) (r : FrameRange) (b out : List ℕ) where
  room_after : n ≤ length out → compiled_after (Ok n) d r b out ≡ compiles (Ok n) (overwritten (stream_for d r b) out)
  unfolding compiled_after
  room_after fits = rw (le-ltb (length out) n fits)

  short_after : length out < n → compiled_after (Ok n) d r b out ≡ compiles (Err (refused Refusal.ShortOutput n)) out
  unfolding compiled_after
  short_after short = rw (lt-ltb (length out) n short)

  pub accepts_compiled : check d r b ≡ Ok n → n ≤ length out → compiled d r b out ≡ compiles (Ok n) (overwritten (stream_for d r b) out)
  accepts_compiled e fits = ap (λ (v : Answer). compiled_after v d r b out) e ∙ room_after fits

  -- 36
  pub short_compiled : check d r b ≡ Ok n → length out < n → compiled d r b out ≡ compiles (Err (refused Refusal.ShortOutput n)) out
  short_compiled e short = ap (λ (v : Answer). compiled_after v d r b out) e ∙ short_after short

  abbrev Tells : Compiled → Type 0
  Tells c = c.answer ≡ Ok n → (check d r b ≡ Ok n) × (n ≤ length out) × (c.output ≡ overwritten (stream_for d r b) out)

  tells : (v : Answer) → check d r b ≡ v → Tells (compiled_after v d r b out)
  unfolding compiled_after
  tells (Ok m) e =
      either Tells (ltb (length out) m) (λ short k. let z : ◌≡◌ {A = ℕ} 0 1 = cc in absurd (omega arith))
      (λ long k. let same : m ≡ n = cc in (rw (← same) e, rw (← same) (ltb-false (length out) m long), refl))
  tells (Err x) e = λ k. let z : ◌≡◌ {A = ℕ} 0 1 = cc in absurd (omega arith)

  pub compiled_accepts : (compiled d r b out).answer ≡ Ok n
      → (check d r b ≡ Ok n) × (n ≤ length out) × ((compiled d r b out).output ≡ overwritten (stream_for d r b) out)
  compiled_accepts = tells (check d r b) refl

  -- it stands first in the output
  pub compiled_written : (compiled d r b out).answer ≡ Ok n → take n (compiled d r b out).output ≡ stream_for d r b
  compiled_written answered =
      let told = compiled_accepts answered in
      ap (take n) told.2 ∙ take_at (stream_for d r b) _ n (accepted_length d n r b told.0)

-- "No refusal touches the output"
module _ (d : ℕ) (r : FrameRange) (b out : List ℕ) where
  abbrev KeepsOutput : Compiled → Type 0
  KeepsOutput c = ((n : ℕ) → c.answer ≢ Ok n) → c.output ≡ out

  keeps : (v : Answer) → KeepsOutput (compiled_after v d r b out)
  unfolding compiled_after
  keeps (Ok n) = either KeepsOutput (ltb (length out) n) (λ short k. refl) (λ long k. absurd (k n refl))
  keeps (Err e) = λ k. refl

  pub refused_keeps : KeepsOutput (compiled d r b out)
  refused_keeps = keeps (check d r b)
