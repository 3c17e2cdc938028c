-- Each answer of a reconfiguration, by what leads to it.
-- By the tests of the definition, one after the other.
use Rattle.std.specs.Prelude.{ℕ, ◌≡◌, ◌≢◌, List, true, false, length, Ok, Err}
use Rattle.std.proofs.Math.Path.{refl}
use borrow.Author.Tests.{eq-eqb, ne_eqb}
use Rattle.config.specs.PhaseTests.{is_hunting}
use Rattle.parts.specs.Table.{memory_at}
use Rattle.answers.specs.declared.Refusal.TheVariants as Refusal
use Rattle.record.specs.Consistency.{consistent}
use Rattle.record.specs.declared.Record.{Record}
use Rattle.layout.specs.declared.FrameRange.{FrameRange}
use Rattle.compiler.specs.Compiled.{compiled}
use Rattle.reconfigure.specs.Reconfigured.{unchanged, reconfigured_after, reconfigured}
use Rattle.answers.specs.AnswerNumbers.{refused, Answer}

module _ (e : Record) (m : List ℕ) (r : FrameRange) (b out : List ℕ) where
  pub inconsistent_so : consistent e.phase e.control ≡ false → reconfigured e m r b out ≡ unchanged e m r b out (Err (refused Refusal.Inconsistent 0))
  unfolding reconfigured
  inconsistent_so bad = rw bad

  pub wrong_memory_so : consistent e.phase e.control ≡ true → length m ≢ memory_at e.control.device → reconfigured e m r b out ≡ unchanged e m r b out (Err (refused Refusal.WrongMemory 0))
  unfolding reconfigured
  wrong_memory_so fits other = rw (fits, ne_eqb _ _ other)

  module _ (fits : consistent e.phase e.control ≡ true) (room : length m ≡ memory_at e.control.device) where
    pub not_hunting_so : is_hunting e.phase ≡ false → reconfigured e m r b out ≡ unchanged e m r b out (Err (refused Refusal.NotHunting 0))
    unfolding reconfigured
    not_hunting_so busy = rw (fits, eq-eqb _ _ room, busy)

    pub compiled_so : is_hunting e.phase ≡ true → reconfigured e m r b out ≡ reconfigured_after e m r b out (compiled e.control.device r b out).answer
    unfolding reconfigured
    compiled_so hunts = rw (fits, eq-eqb _ _ room, hunts)

  -- a refused compile
  pub refused_so : (v : Answer) → ((n : ℕ) → v ≢ Ok n) → reconfigured_after e m r b out v ≡ unchanged e m r b out v
  unfolding reconfigured_after
  refused_so (Ok n) never = absurd (never n refl)
  refused_so (Err e) never = refl
