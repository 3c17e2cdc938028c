-- A phase that takes words is not stopped, and it gathers each byte into the partial word.
-- By the cases of the phase.
use Rattle.std.specs.Prelude.{◌≡◌, refl, true, false, ℕ}
use Rattle.std.proofs.Common.{sym}
use Rattle.std.proofs.lemmas.Bool.{false≢true}
use Rattle.config.specs.PhaseTests.{takes_words, is_stopped}
use Rattle.config.specs.StreamBytes.{gathered, byte}
use Rattle.config.specs.declared.Control.{Control}
use Rattle.config.specs.declared.Phase.{Phase}

pub takes_runs : (p : Phase) → takes_words p ≡ true → is_stopped p ≡ false
takes_runs (Phase.Hunting b) h = refl
takes_runs (Phase.Header o) h = refl
takes_runs (Phase.Data r left filled) h = refl
takes_runs Phase.Crc h = refl
takes_runs (Phase.Stopped s) h = sym h

pub takes_gathers : (p : Phase) (c : Control) (x : ℕ) → takes_words p ≡ true → byte p c x ≡ gathered c.partial p c x
unfolding byte
takes_gathers (Phase.Hunting b) c x h = absurd (false≢true h)
takes_gathers (Phase.Header o) c x h = refl
takes_gathers (Phase.Data r left filled) c x h = refl
takes_gathers Phase.Crc c x h = refl
takes_gathers (Phase.Stopped s) c x h = absurd (false≢true h)
