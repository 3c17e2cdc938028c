-- FFFFFFFF and the sync word end the hunt, whatever window the record holds.
-- Byte by byte: four bytes FF leave nothing of the window, and then the sync word's four bytes are the last four.
use Rattle.std.specs.Prelude.{◌≡◌, List, [], ◌∷◌, ℕ, None}
use Rattle.std.proofs.Common.{◌∙◌, arith}
use Rattle.std.proofs.Math.Path.{refl, ap}
use Rattle.std.proofs.Math.Bool.{and-false}
use Rattle.words.specs.WordsInBytes.{bytes_of}
use Rattle.config.specs.ControlState.{with_partial}
use Rattle.config.specs.StreamBytes.{is_sync, hunted, byte}
use Rattle.config.specs.declared.PartialWord.{PartialWord}
use Rattle.config.specs.declared.Control.{Control}
use Rattle.config.specs.declared.Phase.{Phase}
use Rattle.loader.specs.EventEffects.{buffered, stored}
use Rattle.loader.specs.Run.{ran, after, run}
use Rattle.loader.specs.Laws.Pieces.{byte_run}
use Rattle.loader.specs.Inner.FillWords.{record_of}
use Rattle.reconfigure.specs.Laws.WordsReach.{Reaches, reaches_on}

-- a byte of the hunt
hunt_byte : (b : PartialWord) (p : Phase) (c : Control) (f m : List ℕ) (x : ℕ) (xs : List ℕ) → hunted b x ≡ p
    → run (record_of (Phase.Hunting b) c f) m (x ∷ xs) ≡ after 1 (run (record_of p (with_partial PartialWord.Zero c) f) m xs)
unfolding byte buffered stored
hunt_byte b p c f m x xs e = byte_run (record_of (Phase.Hunting b) c f) m x xs refl ∙ rw e

-- the window with one byte more
abbrev pushed : PartialWord → ℕ → PartialWord
pushed PartialWord.Zero x = PartialWord.One x
pushed (PartialWord.One a) x = PartialWord.Two a x
pushed (PartialWord.Two a b) x = PartialWord.Three a b x
pushed (PartialWord.Three a b c) x = PartialWord.Three b c x

-- FF ends no sync word
ones_hunt : (b : PartialWord) → hunted b 0xFF ≡ Phase.Hunting (pushed b 0xFF)
unfolding hunted is_sync
ones_hunt PartialWord.Zero = refl
ones_hunt (PartialWord.One a) = refl
ones_hunt (PartialWord.Two a b) = refl
ones_hunt (PartialWord.Three a b c) = simp and-false

ones_left : (b : PartialWord) → pushed (pushed (pushed (pushed b 0xFF) 0xFF) 0xFF) 0xFF ≡ PartialWord.Three 0xFF 0xFF 0xFF
ones_left PartialWord.Zero = refl
ones_left (PartialWord.One a) = refl
ones_left (PartialWord.Two a b) = refl
ones_left (PartialWord.Three a b c) = refl

module _ (c : Control) (f m : List ℕ) where
  -- four bytes of a hunt that goes on
  four_hunted : (b b₁ b₂ b₃ : PartialWord) (p : Phase) (x₀ x₁ x₂ x₃ : ℕ) (xs : List ℕ) → hunted b x₀ ≡ Phase.Hunting b₁ → hunted b₁ x₁ ≡ Phase.Hunting b₂
      → hunted b₂ x₂ ≡ Phase.Hunting b₃ → hunted b₃ x₃ ≡ p
      → run (record_of (Phase.Hunting b) c f) m (x₀ ∷ x₁ ∷ x₂ ∷ x₃ ∷ xs) ≡ after 4 (run (record_of p (with_partial PartialWord.Zero c) f) m xs)
  four_hunted b b₁ b₂ b₃ p x₀ x₁ x₂ x₃ xs e₀ e₁ e₂ e₃ =
      rw (
        hunt_byte b (Phase.Hunting b₁) c f m x₀ (x₁ ∷ x₂ ∷ x₃ ∷ xs) e₀,
        hunt_byte b₁ (Phase.Hunting b₂) (with_partial PartialWord.Zero c) f m x₁ (x₂ ∷ x₃ ∷ xs) e₁,
        hunt_byte b₂ (Phase.Hunting b₃) (with_partial PartialWord.Zero c) f m x₂ (x₃ ∷ xs) e₂,
        hunt_byte b₃ p (with_partial PartialWord.Zero c) f m x₃ xs e₃,
      )
      (ap (ran _ _) (omega arith))

  ones_reach : (b : PartialWord) → Reaches (record_of (Phase.Hunting b) c f) m (0xFFFFFFFF ∷ []) (record_of (Phase.Hunting (PartialWord.Three 0xFF 0xFF 0xFF)) (with_partial PartialWord.Zero c) f) m
  unfolding bytes_of
  ones_reach b = record {
    runs_to = λ rest.
        four_hunted b _ _ _ (Phase.Hunting (PartialWord.Three 0xFF 0xFF 0xFF)) 0xFF 0xFF 0xFF 0xFF rest (ones_hunt b) (ones_hunt _) (ones_hunt _)
        (ones_hunt _ ∙ ap Phase.Hunting (ones_left b));
  }

  sync_reaches : Reaches (record_of (Phase.Hunting (PartialWord.Three 0xFF 0xFF 0xFF)) c f) m (0xAA995566 ∷ []) (record_of (Phase.Header None) (with_partial PartialWord.Zero c) f) m
  unfolding bytes_of hunted is_sync
  sync_reaches = record {
    runs_to = λ rest.
        four_hunted _ (PartialWord.Three 0xFF 0xFF 0xAA) (PartialWord.Three 0xFF 0xAA 0x99) (PartialWord.Three 0xAA 0x99 0x55) (Phase.Header None) 0xAA 0x99 0x55 0x66 rest refl refl refl refl;
  }

-- 01, "Waiting for sync is phase hunting, with any bytes remembered"
pub hunt_ends : (b : PartialWord) (c : Control) (f m : List ℕ)
    → Reaches (record_of (Phase.Hunting b) c f) m (0xFFFFFFFF ∷ 0xAA995566 ∷ []) (record_of (Phase.Header None) (with_partial PartialWord.Zero c) f) m
hunt_ends b c f m = reaches_on (ones_reach c f m b) (sync_reaches (with_partial PartialWord.Zero c) f m)
