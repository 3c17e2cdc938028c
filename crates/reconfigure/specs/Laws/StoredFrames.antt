-- Where the frames of an FDRI packet lead: each but the last is stored, at frames that follow one another, and the last is in hand.
-- A frame by induction over its words, whatever its last word does; then the frames by induction.
use Rattle.std.specs.Prelude.{◌≡◌, refl, Bool, true, ℕ, suc, ◌+◌, ◌-◌, ◌*◌, ◌^◌, ◌≤◌, ◌<◌, length, set, Option, Some}
use mathlib.Core.List.{List, [], ◌∷◌}
use Rattle.std.proofs.Common.{add-one, arith}
use Rattle.std.proofs.lemmas.List.Edits.{sets}
use Rattle.crc16.specs.CrcRegister.{feed, fed_words}
use Rattle.parts.specs.Table.{length_at}
use Rattle.words.specs.WordsInBytes.{bytes_of}
use Rattle.words.specs.Laws.ByteLists.{AreWords}
use Rattle.words.proofs.Laws.WordStores.{sets_all}
use Rattle.parts.specs.FrameMemory.{placed}
use Rattle.config.specs.DataWords.{stepped}
use Rattle.reconfigure.specs.Laws.RecordView.{View, ReachesView, view_on}
use Rattle.reconfigure.specs.Laws.FillingFrame.{filling, checking, fill_word, store_word, last_word}

-- ---- one frame

-- a word that only fills, and then the others
then_others : (d v k j filled w : ℕ) (b : Bool) (n : Option ℕ) (buffer m vs : List ℕ) (t : View) (r : List ℕ) → w < 2 ^ 32 → 0 < length vs
    → filled + suc (length vs) ≡ length_at d → ReachesView (filling (j + length vs) (suc filled) d (feed v 2 w) k n b (set buffer filled w)) m vs t r
    → ReachesView (filling (j + suc (length vs)) filled d v k n b buffer) m (w ∷ vs) t r
then_others d v k j filled w b n buffer m vs t r small more h others =
    let left : j + suc (length vs) - 1 ≡ j + length vs = omega arith in
    view_on (rw (left, add-one) at (fill_word d v k (j + suc (length vs)) filled w b buffer m small n (omega arith) (omega arith))) others

-- T and K are the state and the memory that a frame's last word leads to, by the CRC and by the frame's words
module _ (d k j : ℕ) (b : Bool) (n : Option ℕ) (m : List ℕ) (T : ℕ → List ℕ → View) (K : List ℕ → List ℕ)
    (last : (v filled w : ℕ) (buffer : List ℕ) → w < 2 ^ 32 → filled + 1 ≡ length_at d
    → ReachesView (filling (j + 1) filled d v k n b buffer) m (w ∷ []) (T (feed v 2 w) (set buffer filled w)) (K (set buffer filled w))) where
  -- the words from a place on
  frame_from : (w : ℕ) (ws : List ℕ) (v filled : ℕ) (buffer : List ℕ) → AreWords (w ∷ ws) → filled + length (w ∷ ws) ≡ length_at d
      → ReachesView (filling (j + length (w ∷ ws)) filled d v k n b buffer) m (w ∷ ws) (T (fed_words v 2 (w ∷ ws)) (sets buffer filled (w ∷ ws))) (K (sets buffer filled (w ∷ ws)))
  unfolding fed_words
  frame_from w [] v filled buffer small h = last v filled w buffer small.0 (omega arith)
  frame_from w (x ∷ xs) v filled buffer small h =
      then_others d v k j filled w b n buffer m (x ∷ xs) _ _ small.0 (omega arith) h (frame_from x xs (feed v 2 w) (suc filled) (set buffer filled w) small.1 (omega arith))

  -- all of them, of which there is one at least
  all_words : (v : ℕ) (buffer : List ℕ) (w : ℕ) (ws : List ℕ) → AreWords (w ∷ ws) → length (w ∷ ws) ≡ length_at d → length buffer ≡ length_at d
      → ReachesView (filling (j + length_at d) 0 d v k n b buffer) m (w ∷ ws) (T (fed_words v 2 (w ∷ ws)) (w ∷ ws)) (K (w ∷ ws))
  all_words v buffer w ws small size full = rw (sets_all buffer (w ∷ ws) (omega arith), size) at (frame_from w ws v 0 buffer small (omega arith))

  whole_frame : (v : ℕ) (buffer ws : List ℕ) → 0 < length_at d → AreWords ws → length ws ≡ length_at d → length buffer ≡ length_at d
      → ReachesView (filling (j + length_at d) 0 d v k n b buffer) m ws (T (fed_words v 2 ws) ws) (K ws)
  whole_frame v buffer [] positive small size full = absurd (omega arith)
  whole_frame v buffer (w ∷ ws) positive small size full = all_words v buffer w ws small size full

module _ (d v k : ℕ) (b : Bool) (buffer ws m : List ℕ) (positive : 0 < length_at d) (small : AreWords ws) (size : length ws ≡ length_at d) (full : length buffer ≡ length_at d) where
  -- a frame that is stored
  pub stored_frame : (j n : ℕ) → 0 < j → 4 * length_at d * n + 4 * length_at d ≤ length m
      → ReachesView (filling (j + length_at d) 0 d v k (Some n) b buffer) m ws (filling j 0 d (fed_words v 2 ws) k (stepped d n) b ws) (placed (length_at d) n (bytes_of ws) m)
  stored_frame j n more fits =
      whole_frame d k j b (Some n) m (λ u buffer. filling j 0 d u k (stepped d n) b buffer) (λ buffer. placed (length_at d) n (bytes_of buffer) m)
      (λ u filled w buffer small end.
      let left : j + 1 - 1 ≡ j = omega arith in rw left at (store_word d u k (j + 1) filled w b buffer m small n (omega arith) end fits))
      v buffer ws positive small size full

  -- the packet's last frame
  pub last_frame : (n : Option ℕ) → ReachesView (filling (length_at d) 0 d v k n b buffer) m ws (checking d (fed_words v 2 ws) k n true ws) m
  last_frame n =
      let none : 0 + length_at d ≡ length_at d = omega arith in
      rw none at (whole_frame d k 0 b n m (λ u buffer. checking d u k n true buffer) (λ buffer. m)
      (λ u filled w buffer small end. last_word d u k 1 filled w b buffer m small n refl (omega arith))
      v buffer ws positive small size full)
