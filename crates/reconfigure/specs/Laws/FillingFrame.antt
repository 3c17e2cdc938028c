-- Where the words of a frame lead: those before the last fill the buffer, and the last ends the frame.
-- Word by word; a whole frame by induction over its words, whatever its last word does.
use Rattle.std.specs.Prelude.{◌≡◌, List, [], ◌∷◌, Bool, ℕ, ◌+◌, ◌-◌, ◌*◌, ◌^◌, ◌≤◌, ◌<◌, length, take, Option, Some, None}
use Rattle.std.proofs.Common.{◌∙◌, arith, length-set, le-leb, le-ltb}
use Rattle.std.proofs.Math.Path.{refl, ap}
use Rattle.std.proofs.Math.Bool.{true}
use Rattle.std.proofs.Math.ListN.{set}
use Rattle.std.proofs.Math.Seq.{take-set-lt}
use Rattle.std.proofs.lemmas.Bool.{lt-leb}
use Rattle.crc16.specs.CrcRegister.{feed, fed_words, check_word}
use Rattle.crc16.proofs.Laws.CheckWord.{check_word_passes, check_word_small}
use Rattle.parts.specs.Table.{length_at}
use Rattle.words.specs.WordsInBytes.{bytes_of}
use Rattle.parts.specs.FrameMemory.{placed}
use Rattle.registers.specs.RegisterAddresses.{address_of}
use Rattle.registers.specs.declared.Register.TheVariants as Register
use Rattle.config.specs.RegisterWrites.{fed_crc, hold}
use Rattle.config.specs.ControlState.{transition, with_flags, with_current, raised}
use Rattle.config.specs.DataWords.{ended, put, checked, stepped, frame_stored, fdri_word, data_word, word}
use Rattle.config.specs.declared.Control.{Control}
use Rattle.config.specs.declared.Phase.TheVariants as Phase
use Rattle.config.specs.declared.Event.TheVariants as Event
use Rattle.loader.specs.EventEffects.{buffered, store_within, stored}
use Rattle.loader.specs.Inner.FillWords.{last_of, fills}
use Rattle.reconfigure.specs.Laws.RegisterPackets.{passed}
use Rattle.reconfigure.specs.Laws.RecordView.{View, stands, waiting, moved, word_reaches, ReachesView}

-- in an FDRI packet, with words left and words of the frame filled
abbrev pub filling : ℕ → ℕ → ℕ → ℕ → ℕ → Option ℕ → Bool → List ℕ → View
filling left filled = stands (Phase.Data Register.Fdri left filled)

-- at the auto CRC word
abbrev pub checking : ℕ → ℕ → ℕ → Option ℕ → Bool → List ℕ → View
checking = stands Phase.Crc

-- ---- what the control machine makes of a word that completes a frame

stores : (left filled : ℕ) (c : Control) (w n : ℕ) → 1 < left → filled + 1 ≡ length_at c.device → c.current ≡ Some n
    → word (Phase.Data Register.Fdri left filled) c w
    ≡ transition (Phase.Data Register.Fdri (left - 1) 0) (with_current (stepped c.device n) (put Register.Fdri w c)) (Event.KeepAndStore filled w n)
unfolding word data_word fdri_word frame_stored
stores left filled c w n hl hf at = simp (lt-leb left 1 hl, le-ltb (filled + 1) (length_at c.device) (omega arith), at)

ends : (left filled : ℕ) (c : Control) (w : ℕ) → left ≡ 1
    → word (Phase.Data Register.Fdri left filled) c w ≡ transition Phase.Crc (with_flags (raised Register.Fdri c.flags) (put Register.Fdri w c)) (Event.Keep filled w)
unfolding word data_word fdri_word ended address_of
ends left filled c w hl = simp (le-leb left 1 (omega arith))

-- the buffer's words that count, with one kept
kept_words : (l i w : ℕ) (f buffer : List ℕ) → i < l → take l f ≡ buffer → take l (set f i w) ≡ set buffer i w
kept_words l i w f buffer h e = take-set-lt l f i w h ∙ ap (λ (xs : List ℕ). set xs i w) e

-- ---- one word

module _ (d v k left filled w : ℕ) (b : Bool) (buffer m : List ℕ) (small : w < 2 ^ 32) where
  -- it only fills
  pub fill_word : (n : Option ℕ) → 1 < left → filled + 1 < length_at d
      → ReachesView (filling left filled d v k n b buffer) m (w ∷ []) (filling (left - 1) (filled + 1) d (feed v 2 w) k n b (set buffer filled w)) m
  unfolding fed_words last_of hold fed_crc address_of buffered stored
  fill_word n hl hf =
      record {
        from = λ e h.
            let device : e.control.device ≡ d = ap (λ (s : View). s.device) h in
            let words = kept_words (length_at e.control.device) filled w e.frame buffer (rw device (omega arith)) (ap (λ (s : View). s.words) h) in
            record {
              next = record { phase = Phase.Data Register.Fdri (left - 1) (filled + 1); control = put Register.Fdri w e.control; frame = set e.frame filled w };
              reaches = word_reaches e m w _ h refl small (fills left filled e.control w hl (rw device hf));
              seen = rw (words, length-set)
                  (ap (λ (s : View). moved (Phase.Data Register.Fdri (left - 1) (filled + 1)) (feed s.crc 2 w) s.cmd s.current s.valid (set buffer filled w) s) h);
            };
      }

  -- it completes a frame that is stored
  pub store_word : (n : ℕ) → 1 < left → filled + 1 ≡ length_at d → 4 * length_at d * n + 4 * length_at d ≤ length m
      → ReachesView (filling left filled d v k (Some n) b buffer) m (w ∷ [])
      (filling (left - 1) 0 d (feed v 2 w) k (stepped d n) b (set buffer filled w)) (placed (length_at d) n (bytes_of (set buffer filled w)) m)
  unfolding hold fed_crc address_of buffered stored store_within
  store_word n hl hf fits =
      record {
        from = λ e h.
            let device : e.control.device ≡ d = ap (λ (s : View). s.device) h in
            let words = kept_words (length_at e.control.device) filled w e.frame buffer (rw device (omega arith)) (ap (λ (s : View). s.words) h) in
            let c = with_current (stepped e.control.device n) (put Register.Fdri w e.control) in
            let kept : store_within (length_at e.control.device) n (set e.frame filled w) m ≡ placed (length_at d) n (bytes_of (set buffer filled w)) m
            = rw device (simp (le-leb _ _ fits, rw device at words)) in
            record {
              next = record { phase = Phase.Data Register.Fdri (left - 1) 0; control = c; frame = set e.frame filled w };
              reaches = rw (← kept) (word_reaches e m w _ h refl small (stores left filled e.control w n hl (rw device hf) (ap (λ (s : View). s.current) h)));
              seen = rw (words, length-set)
                  (ap (λ (s : View). moved (Phase.Data Register.Fdri (left - 1) 0) (feed s.crc 2 w) s.cmd (stepped s.device n) s.valid (set buffer filled w) s) h);
            };
      }

  -- it completes the packet's last frame, which is in hand from here on
  pub last_word : (n : Option ℕ) → left ≡ 1 → filled < length_at d
      → ReachesView (filling left filled d v k n b buffer) m (w ∷ []) (checking d (feed v 2 w) k n true (set buffer filled w)) m
  unfolding hold fed_crc raised address_of buffered stored
  last_word n hl hf =
      record {
        from = λ e h.
            let device : e.control.device ≡ d = ap (λ (s : View). s.device) h in
            let words = kept_words (length_at e.control.device) filled w e.frame buffer (rw device hf) (ap (λ (s : View). s.words) h) in
            let c = put Register.Fdri w e.control in
            record {
              next = record { phase = Phase.Crc; control = with_flags (raised Register.Fdri c.flags) c; frame = set e.frame filled w };
              reaches = word_reaches e m w _ h refl small (ends left filled e.control w hl);
              seen = rw (words, length-set) (ap (λ (s : View). moved Phase.Crc (feed s.crc 2 w) s.cmd s.current true (set buffer filled w) s) h);
            };
      }

-- the auto CRC word, which passes
pub auto_reaches : (d v k : ℕ) (n : Option ℕ) (b : Bool) (buffer m : List ℕ) → ReachesView (checking d v k n b buffer) m (check_word v ∷ []) (waiting d 0 k n b buffer) m
unfolding word checked raised address_of buffered stored
auto_reaches d v k n b buffer m =
    record {
      from = λ e h.
          record {
            next = record { phase = Phase.Header None; control = passed e.control; frame = e.frame };
            reaches = word_reaches e m (check_word v) (transition (Phase.Header None) (passed e.control) Event.Nothing) h refl (omega (arith, check_word_small v))
                (rw (ap (λ (s : View). s.crc) h, check_word_passes v));
            seen = ap (λ (s : View). moved (Phase.Header None) 0 s.cmd s.current s.valid s.words s) h;
          };
    }
