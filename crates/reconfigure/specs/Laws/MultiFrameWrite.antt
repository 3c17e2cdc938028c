-- Where two zero words to MFWR lead: the frame in hand stands at the current frame, and the state is as it was but for the CRC.
-- Word by word: the header begins the data, the first word is only fed, the second stores.
use Rattle.std.specs.Prelude.{◌≡◌, List, true, ℕ, ◌+◌, ◌*◌, ◌≤◌, length, Some, None}
use Rattle.std.proofs.Math.Path.{refl, ap}
use Rattle.std.proofs.Common.{arith, le-leb}
use Rattle.crc16.specs.CrcRegister.{feed, fed_words}
use Rattle.parts.specs.Table.{length_at}
use Rattle.words.specs.WordsInBytes.{bytes_of}
use Rattle.parts.specs.FrameMemory.{placed}
use Rattle.registers.specs.RegisterAddresses.{address_of}
use Rattle.registers.specs.Laws.AddressLookup.{register_address}
use Rattle.registers.specs.declared.Register.TheVariants as Register
use Rattle.config.specs.RegisterWrites.{fed_crc, hold}
use Rattle.config.specs.ControlState.{transition}
use Rattle.config.specs.PacketHeaders.{ready, counted, begin, type_one_write, obeyed}
use Rattle.config.specs.DataWords.{ended, put, mfwr_stored, mfwr_word, data_word, word}
use Rattle.config.specs.declared.Control.{Control}
use Rattle.config.specs.declared.Phase.TheVariants as Phase
use Rattle.config.specs.declared.Event.TheVariants as Event
use Rattle.stream.specs.StreamPackets.{Packet, header1, crc_of, packet_words}
use Rattle.loader.specs.EventEffects.{buffered, store_within, stored}
use Rattle.reconfigure.specs.Laws.WordsReach.{reaches_on, reaches_word}
use Rattle.reconfigure.specs.Laws.Headers.{header_fits, header_one}
use Rattle.reconfigure.specs.Laws.RecordView.{View, waiting, moved, word_reaches, ReachesView}

-- the header begins the data
multi_begins : (c : Control) → c.flags.idcode_ok ≡ true → c.flags.flr_ok ≡ true → c.registers.cmd ≡ 2 → c.flags.buffer_valid ≡ true
    → word (Phase.Header None) c (header1 Register.Mfwr 2) ≡ transition (Phase.Data Register.Mfwr 2 0) c Event.Nothing
unfolding word obeyed type_one_write begin ready counted address_of
multi_begins c idcode flr cmd valid = simp (header_one Register.Mfwr 2 (omega arith) None, register_address Register.Mfwr, idcode, flr, cmd, valid)

-- the second word stores the frame in hand
multi_stores : (c : Control) (n : ℕ) → c.current ≡ Some n
    → word (Phase.Data Register.Mfwr 1 0) c 0 ≡ transition (Phase.Header None) (put Register.Mfwr 0 c) (Event.Store n)
unfolding word data_word mfwr_word mfwr_stored ended address_of
multi_stores c n at = simp at

module _ (d v n : ℕ) (ws m : List ℕ) (fits : 4 * length_at d * n + 4 * length_at d ≤ length m) where
  pub multi_reaches : ReachesView (waiting d v 2 (Some n) true ws) m (packet_words v Packet.MultiFrame)
      (waiting d (crc_of v Packet.MultiFrame) 2 (Some n) true ws) (placed (length_at d) n (bytes_of ws) m)
  unfolding packet_words crc_of fed_words word data_word mfwr_word hold fed_crc address_of buffered stored store_within
  multi_reaches =
      record {
        from = λ e h.
            let c = e.control in
            let one = put Register.Mfwr 0 c in
            let empty = ap (λ (s : View). s.partial) h in
            let device : c.device ≡ d = ap (λ (s : View). s.device) h in
            let begun = word_reaches e m (header1 Register.Mfwr 2) _ h refl (header_fits Register.Mfwr 2 (omega arith))
            (multi_begins c (ap (λ (s : View). s.idcode) h) (ap (λ (s : View). s.flr) h) (ap (λ (s : View). s.cmd) h) (ap (λ (s : View). s.valid) h)) in
            let first = reaches_word (record { phase = Phase.Data Register.Mfwr 2 0; control = c; frame = e.frame }) m 0
            (transition (Phase.Data Register.Mfwr 1 0) one Event.Nothing) refl empty (omega arith) refl in
            let second = reaches_word (record { phase = Phase.Data Register.Mfwr 1 0; control = one; frame = e.frame }) m 0 _ refl empty (omega arith)
            (multi_stores one n (ap (λ (s : View). s.current) h)) in
            let kept : store_within (length_at c.device) n e.frame m ≡ placed (length_at d) n (bytes_of ws) m
            = rw device (simp (le-leb _ _ fits, rw device at (ap (λ (s : View). s.words) h))) in
            record {
              next = record { phase = Phase.Header None; control = put Register.Mfwr 0 one; frame = e.frame };
              reaches = rw (← kept) (reaches_on begun (reaches_on first second));
              seen = ap (λ (s : View). moved (Phase.Header None) (feed (feed s.crc 10 0) 10 0) s.cmd s.current s.valid s.words s) h;
            };
      }
