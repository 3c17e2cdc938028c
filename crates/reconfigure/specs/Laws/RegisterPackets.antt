-- Where a command, a frame address and a check word lead.
-- By what the control machine makes of the word; WCFG and MFWR act on nothing, also at a FAR write.
use Rattle.std.specs.Prelude.{◌≡◌, refl, List, Bool, ℕ, ◌^◌, ◌≤◌, ◌<◌, Option, None}
use Rattle.std.proofs.Common.{◌∙◌, sym, arith, le-ltb}
use Rattle.std.proofs.Math.Path.{ap, subst}
use Rattle.crc16.specs.CrcRegister.{feed, check_word}
use Rattle.crc16.proofs.Laws.CheckWord.{check_word_passes, check_word_small}
use Rattle.registers.specs.RegisterAddresses.{address_of}
use Rattle.registers.specs.CommandCodes.{WCFG, MFWR, last_command}
use Rattle.registers.specs.declared.Register.TheVariants as Register
use Rattle.config.specs.CurrentFrame.{named}
use Rattle.config.specs.RegisterWrites.{with_crc, fed_crc, hold}
use Rattle.config.specs.ControlState.{transition, with_registers, with_flags, with_current, raised}
use Rattle.config.specs.Commands.{signalled, command_crc, command_phase, acted}
use Rattle.config.specs.DataWords.{ended, onward, put, checked, far_word, cmd_word, data_word}
use Rattle.config.specs.declared.Control.{Control}
use Rattle.config.specs.declared.Phase.{Phase}
use Rattle.config.specs.declared.Event.TheVariants as Event
use Rattle.stream.specs.StreamPackets.{Packet, crc_of, packet_words}
use Rattle.loader.specs.EventEffects.{buffered, stored}
use Rattle.reconfigure.specs.Laws.Headers.{write_reaches}
use Rattle.reconfigure.specs.Laws.RecordView.{View, waiting, moved, ReachesView}

-- a check passed: the CRC is zero
abbrev pub passed : Control → Control
passed c = with_flags (raised Register.Crc c.flags) (with_registers (with_crc 0 c.registers) c)

-- ---- commands that act on nothing

pub record Quiet (k : ℕ) : Type 0 where
  pub known : k ≤ last_command
  pub idle : (p : Phase) (c : Control) → acted k p c ≡ transition p c Event.Nothing
  pub fed_on : (v : ℕ) → crc_of v (Packet.Command k) ≡ feed v 4 k

pub wcfg_quiet : Quiet WCFG
unfolding acted signalled command_crc command_phase crc_of address_of
wcfg_quiet = record { known = omega arith; idle = λ p c. refl; fed_on = λ v. refl }

pub mfwr_quiet : Quiet MFWR
unfolding acted signalled command_crc command_phase crc_of address_of
mfwr_quiet = record { known = omega arith; idle = λ p c. refl; fed_on = λ v. refl }

-- what the control machine makes of a command
pub command_word : (k : ℕ) (c : Control) → k ≤ last_command → data_word Register.Cmd 1 0 c k ≡ acted k (Phase.Header None) (put Register.Cmd k c)
unfolding data_word cmd_word onward ended address_of
command_word k c known = simp (le-ltb last_command k known)

-- ---- from a state to the next

module _ (d v k : ℕ) (n : Option ℕ) (b : Bool) (ws m : List ℕ) where
  -- a command
  pub command_reaches : (j : ℕ) → Quiet j → ReachesView (waiting d v k n b ws) m (packet_words v (Packet.Command j)) (waiting d (crc_of v (Packet.Command j)) j n b ws) m
  unfolding packet_words hold fed_crc address_of buffered stored
  command_reaches j quiet =
      record {
        from = λ e h.
            record {
              next = record { phase = Phase.Header None; control = put Register.Cmd j e.control; frame = e.frame };
              reaches = write_reaches e m Register.Cmd j _ (refl, refl) (ap (λ (s : View). s.phase) h) (ap (λ (s : View). s.partial) h) (omega (arith, quiet.known))
                  (command_word j e.control quiet.known ∙ quiet.idle (Phase.Header None) (put Register.Cmd j e.control));
              seen = rw (quiet.fed_on v) (ap (λ (s : View). moved (Phase.Header None) (feed s.crc 4 j) j s.current s.valid s.words s) h);
            };
      }

  -- a frame's address, while a command stands in CMD that acts on nothing
  pub address_reaches : (a : ℕ) → Quiet k → a < 2 ^ 32
      → ReachesView (waiting d v k n b ws) m (packet_words v (Packet.Write Register.Far a)) (waiting d (crc_of v (Packet.Write Register.Far a)) k (named d a) b ws) m
  unfolding packet_words crc_of data_word far_word onward ended hold fed_crc address_of buffered stored
  address_reaches a quiet small =
      record {
        from = λ e h.
            let c = with_current (named e.control.device a) (put Register.Far a e.control) in
            let standing = subst Quiet (sym (ap (λ (s : View). s.cmd) h)) quiet in
            record {
              next = record { phase = Phase.Header None; control = c; frame = e.frame };
              reaches = write_reaches e m Register.Far a (transition (Phase.Header None) c Event.Nothing) (refl, refl) (ap (λ (s : View). s.phase) h) (ap (λ (s : View). s.partial) h) small (standing.idle (Phase.Header None) c);
              seen = ap (λ (s : View). moved (Phase.Header None) (feed s.crc 1 a) s.cmd (named s.device a) s.valid s.words s) h;
            };
      }

  -- the word that passes the check
  pub check_reaches : ReachesView (waiting d v k n b ws) m (packet_words v Packet.Check) (waiting d 0 k n b ws) m
  unfolding packet_words data_word checked raised onward ended address_of buffered stored
  check_reaches =
      record {
        from = λ e h.
            record {
              next = record { phase = Phase.Header None; control = passed e.control; frame = e.frame };
              reaches = write_reaches e m Register.Crc (check_word v) (transition (Phase.Header None) (passed e.control) Event.Nothing) (refl, refl) (ap (λ (s : View). s.phase) h) (ap (λ (s : View). s.partial) h) (omega (arith, check_word_small v))
                  (rw (ap (λ (s : View). s.crc) h, check_word_passes v));
              seen = ap (λ (s : View). moved (Phase.Header None) 0 s.cmd s.current s.valid s.words s) h;
            };
      }
