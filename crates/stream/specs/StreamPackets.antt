-- The packets of a stream that is written, with the CRC that runs along.
-- Sources: 01, "The stream that is written"; "Words and packets", the paragraphs on headers, registers and CRC.
use Rattle.std.specs.Prelude.{ℕ, ◌+◌, ◌*◌, ◌^◌, List, [], ◌∷◌, ◌++◌, cond, eqb, length}
use Rattle.crc16.specs.CrcRegister.{feed, fed_words, check_word}
use Rattle.registers.specs.RegisterAddresses.{address_of}
use Rattle.registers.specs.CommandCodes.{RCRC}
use Rattle.registers.specs.declared.Register.{Register}

-- a write header of type 1: type in bits 31..29, operation 2 in 28..27, register in 26..13, count in 10..0; "ignored bits are zero"
abbrev pub header1 : Register → ℕ → ℕ
header1 r n = 2 ^ 29 + 2 * 2 ^ 27 + address_of r * 2 ^ 13 + n

-- a write header of type 2, count in 26..0
abbrev pub header2 : ℕ → ℕ
header2 n = 2 * 2 ^ 29 + 2 * 2 ^ 27 + n

-- what the stream writes: a word to a register, a command, the check word to CRC, frames to FDRI, or two zero words to MFWR
pub data Packet : Type 0 where
  Write : Register → ℕ → Packet
  Command : ℕ → Packet
  Check : Packet
  FrameData : List ℕ → Packet
  MultiFrame : Packet

-- the CRC after a packet: "RCRC makes the CRC zero", after its word is fed; after a check word, which passes, it is zero too
unfoldable pub crc_of : ℕ → Packet → ℕ
crc_of crc (Packet.Write r w) = feed crc (address_of r) w
crc_of crc (Packet.Command k) = cond (eqb k RCRC) 0 (feed crc (address_of Register.Cmd) k)
crc_of crc Packet.Check = 0
crc_of crc (Packet.FrameData ws) = 0
crc_of crc Packet.MultiFrame = fed_words crc (address_of Register.Mfwr) (0 ∷ 0 ∷ [])

-- "Each CRC and auto CRC word is the one that passes with upper sixteen bits zero"
unfoldable pub packet_words : ℕ → Packet → List ℕ
packet_words crc (Packet.Write r w) = header1 r 1 ∷ w ∷ []
packet_words crc (Packet.Command k) = header1 Register.Cmd 1 ∷ k ∷ []
packet_words crc Packet.Check = header1 Register.Crc 1 ∷ check_word crc ∷ []
packet_words crc (Packet.FrameData ws) = header1 Register.Fdri 0 ∷ header2 (length ws) ∷ ws ++ (check_word (fed_words crc (address_of Register.Fdri) ws) ∷ [])
packet_words crc Packet.MultiFrame = header1 Register.Mfwr 2 ∷ 0 ∷ 0 ∷ []

-- packets one after the other, each with the CRC that those before it leave
unfoldable pub packets_words : ℕ → List Packet → List ℕ
packets_words crc [] = []
packets_words crc (p ∷ ps) = packet_words crc p ++ packets_words (crc_of crc p) ps
