-- Packet headers: their fields, the kinds that are allowed, and what each does.
-- Sources: 001, "Packets", Figures 6 and 7; 01, "Words and packets", second paragraph, and stops 1, 2, 3, 6 and 7.
use Rattle.std.specs.Prelude.{ℕ, ◌/◌, ◌%◌, ◌^◌, Bool, true, cond, ◌&&◌, eqb, Option, Some, None}
use Rattle.parts.specs.Table.{length_at}
use Rattle.registers.specs.RegisterAddresses.{is_fdri, is_mfwr, register_at}
use Rattle.registers.specs.CommandCodes.{WCFG, MFWR}
use Rattle.config.specs.ControlState.{transition, stopped}
use Rattle.registers.specs.declared.Register.{Register}
use Rattle.config.specs.declared.PacketHeader.{PacketHeader}
use Rattle.config.specs.declared.Control.{Control}
use Rattle.config.specs.declared.Phase.TheVariants as Phase
use Rattle.answers.specs.declared.Stop.TheVariants as Stop
use Rattle.config.specs.declared.Event.TheVariants as Event
use Rattle.config.specs.declared.Transition.{Transition}

-- 01: "type in bits 31..29 and operation in 28..27"; type 1: "register in 26..13, count in 10..0"; type 2: "count in 26..0"
abbrev pub type_of : ℕ → ℕ
type_of w = w / 2 ^ 29

abbrev pub operation : ℕ → ℕ
operation w = w / 2 ^ 27 % 2 ^ 2

abbrev pub register_field : ℕ → ℕ
register_field w = w / 2 ^ 13 % 2 ^ 14

abbrev pub count1 : ℕ → ℕ
count1 w = w % 2 ^ 11

abbrev pub count2 : ℕ → ℕ
count2 w = w % 2 ^ 27

-- 01: "Operation 0 needs type 1 and count 0, any register; operation 3 and other types are not allowed"
unfoldable pub type1 : ℕ → PacketHeader
type1 w =
    cond (eqb (operation w) 0) (cond (eqb (count1 w) 0) PacketHeader.Idle PacketHeader.Bad)
    (cond (eqb (operation w) 1) PacketHeader.Read
    (cond (eqb (operation w) 2) (PacketHeader.Write (register_field w) (count1 w)) PacketHeader.Bad))

-- 01: type 2 "is allowed only as the next word after a type 1 write header of count 0, whose register it uses"
unfoldable pub type2 : Option Register → ℕ → PacketHeader
type2 None w = PacketHeader.Bad
type2 (Some r) w = cond (eqb (operation w) 1) PacketHeader.Read (cond (eqb (operation w) 2) (PacketHeader.LongWrite r (count2 w)) PacketHeader.Bad)

-- 01: "The word 00000000 as a header is padding"
unfoldable pub packet : Option Register → ℕ → PacketHeader
packet o w = cond (eqb w 0) PacketHeader.Idle (cond (eqb (type_of w) 1) (type1 w) (cond (eqb (type_of w) 2) (type2 o w) PacketHeader.Bad))

-- 01, stop 6: "before IDCODE and FLR were accepted, or CMD not WCFG (FDRI), not MFWR (MFWR), or MFWR with no frame in hand"
unfoldable pub ready : Register → Control → Bool
ready r c =
    cond (is_fdri r) (c.flags.idcode_ok && c.flags.flr_ok && eqb c.registers.cmd WCFG)
    (cond (is_mfwr r) (c.flags.idcode_ok && c.flags.flr_ok && eqb c.registers.cmd MFWR && c.flags.buffer_valid) true)

-- 01, stop 7: "FDRI count not whole frames, MFWR count not 2"
unfoldable pub counted : Register → ℕ → ℕ → Bool
counted r l n = cond (is_fdri r) (eqb (n % l) 0) (cond (is_mfwr r) (eqb n 2) true)

-- a write of a nonzero count begins: stop 6, then 7
unfoldable pub begin : Register → ℕ → Control → Transition
begin r n c =
    cond (ready r c)
    (cond (counted r (length_at c.device) n) (transition (Phase.Data r n 0) c Event.Nothing) (stopped Stop.WrongCount c))
    (stopped Stop.NotReady c)

-- 01: "A write of count 0 is checked only for its register": a type 1 write of count 0 lets a type 2 header follow
unfoldable pub type_one_write : Option Register → ℕ → Control → Transition
type_one_write None n c = stopped Stop.BadRegister c
type_one_write (Some r) n c = cond (eqb n 0) (transition (Phase.Header (Some r)) c Event.Nothing) (begin r n c)

-- 01: "Header checks go 1, 3, 2, 6, 7"
unfoldable pub obeyed : PacketHeader → Control → Transition
obeyed PacketHeader.Idle c = transition (Phase.Header None) c Event.Nothing
obeyed PacketHeader.Bad c = stopped Stop.BadHeader c
obeyed PacketHeader.Read c = stopped Stop.ReadOperation c
obeyed (PacketHeader.Write a n) c = type_one_write (register_at a) n c
obeyed (PacketHeader.LongWrite r n) c = cond (eqb n 0) (transition (Phase.Header None) c Event.Nothing) (begin r n c)

-- a header word
abbrev pub header_word : Option Register → Control → ℕ → Transition
header_word o c w = obeyed (packet o w) c
