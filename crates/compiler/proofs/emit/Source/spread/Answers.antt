-- `Source::spread` meets its contract: FAR, CMD MFWR and MFWR for the first target, then the further ones.
-- By joining what the calls write, once the first target is known.
use Rattle.std.proofs.Common.{◌≡◌, ◌∙◌, List, ◌∷◌, ℕ, ◌-◌, ◌<◌, Ok, sym, subst}
use Rattle.numbers.specs.Number.{read, number_at}
use Rattle.layout.specs.Inner.TargetNumbers.{numbers_at, numbers_value, numbers_refused}
use Rattle.stream.specs.StreamPackets.{Packet}
use Rattle.stream.specs.Stream.{to_frame, further, spread_packets}
use Rattle.compiler.specs.Inner.PacketWriting.{Room, first_room, joined, joined_room, next_room, nothing}
use Rattle.compiler.specs.Inner.StepPackets.{spread_first, spread_none}
use Rattle.compiler.specs.declared.packet.Writer.{Writer}
use Rattle.compiler.proofs.emit.Source.spread.Goals as goal

-- the packets, once the first target is known, and their room
module _ (d k at t next : ℕ) (b : List ℕ) (some : 0 < k) (e : number_at b at ≡ Ok (read t next)) where
  abbrev packets : List Packet
  packets = to_frame d t ∷ Packet.Command 2 ∷ Packet.MultiFrame ∷ further d (numbers_at b (k - 1) next)

  first : spread_packets d (numbers_at b k at) ≡ packets
  first = spread_first d t _ _ (numbers_value b k at t next some e)

  room : (w : Writer) → Room w (spread_packets d (numbers_at b k at)) → Room w packets
  room w h = subst (Room w) first h

pub address-requires : goal.address-requires
address-requires c =
    let a = c.args in
    let s = a.self in
    let h = room s.device a.count a.start _ _ s.layout.now c.requires.0 (sym c.read_number.ensures ∙ c.in-Ok.is) a.writer.now c.requires.1 in
    first_room a.writer.now _ _ h

pub command-requires : goal.command-requires
command-requires c =
    let a = c.args in
    let s = a.self in
    let h = room s.device a.count a.start _ _ s.layout.now c.requires.0 (sym c.read_number.ensures ∙ c.in-Ok.is) a.writer.now c.requires.1 in
    next_room c.address.ensures _ _ h

pub multi-requires : goal.multi-requires
multi-requires c =
    let a = c.args in
    let s = a.self in
    let h = room s.device a.count a.start _ _ s.layout.now c.requires.0 (sym c.read_number.ensures ∙ c.in-Ok.is) a.writer.now c.requires.1 in
    next_room (joined c.address.ensures c.command.ensures) _ _ h

pub further-requires : goal.further-requires
further-requires c =
    let a = c.args in
    let s = a.self in
    let h = room s.device a.count a.start _ _ s.layout.now c.requires.0 (sym c.read_number.ensures ∙ c.in-Ok.is) a.writer.now c.requires.1 in
    joined_room (joined (joined c.address.ensures c.command.ensures) c.multi.ensures) _ h

pub returns-in_default : goal.returns-in_default
returns-in_default c =
    let a = c.args in
    let s = a.self in
    let none = spread_none s.device _ (numbers_refused s.layout.now a.count a.start _ c.requires.0 (sym c.read_number.ensures ∙ c.in_default.is)) in
    rw none (nothing a.writer.now)

pub returns : goal.returns
returns c =
    let a = c.args in
    let s = a.self in
    rw (first s.device a.count a.start _ _ s.layout.now c.requires.0 (sym c.read_number.ensures ∙ c.in-Ok.is))
    (joined (joined (joined c.address.ensures c.command.ensures) c.multi.ensures) c.further.ensures)
