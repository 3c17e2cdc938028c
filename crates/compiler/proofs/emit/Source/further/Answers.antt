-- `Source::further` meets its contract. The invariant goes by what is left: the targets not yet written, read from where the code
-- stands and written by the writer as it is then, give what all of them give.
use Rattle.std.proofs.Common.{◌≡◌, ◌∙◌, List, ◌∷◌, ℕ, ◌+◌, ◌-◌, ◌<◌, Ok, sym, subst, arith}
use Rattle.numbers.specs.Number.{read, number_at}
use Rattle.layout.specs.Inner.TargetNumbers.{numbers_at, numbers_none, numbers_value, numbers_refused}
use Rattle.stream.specs.StreamPackets.{Packet}
use Rattle.stream.specs.Stream.{to_frame, further}
use Rattle.compiler.specs.Inner.PacketWriting.{Room, first_room, joined, joined_room, next_room, nothing}
use Rattle.compiler.specs.Inner.StepPackets.{further_first, further_none}
use Rattle.compiler.proofs.emit.Source.further.Goals as goal

-- the packets that are left, once the next target is known
next_packets : (d k i at t next : ℕ) (b : List ℕ) → i < k → number_at b at ≡ Ok (read t next)
    → further d (numbers_at b (k - i) at) ≡ to_frame d t ∷ Packet.MultiFrame ∷ further d (numbers_at b (k - (i + 1)) next)
next_packets d k i at t next b some e =
    let less : k - (i + 1) ≡ k - i - 1 = omega arith in
    rw less (further_first d t _ _ (numbers_value b (k - i) at t next (omega arith) e))

pub returns-in_default : goal.returns-in_default
returns-in_default c =
    let l = c.loop in
    let s = c.args.self in
    let none = further_none s.device _ (numbers_refused s.layout.now (c.args.more - l.counter) l.at _ (omega arith) (sym c.read_number.ensures ∙ c.in_default.is)) in
    l.invariant.1 _ (rw none (nothing l.writer))

pub address-requires : goal.address-requires
address-requires c =
    let l = c.loop in
    let s = c.args.self in
    let split = next_packets s.device c.args.more l.counter l.at _ _ s.layout.now c.loop-test.true (sym c.read_number.ensures ∙ c.in-Ok.is) in
    first_room l.writer _ _ (subst (Room l.writer) split l.invariant.0)

pub multi-requires : goal.multi-requires
multi-requires c =
    let l = c.loop in
    let s = c.args.self in
    let split = next_packets s.device c.args.more l.counter l.at _ _ s.layout.now c.loop-test.true (sym c.read_number.ensures ∙ c.in-Ok.is) in
    next_room c.address.ensures _ _ (subst (Room l.writer) split l.invariant.0)

pub loop-preserved : goal.loop-preserved
loop-preserved c =
    let l = c.loop in
    let s = c.args.self in
    let split = next_packets s.device c.args.more l.counter l.at _ _ s.layout.now c.loop-test.true (sym c.read_number.ensures ∙ c.in-Ok.is) in
    let turn = joined c.address.ensures c.multi.ensures in
    (joined_room turn _ (subst (Room l.writer) split l.invariant.0), λ v w. l.invariant.1 v (rw split (joined turn w)))

pub returns : goal.returns
returns c =
    let l = c.loop in
    let s = c.args.self in
    let none = further_none s.device _ (numbers_none s.layout.now (c.args.more - l.counter) l.at (omega arith)) in
    l.invariant.1 _ (rw none (nothing l.writer))
