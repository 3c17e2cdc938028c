-- The headers that a stream has: what the control machine takes each for, and where a word to a register leads.
-- The fields of a header are the digits of the sum that it is.
use Rattle.std.specs.Prelude.{◌≡◌, refl, List, [], ◌∷◌, false, ℕ, ◌^◌, ◌<◌, Option, Some, None}
use Rattle.std.proofs.Common.{◌∙◌, ap, arith, ne_eqb}
use Rattle.registers.specs.RegisterAddresses.{address_of, is_fdri, is_mfwr}
use Rattle.registers.specs.Laws.AddressLookup.{register_address, address_bound}
use Rattle.registers.specs.declared.Register.{Register}
use Rattle.config.specs.PhaseTests.{takes_words}
use Rattle.config.specs.ControlState.{transition}
use Rattle.config.specs.PacketHeaders.{type_of, operation, register_field, count1, count2, type1, type2, packet, ready, counted, begin, type_one_write, obeyed}
use Rattle.config.specs.DataWords.{data_word, word}
use Rattle.config.specs.declared.PacketHeader.TheVariants as PacketHeader
use Rattle.config.specs.declared.PartialWord.TheVariants as PartialWord
use Rattle.config.specs.declared.Control.{Control}
use Rattle.config.specs.declared.Phase.TheVariants as Phase
use Rattle.config.specs.declared.Event.TheVariants as Event
use Rattle.config.specs.declared.Transition.{Transition}
use Rattle.record.specs.declared.Record.{Record}
use Rattle.stream.specs.StreamPackets.{header1, header2}
use Rattle.loader.specs.EventEffects.{buffered, stored}
use Rattle.loader.specs.Run.{record_after, memory_after}
use Rattle.reconfigure.specs.Laws.WordsReach.{Reaches, reaches_on, reaches_word}

-- a type 1 write header
module _ (r : Register) (n : ℕ) (small : n < 2 ^ 11) where
  pub header_fits : header1 r n < 2 ^ 32
  header_fits = omega (arith, address_bound r)

  pub header_one : (o : Option Register) → packet o (header1 r n) ≡ PacketHeader.Write (address_of r) n
  unfolding packet type1
  header_one o =
      let a = address_bound r in
      let w = header1 r n in
      let kind : type_of w ≡ 1 = omega (arith, a) in
      let act : operation w ≡ 2 = omega (arith, a) in
      let field : register_field w ≡ address_of r = omega (arith, a) in
      let count : count1 w ≡ n = omega (arith, a) in
      simp (ne_eqb w 0 (omega (arith, a)), kind, act, field, count)

-- a type 2 write header, after a type 1 header of count 0
pub header_two : (r : Register) (n : ℕ) → n < 2 ^ 27 → packet (Some r) (header2 n) ≡ PacketHeader.LongWrite r n
unfolding packet type2
header_two r n small =
    let w = header2 n in
    let kind : type_of w ≡ 2 = omega arith in
    let act : operation w ≡ 2 = omega arith in
    let count : count2 w ≡ n = omega arith in
    simp (ne_eqb w 0 (omega arith), kind, act, count)

-- one word to a register that takes any
module _ (r : Register) (plain : (is_fdri r ≡ false) × (is_mfwr r ≡ false)) (c : Control) where
  write_begins : word (Phase.Header None) c (header1 r 1) ≡ transition (Phase.Data r 1 0) c Event.Nothing
  unfolding word obeyed type_one_write begin ready counted
  write_begins = simp (header_one r 1 (omega arith) None, register_address r, plain.0, plain.1)

pub write_reaches : (e : Record) (m : List ℕ) (r : Register) (w : ℕ) (x : Transition) → (is_fdri r ≡ false) × (is_mfwr r ≡ false)
    → e.phase ≡ Phase.Header None → e.control.partial ≡ PartialWord.Zero → w < 2 ^ 32
    → data_word r 1 0 e.control w ≡ x → Reaches e m (header1 r 1 ∷ w ∷ []) (record_after x e) (memory_after x e m)
unfolding word buffered stored
write_reaches e m r w x plain phase empty small made =
    let header = reaches_word e m (header1 r 1) _ (ap takes_words phase) empty (header_fits r 1 (omega arith))
    (ap (λ p. word p e.control (header1 r 1)) phase ∙ write_begins r plain e.control) in
    reaches_on header (reaches_word (record { phase = Phase.Data r 1 0; control = e.control; frame = e.frame }) m w x refl empty small made)
