-- The CRC after packets, and packets after packets: their words follow one another, with the CRC that the first leave.
-- By induction over the first packets.
use Rattle.std.specs.Prelude.{◌≡◌, refl, List, [], ◌∷◌, ◌++◌, ℕ}
use Rattle.std.proofs.Common.{◌∙◌, sym, ap, append_assoc}
use Rattle.stream.specs.StreamPackets.{Packet, crc_of, packet_words, packets_words}

unfoldable pub crc_after : ℕ → List Packet → ℕ
crc_after crc [] = crc
crc_after crc (p ∷ ps) = crc_after (crc_of crc p) ps

pub words_append : (crc : ℕ) (ps qs : List Packet) → packets_words crc (ps ++ qs) ≡ packets_words crc ps ++ packets_words (crc_after crc ps) qs
unfolding packets_words crc_after
words_append crc [] qs = refl
words_append crc (p ∷ ps) qs =
    ap (λ (ws : List ℕ). packet_words crc p ++ ws) (words_append (crc_of crc p) ps qs)
    ∙ sym (append_assoc (packet_words crc p) (packets_words (crc_of crc p) ps) (packets_words (crc_after (crc_of crc p) ps) qs))

pub crc_append : (crc : ℕ) (ps qs : List Packet) → crc_after (crc_after crc ps) qs ≡ crc_after crc (ps ++ qs)
unfolding crc_after
crc_append crc [] qs = refl
crc_append crc (p ∷ ps) qs = crc_append (crc_of crc p) ps qs
