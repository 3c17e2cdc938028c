-- The stream has the words of 01's formula.
-- By the words of each packet, which the CRC does not change, and by induction over steps and targets.
use Rattle.std.specs.Prelude.{◌≡◌, ℕ, ◌+◌, ◌*◌, ◌<◌, Bool, length}
use Rattle.std.proofs.Common.{◌∙◌, ap, arith, suc-mul, length-append}
use Rattle.std.proofs.Math.Path.{refl}
use mathlib.Core.List.{List, [], ◌∷◌, ◌++◌}
use Rattle.std.proofs.lemmas.List.{length-replicate}
use Rattle.parts.specs.Table.{length_at}
use Rattle.words.proofs.Laws.WordBytes.{bytes_length, words_length}
use Rattle.layout.specs.Step.{Step, FrameWrite, MultiFrameWrite}
use Rattle.layout.specs.Layout.{step_word_count, steps_word_count, stream_word_count}
use Rattle.layout.specs.Laws.AcceptedSteps.{Fits, AllFit}
use Rattle.stream.specs.StreamPackets.{Packet, crc_of, packet_words, packets_words}
use Rattle.stream.specs.Stream.{frames_words, further, spread_packets, step_packets, steps_packets, ending, stream_packets, words_of, stream}

-- the words of a packet and of packets, whatever the CRC
unfoldable pub size : Packet → ℕ
size (Packet.Write r w) = 2
size (Packet.Command k) = 2
size Packet.Check = 2
size (Packet.FrameData ws) = 3 + length ws
size Packet.MultiFrame = 3

unfoldable pub sizes : List Packet → ℕ
sizes [] = 0
sizes (p ∷ ps) = size p + sizes ps

pub packet_size : (crc : ℕ) (p : Packet) → length (packet_words crc p) ≡ size p
unfolding packet_words size
packet_size crc (Packet.Write r w) = refl
packet_size crc (Packet.Command k) = refl
packet_size crc Packet.Check = refl
packet_size crc (Packet.FrameData ws) = simp length-append (omega arith)
packet_size crc Packet.MultiFrame = refl

pub packets_size : (crc : ℕ) (ps : List Packet) → length (packets_words crc ps) ≡ sizes ps
unfolding packets_words sizes
packets_size crc [] = refl
packets_size crc (p ∷ ps) = simp length-append (omega (arith, packet_size crc p, packets_size (crc_of crc p) ps))

pub sizes_append : (ps qs : List Packet) → sizes (ps ++ qs) ≡ sizes ps + sizes qs
unfolding sizes
sizes_append [] qs = omega arith
sizes_append (p ∷ ps) qs = omega (arith, sizes_append ps qs)

-- ---- frames

pub frames_words_lem : (l : ℕ) (fs : List (List ℕ)) → length (frames_words l fs) ≡ length fs * l
unfolding frames_words
frames_words_lem l [] = omega arith
frames_words_lem l (x ∷ xs) = simp length-append (omega (arith, words_length l x, frames_words_lem l xs, suc-mul (length xs) l))

-- ---- steps

pub further_size : (d : ℕ) (ts : List ℕ) → sizes (further d ts) ≡ 5 * length ts
unfolding further sizes size
further_size d [] = refl
further_size d (t ∷ ts) = omega (arith, further_size d ts)

pub spread_size : (d : ℕ) (ts : List ℕ) → 0 < length ts → sizes (spread_packets d ts) ≡ 2 + 5 * length ts
unfolding spread_packets sizes size
spread_size d [] h = absurd (omega arith)
spread_size d (t ∷ ts) h = omega (arith, further_size d ts)

-- a step that is written has targets
abbrev Aimed : Step → Type 0
Aimed (FrameWrite n fs) = Unit {0}
Aimed (MultiFrameWrite x ts) = 0 < length ts

pub step_size : (d : ℕ) (s : Step) → Aimed s → sizes (step_packets d s) ≡ step_word_count (length_at d) s
unfolding step_packets step_word_count sizes size
step_size d (FrameWrite n fs) h = simp (length-append, length-replicate) (omega (arith, frames_words_lem (length_at d) fs, suc-mul (length fs) (length_at d)))
step_size d (MultiFrameWrite x ts) h = omega (arith, words_length (length_at d) x, spread_size d ts h)

-- ---- the stream

module _ (d f : ℕ) (own : ℕ → Bool) where
  fits_aimed : (s : Step) → Fits (length_at d) f own s → Aimed s
  fits_aimed (FrameWrite n fs) fit = tt
  fits_aimed (MultiFrameWrite x ts) fit = fit.positive

  steps_size : (ss : List Step) → AllFit (length_at d) f own ss → sizes (steps_packets d ss) ≡ steps_word_count (length_at d) ss
  unfolding steps_packets steps_word_count sizes
  steps_size [] fit = refl
  steps_size (s ∷ ss) fit = sizes_append (step_packets d s) (steps_packets d ss) ∙ omega (arith, step_size d s (fits_aimed s fit.0), steps_size ss fit.1)

  -- 01: "Words: 12, plus 7 + (k+1)·L for kind 1, 7 + L + 5k for kind 2"
  pub words_count : (ss : List Step) → AllFit (length_at d) f own ss → length (words_of d ss) ≡ stream_word_count (length_at d) ss
  unfolding words_of sizes size
  words_count ss fit = omega (arith, packets_size 0 (stream_packets d ss), sizes_append (steps_packets d ss) ending, steps_size ss fit)

  -- and so the bytes that a check tells
  pub stream_length : (ss : List Step) → AllFit (length_at d) f own ss → length (stream d ss) ≡ 4 * stream_word_count (length_at d) ss
  stream_length ss fit = bytes_length (words_of d ss) ∙ ap (λ (n : ℕ). 4 * n) (words_count ss fit)
