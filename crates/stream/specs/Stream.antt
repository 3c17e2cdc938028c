-- The stream that a part's configuration is changed by, for a list of steps.
-- Source: 01, "The stream that is written".
use Rattle.std.specs.Prelude.{ℕ, ◌-◌, List, [], ◌∷◌, ◌++◌, replicate}
use Rattle.parts.specs.Table.{idcode_at, length_at}
use Rattle.words.specs.WordsInBytes.{bytes_of, words_from}
use Rattle.parts.specs.FrameAddress.{address_at}
use Rattle.registers.specs.CommandCodes.{WCFG, MFWR, RCRC, DESYNC}
use Rattle.registers.specs.declared.Register.TheVariants as Register
use Rattle.layout.specs.Step.{Step, FrameWrite, MultiFrameWrite}
use Rattle.stream.specs.StreamPackets.{Packet, packets_words}

-- frames of l words each, one after the other
unfoldable pub frames_words : ℕ → List (List ℕ) → List ℕ
frames_words l [] = []
frames_words l (x ∷ xs) = words_from l x ++ frames_words l xs

-- FAR: the frame's address, which every frame that a step names has
abbrev pub to_frame : ℕ → ℕ → Packet
to_frame d n = Packet.Write Register.Far (address_at d n)

-- "then FAR and MFWR for each further target"
unfoldable pub further : ℕ → List ℕ → List Packet
further d [] = []
further d (t ∷ ts) = to_frame d t ∷ Packet.MultiFrame ∷ further d ts

-- "FAR, CMD MFWR, two zero words to MFWR, then"
unfoldable pub spread_packets : ℕ → List ℕ → List Packet
spread_packets d [] = []
spread_packets d (t ∷ ts) = to_frame d t ∷ Packet.Command MFWR ∷ Packet.MultiFrame ∷ further d ts

-- "Kind 1: CMD WCFG, FAR, FDRI as type 1 of count 0 and type 2, data, one frame of zero words, auto CRC"; "Kind 2: CMD WCFG, FDRI
-- likewise with one frame, auto CRC," then its targets
unfoldable pub step_packets : ℕ → Step → List Packet
step_packets d (FrameWrite n fs) = Packet.Command WCFG ∷ to_frame d n ∷ Packet.FrameData (frames_words (length_at d) fs ++ replicate (length_at d) 0) ∷ []
step_packets d (MultiFrameWrite x ts) = Packet.Command WCFG ∷ Packet.FrameData (words_from (length_at d) x) ∷ spread_packets d ts

unfoldable pub steps_packets : ℕ → List Step → List Packet
steps_packets d [] = []
steps_packets d (s ∷ ss) = step_packets d s ++ steps_packets d ss

-- "CMD RCRC, FLR, IDCODE"
abbrev pub heading : ℕ → List Packet
heading d = Packet.Command RCRC ∷ Packet.Write Register.Flr (length_at d - 1) ∷ Packet.Write Register.Idcode (idcode_at d) ∷ []

-- "a CRC write; CMD DESYNC"
abbrev pub ending : List Packet
ending = Packet.Check ∷ Packet.Command DESYNC ∷ []

-- "the steps" between the two
abbrev pub stream_packets : ℕ → List Step → List Packet
stream_packets d ss = heading d ++ steps_packets d ss ++ ending

-- "FFFFFFFF, sync"; RCRC comes first, so that the CRC begins at zero
unfoldable pub words_of : ℕ → List Step → List ℕ
words_of d ss = 0xFFFFFFFF ∷ 0xAA995566 ∷ packets_words 0 (stream_packets d ss)

-- the words' bytes, high byte first
abbrev pub stream : ℕ → List Step → List ℕ
stream d ss = bytes_of (words_of d ss)
