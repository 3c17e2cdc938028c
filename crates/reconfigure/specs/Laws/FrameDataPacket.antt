-- Where an FDRI packet leads, with its two headers and its auto CRC word: frames stored one after the other, a last one in hand.
-- By induction over the frames that are stored; each stands at the frame after the one before it.
use Rattle.std.specs.Prelude.{◌≡◌, refl, Bool, Option, Some, None}
use Rattle.std.proofs.Common.{◌∙◌, ap, arith, length-append, ne_eqb, lt-ltb}
use mathlib.Core.List.{List, [], ◌∷◌, ◌++◌}
use Rattle.std.proofs.Math.Bool.{true}
use Prim.Native.Nat.{ℕ, suc, ◌+◌, ◌*◌, ◌%◌, ◌^◌, ◌≤◌, ◌<◌}
use Rattle.std.proofs.Math.Nat.{suc-mul, mul-le-mul, mul-mod_left}
use Rattle.std.proofs.Math.ListN.{length}
use Rattle.crc16.specs.CrcRegister.{fed_words}
use Rattle.crc16.specs.Laws.FedWords.{fed_append}
use Rattle.parts.specs.Table.{length_at, count_at}
use Rattle.parts.proofs.Laws.Figures.{length_fits, count_fits}
use Rattle.parts.specs.FrameMemory.{placed}
use Rattle.words.specs.WordsInBytes.{words_from}
use Rattle.words.specs.Laws.ByteLists.{AreWords, AreBytes}
use Rattle.words.proofs.Laws.WordBytes.{words_small, bytes_words, words_length}
use Rattle.parts.specs.Laws.FramePlacing.{frame_end, placed_length}
use Rattle.registers.specs.RegisterAddresses.{address_of}
use Rattle.registers.specs.Laws.AddressLookup.{register_address}
use Rattle.registers.specs.declared.Register.TheVariants as Register
use Rattle.config.specs.ControlState.{transition}
use Rattle.config.specs.PacketHeaders.{ready, counted, begin, type_one_write, obeyed}
use Rattle.config.specs.DataWords.{stepped, word}
use Rattle.config.specs.declared.Control.{Control}
use Rattle.config.specs.declared.Phase.TheVariants as Phase
use Rattle.config.specs.declared.Event.TheVariants as Event
use Rattle.layout.specs.Laws.AcceptedSteps.{Sized}
use Rattle.layout.specs.Laws.ByteFrames.{AllBytes}
use Rattle.layout.specs.ReferenceMachine.{frames_written}
use Rattle.stream.specs.StreamPackets.{Packet, header1, header2, packet_words}
use Rattle.stream.specs.Stream.{frames_words}
use Rattle.stream.specs.Laws.StreamLength.{frames_words_lem}
use Rattle.loader.specs.EventEffects.{buffered, stored}
use Rattle.reconfigure.specs.Laws.Headers.{header_fits, header_one, header_two}
use Rattle.reconfigure.specs.Laws.RecordView.{View, stands, waiting, moved, word_reaches, ReachesView, view_none, view_on}
use Rattle.reconfigure.specs.Laws.FillingFrame.{filling, auto_reaches}
use Rattle.reconfigure.specs.Laws.StoredFrames.{stored_frame, last_frame}

-- ---- the two headers

first_header : (c : Control) → word (Phase.Header None) c (header1 Register.Fdri 0) ≡ transition (Phase.Header (Some Register.Fdri)) c Event.Nothing
unfolding word obeyed type_one_write address_of
first_header c = simp (header_one Register.Fdri 0 (omega arith) None, register_address Register.Fdri)

second_header : (c : Control) (q : ℕ) → 0 < q → q < 2 ^ 27 → c.flags.idcode_ok ≡ true → c.flags.flr_ok ≡ true → c.registers.cmd ≡ 1
    → q % length_at c.device ≡ 0 → word (Phase.Header (Some Register.Fdri)) c (header2 q) ≡ transition (Phase.Data Register.Fdri q 0) c Event.Nothing
unfolding word obeyed begin ready counted address_of
second_header c q positive small idcode flr cmd whole = simp (header_two Register.Fdri q small, ne_eqb q 0 (omega arith), idcode, flr, cmd, whole)

-- the headers begin a packet of q words, which are whole frames
headers_lead : (d v q : ℕ) (n : Option ℕ) (b : Bool) (buffer m : List ℕ) → 0 < q → q < 2 ^ 27 → q % length_at d ≡ 0
    → ReachesView (waiting d v 1 n b buffer) m (header1 Register.Fdri 0 ∷ header2 q ∷ []) (filling q 0 d v 1 n b buffer) m
unfolding buffered stored
headers_lead d v q n b buffer m positive small whole = view_on one two
  where
    one : ReachesView (waiting d v 1 n b buffer) m (header1 Register.Fdri 0 ∷ []) (stands (Phase.Header (Some Register.Fdri)) d v 1 n b buffer) m
    one = record {
      from = λ e h.
          record {
            next = record { phase = Phase.Header (Some Register.Fdri); control = e.control; frame = e.frame };
            reaches = word_reaches e m (header1 Register.Fdri 0) _ h refl (header_fits Register.Fdri 0 (omega arith)) (first_header e.control);
            seen = ap (λ (s : View). moved (Phase.Header (Some Register.Fdri)) s.crc s.cmd s.current s.valid s.words s) h;
          };
    }

    two : ReachesView (stands (Phase.Header (Some Register.Fdri)) d v 1 n b buffer) m (header2 q ∷ []) (filling q 0 d v 1 n b buffer) m
    two = record {
      from = λ e h.
          let device : e.control.device ≡ d = ap (λ (s : View). s.device) h in
          record {
            next = record { phase = Phase.Data Register.Fdri q 0; control = e.control; frame = e.frame };
            reaches = word_reaches e m (header2 q) _ h refl (omega arith)
                (second_header e.control q positive small (ap (λ (s : View). s.idcode) h) (ap (λ (s : View). s.flr) h) (ap (λ (s : View). s.cmd) h) (rw device whole));
            seen = ap (λ (s : View). moved (Phase.Data Register.Fdri q 0) s.crc s.cmd s.current s.valid s.words s) h;
          };
    }

-- ---- frames that are stored one after the other

-- the current frame after them, from frame n on
unfoldable pub reached : ℕ → ℕ → Option ℕ → List (List ℕ) → Option ℕ
reached d n c [] = c
reached d n c (x ∷ xs) = reached d (n + 1) (stepped d n) xs

-- the words in the buffer after them
unfoldable pub held : ℕ → List ℕ → List (List ℕ) → List ℕ
held l buffer [] = buffer
held l buffer (x ∷ xs) = held l (words_from l x) xs

-- the first of them has a frame to stand at
abbrev pub Aims : ℕ → Option ℕ → List (List ℕ) → Type 0
Aims n c [] = Unit {0}
Aims n c (x ∷ xs) = c ≡ Some n

aims_next : (d n : ℕ) (xs : List (List ℕ)) → n + suc (length xs) ≤ count_at d → Aims (n + 1) (stepped d n) xs
unfolding stepped
aims_next d n [] h = tt
aims_next d n (x ∷ xs) h = simp (lt-ltb (n + 1) (count_at d) (omega arith))

held_length : (l : ℕ) (buffer : List ℕ) (fs : List (List ℕ)) → length buffer ≡ l → length (held l buffer fs) ≡ l
unfolding held
held_length l buffer [] h = h
held_length l buffer (x ∷ xs) h = held_length l (words_from l x) xs (words_length l x)

module _ (d k : ℕ) (b : Bool) (positive : 0 < length_at d) where
  -- one of them, with j words after it
  one_frame : (v j n : ℕ) (x buffer m : List ℕ) → 0 < j → n < count_at d → AreBytes x → length x ≡ 4 * length_at d → length buffer ≡ length_at d → length m ≡ 4 * length_at d * count_at d
      → ReachesView (filling (j + length_at d) 0 d v k (Some n) b buffer) m (words_from (length_at d) x)
      (filling j 0 d (fed_words v 2 (words_from (length_at d) x)) k (stepped d n) b (words_from (length_at d) x)) (placed (length_at d) n x m)
  one_frame v j n x buffer m more inside bytes size full room =
      rw (bytes_words (length_at d) x bytes size) at
      (stored_frame d v k b buffer (words_from (length_at d) x) m positive (words_small (length_at d) x bytes) (words_length (length_at d) x) full j n more
      (omega (arith, frame_end (length_at d) n (count_at d) inside)))

  -- none of them, and one with the others after it
  no_frames : (v j : ℕ) (c : Option ℕ) (buffer m : List ℕ) → ReachesView (filling (j + 0 * length_at d) 0 d v k c b buffer) m [] (filling j 0 d v k c b buffer) m
  no_frames v j c buffer m = let none : j + 0 * length_at d ≡ j = omega arith in rw none view_none

  then_frames : (v j n : ℕ) (x buffer m : List ℕ) (xs : List (List ℕ)) (c c' : Option ℕ) (buffer' r : List ℕ) → 0 < j → n < count_at d → AreBytes x
      → length x ≡ 4 * length_at d → length buffer ≡ length_at d → length m ≡ 4 * length_at d * count_at d → c ≡ Some n
      → ReachesView (filling (j + length xs * length_at d) 0 d (fed_words v 2 (words_from (length_at d) x)) k (stepped d n) b (words_from (length_at d) x)) (placed (length_at d) n x m)
      (frames_words (length_at d) xs) (filling j 0 d (fed_words (fed_words v 2 (words_from (length_at d) x)) 2 (frames_words (length_at d) xs)) k c' b buffer') r
      → ReachesView (filling (j + suc (length xs) * length_at d) 0 d v k c b buffer) m (words_from (length_at d) x ++ frames_words (length_at d) xs)
      (filling j 0 d (fed_words v 2 (words_from (length_at d) x ++ frames_words (length_at d) xs)) k c' b buffer') r
  then_frames v j n x buffer m xs c c' buffer' r more inside bytes size full room at others =
      let sum : j + length xs * length_at d + length_at d ≡ j + suc (length xs) * length_at d = omega (arith, suc-mul (length xs) (length_at d)) in
      rw (at, ← fed_append v 2 (words_from (length_at d) x) (frames_words (length_at d) xs))
      (view_on (rw sum at (one_frame v (j + length xs * length_at d) n x buffer m (omega arith) inside bytes size full room)) others)

  kept_room : (n : ℕ) (x m : List ℕ) → n < count_at d → length x ≡ 4 * length_at d → length m ≡ 4 * length_at d * count_at d
      → length (placed (length_at d) n x m) ≡ 4 * length_at d * count_at d
  kept_room n x m inside size room = placed_length (length_at d) n x m (omega (arith, frame_end (length_at d) n (count_at d) inside)) size ∙ room

  pub frames_lead : (fs : List (List ℕ)) (v j n : ℕ) (c : Option ℕ) (buffer m : List ℕ) → 0 < j → n + length fs ≤ count_at d → Aims n c fs → AllBytes fs → Sized (length_at d) fs
      → length buffer ≡ length_at d → length m ≡ 4 * length_at d * count_at d
      → ReachesView (filling (j + length fs * length_at d) 0 d v k c b buffer) m (frames_words (length_at d) fs)
      (filling j 0 d (fed_words v 2 (frames_words (length_at d) fs)) k (reached d n c fs) b (held (length_at d) buffer fs)) (frames_written (length_at d) n fs m)
  unfolding frames_words fed_words reached held frames_written
  frames_lead [] v j n c buffer m more inside at bytes sized full room = no_frames v j c buffer m
  frames_lead (x ∷ xs) v j n c buffer m more inside at bytes sized full room =
      then_frames v j n x buffer m xs c _ _ _ more (omega arith) bytes.0 sized.0 full room at
      (frames_lead xs (fed_words v 2 (words_from (length_at d) x)) j (n + 1) (stepped d n) (words_from (length_at d) x) (placed (length_at d) n x m) more (omega arith)
      (aims_next d n xs (omega arith)) bytes.1 sized.1 (words_length (length_at d) x) (kept_room n x m (omega arith) sized.0 room))

-- ---- the packet

module _ (d v n : ℕ) (c : Option ℕ) (b : Bool) (fs : List (List ℕ)) (ws buffer m : List ℕ) (positive : 0 < length_at d) (full : length buffer ≡ length_at d)
    (room : length m ≡ 4 * length_at d * count_at d) (inside : n + length fs ≤ count_at d) (at : Aims n c fs) (bytes : AllBytes fs) (sized : Sized (length_at d) fs)
    (small : AreWords ws) (size : length ws ≡ length_at d) where
  abbrev all : List ℕ
  all = frames_words (length_at d) fs ++ ws

  count : length all ≡ suc (length fs) * length_at d
  count = omega (arith, length-append (frames_words (length_at d) fs) ws, frames_words_lem (length_at d) fs, suc-mul (length fs) (length_at d))

  -- the frames, and the last one
  words_lead : ReachesView (filling (length all) 0 d v 1 c b buffer) m all (stands Phase.Crc d (fed_words v 2 all) 1 (reached d n c fs) true ws) (frames_written (length_at d) n fs m)
  words_lead =
      let sum : length all ≡ length_at d + length fs * length_at d = omega (arith, count, suc-mul (length fs) (length_at d)) in
      rw (sum, ← fed_append v 2 (frames_words (length_at d) fs) ws)
      (view_on (frames_lead d 1 b positive fs v (length_at d) n c buffer m positive inside at bytes sized full room)
      (last_frame d (fed_words v 2 (frames_words (length_at d) fs)) 1 b (held (length_at d) buffer fs) ws (frames_written (length_at d) n fs m) positive small size
      (held_length (length_at d) buffer fs full) (reached d n c fs)))

  pub data_reaches : ReachesView (waiting d v 1 c b buffer) m (packet_words v (Packet.FrameData all)) (waiting d 0 1 (reached d n c fs) true ws) (frames_written (length_at d) n fs m)
  unfolding packet_words address_of
  data_reaches =
      let some : 0 < length all = omega (arith, count, suc-mul (length fs) (length_at d)) in
      let few : suc (length fs) ≤ 1946 = omega (arith, count_fits d) in
      let most = mul-le-mul few (length_fits d) in
      let whole : length all % length_at d ≡ 0 = rw count (mul-mod_left (suc (length fs)) (length_at d)) in
      view_on (headers_lead d v (length all) c b buffer m some (omega (arith, count, most)) whole)
      (view_on words_lead (auto_reaches d (fed_words v 2 all) 1 (reached d n c fs) true ws (frames_written (length_at d) n fs m)))
