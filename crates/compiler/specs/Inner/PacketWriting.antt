-- Words and packets that a writer wrote: the writer after them. One list after another is the two joined.
-- By the laws of words after words and of packets after packets; a loop says that what is left, written from here, is what all is,
-- written from the start.
use Rattle.std.specs.Prelude.{◌≡◌, refl, List, [], ◌∷◌, ◌++◌, ℕ, ◌+◌, ◌*◌, ◌≤◌, length, replicate}
use Rattle.std.proofs.Common.{◌∙◌, arith, append-nil, length-append}
use Rattle.std.proofs.lemmas.List.{length-replicate}
use Rattle.words.specs.WordsInBytes.{bytes_of, put_words, words_from}
use Rattle.words.proofs.Laws.WordBytes.{words_length}
use Rattle.words.proofs.Laws.WordStores.{put_append}
use Rattle.stream.specs.StreamPackets.{Packet, crc_of, packet_words, packets_words}
use Rattle.stream.specs.Laws.StreamLength.{size, sizes, sizes_append, packet_size, packets_size}
use Rattle.stream.specs.Laws.PacketsJoined.{crc_after, words_append, crc_append}
use Rattle.compiler.specs.declared.packet.Writer.{Writer}

-- ---- words

-- the words are written, and leave a CRC
pub record Put (w : Writer) (ws : List ℕ) (crc : ℕ) (v : Writer) : Type 0 where
  pub same_output : v.output.ghost_name ≡ w.output.ghost_name
  pub size : length v.output.now ≡ length w.output.now
  pub place : v.at ≡ w.at + 4 * length ws
  pub fed : v.crc ≡ crc
  pub bytes : v.output.now ≡ put_words w.output.now w.at ws

-- words after words
pub put_more : {w : Writer} {ws : List ℕ} {crc : ℕ} {v : Writer} {vs : List ℕ} {end : ℕ} {u : Writer} → Put w ws crc v → Put v vs end u → Put w (ws ++ vs) end u
put_more {w} {ws} {crc} {v} {vs} p q =
    record {
      same_output = q.same_output ∙ p.same_output;
      size = q.size ∙ p.size;
      place = omega (arith, p.place, q.place, length-append ws vs);
      fed = q.fed;
      bytes = q.bytes ∙ rw (p.bytes, p.place) (put_append w.output.now w.at ws vs);
    }

-- the same, where the CRC is set afterwards
pub put_ended : {w : Writer} {ws : List ℕ} {crc : ℕ} {v : Writer} → Put w ws crc v → (end : ℕ) → Put w ws end (record v { crc = end })
put_ended p end = record { same_output = p.same_output; size = p.size; place = p.place; fed = refl; bytes = p.bytes }

-- ---- packets

-- the packets have room in an output
abbrev pub Room : Writer → List Packet → Type 0
Room w ps = w.at + 4 * sizes ps ≤ length w.output.now

-- and so have the first of them
pub front_room : (w : Writer) (ps qs : List Packet) → Room w (ps ++ qs) → Room w ps
front_room w ps qs h = omega (arith, sizes_append ps qs)

pub first_room : (w : Writer) (p : Packet) (ps : List Packet) → Room w (p ∷ ps) → Room w (p ∷ [])
unfolding sizes
first_room w p ps h = omega arith

pub frames_room : (w : Writer) (n zeros : ℕ) (xs : List ℕ) → Room w (Packet.FrameData (words_from n xs ++ replicate zeros 0) ∷ []) → w.at + 4 * (3 + n + zeros) ≤ length w.output.now
unfolding sizes size
frames_room w n zeros xs h = omega (arith, length-append (words_from n xs) (replicate {A = ℕ} zeros 0), length-replicate {A = ℕ} zeros 0, words_length n xs)

-- the packets are written
pub record Written (w : Writer) (ps : List Packet) (v : Writer) : Type 0 where
  pub same_output : v.output.ghost_name ≡ w.output.ghost_name
  pub size : length v.output.now ≡ length w.output.now
  pub place : v.at ≡ w.at + 4 * sizes ps
  pub crc : v.crc ≡ crc_after w.crc ps
  pub bytes : v.output.now ≡ put_words w.output.now w.at (packets_words w.crc ps)

module _ {w : Writer} {ps : List Packet} {v : Writer} (p : Written w ps v) where
  -- packets after packets
  pub joined : {qs : List Packet} {u : Writer} → Written v qs u → Written w (ps ++ qs) u
  joined {qs = qs} q =
      record {
        same_output = q.same_output ∙ p.same_output;
        size = q.size ∙ p.size;
        place = omega (arith, p.place, q.place, sizes_append ps qs);
        crc = q.crc ∙ rw p.crc (crc_append w.crc ps qs);
        bytes = q.bytes ∙ rw (p.bytes, p.place, p.crc, words_append w.crc ps qs, ← packets_size w.crc ps) (put_append w.output.now w.at (packets_words w.crc ps) (packets_words (crc_after w.crc ps) qs));
      }

  -- and there is room for them
  pub joined_room : (qs : List Packet) → Room w (ps ++ qs) → Room v qs
  joined_room qs h = omega (arith, p.place, p.size, sizes_append ps qs)

  pub middle_room : (qs rs : List Packet) → Room w (ps ++ (qs ++ rs)) → Room v qs
  middle_room qs rs h = front_room v qs rs (joined_room (qs ++ rs) h)

  pub next_room : (q : Packet) (qs : List Packet) → Room w (ps ++ q ∷ qs) → Room v (q ∷ [])
  next_room q qs h = first_room v q qs (joined_room (q ∷ qs) h)

pub nothing : (w : Writer) → Written w [] w
unfolding sizes crc_after packets_words bytes_of
nothing w = record { same_output = refl; size = refl; place = omega arith; crc = refl; bytes = refl }

-- one packet, by its words
pub once : {w : Writer} (p : Packet) {v : Writer} → Put w (packet_words w.crc p) (crc_of w.crc p) v → Written w (p ∷ []) v
unfolding sizes crc_after packets_words
once {w = w} p e =
    record {
      same_output = e.same_output;
      size = e.size;
      place = omega (arith, e.place, packet_size w.crc p);
      crc = e.fed;
      bytes = rw (append-nil (packet_words w.crc p)) e.bytes;
    }

-- what is left, written from here, is what all is, written from the start
abbrev pub Remains : Writer → List Packet → Writer → List Packet → Type 0
Remains w ps now qs = (v : Writer) → Written now qs v → Written w ps v
