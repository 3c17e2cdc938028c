-- Packets written from a cursor on: the output and the cursor after them. One list after another is the two joined; a whole stream's
-- bytes lie at the output's start.
-- By the laws of packets after packets; a loop says that what is left, written from here, is what all is, written from the start.
use Rattle.std.specs.Prelude.{◌≡◌, refl, List, [], ◌∷◌, ◌++◌, ℕ, ◌+◌, ◌*◌, ◌≤◌, length, replicate}
use Rattle.std.proofs.Common.{◌∙◌, ap, zero-add, arith, append-nil, length-append}
use Rattle.std.proofs.lemmas.List.{length-replicate}
use Rattle.std.proofs.Math.ListN.{drop}
use Rattle.std.proofs.Math.Seq.{length-sets, sets-eq}
use Rattle.std.specs.Borrow.{MutBor}
use denote.Triple.Both.{Both}
use Rattle.words.specs.WordsInBytes.{bytes_of, put_words, words_from}
use Rattle.words.proofs.Laws.WordBytes.{bytes_length, words_length}
use Rattle.words.proofs.Laws.WordStores.{put_append}
use Rattle.layout.specs.Step.{Step}
use Rattle.stream.specs.StreamPackets.{Packet, packet_words, packets_words}
use Rattle.stream.specs.Stream.{stream_packets, words_of, stream}
use Rattle.stream.specs.Laws.StreamLength.{size, sizes, sizes_append, packets_size}
use Rattle.stream.specs.Laws.PacketsJoined.{crc_after, words_append, crc_append}
use Rattle.compiler.specs.Compiled.{overwritten}
use Rattle.kept.proofs.Laws.CursorWords.{Cursor}

-- the output with packets written from an offset on
abbrev pub emitted : List ℕ → ℕ → ℕ → List Packet → List ℕ
emitted out at crc ps = put_words out at (packets_words crc ps)

pub words_one : (crc : ℕ) (p : Packet) → packets_words crc (p ∷ []) ≡ packet_words crc p
unfolding packets_words
words_one crc p = append-nil (packet_words crc p)

-- packets after packets
pub emit_append : (out : List ℕ) (at crc : ℕ) (ps qs : List Packet)
    → emitted (emitted out at crc ps) (at + 4 * sizes ps) (crc_after crc ps) qs ≡ emitted out at crc (ps ++ qs)
emit_append out at crc ps qs =
    rw (words_append crc ps qs, ← packets_size crc ps) (put_append out at (packets_words crc ps) (packets_words (crc_after crc ps) qs))

-- ---- a cursor

abbrev pub cursor_at : ℕ → ℕ → Cursor
cursor_at at crc = record { at = at; crc = crc }

-- the packets have room in an output
abbrev pub Room : List ℕ → Cursor → List Packet → Type 0
Room out cursor ps = cursor.at + 4 * sizes ps ≤ length out

-- and so have the first of them
pub front_room : (out : List ℕ) (cursor : Cursor) (ps qs : List Packet) → Room out cursor (ps ++ qs) → Room out cursor ps
front_room out cursor ps qs h = omega (arith, sizes_append ps qs)

pub first_room : (out : List ℕ) (cursor : Cursor) (p : Packet) (ps : List Packet) → Room out cursor (p ∷ ps) → cursor.at + 4 * size p ≤ length out
unfolding sizes
first_room out cursor p ps h = omega arith

-- the packets are written from a cursor on; the output and the cursor after them
pub record Written (out : List ℕ) (cursor : Cursor) (ps : List Packet) (after : List ℕ) (end : Cursor) : Type 0 where
  pub place : end.at ≡ cursor.at + 4 * sizes ps
  pub crc : end.crc ≡ crc_after cursor.crc ps
  pub bytes : after ≡ emitted out cursor.at cursor.crc ps

-- the same of an output that is lent
abbrev pub Writes : Both (MutBor (List ℕ)) (MutBor (List ℕ)) → Cursor → List Packet → Cursor → Type 0
Writes output cursor ps end = Written output.entry.now cursor ps output.exit.now end

module _ {out : List ℕ} {cursor : Cursor} {ps : List Packet} {after : List ℕ} {end : Cursor} (w : Written out cursor ps after end) where
  pub written_length : length after ≡ length out
  written_length = ap length w.bytes ∙ length-sets out cursor.at (bytes_of (packets_words cursor.crc ps))

  -- packets after packets
  pub joined : {qs : List Packet} {last : List ℕ} {stop : Cursor} → Written after end qs last stop → Written out cursor (ps ++ qs) last stop
  joined {qs = qs} v =
      record {
        place = omega (arith, w.place, v.place, sizes_append ps qs);
        crc = v.crc ∙ rw w.crc (crc_append cursor.crc ps qs);
        bytes = v.bytes ∙ rw (w.bytes, w.place, w.crc) (emit_append out cursor.at cursor.crc ps qs);
      }

  -- and there is room for them
  pub joined_room : (qs : List Packet) → Room out cursor (ps ++ qs) → Room after end qs
  joined_room qs h = omega (arith, w.place, written_length, sizes_append ps qs)

  pub middle_room : (qs rs : List Packet) → Room out cursor (ps ++ (qs ++ rs)) → Room after end qs
  middle_room qs rs h = front_room after end qs rs (joined_room (qs ++ rs) h)

  pub next_room : (q : Packet) (qs : List Packet) → Room out cursor (ps ++ q ∷ qs) → end.at + 4 * size q ≤ length after
  next_room q qs h = first_room after end q qs (joined_room (q ∷ qs) h)

pub nothing : (out : List ℕ) (cursor : Cursor) → Written out cursor [] out cursor
unfolding sizes crc_after packets_words bytes_of
nothing out cursor = record { place = omega arith; crc = refl; bytes = refl }

-- one packet, as the functions that write one say it
pub once : {out : List ℕ} {cursor : Cursor} {p : Packet} {after : List ℕ} {end : Cursor}
    → (end.at ≡ cursor.at + 4 * size p) × ((end.crc ≡ crc_after cursor.crc (p ∷ [])) × (after ≡ emitted out cursor.at cursor.crc (p ∷ [])))
    → Written out cursor (p ∷ []) after end
unfolding sizes
once e = record { place = omega (arith, e.0); crc = e.1.0; bytes = e.1.1 }

-- frames, as the function that writes them says it
pub frames_size : (n zeros : ℕ) (xs : List ℕ) → size (Packet.FrameData (words_from n xs ++ replicate zeros 0)) ≡ 3 + n + zeros
unfolding size
frames_size n _ xs = simp (length-append, length-replicate) (omega (arith, words_length n xs))

pub frames_once : {out : List ℕ} {cursor : Cursor} {after : List ℕ} {end : Cursor} (n zeros : ℕ) (xs : List ℕ)
    → (end.at ≡ cursor.at + 4 * (3 + n + zeros))
    × ((end.crc ≡ crc_after cursor.crc (Packet.FrameData (words_from n xs ++ replicate zeros 0) ∷ []))
    × (after ≡ emitted out cursor.at cursor.crc (Packet.FrameData (words_from n xs ++ replicate zeros 0) ∷ [])))
    → Written out cursor (Packet.FrameData (words_from n xs ++ replicate zeros 0) ∷ []) after end
frames_once n zeros xs e = once (rw (frames_size n zeros xs) e.0, e.1)

-- what is left, written from here, is what all is, written from the start
abbrev pub Remains : List ℕ → Cursor → List Packet → List ℕ → Cursor → List Packet → Type 0
Remains out cursor ps now end qs = (after : List ℕ) (stop : Cursor) → Written now end qs after stop → Written out cursor ps after stop

-- ---- a whole stream

-- "FFFFFFFF, sync"
abbrev pub synced : List ℕ → List ℕ
synced out = put_words out 0 (0xFFFFFFFF ∷ 0xAA995566 ∷ [])

pub synced_length : (out : List ℕ) → length (synced out) ≡ length out
synced_length out = length-sets out 0 (bytes_of (0xFFFFFFFF ∷ 0xAA995566 ∷ []))

module _ (d : ℕ) (ss : List Step) (out : List ℕ) (fits : length (stream d ss) ≤ length out) where
  pub stream_room : Room (synced out) (cursor_at 8 0) (stream_packets d ss)
  unfolding words_of
  stream_room = omega (arith, bytes_length (words_of d ss), packets_size 0 (stream_packets d ss), synced_length out)

  pub stream_written : (after : List ℕ) (end : Cursor) → Written (synced out) (cursor_at 8 0) (stream_packets d ss) after end → after ≡ overwritten (stream d ss) out
  unfolding words_of
  stream_written after end w =
      w.bytes ∙ put_append out 0 (0xFFFFFFFF ∷ 0xAA995566 ∷ []) (packets_words 0 (stream_packets d ss)) ∙ sets-eq (stream d ss) out 0 (omega arith)
      ∙ ap (λ (n : ℕ). stream d ss ++ drop n out) (zero-add (length (stream d ss)))
