-- A whole stream written into an output: two words, then its packets; the stream's bytes lie at the output's start.
-- By the laws of words after words; stores from the start on leave what lies behind them.
use Rattle.std.specs.Prelude.{◌≡◌, refl, List, [], ◌∷◌, ◌++◌, true, ℕ, ◌≤◌, length}
use Rattle.std.proofs.Common.{◌∙◌, zero-add, arith}
use Rattle.std.proofs.Math.Path.{ap}
use Rattle.std.proofs.Math.ListN.{drop}
use Rattle.std.proofs.Math.Seq.{sets-eq}
use Rattle.words.proofs.Laws.WordBytes.{bytes_length}
use Rattle.words.proofs.Laws.WordStores.{put_append}
use Rattle.layout.specs.Step.{Step, Reading, listed}
use Rattle.layout.specs.Laws.AcceptedLayout.{is_read}
use Rattle.stream.specs.StreamPackets.{packets_words}
use Rattle.stream.specs.Stream.{stream_packets, words_of, stream}
use Rattle.stream.specs.Laws.StreamLength.{packets_size}
use Rattle.compiler.specs.Compiled.{stream_of, overwritten}
use Rattle.compiler.specs.Inner.PacketWriting.{Put, put_more, Room, Written}
use Rattle.compiler.specs.declared.packet.Writer.{Writer}

-- a layout that was read has the stream of its steps
pub stream_read : (d : ℕ) (r : Reading (List Step)) → is_read r ≡ true → stream_of d r ≡ stream d (listed r)
unfolding stream_of is_read listed
stream_read d (Reading.Read ss next) t = refl
stream_read d (Reading.Refused c at) t = let z : ◌≡◌ {A = ℕ} 0 1 = cc in absurd (omega arith)

-- a layout that was read has room for its stream; a writer at the start of the output writes "FFFFFFFF, sync", and then the packets
module _ (d : ℕ) (r : Reading (List Step)) (out : List ℕ) (read : is_read r ≡ true) (fits : length (stream_of d r) ≤ length out)
    (w : Writer) (start : w.at ≡ 0) (zero : w.crc ≡ 0) (held : w.output.now ≡ out) where
  room : length (stream d (listed r)) ≤ length w.output.now
  room = rw (held, ← stream_read d r read) fits

  pub word_room : 8 ≤ length w.output.now
  unfolding words_of
  word_room = let h = room in omega (arith, bytes_length (words_of d (listed r)))

  module _ {u v : Writer} (dummy : Put w (0xFFFFFFFF ∷ []) w.crc u) (sync : Put u (0xAA995566 ∷ []) u.crc v) where
    synced : Put w (0xFFFFFFFF ∷ 0xAA995566 ∷ []) 0 v
    synced = let crc : u.crc ≡ 0 = dummy.fed ∙ zero in rw crc at (put_more dummy sync)

    pub stream_room : Room v (stream_packets d (listed r))
    unfolding words_of
    stream_room =
        let h = room in
        omega (arith, start, synced.place, synced.size, bytes_length (words_of d (listed r)), packets_size 0 (stream_packets d (listed r)))

    pub stream_written : {x : Writer} → Written v (stream_packets d (listed r)) x → (x.output.ghost_name ≡ w.output.ghost_name) × (x.output.now ≡ overwritten (stream_of d r) out)
    unfolding words_of
    stream_written p =
        let all = stream d (listed r) in
        let h = room in
        let place : v.at ≡ 8 = omega (arith, start, synced.place) in
        let bytes = rw (synced.fed, place, synced.bytes, start) at p.bytes in (
          p.same_output ∙ synced.same_output,
          rw (stream_read d r read, ← held)
              (bytes ∙ put_append w.output.now 0 (0xFFFFFFFF ∷ 0xAA995566 ∷ []) (packets_words 0 (stream_packets d (listed r))) ∙ sets-eq all w.output.now 0 (omega arith)
              ∙ ap (λ (n : ℕ). all ++ drop n w.output.now) (zero-add (length all))),
        )
