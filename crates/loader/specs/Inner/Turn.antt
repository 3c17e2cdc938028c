-- A turn of the load: the first n of the bytes are taken, and the rest, run from what they leave, gives what all of them give.
-- By the laws of the next byte, the next word and the next words that only fill.
use Rattle.std.specs.Prelude.{◌≡◌, refl, List, true, false, ℕ, ◌+◌, ◌-◌, ◌*◌, ◌≤◌, ◌<◌, length, get_or, drop}
use Rattle.std.proofs.Common.{arith}
use Rattle.std.proofs.lemmas.List.Edits.{sets}
use Rattle.parts.specs.Table.{length_at}
use Rattle.config.specs.PhaseTests.{is_hunting, is_stopped, takes_words}
use Rattle.config.specs.DataWords.{word}
use Rattle.registers.specs.declared.Register.TheVariants as Register
use Rattle.config.specs.declared.PartialWord.TheVariants as PartialWord
use Rattle.config.specs.declared.Phase.{Phase}
use Rattle.words.specs.WordsInBytes.{word_at, words_from}
use Rattle.loader.specs.Run.{byte_transition, after, record_after, memory_after, run}
use Rattle.loader.specs.Laws.WordRun.{partial_empty}
use Rattle.loader.specs.Inner.FillWords.{filled_control, run_byte, run_word, run_filling}
use Rattle.record.specs.declared.Record.{Record}

-- the first n of the bytes lead from record d and memory m to record e and memory k
pub record Turn (d : Record) (m : List ℕ) (e : Record) (k s : List ℕ) (n : ℕ) : Type 0 where
  pub some : 1 ≤ n
  pub within : n ≤ length s
  pub runs : run d m s ≡ after n (run e k (drop n s))

-- past the hunt and before a stop, words are taken
takes : (p : Phase) → is_hunting p ≡ false → is_stopped p ≡ false → takes_words p ≡ true
takes (Phase.Hunting b) g t = cc
takes (Phase.Header o) g t = refl
takes (Phase.Data r left filled) g t = refl
takes Phase.Crc g t = refl
takes (Phase.Stopped s) g t = cc

module _ (d : Record) (m s : List ℕ) where
  pub byte_turn : is_stopped d.phase ≡ false → 1 ≤ length s →
      let x = byte_transition d (get_or s 0 0) in
      Turn d m (record_after x d) (memory_after x d m) s 1
  byte_turn g h = record { some = omega arith; within = h; runs = run_byte d m s g (omega arith) }

  pub word_turn : is_hunting d.phase ≡ false → is_stopped d.phase ≡ false → d.control.partial ≡ PartialWord.Zero → 4 ≤ length s →
      let x = word d.phase d.control (word_at s 0) in
      Turn d m (record_after x d) (memory_after x d m) s 4
  word_turn g t e h = record {
    some = omega arith;
    within = h;
    runs = rw (partial_empty d.control e) at (run_word d m s (takes d.phase g t) e h);
  }

  pub fill_turn : (e : Record) (n left filled : ℕ) → d.phase ≡ Phase.Data Register.Fdri left filled
      → 1 ≤ n → n < left → filled + n < length_at d.control.device → d.control.partial ≡ PartialWord.Zero → 4 * n ≤ length s
      → e.phase ≡ Phase.Data Register.Fdri (left - n) (filled + n) → e.control ≡ filled_control (words_from n s) d.control → e.frame ≡ sets d.frame filled (words_from n s)
      → Turn d m e m s (4 * n)
  fill_turn e n left filled p h hl hf empty hs ep ec ef =
      record { some = omega arith; within = hs; runs = rw (ep, ec, ef) (rw (← p) at (run_filling n left filled d.control d.frame m s hl hf empty hs)) }
