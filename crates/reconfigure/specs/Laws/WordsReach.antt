-- Words that a load takes: from a record and a memory they lead to others, whatever bytes follow.
-- Four bytes are a word, and words lead on from where the words before them lead.
use Rattle.std.specs.Prelude.{◌≡◌, List, [], ◌∷◌, ◌++◌, true, ℕ, ◌+◌, ◌*◌, ◌/◌, ◌%◌, ◌^◌, ◌<◌, length}
use Rattle.std.proofs.Common.{◌∙◌, sym, ap, append_assoc, arith, length-append}
use Rattle.words.specs.WordsInBytes.{bytes_of}
use Rattle.words.proofs.Laws.WordBytes.{bytes_append, word_bytes}
use Rattle.config.specs.PhaseTests.{takes_words}
use Rattle.config.specs.DataWords.{word}
use Rattle.config.specs.declared.PartialWord.TheVariants as PartialWord
use Rattle.config.specs.declared.Transition.{Transition}
use Rattle.record.specs.declared.Record.{Record}
use Rattle.loader.specs.Run.{after, record_after, memory_after, run}
use Rattle.loader.specs.Laws.Pieces.{after_zero, after_after}
use Rattle.loader.specs.Laws.WordRun.{partial_empty, word_run}

-- the words lead from record d and memory m to record e and memory k
pub record Reaches (d : Record) (m ws : List ℕ) (e : Record) (k : List ℕ) : Type 0 where
  pub runs_to : (rest : List ℕ) → run d m (bytes_of ws ++ rest) ≡ after (4 * length ws) (run e k rest)

pub reaches_none : {d : Record} {m : List ℕ} → Reaches d m [] d m
unfolding bytes_of
reaches_none {d} {m} = record { runs_to = λ rest. sym (after_zero (run d m rest)) }

pub reaches_on : {d e g : Record} {m k n vs ws : List ℕ} → Reaches d m vs e k → Reaches e k ws g n → Reaches d m (vs ++ ws) g n
reaches_on {d} {e} {g} {m} {k} {n} {vs} {ws} first second =
    let sum : 4 * length vs + 4 * length ws ≡ 4 * length (vs ++ ws) = omega (arith, length-append vs ws) in
    record {
      runs_to = λ rest.
          rw (bytes_append vs ws, append_assoc (bytes_of vs) (bytes_of ws) rest) (first.runs_to (bytes_of ws ++ rest))
          ∙ ap (after (4 * length vs)) (second.runs_to rest) ∙ after_after (4 * length vs) (4 * length ws) (run g n rest)
          ∙ ap (λ (j : ℕ). after j (run g n rest)) sum;
    }

-- a word leads where the control machine takes it
pub reaches_word : (d : Record) (m : List ℕ) (w : ℕ) (x : Transition) → takes_words d.phase ≡ true → d.control.partial ≡ PartialWord.Zero → w < 2 ^ 32
    → word d.phase d.control w ≡ x → Reaches d m (w ∷ []) (record_after x d) (memory_after x d m)
unfolding bytes_of
reaches_word d m w x takes empty small made =
    record {
      runs_to = λ rest.
          word_run d takes m (w / 2 ^ 24 % 2 ^ 8) (w / 2 ^ 16 % 2 ^ 8) (w / 2 ^ 8 % 2 ^ 8) (w % 2 ^ 8) rest empty
          ∙ rw (word_bytes w small, partial_empty d.control empty, made);
    }
