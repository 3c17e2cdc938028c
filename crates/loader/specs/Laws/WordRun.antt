-- Four bytes are a word: from an empty partial word, four bytes do what the control machine makes of their word, and a word that
-- stops leaves the memory as it was, with its four bytes taken. Byte by byte: three bytes only fill the partial word.
use Rattle.std.specs.Prelude.{◌≡◌, List, ◌∷◌, true, ℕ}
use Rattle.std.proofs.Common.{◌∙◌, sym, arith}
use Rattle.std.proofs.Math.Path.{ap}
use Rattle.config.specs.PhaseTests.{is_stopped, takes_words}
use Rattle.config.specs.Laws.TakesWords.{takes_gathers, takes_runs}
use Rattle.config.specs.ControlState.{with_partial}
use Rattle.words.specs.WordsInBytes.{word_of}
use Rattle.config.specs.StreamBytes.{gathered}
use Rattle.config.specs.DataWords.{word}
use Rattle.config.specs.declared.PartialWord.{PartialWord}
use Rattle.config.specs.declared.Control.{Control}
use Rattle.config.specs.declared.Phase.TheVariants as Phase
use Rattle.answers.specs.declared.Stop.{Stop}
use Rattle.config.specs.declared.Event.{Event}
use Rattle.config.specs.declared.Transition.{Transition}
use Rattle.loader.specs.EventEffects.{buffered, stored}
use Rattle.loader.specs.Run.{record_after, memory_after, Ran, ran, after, run}
use Rattle.loader.specs.Laws.Pieces.{stopped_run, byte_run}
use Rattle.record.specs.declared.Record.{Record}

pub partial_empty : (c : Control) → c.partial ≡ PartialWord.Zero → with_partial PartialWord.Zero c ≡ c
partial_empty c h = ap (λ (b : PartialWord). with_partial b c) (sym h)

four_bytes : (r : Ran) → after 1 (after 1 (after 1 (after 1 r))) ≡ after 4 r
four_bytes r = ap (ran r.«record» r.memory) (omega arith)

-- what the control machine makes of a word in the record's phase
abbrev pub word_transition : Record → ℕ → Transition
word_transition d w = word d.phase (with_partial PartialWord.Zero d.control) w

-- the record with another partial word, and what is made of a byte after it
abbrev with_partial_word : PartialWord → Record → Record
with_partial_word b d = record { phase = d.phase; control = with_partial b d.control; frame = d.frame }

abbrev transition_after : PartialWord → Record → ℕ → Transition
transition_after b d x = gathered b d.phase (with_partial b d.control) x

module _ (d : Record) (takes : takes_words d.phase ≡ true) where
  partial_run : (b : PartialWord) (m : List ℕ) (x : ℕ) (xs : List ℕ)
      → run (with_partial_word b d) m (x ∷ xs) ≡ after 1 (run (record_after (transition_after b d x) d) (memory_after (transition_after b d x) d m) xs)
  partial_run b m x xs = byte_run (with_partial_word b d) m x xs (takes_runs d.phase takes) ∙ rw (takes_gathers d.phase (with_partial b d.control) x takes)

  -- 01: "bytes are taken in fours, high byte first"
  pub word_run : (m : List ℕ) (a b c e : ℕ) (rest : List ℕ) → d.control.partial ≡ PartialWord.Zero
      → run d m (a ∷ b ∷ c ∷ e ∷ rest) ≡ after 4 (run (record_after (word_transition d (word_of a b c e)) d) (memory_after (word_transition d (word_of a b c e)) d m) rest)
  unfolding gathered buffered stored
  word_run m a b c e rest empty =
      ap (λ (k : Control). run (record { phase = d.phase; control = k; frame = d.frame }) m (a ∷ b ∷ c ∷ e ∷ rest)) (sym (partial_empty d.control empty))
      ∙ rw (partial_run PartialWord.Zero m a (b ∷ c ∷ e ∷ rest), partial_run (PartialWord.One a) m b (c ∷ e ∷ rest), partial_run (PartialWord.Two a b) m c (e ∷ rest), partial_run (PartialWord.Three a b c) m e rest)
      (four_bytes _)

  module _ (m : List ℕ) (a b c e : ℕ) (rest : List ℕ) (s : Stop) (empty : d.control.partial ≡ PartialWord.Zero)
      (stops : (word_transition d (word_of a b c e)).phase ≡ Phase.Stopped s) (quiet : (word_transition d (word_of a b c e)).event ≡ Event.Nothing) where
    -- 01: "the bytes taken from this piece, up to and with the byte that ended the bad word"; "Stops 1 to 10 keep frames stored before"
    pub word_stops : run d m (a ∷ b ∷ c ∷ e ∷ rest)
        ≡ ran (record { phase = Phase.Stopped s; control = (word_transition d (word_of a b c e)).control; frame = d.frame }) m 4
    unfolding buffered stored
    word_stops =
        let f = word_transition d (word_of a b c e) in
        word_run m a b c e rest empty ∙ ap (after 4) (stopped_run (record_after f d) (memory_after f d m) rest (ap is_stopped stops)) ∙ rw (stops, quiet)

    -- 01: "nothing in the record changed but the phase and an emptied part word"
    pub word_dropped : (word_transition d (word_of a b c e)).control ≡ with_partial PartialWord.Zero d.control
        → run d m (a ∷ b ∷ c ∷ e ∷ rest) ≡ ran (record { phase = Phase.Stopped s; control = d.control; frame = d.frame }) m 4
    word_dropped same = word_stops ∙ rw (same, partial_empty d.control empty)
