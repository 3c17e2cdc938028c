-- What a stream relies on between two packets, and words that lead from one such state to another.
-- A state is a view of the record: it tells what the next packets depend on, and leaves all else open.
use Rattle.std.specs.Prelude.{◌≡◌, List, [], ◌∷◌, ◌++◌, Bool, true, ℕ, ◌^◌, ◌<◌, length, take, Option, None}
use Rattle.std.proofs.Common.{◌∙◌, ap}
use Rattle.parts.specs.Table.{length_at}
use Rattle.config.specs.PhaseTests.{takes_words}
use Rattle.config.specs.DataWords.{word}
use Rattle.config.specs.declared.PartialWord.{PartialWord}
use Rattle.config.specs.declared.Phase.{Phase}
use Rattle.config.specs.declared.Transition.{Transition}
use Rattle.record.specs.declared.Record.{Record}
use Rattle.loader.specs.Run.{record_after, memory_after}
use Rattle.reconfigure.specs.Laws.WordsReach.{Reaches, reaches_none, reaches_on, reaches_word}

-- words: those of the frame buffer that count; room: how many it has in all
pub record View : Type 0 where
  pub phase : Phase
  pub partial : PartialWord
  pub device : ℕ
  pub idcode : Bool
  pub flr : Bool
  pub crc : ℕ
  pub cmd : ℕ
  pub current : Option ℕ
  pub valid : Bool
  pub words : List ℕ
  pub room : ℕ

abbrev pub view : Record → View
view e = record {
  phase = e.phase;
  partial = e.control.partial;
  device = e.control.device;
  idcode = e.control.flags.idcode_ok;
  flr = e.control.flags.flr_ok;
  crc = e.control.registers.crc;
  cmd = e.control.registers.cmd;
  current = e.control.current;
  valid = e.control.flags.buffer_valid;
  words = take (length_at e.control.device) e.frame;
  room = length e.frame;
}

-- a record of device d with IDCODE and FLR accepted, between two words
abbrev pub stands : Phase → ℕ → ℕ → ℕ → Option ℕ → Bool → List ℕ → View
stands phase d crc cmd current valid words = record {
  phase = phase;
  partial = PartialWord.Zero;
  device = d;
  idcode = true;
  flr = true;
  crc = crc;
  cmd = cmd;
  current = current;
  valid = valid;
  words = words;
  room = 213;
}

-- it waits for a header
abbrev pub waiting : ℕ → ℕ → ℕ → Option ℕ → Bool → List ℕ → View
waiting = stands (Phase.Header None)

-- the state with another phase, CRC, current frame and frame in hand
abbrev pub moved : Phase → ℕ → ℕ → Option ℕ → Bool → List ℕ → View → View
moved phase crc cmd current valid words s = record {
  phase = phase;
  partial = s.partial;
  device = s.device;
  idcode = s.idcode;
  flr = s.flr;
  crc = crc;
  cmd = cmd;
  current = current;
  valid = valid;
  words = words;
  room = s.room;
}

-- a word leads where the control machine takes it
pub word_reaches : {p : Phase} {d v k : ℕ} {n : Option ℕ} {b : Bool} {buffer : List ℕ} (e : Record) (m : List ℕ) (w : ℕ) (x : Transition) → view e ≡ stands p d v k n b buffer
    → takes_words p ≡ true → w < 2 ^ 32 → word p e.control w ≡ x → Reaches e m (w ∷ []) (record_after x e) (memory_after x e m)
word_reaches e m w x h takes small made =
    let phase = ap (λ (s : View). s.phase) h in
    reaches_word e m w x (ap takes_words phase ∙ takes) (ap (λ (s : View). s.partial) h) small (ap (λ (q : Phase). word q e.control w) phase ∙ made)

-- where words lead from a record
pub record AtView (e : Record) (m ws : List ℕ) (t : View) (k : List ℕ) : Type 0 where
  pub next : Record
  pub reaches : Reaches e m ws next k
  pub seen : view next ≡ t

-- words lead from any record in state s, with memory m, to one in state t, with memory k
pub record ReachesView (s : View) (m ws : List ℕ) (t : View) (k : List ℕ) : Type 0 where
  pub from : (e : Record) → view e ≡ s → AtView e m ws t k

pub view_none : {s : View} {m : List ℕ} → ReachesView s m [] s m
view_none {s} {m} = record { from = λ e h. record { next = e; reaches = reaches_none; seen = h } }

pub view_on : {s t u : View} {m k n vs ws : List ℕ} → ReachesView s m vs t k → ReachesView t k ws u n → ReachesView s m (vs ++ ws) u n
view_on {s} {t} {u} {m} {k} {n} {vs} {ws} first second =
    record {
      from = λ e h.
          let one = first.from e h in
          let two = second.from one.next one.seen in
          record { next = two.next; reaches = reaches_on one.reaches two.reaches; seen = two.seen };
    }
