-- `loader::fill::fill` meets its contract: what `put` makes of a part of the buffer is the buffer with the words kept there.
use Rattle.std.proofs.Common.{◌≡◌, ◌∙◌, List, ℕ, ◌+◌, ◌-◌, ◌≤◌, length, refl, append_assoc, drop-drop, arith}
use Rattle.std.proofs.lemmas.List.Edits.{sets, sets-eq}
use borrow.Rule.Slice.PartMut.{mid_of, mid_len, put_mid}
use Rattle.words.specs.WordsInBytes.{words_from}
use Rattle.words.proofs.Laws.WordBytes.{words_length}
use Rattle.loader.proofs.fill.fill.Goals as goal

-- a part that is overwritten
put_sets : (a n : ℕ) (f ws : List ℕ) → length ws ≡ n → a + n ≤ length f → put_mid a n f ws ≡ sets f a ws
put_sets a n f ws e h = rw (sets-eq ws f a (omega arith), e, drop-drop n a f, append_assoc)

pub returns : goal.returns
returns c =
    let a = c.args in
    let f = a.device.now.frame in
    let room : a.filled + a.n ≤ length f = omega arith in
    let k : a.filled + a.n - a.filled ≡ a.n = omega arith in
    let size : length (mid_of a.filled (a.filled + a.n - a.filled) f) ≡ a.n = mid_len a.filled (a.filled + a.n) f room ∙ k in
    let p = rw size at c.put.ensures.places_after in
    record {
      phase_after = refl;
      control_after = rw (c.put.ensures.registers_after, size);
      frame_after = rw (p, k) (put_sets a.filled a.n f (words_from a.n a.bytes.now) (words_length a.n a.bytes.now) room);
    }
