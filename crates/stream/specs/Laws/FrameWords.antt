-- The words of frames that lie one after the other in bytes are the words that lie there.
-- By induction over the frames.
use Rattle.std.specs.Prelude.{◌≡◌, ℕ, zero, suc, ◌+◌, ◌*◌, List, drop}
use Rattle.std.proofs.Common.{sym, arith, zero-mul, suc-mul}
use Rattle.layout.specs.Step.{frames}
use Rattle.words.specs.WordsInBytes.{words_from}
use Rattle.words.proofs.Laws.WordReads.{words_take, words_add}
use Rattle.stream.specs.Stream.{frames_words}

pub frames_from : (l k : ℕ) (xs : List ℕ) → frames_words l (frames l k xs) ≡ words_from (k * l) xs
unfolding frames_words frames words_from
frames_from l zero xs = rw (zero-mul l)
frames_from l (suc k) xs =
    let e : suc k * l ≡ l + k * l = omega (arith, suc-mul k l) in
    rw (e, words_take l xs, frames_from l k (drop (4 * l) xs)) (sym (words_add l (k * l) xs))
