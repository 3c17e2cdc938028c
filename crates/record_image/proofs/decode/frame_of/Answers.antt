-- `record_image::decode::frame_of` meets its contract: the words of the frame, read one by one.
-- Each call reads the word of its index and leaves the closure as it was.
use Rattle.std.proofs.Common.{◌≡◌, List, ℕ, suc, zero, ◌+◌, ◌*◌, length, drop, sym, subst, ◌∙◌, arith, drop-cons, add-one, rules, get_or}
use Rattle.std.proofs.lemmas.List.{drop_all}
use Rattle.std.specs.Array.{IsFromFnResultFrom}
use Rattle.words.specs.WordsInBytes.{words_from, words_at}
use Rattle.words.proofs.Laws.WordReads.{words_next}
use denote.Param.Members.{Mut, Called}
use Rattle.record_image.specs.Decode.{image_word}
use Rattle.record_image.proofs.decode.frame_of.Goals as goal

module _ {F : Type 0} (g : Mut F (ℕ × Unit {0}) ℕ) (f : F) (bytes : List ℕ) (k : ℕ) (reads : (i y : ℕ) (q : F) → Called g f (i, tt) y q → (y ≡ image_word bytes (k + i)) × (q ≡ f)) (ws : List ℕ) where
  all_read : (i n : ℕ) → length ws ≡ i + n → IsFromFnResultFrom g f ws i n → drop i ws ≡ words_at bytes (4 * (k + i)) n
  unfolding words_from
  all_read i zero l e = drop_all i ws (omega arith)
  all_read i (suc n) l e =
      let r = reads i e.1 e.0 e.3 in
      let rest = all_read (i + 1) n (omega arith) (subst (λ q. IsFromFnResultFrom g q ws (i + 1) n) r.1 e.4) in
      let next : 4 * (k + (i + 1)) ≡ 4 * (k + i) + 4 = omega arith in
      let word : get_or ws i 0 ≡ image_word bytes (k + i) = e.2.1 0 ∙ r.0 in
      drop-cons ws i 0 (omega arith) ∙ rw (word, ← add-one i, rest, next) (sym (words_next bytes (4 * (k + i)) n))

pub returns : goal.returns
returns c = all_read _ _ c.args.image.now 24 (λ i y q h. search rules) c.from_fn.result 0 213 c.from_fn.ensures.items.long c.from_fn.ensures.items.each
