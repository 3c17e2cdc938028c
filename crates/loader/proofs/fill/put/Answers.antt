-- `loader::fill::put` meets its contract. The invariant goes by what is left: the words not yet passed, put, fed and held from here
-- on, give what all of them give.
use Rattle.std.proofs.Common.{◌≡◌, ◌∙◌, List, ◌∷◌, ℕ, suc, ◌+◌, ◌-◌, ◌*◌, ◌<◌, length, drop, refl, add-one, append-nil, arith}
use Rattle.std.proofs.lemmas.List.{drop_all}
use Rattle.std.proofs.lemmas.List.Edits.{sets, sets-eq}
use Rattle.crc16.specs.CrcRegister.{fed_words}
use Rattle.registers.specs.RegisterAddresses.{address_of}
use Rattle.words.specs.WordsInBytes.{word_at, words_from}
use Rattle.words.proofs.Laws.WordReads.{words_next}
use Rattle.words.proofs.Laws.WordBytes.{words_length}
use Rattle.loader.specs.Inner.FillWords.{last_of}
use Rattle.loader.proofs.fill.put.Goals as goal

-- the first of the words that are left
next : (n k : ℕ) (s : List ℕ) → k < n → words_from (n - k) (drop (4 * k) s) ≡ word_at s (4 * k) ∷ words_from (n - suc k) (drop (4 * suc k) s)
next n k s h =
    let e₁ : n - k ≡ suc (n - suc k) = omega arith in
    let e₂ : 4 * suc k ≡ 4 * k + 4 = omega arith in
    rw (e₁, e₂) (words_next s (4 * k) (n - suc k))

-- words put into all places
put_all : (n : ℕ) (ps s : List ℕ) → n ≡ length ps → sets ps 0 (words_from n s) ≡ words_from n s
put_all n ps s e =
    let size : length (words_from n s) ≡ n = words_length n s in
    sets-eq (words_from n s) ps 0 (omega arith) ∙ rw (drop_all (0 + length (words_from n s)) ps (omega arith)) (append-nil _)

pub loop-k-preserved : goal.loop-k-preserved
unfolding fed_words last_of address_of
loop-k-preserved c =
    let l = c.loop-k in
    let e = next (length c.args.places.now) l.k c.args.bytes.now c.loop-k-test.true in
    rw (add-one l.k, c.feed-crc.ensures, c.address_of-fdri.ensures, c.word_at-last.ensures)
    (record { put = rw e at l.invariant.put; fed = rw e at l.invariant.fed; held = rw e at l.invariant.held })

pub returns : goal.returns
unfolding words_from fed_words last_of
returns c =
    let l = c.loop-k in
    let n = length c.args.places.now in
    let e : n - l.k ≡ 0 = omega arith in
    record {
      places_after = (rw e at l.invariant.put) ∙ put_all n c.args.places.now c.args.bytes.now refl;
      registers_after = rw (rw e at l.invariant.fed, rw e at l.invariant.held);
    }
