-- Words fed after words are all of them fed.
-- By induction on the first words.
use Rattle.std.specs.Prelude.{◌≡◌, refl, List, [], ◌∷◌, ◌++◌, ℕ}
use Rattle.crc16.specs.CrcRegister.{feed, fed_words}

pub fed_append : (crc a : ℕ) (xs ys : List ℕ) → fed_words (fed_words crc a xs) a ys ≡ fed_words crc a (xs ++ ys)
unfolding fed_words
fed_append crc a [] ys = refl
fed_append crc a (x ∷ xs) ys = fed_append (feed crc a x) a xs ys
