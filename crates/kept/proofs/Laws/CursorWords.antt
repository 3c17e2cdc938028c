-- Words of frame data that are written and fed one after the other for FDRI, from a cursor on.
-- By the definitions' own steps: what is left, done from here on, gives what all of it gives from the start.
use Rattle.std.specs.Prelude.{◌≡◌, refl, List, [], ◌∷◌, ℕ, ◌+◌, length}
use Rattle.std.proofs.Common.{◌∙◌}
use Rattle.std.proofs.Math.Seq.{length-sets}
use Rattle.words.specs.WordsInBytes.{bytes_of, put_words}
use Rattle.words.proofs.Laws.WordStores.{put_append}
use Rattle.crc16.specs.CrcRegister.{feed, fed_words}

-- where the output's next word goes, and the CRC so far
pub record Cursor : Type 0 where
  pub at : ℕ
  pub crc : ℕ

-- all words ws from a cursor on give what the rest of them gives from a later one on
pub record Left (out₀ : List ℕ) (cursor : Cursor) (ws out : List ℕ) (here : Cursor) (rest : List ℕ) : Type 0 where
  pub size : length out ≡ length out₀
  pub fed : fed_words here.crc 2 rest ≡ fed_words cursor.crc 2 ws
  pub put : put_words out here.at rest ≡ put_words out₀ cursor.at ws

pub left_all : (out : List ℕ) (cursor : Cursor) (ws : List ℕ) → Left out cursor ws out cursor ws
left_all out cursor ws = record { size = refl; fed = refl; put = refl }

-- the first of the words that are left
pub left_next : {out₀ : List ℕ} {cursor : Cursor} {ws out : List ℕ} {here : Cursor} {rest : List ℕ} {out' : List ℕ} {there : Cursor} {w : ℕ} {more : List ℕ}
    → Left out₀ cursor ws out here rest → rest ≡ w ∷ more
    → there.at ≡ here.at + 4 → there.crc ≡ feed here.crc 2 w → out' ≡ put_words out here.at (w ∷ [])
    → Left out₀ cursor ws out' there more
unfolding fed_words
left_next {out = out} {here = here} {w = w} {more = more} l next at crc put = record {
  size = rw put (length-sets out here.at (bytes_of (w ∷ [])) ∙ l.size);
  fed = rw crc (rw next at l.fed);
  put = rw (put, at) (put_append out here.at (w ∷ []) more ∙ rw next at l.put);
}

-- no word is left
pub left_none : {out₀ : List ℕ} {cursor : Cursor} {ws out : List ℕ} {here : Cursor} {rest : List ℕ} → Left out₀ cursor ws out here rest → rest ≡ []
    → (here.crc ≡ fed_words cursor.crc 2 ws) × (out ≡ put_words out₀ cursor.at ws)
unfolding fed_words bytes_of
left_none l none = (rw none at l.fed, rw none at l.put)
