-- `loader::fill::put` meets its contract. The invariant goes by what is left: the words not yet passed, put, fed and held from here
-- on, give what all of them give.
use Rattle.std.proofs.Common.{◌≡◌, ◌*◌, ◌-◌, length, drop}
use Rattle.std.proofs.lemmas.List.Edits.{sets}
use Rattle.crc16.specs.CrcRegister.{fed_words}
use Rattle.words.specs.WordsInBytes.{words_from}
use Rattle.loader.specs.Inner.FillWords.{last_of}
use Rattle.loader.proofs.fill.put.Given as goal

abbrev pub invariant-loop-k : goal.invariant-loop-k
invariant-loop-k l =
    let n = length l.initial.places in
    let ws = words_from n l.bytes in
    let rest = words_from (n - l.k) (drop (4 * l.k) l.bytes) in
    record {
      put : sets l.places l.k rest ≡ sets l.initial.places 0 ws;
      fed : fed_words l.crc 2 rest ≡ fed_words l.initial.crc 2 ws;
      held : last_of rest l.last ≡ last_of ws l.initial.last;
    }
