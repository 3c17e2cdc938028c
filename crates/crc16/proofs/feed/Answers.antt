-- `crc16::feed` meets its contract.
-- The constant that it lends is the table of `entries`, by computation, and a law says that lookups in that one feed as `feed` does.
use mathlib.Core.Path.{◌∙◌}
use Rattle.crc16.specs.CrcRegister.{input, shift, shift_in, feed}
use Rattle.crc16.specs.NibbleTable.{share, entry, entries}
use Rattle.crc16.proofs.Laws.NibbleLookup.{feed_with_entries}
use Rattle.crc16.proofs.feed.Goals as goal

pub returns : goal.returns
unfolding entries entry share feed shift_in shift input
returns c =
    let args = c.args in
    c.feed_with.ensures ∙ feed_with_entries args.crc args.address args.word
