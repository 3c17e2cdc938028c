-- Tests of the phase: whether it waits for sync, takes words, or takes nothing.
-- Sources: 01, "Words and packets"; "Stops and refusals"; "Layouts".
use Rattle.std.specs.Prelude.{Bool, true, false}
use Rattle.config.specs.declared.Phase.{Phase}

-- 01: "Waiting for sync is phase hunting, with any bytes remembered"
abbrev pub is_hunting : Phase → Bool
is_hunting (Phase.Hunting b) = true
is_hunting (Phase.Header o) = false
is_hunting (Phase.Data r left filled) = false
is_hunting Phase.Crc = false
is_hunting (Phase.Stopped s) = false

-- 01: after the hunt, "bytes are taken in fours"
abbrev pub takes_words : Phase → Bool
takes_words (Phase.Hunting b) = false
takes_words (Phase.Header o) = true
takes_words (Phase.Data r left filled) = true
takes_words Phase.Crc = true
takes_words (Phase.Stopped s) = false

-- 01: "A stopped device takes nothing and answers the same number."
abbrev pub is_stopped : Phase → Bool
is_stopped (Phase.Hunting b) = false
is_stopped (Phase.Header o) = false
is_stopped (Phase.Data r left filled) = false
is_stopped Phase.Crc = false
is_stopped (Phase.Stopped s) = true
