-- The codes of the commands that are written or acted on.
-- Sources: 001, Table 2; 01, "CMD": "Codes 0 to 13: NULL, WCFG, MFWR, LFRM, RCFG, START, RCAP, RCRC, AGHIGH, SWITCH, GRESTORE,
-- SHUTDOWN, GCAPTURE, DESYNC"
use Rattle.std.specs.Prelude.{ℕ}

abbrev pub WCFG : ℕ
WCFG = 1

abbrev pub MFWR : ℕ
MFWR = 2

abbrev pub LFRM : ℕ
LFRM = 3

abbrev pub START : ℕ
START = 5

abbrev pub RCRC : ℕ
RCRC = 7

abbrev pub AGHIGH : ℕ
AGHIGH = 8

abbrev pub DESYNC : ℕ
DESYNC = 13

-- the codes end here
abbrev pub last_command : ℕ
last_command = DESYNC
