-- The numbers of stops and refusals.
-- Sources: 01, "Stops and refusals", the table; 02, W2, for a layout that is malformed.
use Rattle.std.specs.Prelude.{ℕ}
use Rattle.answers.specs.declared.Stop.{Stop}
use Rattle.answers.specs.declared.Refusal.{Refusal}

-- 1 "header of no allowed kind", 2 "register unknown, or written though it can't be", 3 "read operation", 4 "IDCODE word not the part's",
-- 5 "FLR word not L-1", 6 FDRI or MFWR before all that it needs, 7 "FDRI count not whole frames, MFWR count not 2", 8 "CRC check not
-- zero", 9 "a frame to store, current frame none", 10 "CMD word above 13"
abbrev pub stop_number : Stop → ℕ
stop_number Stop.BadHeader = 1
stop_number Stop.BadRegister = 2
stop_number Stop.ReadOperation = 3
stop_number Stop.WrongIdcode = 4
stop_number Stop.WrongFrameLength = 5
stop_number Stop.NotReady = 6
stop_number Stop.WrongCount = 7
stop_number Stop.CrcMismatch = 8
stop_number Stop.NoCurrentFrame = 9
stop_number Stop.UnknownCommand = 10

-- 21 "device number above 7", 22 "record inconsistent", 23 "memory length not 4·L·F", 32 "edition not 1", 33 "layout's device not the
-- desk's", 34 "frame outside the part", 35 "frame outside the seat", 36 "output shorter than the stream", 37 "seat's first frame plus
-- count above F". 24 is of the C interface (docs/C-INTERFACE.md, sw_reconfigure): a consistent record that does not wait for sync.
-- For "layout malformed" 02, W2, overrides 01's one number: 41 "a badly formed count or number", 42 "bytes that are missing", and "A
-- number cut short by the end of the file is 42", 43 "a kind that doesn't exist", 44 "a zero count", 45 "targets not rising", 46 "too
-- many steps", 47 "bytes after the last step"
abbrev pub refusal_number : Refusal → ℕ
refusal_number Refusal.UnknownDevice = 21
refusal_number Refusal.Inconsistent = 22
refusal_number Refusal.WrongMemory = 23
refusal_number Refusal.NotHunting = 24
refusal_number Refusal.WrongEdition = 32
refusal_number Refusal.WrongDevice = 33
refusal_number Refusal.OutsidePart = 34
refusal_number Refusal.OutsideRange = 35
refusal_number Refusal.ShortOutput = 36
refusal_number Refusal.WrongRange = 37
refusal_number Refusal.BadForm = 41
refusal_number Refusal.Missing = 42
refusal_number Refusal.UnknownKind = 43
refusal_number Refusal.ZeroCount = 44
refusal_number Refusal.NotRising = 45
refusal_number Refusal.TooManySteps = 46
refusal_number Refusal.Trailing = 47
