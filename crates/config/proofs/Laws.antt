pub mod StaysSet  -- no byte changes the device number, or clears started, buffer_valid, idcode_ok or flr_ok
pub mod StopLeaves  -- what a stop leaves: the record but for the phase and the partial word, at stop 8 the CRC fed
