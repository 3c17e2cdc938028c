pub mod EveryPhase  -- a consistent record of each of the five phases
