pub mod ColumnRuns  -- the lookups a run of columns at a time, as the code goes
pub mod PartLimits  -- the limits that every part keeps within
pub mod RefusalNumbers  -- the numbers of the refusals of both lookups
