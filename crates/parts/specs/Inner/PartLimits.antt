-- The limits that the figures of the XC3S5000 set: every part keeps within them (`known_limits`, `proofs/Laws/PrintedFigures.antt`).
use Rattle.std.specs.Prelude.{◌≤◌}
use Rattle.parts.specs.declared.table.Part.{Part}

pub record Limits (p : Part) : Type 0 where
  pub rows : p.rows ≤ 104
  pub columns : p.columns ≤ 80
  pub ram_columns : p.ram_columns ≤ 4
  pub idcode : p.idcode ≤ 0xFFFFFFFF
