use Rattle.superstep_memory.proofs.Rows.{landed_row}
use Rattle.superstep_memory.proofs.laws.rows_land_at_once.Goals as goal

pub returns : goal.returns
returns c = landed_row
