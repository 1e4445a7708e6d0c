-- Puts without how they are kept (own).
use Rattle.std.specs.Prelude.{◌≡◌, ◌+◌, ◌≤◌, List, length}
use Rattle.superstep_memory.specs.declared.arrays.Put.{Put}
use Rattle.superstep_memory.specs.declared.puts.Puts.TheInside.{Inside}
use Rattle.std.specs.List.{list_all}
use Rattle.superstep_memory.specs.Landing.{is_set}
use Rattle.superstep_memory.specs.Lots.{puts_in, rows_among}

abbrev pub puts_seen : Inside → List Put
puts_seen p = puts_in p.lots.items p.rows.items

-- the puts beyond one for each lot are counted, each lot that is a row has a row, and it is known whether all set
pub record IsInside (p : Inside) : Type 0 where
  pub count : length p.lots.items + p.more ≡ length (puts_seen p)
  pub few : p.more ≤ 4611686018427387904
  pub rows : length p.rows.items ≡ rows_among p.lots.items
  pub sets : p.sets ≡ list_all is_set (puts_seen p)
