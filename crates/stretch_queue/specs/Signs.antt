-- Whether a call has advanced the tree, by its answer (own).
use Rattle.std.specs.Prelude.{Bool, false}
use Rattle.tier_table.specs.declared.groups.GroupArrived.{GroupArrived}
use Rattle.tier_table.specs.declared.groups.GroupArrived.TheVariants as arrived
use Rattle.tier_table.specs.declared.group_members.GroupLeft.{GroupLeft}
use Rattle.tier_table.specs.declared.group_members.GroupLeft.TheVariants as left

abbrev pub led_by : GroupArrived → Bool
led_by (arrived.Done group phase led) = led
led_by _ = false

abbrev pub led_by_leaving : GroupLeft → Bool
led_by_leaving (left.Left door phase led) = led
led_by_leaving _ = false
