use Rattle.step_core.proofs.LawProofs.{delivery-order-is-free}
use Rattle.step_core.proofs.laws.delivery_order_is_free.Goals as goal

pub returns : goal.returns
returns c = delivery-order-is-free
