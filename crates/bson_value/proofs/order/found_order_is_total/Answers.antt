use Rattle.bson_value.proofs.Preorder.{found_total}
use Rattle.bson_value.proofs.order.found_order_is_total.Goals as goal

pub returns : goal.returns
returns c = found_total
