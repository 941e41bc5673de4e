use Rattle.bson_value.proofs.Total.{order_total}
use Rattle.bson_value.proofs.Preorder.{preorder, found_total}
use Rattle.bson_value.proofs.order.order_is_preorder.Goals as goal

pub returns-clause-order : goal.returns-clause-order
returns-clause-order c = preorder order_total

pub returns-clause-found : goal.returns-clause-found
returns-clause-found c = preorder found_total
