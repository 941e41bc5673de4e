use Rattle.bson_value.proofs.Preorder.{comparison}
use Rattle.bson_value.proofs.order.order_goes_by_class.Goals as goal

pub returns : goal.returns
returns c = comparison
