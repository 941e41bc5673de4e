use Rattle.doc_path.proofs.KeepLaws.{kept_in_order as the_law}
use Rattle.doc_path.proofs.laws.kept_in_order.Goals as goal

pub returns : goal.returns
returns c = the_law
