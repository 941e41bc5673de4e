use Rattle.doc_path.proofs.KeepLaws.{keep_all_is_same as the_law}
use Rattle.doc_path.proofs.laws.keep_all_is_same.Goals as goal

pub returns : goal.returns
returns c = the_law
