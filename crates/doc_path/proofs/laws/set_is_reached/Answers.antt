use Rattle.doc_path.proofs.PathLaws as law
use Rattle.doc_path.proofs.laws.set_is_reached.Goals as goal

pub returns : goal.returns
returns c = law.set_is_reached
