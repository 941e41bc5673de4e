use Rattle.doc_path.proofs.PathLaws as law
use Rattle.doc_path.proofs.laws.unset_is_back.Goals as goal

pub returns : goal.returns
returns c = law.unset_is_back
