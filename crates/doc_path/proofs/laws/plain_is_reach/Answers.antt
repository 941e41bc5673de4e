use Rattle.doc_path.proofs.PathLaws as law
use Rattle.doc_path.proofs.laws.plain_is_reach.Goals as goal

pub returns : goal.returns
returns c = law.plain_is_reach
