use Rattle.stage_laws.proofs.Surveyed.{found_good, good_found, found_refused, refused_found}
use Rattle.stage_laws.proofs.surveys.collection_is_surveyed.Goals as goal

pub returns-clause-good : goal.returns-clause-good
returns-clause-good c files row fits = (good_found files row fits, found_good files row fits)

pub returns-clause-refused : goal.returns-clause-refused
returns-clause-refused c files row e fits = (refused_found files row fits e, found_refused files row fits e)
