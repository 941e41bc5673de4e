use Rattle.stage_laws.proofs.Arrays.{array_none, none_array, array_found, found_array}
use Rattle.stage_laws.proofs.surveys.first_array_is.Goals as goal

pub returns-clause-found : goal.returns-clause-found
returns-clause-found c paths ds a = (found_array paths a ds, array_found paths a ds)

pub returns-clause-none : goal.returns-clause-none
returns-clause-none c paths ds = (none_array paths ds, array_none paths ds)
