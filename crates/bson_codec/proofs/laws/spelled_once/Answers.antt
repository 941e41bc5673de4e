use Rattle.bson_codec.proofs.Joined.{one_at_a_place, one_prefix}
use Rattle.bson_codec.proofs.laws.spelled_once.Goals as goal

pub returns-clause-at_a_place : goal.returns-clause-at_a_place
returns-clause-at_a_place c = one_at_a_place

pub returns-clause-no_prefix : goal.returns-clause-no_prefix
returns-clause-no_prefix c = one_prefix
