use Rattle.std.proofs.lemmas.List.{map-set}
use Rattle.bson_value.specs.View.{tree_of}
use Rattle.bson_value.proofs.value.replace_member.Goals as goal

pub returns-clause-rest : goal.returns-clause-rest
returns-clause-rest c = rw c.replace.ensures.after (map-set tree_of c.args.values.now.items c.args.i c.args.value)
