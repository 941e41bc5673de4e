use Rattle.std.proofs.Common.{◌≡◌, take_all, sym, subst, arith}
use Rattle.bson_value.specs.Path.{IsPath}
use Rattle.bson_value.proofs.path.Path.copy.Goals as goal

pub invariant_of-result : goal.invariant_of-result
invariant_of-result c =
    let same : c.loop-step.steps.items ≡ c.self.inside.steps.items = grind (arith, take_all) in
    subst IsPath (sym same) c.self.invariant
