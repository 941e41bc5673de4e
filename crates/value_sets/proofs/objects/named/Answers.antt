use Rattle.std.proofs.Common.{refl, sym}
use Rattle.value_sets.proofs.FieldsPut.{no_zero}
use Rattle.value_sets.proofs.objects.named.Goals as goal

pub returns-else-contains : goal.returns-else-contains
returns-else-contains c = rw (no_zero c.args.name.now, sym c.contains.ensures.value, c.if-contains.false) refl
