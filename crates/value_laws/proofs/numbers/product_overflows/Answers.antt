use Rattle.value_laws.proofs.Products as law
use Rattle.value_laws.proofs.numbers.product_overflows.Goals as goal

pub returns : goal.returns
returns c = law.overflows
