use Rattle.value_laws.proofs.Products as law
use Rattle.value_laws.proofs.numbers.product_in_64_bits.Goals as goal

pub returns : goal.returns
returns c = law.fits
