use Rattle.std.proofs.Common.{arith}
use Rattle.pile.proofs.Laid.{free_is, counted_is}
use Rattle.pile.proofs.pile.Pile.free.Goals as goal

pub returns-clause-free : goal.returns-clause-free
returns-clause-free c = omega (arith, c.len.ensures, c.len-2.ensures, free_is c.self.inside c.self.invariant _ c.self.view_is)

pub returns-clause-exact : goal.returns-clause-exact
returns-clause-exact c = omega (arith, c.len.ensures, c.len-2.ensures, counted_is c.self.inside c.self.invariant _ c.self.view_is)
