use Rattle.std.proofs.Common.{sym, ap, subst}
use Rattle.merge_cursor.specs.Core.{Core}
use Rattle.merge_cursor.specs.Laws.{HasLeast}
use Rattle.merge_cursor.proofs.Least.{least_of_schedule}
use Rattle.merge_cursor.proofs.merge.MergeCore.failure.Goals as goal

pub returns-clause-least : goal.returns-clause-least
returns-clause-least c = subst (HasLeast c.args.self.now) (sym (ap (λ (q : Core). q.least) c.self.view_is)) (least_of_schedule c.args.self.now)
