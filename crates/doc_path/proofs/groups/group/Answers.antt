use Rattle.std.proofs.Common.{◌∙◌, ◌++◌, [], List, ap, arith}
use Rattle.bson_value.specs.Paths.{Steps, kept, rest_behind}
use Rattle.doc_path.proofs.Keeping.{behind_more}
use Rattle.doc_path.proofs.groups.group.Goals as goal

pub loop-path-preserved : goal.loop-path-preserved
loop-path-preserved c = λ n.
    c.in_ok-add_path.ensures n ∙ ap (λ (l : List Steps). l ++ kept (rest_behind n c.path-item.result.now) []) (c.loop-path.invariant n)
    ∙ behind_more n c.args.paths.now c.loop-path.path-index c.path-item.result (omega arith) c.path-item.is
