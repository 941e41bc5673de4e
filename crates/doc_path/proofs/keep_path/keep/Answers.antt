use Rattle.std.proofs.Common.{◌∙◌, List, ap}
use Rattle.std.proofs.lemmas.Result.{IfOk-weaker}
use denote.Ref.{Bor}
use Rattle.bson_value.specs.Tree.{pairs_of, entries}
use Rattle.bson_value.specs.Paths.{Steps, behind}
use Rattle.doc_path.specs.Kept.{steps_in, rests_in}
use Rattle.doc_path.proofs.Keeping.{kept_by_is}
use Rattle.doc_path.proofs.keep_path.keep.Goals as goal

pub returns : goal.returns
returns c =
    IfOk-weaker c.keep_fields.result _ _ (λ d h. h ∙ ap entries (kept_by_is (rests_in c.in_ok-groups.groups) c.args.paths.now (λ n.
    c.in_ok-groups.ensures n ∙ ap (λ (l : List (Bor Steps)). behind n (steps_in l)) c.as_slice.ensures.value ∙ ap (behind n) c.in_ok-all.ensures) (pairs_of c.args.doc))) c.keep_fields.ensures
