-- `$graphLookup`, read and written.
use Rattle.std.proofs.Common.{◌≡◌, ℕ, ℤ, pos, negsuc, true, false, List, [], ◌∷◌, refl, sym, ap, ◌∙◌, subst}
use Rattle.std.specs.Prelude.{Option, Some, None, codes}
use Rattle.bson_value.specs.Pairs.{find}
use Rattle.bson_value.specs.Paths.{Steps}
use Rattle.bson_value.specs.Tree.{Tree}
use Rattle.expr_read.specs.Reading.{◌>>=◌}
use Rattle.expr_tree.specs.Node.{Node}
use Rattle.expr_tree.specs.QueryNode.{QueryNode}
use Rattle.expr_tree.specs.Spells.{Fields, At, Spells}
use Rattle.join_forms.specs.Reading.{form_in, read_at, maybe, expr_value, collection_value, restriction, graph_ways, Limits, graph_limits, graph_of, graph_in, graph_reading}
use Rattle.join_forms.specs.Written.{IsForm, AtMaybe, IsPathValue, IsCollection, IsRestriction, IsGraphLookup, SpellsJoiningStage}
use Rattle.join_forms.proofs.Pieces.{form_only, form_found, at_only, at_found, maybe_only, maybe_found, path_only, path_found, collection_only, collection_found, expr_only, expr_found}
use Rattle.query_read.proofs.Sound.{spelled as query_spelled}
use Rattle.query_read.proofs.Spelled.{read_so as query_read_so}
use Rattle.query_read.specs.Reading.{query_reading}
use Rattle.stage_parts.proofs.Options.{some_same, bind_some}
use Rattle.stage_parts.specs.Paths.{path_text}
use Rattle.stage_parts.specs.Values.{as_fields, as_whole, as_count, natural}
use Rattle.stage_tree.specs.Stage.{StageNode}

restriction_only : (q : QueryNode) (t : Tree) → IsRestriction q t → restriction t ≡ Some q
restriction_only q t h = ap (λ o. o >>= query_reading false) h.1 ∙ query_read_so false h.0 q h.2

restriction_found : (q : QueryNode) (t : Tree) → restriction t ≡ Some q → IsRestriction q t
restriction_found q t e = let b = bind_some (as_fields t) (query_reading false) q e in (b.0, b.1, query_spelled false b.0 q b.2)

abbrev IsDepth : ℕ → Tree → Type 0
IsDepth n t = as_whole t ≡ Some (pos n)

depth_only : (n : ℕ) (t : Tree) → IsDepth n t → as_count t ≡ Some n
depth_only n t h = ap (λ o. o >>= natural) h

natural_is : (z : ℤ) (n : ℕ) → natural z ≡ Some n → z ≡ pos n
natural_is (pos m) n e = ap pos (some_same m n e)
natural_is (negsuc m) n e = absurd cc

depth_found : (n : ℕ) (t : Tree) → as_count t ≡ Some n → IsDepth n t
depth_found n t e = let b = bind_some (as_whole t) natural n e in b.1 ∙ ap Some (natural_is b.0 n b.2)

abbrev required : List (List ℕ)
required = codes "from" ∷ codes "startWith" ∷ codes "connectFromField" ∷ codes "connectToField" ∷ codes "as" ∷ []

abbrev optional : List (List ℕ)
optional = codes "maxDepth" ∷ codes "depthField" ∷ codes "restrictSearchWithMatch" ∷ []

module _ (ps : Fields) where
  ways_only : (a b c : Steps) → At (codes "connectFromField") ps (IsPathValue a) → At (codes "connectToField") ps (IsPathValue b) → At (codes "as") ps (IsPathValue c) → graph_ways ps ≡ Some (a, b, c)
  ways_only a b c x y z =
      ap (λ (o : Option Steps). o >>= λ p. read_at path_text (codes "connectToField") ps >>= λ q. read_at path_text (codes "as") ps >>= λ r. Some (p, q, r)) (at_only path_text IsPathValue (codes "connectFromField") ps a (path_only a) x)
      ∙ ap (λ (o : Option Steps). o >>= λ q. read_at path_text (codes "as") ps >>= λ r. Some (a, q, r)) (at_only path_text IsPathValue (codes "connectToField") ps b (path_only b) y)
      ∙ ap (λ (o : Option Steps). o >>= λ r. Some (a, b, r)) (at_only path_text IsPathValue (codes "as") ps c (path_only c) z)

  limits_only : (m : Option ℕ) (d : Option Steps) (r : Option QueryNode) → AtMaybe (codes "maxDepth") ps IsDepth m → AtMaybe (codes "depthField") ps IsPathValue d → AtMaybe (codes "restrictSearchWithMatch") ps IsRestriction r → graph_limits ps ≡ Some (m, d, r)
  limits_only m d r x y z =
      ap (λ (o : Option (Option ℕ)). o >>= λ p. maybe path_text (find (codes "depthField") ps) >>= λ q. maybe restriction (find (codes "restrictSearchWithMatch") ps) >>= λ s. Some (p, q, s)) (maybe_only as_count IsDepth (codes "maxDepth") ps depth_only m x)
      ∙ ap (λ (o : Option (Option Steps)). o >>= λ q. maybe restriction (find (codes "restrictSearchWithMatch") ps) >>= λ s. Some (m, q, s)) (maybe_only path_text IsPathValue (codes "depthField") ps path_only d y)
      ∙ ap (λ (o : Option (Option QueryNode)). o >>= λ s. Some (m, d, s)) (maybe_only restriction IsRestriction (codes "restrictSearchWithMatch") ps restriction_only r z)

  abbrev Ways : Steps × Steps × Steps → Type 0
  Ways w = At (codes "connectFromField") ps (IsPathValue w.0) × At (codes "connectToField") ps (IsPathValue w.1) × At (codes "as") ps (IsPathValue w.2)

  ways_found : (w : Steps × Steps × Steps) → graph_ways ps ≡ Some w → Ways w
  ways_found w e =
      let a = bind_some (read_at path_text (codes "connectFromField") ps) (λ p. read_at path_text (codes "connectToField") ps >>= λ q. read_at path_text (codes "as") ps >>= λ r. Some (p, q, r)) w e in
      let b = bind_some (read_at path_text (codes "connectToField") ps) (λ q. read_at path_text (codes "as") ps >>= λ r. Some (a.0, q, r)) w a.2 in
      let c = bind_some (read_at path_text (codes "as") ps) (λ r. Some (a.0, b.0, r)) w b.2 in
      subst Ways (some_same (a.0, b.0, c.0) w c.2) (
        at_found path_text IsPathValue (codes "connectFromField") ps a.0 (path_found a.0) a.1,
        at_found path_text IsPathValue (codes "connectToField") ps b.0 (path_found b.0) b.1,
        at_found path_text IsPathValue (codes "as") ps c.0 (path_found c.0) c.1,
      )

  abbrev Bounds : Limits → Type 0
  Bounds l = AtMaybe (codes "maxDepth") ps IsDepth l.0 × AtMaybe (codes "depthField") ps IsPathValue l.1 × AtMaybe (codes "restrictSearchWithMatch") ps IsRestriction l.2

  limits_found : (l : Limits) → graph_limits ps ≡ Some l → Bounds l
  limits_found l e =
      let a = bind_some (maybe as_count (find (codes "maxDepth") ps)) (λ p. maybe path_text (find (codes "depthField") ps) >>= λ q. maybe restriction (find (codes "restrictSearchWithMatch") ps) >>= λ s. Some (p, q, s)) l e in
      let b = bind_some (maybe path_text (find (codes "depthField") ps)) (λ q. maybe restriction (find (codes "restrictSearchWithMatch") ps) >>= λ s. Some (a.0, q, s)) l a.2 in
      let c = bind_some (maybe restriction (find (codes "restrictSearchWithMatch") ps)) (λ s. Some (a.0, b.0, s)) l b.2 in
      subst Bounds (some_same (a.0, b.0, c.0) l c.2) (
        maybe_found as_count IsDepth (codes "maxDepth") ps depth_found a.0 a.1,
        maybe_found path_text IsPathValue (codes "depthField") ps path_found b.0 b.1,
        maybe_found restriction IsRestriction (codes "restrictSearchWithMatch") ps restriction_found c.0 c.1,
      )

pub graph_only : (t : Tree) (from : List ℕ) (start : Node) (a b c : Steps) (m : Option ℕ) (d : Option Steps) (r : Option QueryNode) → IsGraphLookup t from start a b c m d r → graph_reading t ≡ Some (graph_of from start (a, b, c) (m, d, r))
graph_only t from start a b c m d r h =
    ap (λ o. o >>= graph_in) (form_only required optional t h.0 h.1)
    ∙ ap (λ (o : Option (List ℕ)). o >>= λ x. read_at expr_value (codes "startWith") h.0 >>= λ y. graph_ways h.0 >>= λ w. graph_limits h.0 >>= λ l. Some (graph_of x y w l)) (at_only collection_value IsCollection (codes "from") h.0 from (collection_only from) h.2)
    ∙ ap (λ (o : Option Node). o >>= λ y. graph_ways h.0 >>= λ w. graph_limits h.0 >>= λ l. Some (graph_of from y w l)) (at_only expr_value (λ y v. Spells [] v y) (codes "startWith") h.0 start (expr_only start) h.3)
    ∙ ap (λ (o : Option (Steps × Steps × Steps)). o >>= λ w. graph_limits h.0 >>= λ l. Some (graph_of from start w l)) (ways_only h.0 a b c h.4 h.5 h.6)
    ∙ ap (λ (o : Option Limits). o >>= λ l. Some (graph_of from start (a, b, c) l)) (limits_only h.0 m d r h.7 h.8 h.9)

pub graph_found : (name : List ℕ) (t : Tree) (s : StageNode) → name ≡ codes "$graphLookup" → graph_reading t ≡ Some s → SpellsJoiningStage name t s
graph_found name t s n e =
    let f = bind_some (form_in required optional t) graph_in s e in
    let x = bind_some (read_at collection_value (codes "from") f.0) (λ z. read_at expr_value (codes "startWith") f.0 >>= λ y. graph_ways f.0 >>= λ w. graph_limits f.0 >>= λ l. Some (graph_of z y w l)) s f.2 in
    let y = bind_some (read_at expr_value (codes "startWith") f.0) (λ z. graph_ways f.0 >>= λ w. graph_limits f.0 >>= λ l. Some (graph_of x.0 z w l)) s x.2 in
    let w = bind_some (graph_ways f.0) (λ z. graph_limits f.0 >>= λ l. Some (graph_of x.0 y.0 z l)) s y.2 in
    let l = bind_some (graph_limits f.0) (λ z. Some (graph_of x.0 y.0 w.0 z)) s w.2 in
    let u = ways_found f.0 w.0 w.1 in
    let v = limits_found f.0 l.0 l.1 in
    subst (SpellsJoiningStage name t) (some_same (graph_of x.0 y.0 w.0 l.0) s l.2) (
      n,
      (
        f.0,
        form_found required optional t f.0 f.1,
        at_found collection_value IsCollection (codes "from") f.0 x.0 (collection_found x.0) x.1,
        at_found expr_value (λ z q. Spells [] q z) (codes "startWith") f.0 y.0 (expr_found y.0) y.1,
        u.0,
        u.1,
        u.2,
        v.0,
        v.1,
        v.2,
      ),
    )
