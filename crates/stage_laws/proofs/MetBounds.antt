-- Values that are nested exactly as deep as their bounds.
use Rattle.std.proofs.Common.{◌≡◌, ℕ, ◌≤◌, Bool, true, false, cond, List, [], ◌∷◌, map, refl, ap, ◌∙◌, arith}
use Rattle.std.specs.Prelude.{Option, Some, None, Result, Ok, max}
use Rattle.std.specs.Option.{option_and_then}
use Rattle.std.specs.Str.{bytes_eq}
use Rattle.std.proofs.lemmas.List.Elements.{recursion_from_All}
use Rattle.bson_value.specs.Depth.{depth, pairs_depth, trees_depth}
use Rattle.bson_value.specs.Operands.{Outcome, gives, gives_array, or_null}
use Rattle.bson_value.specs.Pairs.{find, put}
use Rattle.bson_value.specs.Paths.{reach}
use Rattle.bson_value.specs.Tree.{Tree, doc, list, pairs_of, trees_of}
use Rattle.bson_value.specs.declared.eval_code.EvalCode.{EvalCode}
use Rattle.bson_value.proofs.Distinct.{entries_pairs}
use Rattle.expr_tree.specs.Bound.{Around, around, deepest_from, bound, bounds}
use Rattle.expr_tree.specs.Env.{Env, env_of}
use Rattle.expr_tree.specs.Eval.{eval, evals}
use Rattle.expr_tree.specs.Node.{literal, field, root, make, make_list, Node, node, Nodes, no_nodes, next}
use Rattle.expr_tree.specs.Rows.{Meaning, ◌>>=◌, put_all}
use Rattle.stage_tree.specs.Outcome.{Fields}
use Rattle.stage_laws.specs.Deepest.{AreNamed, IsDeepest, AreDeepest}
use Rattle.stage_laws.specs.Depths.{SaysSomething}
use Rattle.stage_laws.specs.Outcomes.{AllGive}
use Rattle.stage_laws.proofs.Outcomes.{all_good}
use Rattle.stage_laws.proofs.Inside.{Each}
use Rattle.stage_laws.proofs.FormDepths.{one_says}
use Rattle.stage_laws.proofs.PartDepths.{deepest_more}

abbrev pub IsMet : ℕ → Outcome → Type 0
IsMet n r = (t : Tree) × (r ≡ Ok (Some t)) × (depth t ≡ n)

nulls : (ts : List Tree) → map or_null (map Some ts) ≡ ts
nulls [] = refl
nulls (t ∷ ts) = ap (λ (us : List Tree). t ∷ us) (nulls ts)

-- ---- names that aren't there yet

abbrev IsNew : List ℕ → Fields → Type 0
IsNew n ps = Each (λ p. bytes_eq p.0 n ≡ false) ps

new_if : (m n : List ℕ) (t : Tree) (b : Bool) (p : List ℕ × Tree) (ps : Fields) → bytes_eq n m ≡ false → IsNew m (p ∷ ps) → IsNew m (put n t ps) → IsNew m (cond b ((n, t) ∷ ps) (p ∷ put n t ps))
new_if m n t true p ps e h k = (e, h.1)
new_if m n t false p ps e h k = (h.0, k)

new_put : (m n : List ℕ) (t : Tree) (ps : Fields) → bytes_eq n m ≡ false → IsNew m ps → IsNew m (put n t ps)
new_put m n t [] e h = (e, tt)
new_put m n t (p ∷ ps) e h = new_if m n t (bytes_eq p.0 n) p ps e h (new_put m n t ps e h.1)

all_new : (n : List ℕ) (t : Tree) (ps : Fields) (ms : List (List ℕ)) → Each (λ m. bytes_eq n m ≡ false) ms → Each (λ m. IsNew m ps) ms → Each (λ m. IsNew m (put n t ps)) ms
all_new n t ps [] h k = tt
all_new n t ps (m ∷ ms) h k = (new_put m n t ps h.0 k.0, all_new n t ps ms h.1 k.1)

put_depth : (n : List ℕ) (t : Tree) (ps : Fields) → IsNew n ps → pairs_depth (pairs_of (put n t ps)) ≡ max (pairs_depth (pairs_of ps)) (depth t)
put_depth n t [] h = omega arith
put_depth n t (p ∷ ps) h = rw h.0 (omega (arith, put_depth n t ps h.1))

module _ (d : Fields) where
  abbrev env : Env
  env = env_of d []

  abbrev deep : Around
  deep = around (depth (doc (pairs_of d))) []

  -- all values, the deepest of which is as deep as the deepest bound
  abbrev AllMet : ℕ → Nodes → Type 0
  AllMet n es = (ts : List Tree) × AllGive (map (λ (m : Meaning). m env) (evals es)) (map Some ts) × (deepest_from n (bounds es) deep ≡ max n (trees_depth (trees_of ts)))

  found_field : (name : List ℕ) (t : Tree) → find name d ≡ Some t → reach (name ∷ []) (doc (pairs_of d)) ≡ Some t
  found_field name t e = ap (λ (ps : Fields). option_and_then (reach []) (find name ps)) (entries_pairs d) ∙ ap (option_and_then (reach [])) e

  made_list : (es : Nodes) → AllMet 0 es → SaysSomething (bound (node make_list es) deep) → IsMet (bound (node make_list es) deep) (eval (node make_list es) env)
  made_list es h says = (
    list (trees_of h.0),
    ap (λ (r : Result (List (Option Tree)) EvalCode). r >>= λ vs. gives_array (map or_null vs)) (all_good env (evals es) (map Some h.0) h.1) ∙ ap gives_array (nulls h.0),
    omega (arith, h.2),
  )

  put_all_depth : (ns : List (List ℕ)) (es : Nodes) (ts : List Tree) (ps : Fields) → AreNamed ns es → AllGive (map (λ (m : Meaning). m env) (evals es)) (map Some ts) → Each (λ n. IsNew n ps) ns
      → pairs_depth (pairs_of (put_all ps ns (map Some ts))) ≡ max (pairs_depth (pairs_of ps)) (trees_depth (trees_of ts))
  put_all_depth [] no_nodes [] ps k e h = omega arith
  put_all_depth [] no_nodes (t ∷ ts) ps k e h = absurd (cc)
  put_all_depth [] (next x es) ts ps k e h = absurd k
  put_all_depth (n ∷ ns) no_nodes ts ps k e h = absurd k
  put_all_depth (n ∷ ns) (next x es) [] ps k e h = absurd (cc)
  put_all_depth (n ∷ ns) (next x es) (t ∷ ts) ps k e h =
      omega (arith, put_depth n t ps h.0, put_all_depth ns es ts (put n t ps) k.1 (cc) (all_new n t ps ns (recursion_from_All (λ m. bytes_eq n m ≡ false) ns k.0) h.1))

  none_there : (ns : List (List ℕ)) → Each (λ n. IsNew n []) ns
  none_there [] = tt
  none_there (n ∷ ns) = (tt, none_there ns)

  made_doc : (names : List (List ℕ)) (es : Nodes) → AreNamed names es → AllMet 0 es → SaysSomething (bound (node (make names) es) deep) → IsMet (bound (node (make names) es) deep) (eval (node (make names) es) env)
  made_doc names es k h says = (
    doc (pairs_of (put_all [] names (map Some h.0))),
    ap (λ (r : Result (List (Option Tree)) EvalCode). r >>= λ vs. gives (doc (pairs_of (put_all [] names vs)))) (all_good env (evals es) (map Some h.0) h.1),
    omega (arith, h.2, put_all_depth names es h.0 [] k h.1 (none_there names)),
  )

  next_met : (n : ℕ) (e : Node) (es : Nodes) → IsMet (bound e deep) (eval e env) → AllMet (max (bound e deep) n) es → AllMet n (next e es)
  next_met n e es h k = (h.0 ∷ k.0, cc (h.1, k.1), omega (arith, h.2, k.2))

  mutual
    pub met : (e : Node) → IsDeepest d e → SaysSomething (bound e deep) → IsMet (bound e deep) (eval e env)
    met (node (literal t) no_nodes) k says = (t, refl, omega arith)
    met (node (root None) no_nodes) k says = (doc (pairs_of d), refl, refl)
    met (node (field (name ∷ [])) no_nodes) k says = (k.0, ap Ok (found_field name k.0 k.1), omega (arith, k.2))
    met (node make_list es) k says = made_list es (mets es 0 k (one_says (deepest_from 0 (bounds es) deep) says).0) says
    met (node (make names) es) k says = made_doc names es k.0 (mets es 0 k.1 (one_says (deepest_from 0 (bounds es) deep) says).0) says
    met e k says = absurd k

    mets : (es : Nodes) (n : ℕ) → AreDeepest d es → SaysSomething (deepest_from n (bounds es) deep) → AllMet n es
    mets no_nodes n k says = ([], refl, omega arith)
    mets (next e es) n k says =
        let more : max (bound e deep) n ≤ deepest_from (max (bound e deep) n) (bounds es) deep = deepest_more (bounds es) (max (bound e deep) n) deep in
        next_met n e es (met e k.0 (omega arith)) (mets es (max (bound e deep) n) k.1 says)
