-- How a stage is told from others, by a proof.
use Rattle.std.specs.Prelude.{◌≡◌, ℕ, zero, suc, ℤ, Bool, List, Option, ◌⊎◌, refl}
use Rattle.std.proofs.Common.{ap, inl, inr}
use Rattle.std.specs.Coded.{Coded, code_by, coded_ℕ, coded_ℤ, coded_bool, coded_list, coded_option, coded×, coded⊎}
use base.Stored.{Gv, gnil, gnum, gcons}
use Rattle.bson_value.specs.Tree.{Tree}
use Rattle.bson_value.specs.Code.{tree_code}
use Rattle.bson_value.specs.Paths.{Steps}
use Rattle.bson_value.specs.declared.acc_kind.AccKind.{AccKind}
use Rattle.bson_value.specs.contracts.acc_kind.AccKind as acc
use Rattle.expr_tree.specs.Node.{Node}
use Rattle.expr_tree.specs.Code.{node_code}
use Rattle.expr_tree.specs.QueryNode.{QueryNode}
use Rattle.expr_tree.specs.QueryCode.{query_code}
use Rattle.stage_tree.specs.declared.merge.WhenMatched.{WhenMatched}
use Rattle.stage_tree.specs.declared.merge.WhenMatched.TheVariants as M
use Rattle.stage_tree.specs.declared.merge.WhenUnmatched.{WhenUnmatched}
use Rattle.stage_tree.specs.declared.merge.WhenUnmatched.TheVariants as U
use Rattle.stage_tree.specs.Stage.{Made, Keys, WindowHead, accumulates, rank, dense_rank, place, shift, StageHead, keep, match, project, add_fields, unset, replace_root, unwind, group, sort, limit, skip, count, lookup, graph_lookup, facet, union, window, merge, StageNode, stage, Stages, no_stages, placed, Pipes, no_pipes, pipe}

abbrev name_code : Coded (List ℕ)
name_code = coded_list coded_ℕ

abbrev names_code : Coded (List (List ℕ))
names_code = coded_list name_code

abbrev made_code : Coded Made
made_code = coded_list (coded× names_code node_code)

abbrev keys_code : Coded Keys
keys_code = coded_list (coded× names_code coded_bool)

abbrev unwind_code : Coded (Steps × (Option Steps × Bool))
unwind_code = coded× names_code (coded× (coded_option names_code) coded_bool)

abbrev acc_code : Coded AccKind
acc_code = acc.the_row.coded

abbrev matched_number : WhenMatched → ℕ
matched_number M.Replace = 0
matched_number M.KeepExisting = 1
matched_number M.Merge = 2
matched_number M.Fail = 3

abbrev matched_from : ℕ → WhenMatched
matched_from zero = M.Replace
matched_from (suc zero) = M.KeepExisting
matched_from (suc (suc zero)) = M.Merge
matched_from (suc (suc (suc k))) = M.Fail

pub matched_back : (w : WhenMatched) → matched_from (matched_number w) ≡ w
matched_back M.Replace = refl
matched_back M.KeepExisting = refl
matched_back M.Merge = refl
matched_back M.Fail = refl

abbrev matched_code : Coded WhenMatched
matched_code = code_by ℕ coded_ℕ matched_number matched_from matched_back

abbrev unmatched_number : WhenUnmatched → ℕ
unmatched_number U.Insert = 0
unmatched_number U.Discard = 1
unmatched_number U.Fail = 2

abbrev unmatched_from : ℕ → WhenUnmatched
unmatched_from zero = U.Insert
unmatched_from (suc zero) = U.Discard
unmatched_from (suc (suc k)) = U.Fail

pub unmatched_back : (w : WhenUnmatched) → unmatched_from (unmatched_number w) ≡ w
unmatched_back U.Insert = refl
unmatched_back U.Discard = refl
unmatched_back U.Fail = refl

abbrev unmatched_code : Coded WhenUnmatched
unmatched_code = code_by ℕ coded_ℕ unmatched_number unmatched_from unmatched_back

abbrev WindowHeld : Type 0
WindowHeld = (AccKind × (Node × (Option ℤ × Option ℤ))) ⊎ ((Node × (ℤ × Tree)) ⊎ ℕ)

abbrev window_held : WindowHead → WindowHeld
window_held (accumulates k e a b) = inl (k, (e, (a, b)))
window_held (shift e n t) = inr (inl (e, (n, t)))
window_held rank = inr (inr 0)
window_held dense_rank = inr (inr 1)
window_held place = inr (inr 2)

abbrev plain_window : ℕ → WindowHead
plain_window zero = rank
plain_window (suc zero) = dense_rank
plain_window (suc (suc k)) = place

abbrev window_from : WindowHeld → WindowHead
window_from (inl h) = accumulates h.0 h.1.0 h.1.1.0 h.1.1.1
window_from (inr (inl h)) = shift h.0 h.1.0 h.1.1
window_from (inr (inr n)) = plain_window n

pub window_back : (h : WindowHead) → window_from (window_held h) ≡ h
window_back (accumulates k e a b) = refl
window_back (shift e n t) = refl
window_back rank = refl
window_back dense_rank = refl
window_back place = refl

abbrev window_code : Coded WindowHead
window_code =
    code_by WindowHeld (coded⊎ (coded× acc_code (coded× node_code (coded× (coded_option coded_ℤ) (coded_option coded_ℤ)))) (coded⊎ (coded× node_code (coded× coded_ℤ tree_code)) coded_ℕ)) window_held window_from window_back

-- what a head holds, kind by kind
abbrev Held : Type 0
Held = (List (List ℕ)) ⊎ ((List (QueryNode × ℕ)) ⊎ ((Bool × (Bool × (List Steps × Made))) ⊎ ((Made) ⊎ ((List Steps) ⊎ ((Node) ⊎ ((Steps × (Option Steps × Bool)) ⊎ ((Node × (List (List ℕ × (AccKind × Node)) × Bool)) ⊎ ((Keys × Option ℕ) ⊎ ((ℕ) ⊎ ((ℕ) ⊎ ((List ℕ) ⊎ ((List ℕ × (Steps × (Steps × (Steps × Option (Steps × (Option Steps × Bool)))))) ⊎ ((List ℕ × (Node × (Steps × (Steps × (Steps × (Option ℕ × (Option Steps × Option QueryNode))))))) ⊎ ((List (List ℕ)) ⊎ ((List ℕ) ⊎ ((Node × (Keys × List (Steps × WindowHead))) ⊎ (List ℕ × (WhenMatched × WhenUnmatched))))))))))))))))))

abbrev held_code : Coded Held
held_code = coded⊎ (names_code) (coded⊎ (coded_list (coded× query_code coded_ℕ)) (coded⊎ (coded× coded_bool (coded× coded_bool (coded× (coded_list names_code) made_code))) (coded⊎ (made_code) (coded⊎ (coded_list names_code) (coded⊎ (node_code) (coded⊎ (unwind_code) (coded⊎ (coded× node_code (coded× (coded_list (coded× name_code (coded× acc_code node_code))) coded_bool)) (coded⊎ (coded× keys_code (coded_option coded_ℕ)) (coded⊎ (coded_ℕ) (coded⊎ (coded_ℕ) (coded⊎ (name_code) (coded⊎ (coded× name_code (coded× names_code (coded× names_code (coded× names_code (coded_option unwind_code))))) (coded⊎ (coded× name_code (coded× node_code (coded× names_code (coded× names_code (coded× names_code (coded× (coded_option coded_ℕ) (coded× (coded_option names_code) (coded_option query_code)))))))) (coded⊎ (names_code) (coded⊎ (name_code) (coded⊎ (coded× node_code (coded× keys_code (coded_list (coded× names_code window_code)))) (coded× name_code (coded× matched_code unmatched_code))))))))))))))))))

abbrev held : StageHead → Held
held (keep ns) = inl ns
held (match is) = inr (inl is)
held (project a b ps ms) = inr (inr (inl (a, (b, (ps, ms)))))
held (add_fields ms) = inr (inr (inr (inl ms)))
held (unset ps) = inr (inr (inr (inr (inl ps))))
held (replace_root e) = inr (inr (inr (inr (inr (inl e)))))
held (unwind p i b) = inr (inr (inr (inr (inr (inr (inl (p, (i, b))))))))
held (group e ps b) = inr (inr (inr (inr (inr (inr (inr (inl (e, (ps, b)))))))))
held (sort ks c) = inr (inr (inr (inr (inr (inr (inr (inr (inl (ks, c)))))))))
held (limit n) = inr (inr (inr (inr (inr (inr (inr (inr (inr (inl n)))))))))
held (skip n) = inr (inr (inr (inr (inr (inr (inr (inr (inr (inr (inl n))))))))))
held (count n) = inr (inr (inr (inr (inr (inr (inr (inr (inr (inr (inr (inl n)))))))))))
held (lookup f l g t u) = inr (inr (inr (inr (inr (inr (inr (inr (inr (inr (inr (inr (inl (f, (l, (g, (t, u))))))))))))))))
held (graph_lookup f s a b t m d r) = inr (inr (inr (inr (inr (inr (inr (inr (inr (inr (inr (inr (inr (inl (f, (s, (a, (b, (t, (m, (d, r))))))))))))))))))))
held (facet ns) = inr (inr (inr (inr (inr (inr (inr (inr (inr (inr (inr (inr (inr (inr (inl ns))))))))))))))
held (union n) = inr (inr (inr (inr (inr (inr (inr (inr (inr (inr (inr (inr (inr (inr (inr (inl n)))))))))))))))
held (window e ks os) = inr (inr (inr (inr (inr (inr (inr (inr (inr (inr (inr (inr (inr (inr (inr (inr (inl (e, (ks, os))))))))))))))))))
held (merge t m u) = inr (inr (inr (inr (inr (inr (inr (inr (inr (inr (inr (inr (inr (inr (inr (inr (inr ((t, (m, u)))))))))))))))))))

abbrev head_from : Held → StageHead
head_from (inl h) = keep h
head_from (inr (inl h)) = match h
head_from (inr (inr (inl h))) = project h.0 h.1.0 h.1.1.0 h.1.1.1
head_from (inr (inr (inr (inl h)))) = add_fields h
head_from (inr (inr (inr (inr (inl h))))) = unset h
head_from (inr (inr (inr (inr (inr (inl h)))))) = replace_root h
head_from (inr (inr (inr (inr (inr (inr (inl h))))))) = unwind h.0 h.1.0 h.1.1
head_from (inr (inr (inr (inr (inr (inr (inr (inl h)))))))) = group h.0 h.1.0 h.1.1
head_from (inr (inr (inr (inr (inr (inr (inr (inr (inl h))))))))) = sort h.0 h.1
head_from (inr (inr (inr (inr (inr (inr (inr (inr (inr (inl h)))))))))) = limit h
head_from (inr (inr (inr (inr (inr (inr (inr (inr (inr (inr (inl h))))))))))) = skip h
head_from (inr (inr (inr (inr (inr (inr (inr (inr (inr (inr (inr (inl h)))))))))))) = count h
head_from (inr (inr (inr (inr (inr (inr (inr (inr (inr (inr (inr (inr (inl h))))))))))))) = lookup h.0 h.1.0 h.1.1.0 h.1.1.1.0 h.1.1.1.1
head_from (inr (inr (inr (inr (inr (inr (inr (inr (inr (inr (inr (inr (inr (inl h)))))))))))))) = graph_lookup h.0 h.1.0 h.1.1.0 h.1.1.1.0 h.1.1.1.1.0 h.1.1.1.1.1.0 h.1.1.1.1.1.1.0 h.1.1.1.1.1.1.1
head_from (inr (inr (inr (inr (inr (inr (inr (inr (inr (inr (inr (inr (inr (inr (inl h))))))))))))))) = facet h
head_from (inr (inr (inr (inr (inr (inr (inr (inr (inr (inr (inr (inr (inr (inr (inr (inl h)))))))))))))))) = union h
head_from (inr (inr (inr (inr (inr (inr (inr (inr (inr (inr (inr (inr (inr (inr (inr (inr (inl h))))))))))))))))) = window h.0 h.1.0 h.1.1
head_from (inr (inr (inr (inr (inr (inr (inr (inr (inr (inr (inr (inr (inr (inr (inr (inr (inr h))))))))))))))))) = merge h.0 h.1.0 h.1.1

pub head_back : (h : StageHead) → head_from (held h) ≡ h
head_back (keep ns) = refl
head_back (match is) = refl
head_back (project a b ps ms) = refl
head_back (add_fields ms) = refl
head_back (unset ps) = refl
head_back (replace_root e) = refl
head_back (unwind p i b) = refl
head_back (group e ps b) = refl
head_back (sort ks c) = refl
head_back (limit n) = refl
head_back (skip n) = refl
head_back (count n) = refl
head_back (lookup f l g t u) = refl
head_back (graph_lookup f s a b t m d r) = refl
head_back (facet ns) = refl
head_back (union n) = refl
head_back (window e ks os) = refl
head_back (merge t m u) = refl

abbrev head_code : Coded StageHead
head_code = code_by Held held_code held head_from head_back

abbrev first : Gv → Gv
first gnil = gnil
first (gnum n) = gnil
first (gcons a b) = a

abbrev second : Gv → Gv
second gnil = gnil
second (gnum n) = gnil
second (gcons a b) = b

abbrev origins_code : Coded (List ℕ)
origins_code = coded_list coded_ℕ

abbrev mutual
  pub stage_stored : StageNode → Gv
  stage_stored (stage h ps) = gcons (head_code.code h) (pipes_stored ps)

  pub stages_stored : Stages → Gv
  stages_stored no_stages = gnil
  stages_stored (placed s os ss) = gcons (stage_stored s) (gcons (origins_code.code os) (stages_stored ss))

  pub pipes_stored : Pipes → Gv
  pipes_stored no_pipes = gnil
  pipes_stored (pipe ss ps) = gcons (stages_stored ss) (pipes_stored ps)

mutual
  pub stage_told : (s t : StageNode) → stage_stored s ≡ stage_stored t → s ≡ t
  stage_told (stage h ps) (stage k qs) p = λ i. stage (head_code.inj h k (ap first p) i) (pipes_told ps qs (ap second p) i)

  pub stages_told : (ss ts : Stages) → stages_stored ss ≡ stages_stored ts → ss ≡ ts
  stages_told no_stages no_stages p = refl
  stages_told (placed s os ss) (placed t qs ts) p =
      λ i. placed (stage_told s t (ap first p) i) (origins_code.inj os qs (ap (λ g. first (second g)) p) i) (stages_told ss ts (ap (λ g. second (second g)) p) i)
  stages_told no_stages (placed t qs ts) p = absurd cc
  stages_told (placed s os ss) no_stages p = absurd cc

  pub pipes_told : (ps qs : Pipes) → pipes_stored ps ≡ pipes_stored qs → ps ≡ qs
  pipes_told no_pipes no_pipes p = refl
  pipes_told (pipe ss ps) (pipe ts qs) p = λ i. pipe (stages_told ss ts (ap first p) i) (pipes_told ps qs (ap second p) i)
  pipes_told no_pipes (pipe ts qs) p = absurd cc
  pipes_told (pipe ss ps) no_pipes p = absurd cc

abbrev pub stage_code : Coded StageNode
stage_code = record { code = stage_stored; inj = stage_told }
