-- Frames, read and written.
use Rattle.std.proofs.Common.{◌≡◌, ℕ, ℤ, pos, Bool, true, false, List, [], ◌∷◌, refl, sym, ap, ◌∙◌, inl, inr, subst}
use Rattle.std.specs.Prelude.{Option, Some, None, ◌⊎◌, codes}
use Rattle.std.specs.Str.{bytes_eq}
use Rattle.bson_value.specs.Tree.{Leaf, least, null, int, long, text, bin, id, flag, date, stamp, greatest, Tree, leaf, doc, list}
use Rattle.expr_read.specs.Reading.{only_if, ◌>>=◌}
use Rattle.expr_tree.specs.Spells.{Fields}
use Rattle.join_forms.specs.Reading.{edge_named, edge_by, edge, one_field, two_items, edges, edges_in, documents_frame, frame}
use Rattle.join_forms.specs.Written.{IsEdge, in_order, IsFrame}
use Rattle.join_forms.proofs.Pieces.{same_name, one_found, two_found}
use Rattle.stage_parts.proofs.Options.{some_same, bind_some, only_some, decided}
use Rattle.stage_parts.specs.Values.{as_text, as_fields, as_items, as_whole}

-- a text is no number
text_no_whole : (t : Tree) (s : List ℕ) → as_text t ≡ Some s → as_whole t ≡ None
text_no_whole (leaf (text r)) s e = refl
text_no_whole (leaf least) s e = absurd cc
text_no_whole (leaf null) s e = absurd cc
text_no_whole (leaf (int n)) s e = absurd cc
text_no_whole (leaf (long n)) s e = absurd cc
text_no_whole (leaf (bin k b)) s e = absurd cc
text_no_whole (leaf (id b)) s e = absurd cc
text_no_whole (leaf (flag b)) s e = absurd cc
text_no_whole (leaf (date n)) s e = absurd cc
text_no_whole (leaf (stamp n)) s e = absurd cc
text_no_whole (leaf greatest) s e = absurd cc
text_no_whole (doc ps) s e = absurd cc
text_no_whole (list ts) s e = absurd cc

word_edge : (t : Tree) (s : List ℕ) → as_text t ≡ Some s → edge t ≡ edge_named s
word_edge t s h = ap (λ w. edge_by w t) (text_no_whole t s h) ∙ ap (λ o. o >>= edge_named) h

pub edge_only : (o : Option ℤ) (t : Tree) → IsEdge t o → edge t ≡ Some o
edge_only None t h = word_edge t (codes "unbounded") h
edge_only (Some n) t (inl h) = ap (λ w. edge_by w t) h
edge_only (Some n) t (inr h) = word_edge t (codes "current") h.0 ∙ ap (λ m. Some (Some m)) (sym h.1)

word_found : (s : List ℕ) (o : Option ℤ) (t : Tree) → as_text t ≡ Some s → edge_named s ≡ Some o → IsEdge t o
word_found s o t h e = elim (decided (bytes_eq s (codes "current"))) [
  | inl c ↦ subst (IsEdge t) (some_same (Some (pos 0)) o (rw c at e)) (inr (h ∙ ap Some (same_name s (codes "current") c), refl))
  | inr c ↦
      let p = only_some (bytes_eq s (codes "unbounded")) (Some None) o (rw c at e) in
      subst (IsEdge t) (some_same None o p.1) (h ∙ ap Some (same_name s (codes "unbounded") p.0))
]

edge_by_found : (w : Option ℤ) (o : Option ℤ) (t : Tree) → as_whole t ≡ w → edge_by w t ≡ Some o → IsEdge t o
edge_by_found (Some n) o t w e = subst (IsEdge t) (some_same (Some n) o e) (inl w)
edge_by_found None o t w e = let b = bind_some (as_text t) edge_named o e in word_found b.0 o t b.1 b.2

pub edge_found : (o : Option ℤ) (t : Tree) → edge t ≡ Some o → IsEdge t o
edge_found o t e = edge_by_found (as_whole t) o t refl e

pub frame_only : (low high : Option ℤ) (t : Tree) → IsFrame low high t → frame t ≡ Some (low, high)
frame_only low high t h = rw (h.3, h.4, edge_only low h.1 h.5, edge_only high h.2 h.6, h.7) refl

edges_found : (a b : Tree) (f : Option ℤ × Option ℤ) → edges a b ≡ Some f → IsEdge a f.0 × IsEdge b f.1 × (in_order f.0 f.1 ≡ true)
edges_found a b f e =
    let x = bind_some (edge a) (λ low. edge b >>= λ high. only_if (in_order low high) (Some (low, high))) f e in
    let y = bind_some (edge b) (λ high. only_if (in_order x.0 high) (Some (x.0, high))) f x.2 in
    let z = only_some (in_order x.0 y.0) (Some (x.0, y.0)) f y.2 in
    subst (λ (g : Option ℤ × Option ℤ). IsEdge a g.0 × IsEdge b g.1 × (in_order g.0 g.1 ≡ true)) (some_same (x.0, y.0) f z.1) (edge_found x.0 a x.1, edge_found y.0 b y.1, z.0)

pub frame_found : (f : Option ℤ × Option ℤ) (t : Tree) → frame t ≡ Some f → IsFrame f.0 f.1 t
frame_found f t e =
    let a = bind_some (as_fields t) (λ ps. one_field ps >>= documents_frame) f e in
    let b = bind_some (one_field a.0) documents_frame f a.2 in
    let o = only_some (bytes_eq b.0.0 (codes "documents")) (as_items b.0.1 >>= edges_in) f b.2 in
    let c = bind_some (as_items b.0.1) edges_in f o.1 in
    let d = bind_some (two_items c.0) (λ p. edges p.0 p.1) f c.2 in
    let x = edges_found d.0.0 d.0.1 f d.2 in (
      b.0.1,
      d.0.0,
      d.0.1,
      a.1 ∙ ap Some (one_found a.0 b.0 b.1 ∙ ap (λ n. (n, b.0.1) ∷ []) (same_name b.0.0 (codes "documents") o.0)),
      c.1 ∙ ap Some (two_found c.0 d.0 d.1),
      x.0,
      x.1,
      x.2,
    )
