-- Sort keys, read and written.
use Rattle.std.proofs.Common.{◌≡◌, ℕ, ℤ, pos, negsuc, ◌≤◌, Bool, true, false, List, [], length, refl, sym, ap, ◌∙◌, inl, inr, subst}
use Rattle.std.specs.Prelude.{Option, Some, None, ◌⊎◌, ◌&&◌, nat_le}
use Rattle.std.specs.Ordering.{int_eq}
use Rattle.std.proofs.lemmas.Bool.{leb-true, le-leb}
use Rattle.std.proofs.lemmas.Bool.Decides.{Decides-int_eq}
use Rattle.bson_value.specs.Paths.{Steps}
use Rattle.bson_value.specs.Tree.{Tree}
use Rattle.expr_read.specs.Reading.{only_if, path_in, ◌>>=◌}
use Rattle.expr_read.proofs.PathTexts.{path_is, path_read}
use Rattle.stage_tree.specs.Outcome.{Fields}
use Rattle.stage_tree.specs.Stage.{Keys}
use Rattle.stage_parts.specs.Each.{each}
use Rattle.stage_parts.specs.Keys.{falls, direction, sort_key, sort_keys, IsDirection, IsKey, AreKeys}
use Rattle.stage_parts.specs.Names.{is_between}
use Rattle.stage_parts.specs.Values.{as_whole}
use Rattle.stage_parts.proofs.Each.{each_found_all, each_only}
use Rattle.stage_parts.proofs.Options.{some_same, bind_some, only_some, both, decided}

falls_found : (t : Tree) (n : ℤ) (b : Bool) → as_whole t ≡ Some n → falls n ≡ Some b → IsDirection t b
falls_found t n b e f = elim (decided (int_eq n (pos 1))) [
  | inl one ↦ subst (IsDirection t) (some_same false b (rw one at f)) (e ∙ ap Some ((Decides-int_eq n (pos 1)).0 one))
  | inr other ↦
      let w = only_some (int_eq n (negsuc 0)) (Some true) b (rw other at f) in
      subst (IsDirection t) (some_same true b w.1) (e ∙ ap Some ((Decides-int_eq n (negsuc 0)).0 w.0))
]

direction_found : (t : Tree) (b : Bool) → direction t ≡ Some b → IsDirection t b
direction_found t b e = let p = bind_some (as_whole t) falls b e in falls_found t p.0 b p.1 p.2

direction_only : (t : Tree) (b : Bool) → IsDirection t b → direction t ≡ Some b
direction_only t true h = rw h refl
direction_only t false h = rw h refl

key_found : (p : List ℕ × Tree) (k : Steps × Bool) → sort_key p ≡ Some k → IsKey p k
key_found p k e =
    let q = bind_some (path_in p.0) (λ path. direction p.1 >>= λ falling. Some (path, falling)) k e in
    let d = bind_some (direction p.1) (λ falling. Some (q.0, falling)) k q.2 in
    let same = some_same (q.0, d.0) k d.2 in
    let h = path_is p.0 q.0 q.1 in
    record { is_path = h.0; path = h.1 ∙ ap (λ (x : Steps × Bool). x.0) same; direction = direction_found p.1 k.1 (d.1 ∙ ap (λ (x : Steps × Bool). Some x.1) same) }

key_only : (p : List ℕ × Tree) (k : Steps × Bool) → IsKey p k → sort_key p ≡ Some k
key_only p k h = rw (path_read p.0 k.0 h.is_path h.path, direction_only p.1 k.1 h.direction) refl

pub keys_found : (ps : Fields) (ks : Keys) → sort_keys ps ≡ Some ks → AreKeys ps ks
keys_found ps ks e =
    let w = only_some (is_between 1 32 (length ps)) (each sort_key ps) ks e in
    let b = both (nat_le 1 (length ps)) (nat_le (length ps) 32) w.0 in
    record { some = leb-true 1 (length ps) b.0; few = leb-true (length ps) 32 b.1; each = each_found_all sort_key IsKey key_found ps ks w.1 }

pub keys_only : (ps : Fields) (ks : Keys) → AreKeys ps ks → sort_keys ps ≡ Some ks
keys_only ps ks h = rw (le-leb 1 (length ps) h.some, le-leb (length ps) 32 h.few) (each_only sort_key IsKey key_only [] ps ks h.each)
