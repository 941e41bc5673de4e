-- Values, each nested less than n deep, and the lists and documents that hold them.
use Rattle.std.proofs.Common.{ℕ, zero, suc, ◌<◌, ◌≤◌, Bool, true, false, cond, List, [], ◌∷◌, ◌++◌, map, take, drop, reverse, arith}
use Rattle.std.specs.Prelude.{Option, Some, fold, filter}
use Rattle.std.specs.List.{AllByRecursion, slice_get, flat_map}
use Rattle.std.specs.Option.{IfSome}
use Rattle.std.specs.Str.{bytes_eq}
use Rattle.std.proofs.lemmas.List.{reverse-append}
use Rattle.bson_value.specs.Tree.{Tree, doc, list, Pairs, no_pairs, pair, Trees, no_trees, tree, pairs_of, trees_of, entries, members}
use Rattle.bson_value.specs.Depth.{depth}
use Rattle.bson_value.specs.Pairs.{find, put, without}

abbrev pub Each : {A : Type 0} → (A → Type 0) → List A → Type 0
Each P xs = AllByRecursion P xs

module _ {A : Type 0} (P : A → Type 0) where
  pub each_weaker : (Q : A → Type 0) → ((x : A) → P x → Q x) → (xs : List A) → Each P xs → Each Q xs
  each_weaker Q f [] h = tt
  each_weaker Q f (x ∷ xs) h = (f x h.0, each_weaker Q f xs h.1)

  pub each_append : (xs ys : List A) → Each P xs → Each P ys → Each P (xs ++ ys)
  each_append [] ys h k = k
  each_append (x ∷ xs) ys h k = (h.0, each_append xs ys h.1 k)

  pub each_front : (xs ys : List A) → Each P (xs ++ ys) → Each P xs
  each_front [] ys h = tt
  each_front (x ∷ xs) ys h = (h.0, each_front xs ys h.1)

  pub each_back : (xs ys : List A) → Each P (xs ++ ys) → Each P ys
  each_back [] ys h = h
  each_back (x ∷ xs) ys h = each_back xs ys h.1

  pub each_take : (n : ℕ) (xs : List A) → Each P xs → Each P (take n xs)
  each_take zero xs h = tt
  each_take (suc n) [] h = tt
  each_take (suc n) (x ∷ xs) h = (h.0, each_take n xs h.1)

  pub each_drop : (n : ℕ) (xs : List A) → Each P xs → Each P (drop n xs)
  each_drop zero xs h = h
  each_drop (suc n) [] h = tt
  each_drop (suc n) (x ∷ xs) h = each_drop n xs h.1

  pub each_reverse : (xs : List A) → Each P xs → Each P (reverse xs)
  each_reverse [] h = tt
  each_reverse (x ∷ xs) h = rw (reverse-append (x ∷ []) xs) (each_append (reverse xs) (x ∷ []) (each_reverse xs h.1) (h.0, tt))

  pub each_if : (b : Bool) (x : A) (xs : List A) → P x → Each P xs → Each P (cond b (x ∷ xs) xs)
  each_if true x xs p h = (p, h)
  each_if false x xs p h = h

  pub each_filter : (p : A → Bool) (xs : List A) → Each P xs → Each P (filter p xs)
  each_filter p [] h = tt
  each_filter p (x ∷ xs) h = each_if (p x) x (filter p xs) h.0 (each_filter p xs h.1)

  pub each_get : (xs : List A) (i : ℕ) → Each P xs → IfSome (slice_get xs i) P
  each_get [] i h = tt
  each_get (x ∷ xs) zero h = h.0
  each_get (x ∷ xs) (suc i) h = each_get xs i h.1

  pub each_joined : (xss : List (List A)) (xs : List A) → Each P xs → Each (Each P) xss → Each P (fold ◌++◌ xs xss)
  each_joined [] xs h k = h
  each_joined (ys ∷ xss) xs h k = each_joined xss (xs ++ ys) (each_append xs ys h k.0) k.1

  pub each_flat : (xss : List (List A)) → Each (Each P) xss → Each P (flat_map (λ (xs : List A). xs) xss)
  each_flat [] k = tt
  each_flat (xs ∷ xss) k = each_append xs (flat_map (λ (ys : List A). ys) xss) k.0 (each_flat xss k.1)

module _ {A B : Type 0} (P : B → Type 0) (f : A → B) where
  pub each_map : (xs : List A) → ((x : A) → P (f x)) → Each P (map f xs)
  each_map [] h = tt
  each_map (x ∷ xs) h = (h x, each_map xs h)

  pub map_each : (xs : List A) → Each (λ x. P (f x)) xs → Each P (map f xs)
  map_each [] h = tt
  map_each (x ∷ xs) h = (h.0, map_each xs h.1)

-- ---- fields

module _ {A : Type 0} (P : A → Type 0) where
  abbrev pub EachField : List (List ℕ × A) → Type 0
  EachField ps = Each (λ p. P p.1) ps

  put_if : (b : Bool) (k : List ℕ) (x : A) (p : List ℕ × A) (ps : List (List ℕ × A)) → P x → EachField (p ∷ ps) → EachField (put k x ps) → EachField (cond b ((k, x) ∷ ps) (p ∷ put k x ps))
  put_if true k x p ps h hs rest = (h, hs.1)
  put_if false k x p ps h hs rest = (hs.0, rest)

  pub each_put : (k : List ℕ) (x : A) (ps : List (List ℕ × A)) → P x → EachField ps → EachField (put k x ps)
  each_put k x [] h hs = (h, tt)
  each_put k x (p ∷ ps) h hs = put_if (bytes_eq p.0 k) k x p ps h hs (each_put k x ps h hs.1)

  find_if : (b : Bool) (p : List ℕ × A) (o : Option A) → P p.1 → IfSome o P → IfSome (cond b (Some p.1) o) P
  find_if true p o h k = h
  find_if false p o h k = k

  pub each_find : (k : List ℕ) (ps : List (List ℕ × A)) → EachField ps → IfSome (find k ps) P
  each_find k [] hs = tt
  each_find k (p ∷ ps) hs = find_if (bytes_eq p.0 k) p (find k ps) hs.0 (each_find k ps hs.1)

  without_if : (b : Bool) (p : List ℕ × A) (ps qs : List (List ℕ × A)) → P p.1 → EachField ps → EachField qs → EachField (cond b ps (p ∷ qs))
  without_if true p ps qs h hs ks = hs
  without_if false p ps qs h hs ks = (h, ks)

  pub each_without : (k : List ℕ) (ps : List (List ℕ × A)) → EachField ps → EachField (without k ps)
  each_without k [] hs = tt
  each_without k (p ∷ ps) hs = without_if (bytes_eq p.0 k) p ps (without k ps) hs.0 hs.1 (each_without k ps hs.1)

-- ---- depths

abbrev pub IsInside : ℕ → Tree → Type 0
IsInside n t = depth t < n

pub in_members : (n : ℕ) (ts : Trees) → depth (list ts) ≤ n → Each (IsInside n) (members ts)
in_members n no_trees h = tt
in_members n (tree t ts) h = (omega arith, in_members n ts (omega arith))

pub in_entries : (n : ℕ) (ps : Pairs) → depth (doc ps) ≤ n → EachField (IsInside n) (entries ps)
in_entries n no_pairs h = tt
in_entries n (pair k t ps) h = (omega arith, in_entries n ps (omega arith))

pub list_depth : (n : ℕ) (ts : List Tree) → 0 < n → Each (IsInside n) ts → depth (list (trees_of ts)) ≤ n
list_depth n [] h k = omega arith
list_depth n (t ∷ ts) h k = omega (arith, list_depth n ts h k.1)

pub doc_depth : (n : ℕ) (ps : List (List ℕ × Tree)) → 0 < n → EachField (IsInside n) ps → depth (doc (pairs_of ps)) ≤ n
doc_depth n [] h k = omega arith
doc_depth n (p ∷ ps) h k = omega (arith, doc_depth n ps h k.1)

pub deeper : (n m : ℕ) (ts : List Tree) → n ≤ m → Each (IsInside n) ts → Each (IsInside m) ts
deeper n m ts le = each_weaker (IsInside n) (IsInside m) (λ t h. omega (arith, h)) ts

pub deeper_fields : (n m : ℕ) (ps : List (List ℕ × Tree)) → n ≤ m → EachField (IsInside n) ps → EachField (IsInside m) ps
deeper_fields n m ps le = each_weaker (λ p. IsInside n p.1) (λ p. IsInside m p.1) (λ p h. omega (arith, h)) ps
