-- Names that stood before, found among those that were seen.
use Rattle.std.proofs.Common.{◌≡◌, ℕ, zero, suc, ◌<◌, Bool, true, false, List, [], ◌∷◌, ◌++◌, map, length, get_or, refl, sym, ap, subst, ◌∙◌, arith, inl, inr, append_assoc}
use Rattle.std.specs.Prelude.{◌⊎◌, ◌||◌}
use Rattle.std.specs.List.{Contains, list_any}
use Rattle.std.specs.Str.{bytes_eq}
use Rattle.std.proofs.lemmas.List.{append-nil, map-append}
use Rattle.std.proofs.lemmas.List.Elements.{Contains-append_left, Contains-append_right, Contains-append_cases}
use Rattle.std.proofs.lemmas.Slice.Eq.{bytes_eq-Decides}
use Rattle.chunk_map.specs.Form.{has_file, stood_before, has_shard_twice, is_twice_named}
use Rattle.chunk_map.specs.Table.{ShardRow, CollectionRow, Table}
use Rattle.stage_laws.specs.Names.{NamesAnew, HasTwice, all_files, file_names}
use Rattle.stage_laws.specs.Names.NamesAnew.{name, shard, own_file, other_file}

or_cases : (a b : Bool) → (a || b) ≡ true → (a ≡ true) ⊎ (b ≡ true)
or_cases true b e = inl refl
or_cases false b e = inr e

or_left : (a b : Bool) → a ≡ true → (a || b) ≡ true
or_left a b e = rw e refl

or_right : (a b : Bool) → b ≡ true → (a || b) ≡ true
or_right true b e = refl
or_right false b e = e

module _ {A : Type 0} (f : A → List ℕ) (n : List ℕ) where
  abbrev has : A → Bool
  has x = bytes_eq (f x) n

  pub any_named : (xs : List A) → list_any has xs ≡ true → Contains (map f xs) n
  any_named [] e = absurd cc
  any_named (x ∷ xs) e =
      elim (or_cases (has x) (list_any has xs) e) [
        | inl h ↦ (0, omega arith, (bytes_eq-Decides (f x) n).0 h)
        | inr h ↦ let c = any_named xs h in (suc c.0, omega (arith, c.1), c.2)
      ]

  pub named_at : (xs : List A) (k : ℕ) → k < length (map f xs) → get_or (map f xs) k n ≡ n → list_any has xs ≡ true
  named_at [] k low e = absurd (omega arith)
  named_at (x ∷ xs) zero low e = or_left (has x) (list_any has xs) ((bytes_eq-Decides (f x) n).1 e)
  named_at (x ∷ xs) (suc k) low e = or_right (has x) (list_any has xs) (named_at xs k (omega arith) e)

  pub named_any : (xs : List A) → Contains (map f xs) n → list_any has xs ≡ true
  named_any xs c = named_at xs c.0 c.1 c.2

  -- where one of them has the name
  pub item_named : (xs : List A) → list_any has xs ≡ true → (front : List A) × (x : A) × (back : List A) × (front ++ x ∷ back ≡ xs) × (f x ≡ n)
  item_named [] e = absurd cc
  item_named (x ∷ xs) e =
      elim (or_cases (has x) (list_any has xs) e) [
        | inl h ↦ ([], x, xs, refl, (bytes_eq-Decides (f x) n).0 h)
        | inr h ↦ let r = item_named xs h in (x ∷ r.0, r.1, r.2, ap (λ (ys : List A). x ∷ ys) r.3, r.4)
      ]

  pub split_named : (front : List A) (x : A) (back : List A) → f x ≡ n → list_any has (front ++ x ∷ back) ≡ true
  split_named [] x back e = or_left (has x) (list_any has back) ((bytes_eq-Decides (f x) n).1 e)
  split_named (y ∷ front) x back e = or_right (has y) (list_any has (front ++ x ∷ back)) (split_named front x back e)

-- a split of the names is one of the items
unmapped : {A B : Type 0} (f : A → B) (xs : List A) (front : List B) (y : B) (back : List B) → front ++ y ∷ back ≡ map f xs → (left : List A) × (x : A) × (right : List A) × (left ++ x ∷ right ≡ xs) × (map f left ≡ front) × (f x ≡ y)
unmapped f [] [] y back e = absurd cc
unmapped f (x ∷ xs) [] y back e = ([], x, xs, refl, refl, cc)
unmapped f [] (z ∷ front) y back e = absurd cc
unmapped f (x ∷ xs) (z ∷ front) y back e =
    let rest : front ++ y ∷ back ≡ map f xs = cc in
    let same : f x ≡ z = cc in
    let r = unmapped f xs front y back rest in
    (x ∷ r.0, r.1, r.2, (λ i. x ∷ r.3 i), (λ i. same i ∷ r.4 i), r.5)

files_found : (n : List ℕ) (before : Table) → list_any (λ c. has_file n c.shards) before ≡ true → Contains (all_files before) n
files_found n [] e = absurd cc
files_found n (c ∷ cs) e =
    elim (or_cases (has_file n c.shards) (list_any (λ c. has_file n c.shards) cs) e) [
      | inl h ↦ Contains-append_left (file_names c.shards) (all_files cs) n (any_named (λ (s : ShardRow). s.file) n c.shards h)
      | inr h ↦ Contains-append_right (file_names c.shards) (all_files cs) n (files_found n cs h)
    ]

found_files : (n : List ℕ) (before : Table) → Contains (all_files before) n → list_any (λ c. has_file n c.shards) before ≡ true
found_files n [] c = absurd (omega (arith, c.1))
found_files n (c ∷ cs) h =
    elim (Contains-append_cases (file_names c.shards) (all_files cs) n h) [
      | inl g ↦ or_left (has_file n c.shards) (list_any (λ c. has_file n c.shards) cs) (named_any (λ (s : ShardRow). s.file) n c.shards g)
      | inr g ↦ or_right (has_file n c.shards) (list_any (λ c. has_file n c.shards) cs) (found_files n cs g)
    ]

module _ (before : Table) where
  -- the first shard that stood before
  stood_at : (seen ss : List ShardRow) → has_shard_twice before seen ss ≡ true → (front : List ShardRow) × (s : ShardRow) × (back : List ShardRow) × (front ++ s ∷ back ≡ ss) × (stood_before before (seen ++ front) s ≡ true)
  stood_at seen [] e = absurd cc
  stood_at seen (s ∷ ss) e =
      elim (or_cases (stood_before before seen s) (has_shard_twice before (seen ++ s ∷ []) ss) e) [
        | inl h ↦ ([], s, ss, refl, rw (append-nil seen) h)
        | inr h ↦
            let r = stood_at (seen ++ s ∷ []) ss h in
            (s ∷ r.0, r.1, r.2, ap (λ (ts : List ShardRow). s ∷ ts) r.3, subst (λ (ts : List ShardRow). stood_before before ts r.1 ≡ true) (append_assoc seen (s ∷ []) r.0) r.4)
      ]

  twice_at : (seen front : List ShardRow) (s : ShardRow) (back : List ShardRow) → stood_before before (seen ++ front) s ≡ true → has_shard_twice before seen (front ++ s ∷ back) ≡ true
  twice_at seen [] s back e = or_left (stood_before before seen s) (has_shard_twice before (seen ++ s ∷ []) back) (subst (λ (ts : List ShardRow). stood_before before ts s ≡ true) (append-nil seen) e)
  twice_at seen (t ∷ front) s back e =
      or_right (stood_before before seen t) (has_shard_twice before (seen ++ t ∷ []) (front ++ s ∷ back))
      (twice_at (seen ++ t ∷ []) front s back (subst (λ (ts : List ShardRow). stood_before before ts s ≡ true) (sym (append_assoc seen (t ∷ []) front)) e))

  twice : (f : ShardRow → List ℕ) (ss front : List ShardRow) (s : ShardRow) (back : List ShardRow) → front ++ s ∷ back ≡ ss → list_any (λ o. bytes_eq (f o) (f s)) front ≡ true → HasTwice (map f ss)
  twice f ss front s back split h = (map f front, f s, map f back, sym (map-append f front (s ∷ back)) ∙ ap (map f) split, any_named f (f s) front h)

  stood_why : (c : CollectionRow) (front : List ShardRow) (s : ShardRow) (back : List ShardRow) → front ++ s ∷ back ≡ c.shards → stood_before before front s ≡ true → NamesAnew before c
  stood_why c front s back split e =
      elim (or_cases (list_any (λ o. bytes_eq o.name s.name) front) (has_file s.file front || list_any (λ c. has_file s.file c.shards) before) e) [
        | inl h ↦ shard (twice (λ s. s.name) c.shards front s back split h)
        | inr h ↦ elim (or_cases (has_file s.file front) (list_any (λ c. has_file s.file c.shards) before) h) [
          | inl g ↦ own_file (twice (λ s. s.file) c.shards front s back split g)
          | inr g ↦ other_file (s.file, files_found s.file before g, any_named (λ s. s.file) s.file c.shards (subst (λ (ts : List ShardRow). has_file s.file ts ≡ true) split (split_named (λ s. s.file) s.file front s back refl)))
        ]
      ]

  pub twice_names : (c : CollectionRow) → is_twice_named before c ≡ true → NamesAnew before c
  unfolding is_twice_named
  twice_names c e =
      elim (or_cases (list_any (λ b. bytes_eq b.name c.name) before) (has_shard_twice before [] c.shards) e) [
        | inl h ↦ name (any_named (λ (b : CollectionRow). b.name) c.name before h)
        | inr h ↦ let r = stood_at [] c.shards h in stood_why c r.0 r.1 r.2 r.3 r.4
      ]

  -- an item that stands twice, and where it stands the second time
  again : (f : ShardRow → List ℕ) (ss : List ShardRow) → HasTwice (map f ss) → (front : List ShardRow) × (s : ShardRow) × (back : List ShardRow) × (front ++ s ∷ back ≡ ss) × (list_any (λ o. bytes_eq (f o) (f s)) front ≡ true)
  again f ss h =
      let r = unmapped f ss h.0 h.1 h.2 h.3 in
      (r.0, r.1, r.2, r.3, subst (λ (n : List ℕ). list_any (λ o. bytes_eq (f o) n) r.0 ≡ true) (sym r.5) (named_any f h.1 r.0 (subst (λ (ns : List (List ℕ)). Contains ns h.1) (sym r.4) h.4)))

  shards_twice : (ss front : List ShardRow) (s : ShardRow) (back : List ShardRow) → front ++ s ∷ back ≡ ss → stood_before before front s ≡ true → has_shard_twice before [] ss ≡ true
  shards_twice ss front s back split e = subst (λ (ts : List ShardRow). has_shard_twice before [] ts ≡ true) split (twice_at [] front s back e)

  stands : (c : CollectionRow) → has_shard_twice before [] c.shards ≡ true → is_twice_named before c ≡ true
  unfolding is_twice_named
  stands c e = or_right (list_any (λ b. bytes_eq b.name c.name) before) (has_shard_twice before [] c.shards) e

  pub names_twice : (c : CollectionRow) → NamesAnew before c → is_twice_named before c ≡ true
  unfolding is_twice_named
  names_twice c (name h) = or_left (list_any (λ b. bytes_eq b.name c.name) before) (has_shard_twice before [] c.shards) (named_any (λ (b : CollectionRow). b.name) c.name before h)
  names_twice c (shard h) =
      let r = again (λ s. s.name) c.shards h in
      stands c (shards_twice c.shards r.0 r.1 r.2 r.3 (or_left (list_any (λ o. bytes_eq o.name r.1.name) r.0) (has_file r.1.file r.0 || list_any (λ c. has_file r.1.file c.shards) before) r.4))
  names_twice c (own_file h) =
      let r = again (λ s. s.file) c.shards h in
      stands c (shards_twice c.shards r.0 r.1 r.2 r.3 (or_right (list_any (λ o. bytes_eq o.name r.1.name) r.0) (has_file r.1.file r.0 || list_any (λ c. has_file r.1.file c.shards) before) (or_left (has_file r.1.file r.0) (list_any (λ c. has_file r.1.file c.shards) before) r.4)))
  names_twice c (other_file h) =
      let r = item_named (λ (s : ShardRow). s.file) h.0 c.shards (named_any (λ (s : ShardRow). s.file) h.0 c.shards h.2) in
      let found : list_any (λ c. has_file r.1.file c.shards) before ≡ true = found_files r.1.file before (subst (Contains (all_files before)) (sym r.4) h.1) in
      stands c (shards_twice c.shards r.0 r.1 r.2 r.3 (or_right (list_any (λ o. bytes_eq o.name r.1.name) r.0) (has_file r.1.file r.0 || list_any (λ c. has_file r.1.file c.shards) before) (or_right (has_file r.1.file r.0) (list_any (λ c. has_file r.1.file c.shards) before) found)))
