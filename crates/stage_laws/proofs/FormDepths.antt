-- Each form of an expression keeps to its bound where its parts do.
use Rattle.std.proofs.Common.{◌≡◌, ℕ, suc, ◌-◌, ◌<◌, ◌≤◌, Bool, true, false, cond, List, [], ◌∷◌, ◌++◌, map, length, refl, arith}
use Rattle.std.specs.Prelude.{Option, Some, None, Result, Ok, Err, max, nat_le, if◌then◌else◌}
use Rattle.std.specs.List.{AllZip}
use Rattle.std.specs.Option.{IfSome}
use Rattle.std.proofs.lemmas.Bool.{leb-true}
use Rattle.bson_value.specs.Calendar.{part_at, add_at, trunc_at, diff_at}
use Rattle.bson_value.specs.Depth.{depth}
use Rattle.bson_value.specs.Operands.{Outcome, row, both, gives, gives_array, gives_flag, array_in, date_in, whole_in, counts, or_null}
use Rattle.bson_value.specs.Operators.{operator}
use Rattle.bson_value.specs.Paths.{Steps, reach}
use Rattle.bson_value.specs.Tree.{Tree, leaf, doc, list, int, long, date, pairs_of, trees_of}
use Rattle.bson_value.specs.declared.eval_code.EvalCode.{EvalCode}
use Rattle.bson_value.specs.declared.eval_code.EvalCode.TheVariants.{NestTooDeep}
use Rattle.bson_value.specs.declared.op.Op.{Op}
use Rattle.bson_value.specs.declared.part.Part.{Part}
use Rattle.bson_value.specs.declared.unit.Unit.{Unit as DateUnit}
use Rattle.expr_tree.specs.Bound.{Around, Bound, one_more, with_bounds, deepest_from, deepest, first_bound, choose_bound, switch_from, bind_bound, each_bound, gives_part, gives_made, apply_bound}
use Rattle.expr_tree.specs.Env.{Env, with_bound, paired, root_in, value_in, last_of}
use Rattle.expr_tree.specs.Eval.{through}
use Rattle.expr_tree.specs.Rows.{Meaning, ◌>>=◌, all, put_found, put_all, make_row, make_list_row, every_counts, some_counts, choose_row, is_nothing, first_given, switch_row, bind_row, element_body, mapped, each_row, kept_if, filtered, filter_row, found_depth, shallow, step, reduced, reduced_from, reduce_row, value_name, this_name, on_one, on_two, part_row, signed, sum_row, diff_row, trunc_row}
use Rattle.stage_laws.specs.Depths.{SaysSomething, IsWithin, AreWithin}
use Rattle.stage_laws.proofs.Inside.{Each, EachField, IsInside, each_append, each_put, each_weaker, list_depth, doc_depth}
use Rattle.stage_laws.proofs.Fitting.{Fits, fits_more, null_depth, row_fits, row_any, array_given}
use Rattle.stage_laws.proofs.Reaching.{reach_within, reach_in_document}
use Rattle.stage_laws.proofs.ArrayDepths.{FirstWithin, AllWithin, made_depth}
use Rattle.stage_laws.proofs.OperatorDepths.{operator_fits}
use Rattle.stage_laws.proofs.PartDepths.{Parts, means, limits, AllSound, then_fits, fits_found, deepest_more, Keeps, all_fits, keep_deepest, keep_first, more_within, one_name, paired_names}

-- ---- made documents and lists

found_put : (n : ℕ) (x : List ℕ) (v : Option Tree) (ps : List (List ℕ × Tree)) → found_depth v < n → EachField (IsInside n) ps → EachField (IsInside n) (put_found x v ps)
found_put n x None ps h k = k
found_put n x (Some t) ps h k = each_put (IsInside n) x t ps h k

all_put : (n : ℕ) (xs : List (List ℕ)) (vs : List (Option Tree)) (ps : List (List ℕ × Tree)) → AllWithin n vs → EachField (IsInside (suc n)) ps → EachField (IsInside (suc n)) (put_all ps xs vs)
all_put n [] vs ps h k = k
all_put n (x ∷ xs) [] ps h k = k
all_put n (x ∷ xs) (v ∷ vs) ps h k = all_put n xs vs (put_found x v ps) h.1 (found_put (suc n) x v ps (omega (arith, h.0)) k)

nulls_inside : (n : ℕ) (vs : List (Option Tree)) → AllWithin n vs → Each (IsInside (suc n)) (map or_null vs)
nulls_inside n [] h = tt
nulls_inside n (v ∷ vs) h = (omega (arith, null_depth n v h.0), nulls_inside n vs h.1)

-- one more than a bound, where it says something
pub one_says : (n : ℕ) → SaysSomething (one_more n) → SaysSomething n × (suc n ≤ one_more n)
one_says n says = (omega arith, omega arith)

-- ---- operators

most : List (Option Tree) → ℕ
most [] = 0
most (v ∷ vs) = max (found_depth v) (most vs)

most_within : (n : ℕ) (vs : List (Option Tree)) → most vs ≤ n → AllWithin n vs
unfolding most
most_within n [] h = tt
most_within n (v ∷ vs) h = (omega arith, most_within n vs (omega arith))

first_most : (n : ℕ) (vs : List (Option Tree)) → most vs ≤ n → FirstWithin n vs
unfolding most
first_most n [] h = tt
first_most n (v ∷ vs) h = omega arith

module _ (a : Around) (env : Env) where
  -- the kinds of operators: those that give a part, and the others that give an array or a document
  kind_fits : (part made : Bool) (o : Outcome) (ps : Parts) (vs : List (Option Tree)) → AllZip (Keeps a env) vs ps
      → ((n m : ℕ) → FirstWithin n vs → AllWithin m vs → Fits (cond part n (cond made (made_depth m) 0)) o)
      → SaysSomething (cond part (first_bound (limits ps) a) (cond made (max (one_more (deepest (limits ps) a)) 2) 0))
      → Fits (cond part (first_bound (limits ps) a) (cond made (max (one_more (deepest (limits ps) a)) 2) 0)) o
  kind_fits true made o ps vs k h says = h (first_bound (limits ps) a) (most vs) (keep_first a env ps vs k says) (most_within (most vs) vs (omega arith))
  kind_fits false true o ps vs k h says =
      let s = one_says (deepest (limits ps) a) (omega arith) in
      fits_more (made_depth (deepest (limits ps) a)) (max (one_more (deepest (limits ps) a)) 2) o (omega arith) (h (most vs) (deepest (limits ps) a) (first_most (most vs) vs (omega arith)) (keep_deepest a env ps 0 vs k s.0))
  kind_fits false false o ps vs k h says = h (most vs) (most vs) (first_most (most vs) vs (omega arith)) (most_within (most vs) vs (omega arith))

  module _ (w : AreWithin a env) where
    pub apply_fits : (o : Op) (ps : Parts) → AllSound ps → SaysSomething (apply_bound o (limits ps) a) → Fits (apply_bound o (limits ps) a) (all (means ps) env >>= operator o)
    apply_fits o ps h says =
        all_fits a env w (apply_bound o (limits ps) a) ps (operator o) h
        (λ vs k. kind_fits (gives_part o) (gives_made o) (operator o vs) ps vs k (λ n m f g. operator_fits o n m vs f g) says)

    pub make_fits : (xs : List (List ℕ)) (ps : Parts) → AllSound ps → SaysSomething (one_more (deepest (limits ps) a)) → Fits (one_more (deepest (limits ps) a)) (make_row xs (means ps) env)
    make_fits xs ps h says =
        let s = one_says (deepest (limits ps) a) says in
        all_fits a env w (one_more (deepest (limits ps) a)) ps (λ vs. gives (doc (pairs_of (put_all [] xs vs)))) h
        (λ vs k. let d : depth (doc (pairs_of (put_all [] xs vs))) ≤ suc (deepest (limits ps) a) = doc_depth (suc (deepest (limits ps) a)) (put_all [] xs vs) (omega arith) (all_put (deepest (limits ps) a) xs vs [] (keep_deepest a env ps 0 vs k s.0) tt) in omega (arith, s.1))

    pub make_list_fits : (ps : Parts) → AllSound ps → SaysSomething (one_more (deepest (limits ps) a)) → Fits (one_more (deepest (limits ps) a)) (make_list_row (means ps) env)
    make_list_fits ps h says =
        let s = one_says (deepest (limits ps) a) says in
        all_fits a env w (one_more (deepest (limits ps) a)) ps (λ vs. gives_array (map or_null vs)) h
        (λ vs k. fits_more (suc (deepest (limits ps) a)) (one_more (deepest (limits ps) a)) (gives_array (map or_null vs)) s.1
        (list_depth (suc (deepest (limits ps) a)) (map or_null vs) (omega arith) (nulls_inside (deepest (limits ps) a) vs (keep_deepest a env ps 0 vs k s.0))))

    -- ---- what is chosen

    choose_if : (b : Bool) (n m : ℕ) (x y : Outcome) → (SaysSomething n → Fits n x) → (SaysSomething m → Fits m y) → SaysSomething (max n m) → Fits (max n m) (cond b x y)
    choose_if true n m x y h k says = fits_more n (max n m) x (omega arith) (h (omega arith))
    choose_if false n m x y h k says = fits_more m (max n m) y (omega arith) (k (omega arith))

    pub choose_fits : (ps : Parts) → AllSound ps → SaysSomething (choose_bound (limits ps) a) → Fits (choose_bound (limits ps) a) (choose_row (means ps) env)
    choose_fits [] h says = tt
    choose_fits (c ∷ []) h says = tt
    choose_fits (c ∷ x ∷ []) h says = tt
    choose_fits (c ∷ x ∷ y ∷ []) h says =
        then_fits (max (x.1 a) (y.1 a)) (c.0 env) (λ v. if counts v then x.0 env else y.0 env) (λ v e. choose_if (counts v) (x.1 a) (y.1 a) (x.0 env) (y.0 env) (h.1.0 a env w) (h.1.1.0 a env w) says)
    choose_fits (c ∷ x ∷ y ∷ z ∷ ps) h says = tt

    given_if : (b : Bool) (n : ℕ) (o : Outcome) (v : Option Tree) → Fits n o → found_depth v ≤ n → Fits n (cond b o (Ok v))
    given_if true n o v h k = h
    given_if false n o v h k = k

    pub given_fits : (ps : Parts) (n : ℕ) (v : Option Tree) → found_depth v ≤ deepest_from n (limits ps) a → AllSound ps → SaysSomething (deepest_from n (limits ps) a) → Fits (deepest_from n (limits ps) a) (first_given v (means ps) env)
    given_fits [] n v le h says = le
    given_fits (p ∷ ps) n v le h says =
        let more : max (p.1 a) n ≤ deepest_from (max (p.1 a) n) (limits ps) a = deepest_more (limits ps) (max (p.1 a) n) a in
        let m = deepest_from (max (p.1 a) n) (limits ps) a in
        then_fits m (p.0 env) (λ u. if is_nothing u then first_given u (means ps) env else Ok u)
        (λ u e. let fine : found_depth u ≤ m = fits_found m (p.0 env) u e (fits_more (p.1 a) m (p.0 env) (omega arith) (h.0 a env w (omega arith))) in
        given_if (is_nothing u) m (first_given u (means ps) env) u (given_fits ps (max (p.1 a) n) u fine h.1 says) fine)

    switch_more : (bs : List Bound) (n : ℕ) → n ≤ switch_from n bs a
    switch_more [] n = omega arith
    switch_more (d ∷ []) n = omega arith
    switch_more (c ∷ b ∷ bs) n = omega (arith, switch_more bs (max (b a) n))

    branch_if : (b : Bool) (n : ℕ) (x y : Outcome) → Fits n x → Fits n y → Fits n (cond b x y)
    branch_if true n x y h k = h
    branch_if false n x y h k = k

    pub switch_fits : (ps : Parts) (n : ℕ) → AllSound ps → SaysSomething (switch_from n (limits ps) a) → Fits (switch_from n (limits ps) a) (switch_row (means ps) env)
    switch_fits [] n h says = tt
    switch_fits (d ∷ []) n h says = fits_more (d.1 a) (max (d.1 a) n) (d.0 env) (omega arith) (h.0 a env w (omega arith))
    switch_fits (c ∷ p ∷ ps) n h says =
        let m = switch_from (max (p.1 a) n) (limits ps) a in
        let more : max (p.1 a) n ≤ m = switch_more (limits ps) (max (p.1 a) n) in
        then_fits m (c.0 env) (λ v. if counts v then p.0 env else switch_row (means ps) env)
        (λ v e. branch_if (counts v) m (p.0 env) (switch_row (means ps) env) (fits_more (p.1 a) m (p.0 env) (omega arith) (h.1.0 a env w (omega arith))) (switch_fits ps (max (p.1 a) n) h.1.1 says))

    -- ---- bodies that see more names

    pub bind_fits : (xs : List (List ℕ)) (ps : Parts) → AllSound ps → SaysSomething (bind_bound xs (limits ps) a) → Fits (bind_bound xs (limits ps) a) (bind_row xs (means ps) env)
    bind_fits xs [] h says = tt
    bind_fits xs (body ∷ ps) h says =
        let bs = paired xs (map (λ (m : Bound). m a) (limits ps)) in
        all_fits a env w (body.1 (with_bounds bs a)) ps (λ vs. body.0 (with_bound (paired xs vs) env)) h.1
        (λ vs k. h.0 (with_bounds bs a) (with_bound (paired xs vs) env) (more_within a env bs (paired xs vs) w (paired_names a env xs ps vs k)) says)

    abbrev OkTrees : ℕ → Result (List Tree) EvalCode → Type 0
    OkTrees n (Ok ts) = Each (IsInside n) ts
    OkTrees n (Err c) = Unit {0}

    trees_fit : (n m : ℕ) (r : Result (List Tree) EvalCode) → n ≤ m → 0 < n → OkTrees n r → Fits m (r >>= gives_array)
    trees_fit n m (Ok ts) le lt h = let d : depth (list (trees_of ts)) ≤ n = list_depth n ts lt h in omega arith
    trees_fit n m (Err c) le lt h = tt

    then_trees : {A : Type 0} (n : ℕ) (r : Result A EvalCode) (f : A → Result (List Tree) EvalCode) → ((x : A) → r ≡ Ok x → OkTrees n (f x)) → OkTrees n (r >>= f)
    then_trees n (Err c) f h = tt
    then_trees n (Ok x) f h = h x refl

    mapped_inside : (n : ℕ) (go : Tree → Outcome) (ts front : List Tree) → Each (λ t. Fits n (go t)) ts → Each (IsInside (suc n)) front → OkTrees (suc n) (mapped go front ts)
    mapped_inside n go [] front h k = k
    mapped_inside n go (t ∷ ts) front h k =
        then_trees (suc n) (go t) (λ v. mapped go (front ++ or_null v ∷ []) ts)
        (λ v e. let d : depth (or_null v) ≤ n = null_depth n v (fits_found n (go t) v e h.0) in
        mapped_inside n go ts (front ++ or_null v ∷ []) h.1 (each_append (IsInside (suc n)) front (or_null v ∷ []) k (omega arith, tt)))

    elements_within : (n : ℕ) (v : Option Tree) (ts : List Tree) → IsWithin n v → array_in v ≡ Ok (Some ts) → Each (λ t. IsWithin n (Some t)) ts
    elements_within n v ts h e =
        each_weaker (IsInside (found_depth v)) (λ t. IsWithin n (Some t)) (λ t lt says. omega (arith, h says)) ts (array_given (found_depth v) v ts (omega arith) e).1

    pub each_fits : (x : List ℕ) (ps : Parts) → AllSound ps → SaysSomething (each_bound x (limits ps) a) → Fits (each_bound x (limits ps) a) (each_row x (means ps) env)
    each_fits x [] h says = tt
    each_fits x (input ∷ []) h says = tt
    each_fits x (input ∷ body ∷ []) h says =
        let bs = (x, input.1 a) ∷ [] in
        let n = body.1 (with_bounds bs a) in
        let s = one_says n says in
        let go : Tree → Outcome = element_body body.0 x env in
        then_fits (one_more n) (input.0 env) (λ v. row (array_in v) (λ ts. mapped go [] ts >>= gives_array))
        (λ v e. row_fits (one_more n) (array_in v) (λ ts. mapped go [] ts >>= gives_array)
        (λ ts f. trees_fit (suc n) (one_more n) (mapped go [] ts) s.1 (omega arith)
        (mapped_inside n go ts [] (each_weaker (λ t. IsWithin (input.1 a) (Some t)) (λ t. Fits n (go t))
        (λ t k. h.1.0 (with_bounds bs a) (with_bound ((x, Some t) ∷ []) env) (more_within a env bs ((x, Some t) ∷ []) w (one_name x (input.1 a) (Some t) k)) s.0) ts
        (elements_within (input.1 a) v ts (λ says2. fits_found (input.1 a) (input.0 env) v e (h.0 a env w says2)) f)) tt)))
    each_fits x (input ∷ body ∷ p ∷ ps) h says = tt

    kept_inside : (b : Bool) (n : ℕ) (front : List Tree) (t : Tree) → Each (IsInside n) front → IsInside n t → Each (IsInside n) (kept_if b front t)
    kept_inside true n front t h k = each_append (IsInside n) front (t ∷ []) h (k, tt)
    kept_inside false n front t h k = h

    filtered_inside : (n : ℕ) (go : Tree → Outcome) (ts front : List Tree) → Each (IsInside n) ts → Each (IsInside n) front → OkTrees n (filtered go front ts)
    filtered_inside n go [] front h k = k
    filtered_inside n go (t ∷ ts) front h k =
        then_trees n (go t) (λ v. filtered go (kept_if (counts v) front t) ts) (λ v e. filtered_inside n go ts (kept_if (counts v) front t) h.1 (kept_inside (counts v) n front t k h.0))

    pub filter_fits : (x : List ℕ) (ps : Parts) → AllSound ps → SaysSomething (first_bound (limits ps) a) → Fits (first_bound (limits ps) a) (filter_row x (means ps) env)
    filter_fits x [] h says = tt
    filter_fits x (input ∷ []) h says = tt
    filter_fits x (input ∷ condition ∷ []) h says =
        let n = input.1 a in
        let go : Tree → Outcome = element_body condition.0 x env in
        then_fits n (input.0 env) (λ v. row (array_in v) (λ ts. filtered go [] ts >>= gives_array))
        (λ v e. row_fits n (array_in v) (λ ts. filtered go [] ts >>= gives_array)
        (λ ts f. let g = array_given n v ts (fits_found n (input.0 env) v e (h.0 a env w says)) f in trees_fit n n (filtered go [] ts) (omega arith) g.0 (filtered_inside n go ts [] g.1 tt)))
    filter_fits x (input ∷ condition ∷ p ∷ ps) h says = tt

  -- ---- `$reduce`, which refuses what is nested deeper than 200

  shallow_if : (b : Bool) (v : Option Tree) → nat_le (found_depth v) 200 ≡ b → Fits 200 (cond b (Ok v) (Err NestTooDeep))
  shallow_if true v e = leb-true (found_depth v) 200 e
  shallow_if false v e = tt

  shallow_fits : (v : Option Tree) → Fits 200 (shallow v)
  shallow_fits v = shallow_if (nat_le (found_depth v) 200) v refl

  step_fits : (body : Meaning) (v : Option Tree) (t : Tree) → Fits 200 (step body env v t)
  step_fits body v t = then_fits 200 (body (with_bound ((this_name, Some t) ∷ []) (with_bound ((value_name, v) ∷ []) env))) (λ u. shallow (Some (or_null u))) (λ u e. shallow_fits (Some (or_null u)))

  reduced_fits : (go : Option Tree → Tree → Outcome) → ((v : Option Tree) (t : Tree) → Fits 200 (go v t)) → (ts : List Tree) (v : Option Tree) → found_depth v ≤ 200 → Fits 200 (reduced go v ts)
  reduced_fits go h [] v le = null_depth 200 v le
  reduced_fits go h (t ∷ ts) v le = then_fits 200 (go v t) (λ u. reduced go u ts) (λ u e. reduced_fits go h ts u (fits_found 200 (go v t) u e (h v t)))

  pub reduce_fits : (ms : List Meaning) → Fits 200 (reduce_row ms env)
  reduce_fits [] = tt
  reduce_fits (m ∷ []) = tt
  reduce_fits (m ∷ n ∷ []) = tt
  reduce_fits (input ∷ initial ∷ body ∷ []) =
      then_fits 200 (input env) (λ u. initial env >>= λ v. row (array_in u) (λ ts. reduced_from (step body env) v ts))
      (λ u e. then_fits 200 (initial env) (λ v. row (array_in u) (λ ts. reduced_from (step body env) v ts))
      (λ v f. row_any 200 (array_in u) (λ ts. reduced_from (step body env) v ts)
      (λ ts. then_fits 200 (shallow v) (λ x. reduced (step body env) x ts) (λ x g. reduced_fits (step body env) (step_fits body) ts x (fits_found 200 (shallow v) x g (shallow_fits v))))))
  reduce_fits (m ∷ n ∷ p ∷ q ∷ ms) = tt

  -- ---- scalars

  pub every_fits : (ms : List Meaning) → Fits 0 (every_counts ms env >>= gives_flag)
  every_fits ms = then_fits 0 (every_counts ms env) gives_flag (λ b e. omega arith)

  pub some_fits : (ms : List Meaning) → Fits 0 (some_counts ms env >>= gives_flag)
  some_fits ms = then_fits 0 (some_counts ms env) gives_flag (λ b e. omega arith)

  one_fits : (go : Option Tree → Outcome) → ((v : Option Tree) → Fits 0 (go v)) → (ms : List Meaning) → Fits 0 (on_one go ms env)
  one_fits go h [] = tt
  one_fits go h (m ∷ []) = then_fits 0 (m env) go (λ v e. h v)
  one_fits go h (m ∷ n ∷ ms) = tt

  two_fits : (go : Option Tree → Option Tree → Outcome) → ((u v : Option Tree) → Fits 0 (go u v)) → (ms : List Meaning) → Fits 0 (on_two go ms env)
  two_fits go h [] = tt
  two_fits go h (m ∷ []) = tt
  two_fits go h (m ∷ n ∷ []) = then_fits 0 (m env) (λ u. n env >>= go u) (λ u e. then_fits 0 (n env) (go u) (λ v f. h u v))
  two_fits go h (m ∷ n ∷ p ∷ ms) = tt

  scalar_fits : {A : Type 0} (r : Result A EvalCode) (f : A → Tree) → ((x : A) → depth (f x) ≤ 0) → Fits 0 (r >>= λ x. gives (f x))
  scalar_fits r f h = then_fits 0 r (λ x. gives (f x)) (λ x e. h x)

  pub part_fits : (part : Part) (ms : List Meaning) → Fits 0 (on_one (part_row part) ms env)
  part_fits part ms = one_fits (part_row part) (λ v. row_any 0 (date_in v) (λ n. part_at part n >>= λ i. gives (leaf (int i))) (λ n. scalar_fits (part_at part n) (λ i. leaf (int i)) (λ i. omega arith))) ms

  pub sum_fits : (unit : DateUnit) (back : Bool) (ms : List Meaning) → Fits 0 (on_two (sum_row unit back) ms env)
  sum_fits unit back ms =
      two_fits (sum_row unit back) (λ u v. row_any 0 (both (date_in u) (whole_in v)) (λ p. add_at unit p.0 (signed back p.1) >>= λ d. gives (leaf (date d))) (λ p. scalar_fits (add_at unit p.0 (signed back p.1)) (λ d. leaf (date d)) (λ d. omega arith))) ms

  pub diff_fits : (unit : DateUnit) (ms : List Meaning) → Fits 0 (on_two (diff_row unit) ms env)
  diff_fits unit ms =
      two_fits (diff_row unit) (λ u v. row_any 0 (both (date_in u) (date_in v)) (λ p. diff_at unit p.0 p.1 >>= λ n. gives (leaf (long n))) (λ p. scalar_fits (diff_at unit p.0 p.1) (λ n. leaf (long n)) (λ n. omega arith))) ms

  pub trunc_fits : (unit : DateUnit) (ms : List Meaning) → Fits 0 (on_one (trunc_row unit) ms env)
  trunc_fits unit ms = one_fits (trunc_row unit) (λ v. row_any 0 (date_in v) (λ n. trunc_at unit n >>= λ d. gives (leaf (date d))) (λ n. scalar_fits (trunc_at unit n) (λ d. leaf (date d)) (λ d. omega arith))) ms

  -- ---- paths

  through_within : (p : Option Steps) (n : ℕ) (v : Option Tree) → found_depth v ≤ n → found_depth (through p v) ≤ n
  through_within None n v h = h
  through_within (Some p) n None h = h
  through_within (Some p) n (Some t) h = reach_within p n t h

  below : (n : ℕ) (v : Option Tree) → IfSome v (IsInside n) → found_depth v ≤ n - 1
  below n None h = omega arith
  below n (Some t) h = omega arith

  pub field_fits : (p : Steps) → AreWithin a env → 0 < length p → found_depth (reach p (root_in env)) ≤ a.doc - 1
  field_fits p w lt = below a.doc (reach p (root_in env)) (reach_in_document p a.doc (pairs_of env.root) lt w.document)

  pub var_fits : (x : List ℕ) (p : Option Steps) → AreWithin a env → SaysSomething (last_of x 0 a.names) → found_depth (through p (value_in env x)) ≤ last_of x 0 a.names
  var_fits x p w says = through_within p (last_of x 0 a.names) (value_in env x) (w.names x says)
