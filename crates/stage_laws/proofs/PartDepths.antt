-- The parts of an expression, each with its bound, and the names that they see.
use Rattle.std.proofs.Common.{◌≡◌, ℕ, ◌≤◌, Bool, true, false, cond, List, [], ◌∷◌, ◌++◌, map, refl, subst, arith}
use Rattle.std.specs.Prelude.{Option, None, Result, Ok, Err, max, if◌then◌else◌}
use Rattle.std.specs.List.{AllZip}
use Rattle.std.specs.Str.{bytes_eq}
use Rattle.bson_value.specs.Tree.{Tree}
use Rattle.bson_value.specs.Operands.{Outcome}
use Rattle.bson_value.specs.declared.eval_code.EvalCode.{EvalCode}
use Rattle.expr_tree.specs.Bound.{Around, Bound, with_bounds, deepest_from, first_bound}
use Rattle.expr_tree.specs.Env.{Env, Names, with_bound, paired, last_of, value_in}
use Rattle.expr_tree.specs.Rows.{Meaning, ◌>>=◌, all, found_depth}
use Rattle.stage_laws.specs.Depths.{SaysSomething, IsWithin, AreWithin}
use Rattle.stage_laws.specs.Outcomes.{AllGive}
use Rattle.stage_laws.proofs.Inside.{Each}
use Rattle.stage_laws.proofs.Fitting.{Fits}
use Rattle.stage_laws.proofs.Outcomes.{values_are, all_good, all_bad}
use Rattle.stage_laws.proofs.ArrayDepths.{FirstWithin, AllWithin}

-- what a part gives keeps to its bound, where the bound says something
abbrev pub Sound : Meaning → Bound → Type 0
Sound m b = (a : Around) (env : Env) → AreWithin a env → SaysSomething (b a) → Fits (b a) (m env)

abbrev pub Parts : Type 0
Parts = List (Meaning × Bound)

abbrev pub means : Parts → List Meaning
means ps = map (λ p. p.0) ps

abbrev pub limits : Parts → List Bound
limits ps = map (λ p. p.1) ps

abbrev pub AllSound : Parts → Type 0
AllSound ps = Each (λ p. Sound p.0 p.1) ps

pub then_fits : {A : Type 0} (n : ℕ) (r : Result A EvalCode) (f : A → Outcome) → ((x : A) → r ≡ Ok x → Fits n (f x)) → Fits n (r >>= f)
then_fits n (Err c) f h = tt
then_fits n (Ok x) f h = h x refl

pub fits_found : (n : ℕ) (o : Outcome) (v : Option Tree) → o ≡ Ok v → Fits n o → found_depth v ≤ n
fits_found n o v e h = rw e at h

-- ---- the deepest

pub deepest_more : (bs : List Bound) (n : ℕ) (a : Around) → n ≤ deepest_from n bs a
deepest_more [] n a = omega arith
deepest_more (b ∷ bs) n a = omega (arith, deepest_more bs (max (b a) n) a)

-- ---- all values

module _ (a : Around) (env : Env) where
  abbrev pub Keeps : Option Tree → Meaning × Bound → Type 0
  Keeps v p = IsWithin (p.1 a) v

  first_given : (m : Meaning) (ms : List Meaning) (v : Option Tree) (vs : List (Option Tree)) → AllGive (m env ∷ map (λ (n : Meaning). n env) ms) (v ∷ vs) → (m env ≡ Ok v) × AllGive (map (λ (n : Meaning). n env) ms) vs
  first_given m ms v vs e = (cc, cc)

  none_given : (m : Meaning) (ms : List Meaning) → AllGive (m env ∷ map (λ (n : Meaning). n env) ms) [] → ⊥
  none_given m ms e = cc

  more_given : (v : Option Tree) (vs : List (Option Tree)) → (let none : List Outcome = [] in map Ok (v ∷ vs) ≡ none) → ⊥
  more_given v vs e = cc

  module _ (w : AreWithin a env) where
    keep_given : (ps : Parts) (vs : List (Option Tree)) → AllSound ps → AllGive (map (λ (m : Meaning). m env) (means ps)) vs → AllZip Keeps vs ps
    keep_given [] [] h e = tt
    keep_given [] (v ∷ vs) h e = absurd (more_given v vs e)
    keep_given (p ∷ ps) [] h e = absurd (none_given p.0 (means ps) e)
    keep_given (p ∷ ps) (v ∷ vs) h e =
        let g = first_given p.0 (means ps) v vs e in
        (λ says. fits_found (p.1 a) (p.0 env) v g.0 (h.0 a env w says), keep_given ps vs h.1 g.1)

    pub all_given : (ps : Parts) (vs : List (Option Tree)) → AllSound ps → all (means ps) env ≡ Ok vs → AllZip Keeps vs ps
    all_given ps vs h e =
        let r = values_are (map (λ (m : Meaning). m env) (means ps)) (all (means ps) env) (λ (us : List (Option Tree)). us) (all_good env (means ps)) (all_bad env (means ps)) vs e in
        keep_given ps vs h (subst (AllGive (map (λ (m : Meaning). m env) (means ps))) r.2 r.1)

    -- what is made of all values
    pub all_fits : (n : ℕ) (ps : Parts) (f : List (Option Tree) → Outcome) → AllSound ps → ((vs : List (Option Tree)) → AllZip Keeps vs ps → Fits n (f vs)) → Fits n (all (means ps) env >>= f)
    all_fits n ps f h k = then_fits n (all (means ps) env) f (λ vs e. k vs (all_given ps vs h e))

  -- where the deepest of the bounds says something, each value keeps to it
  pub keep_deepest : (ps : Parts) (n : ℕ) (vs : List (Option Tree)) → AllZip Keeps vs ps → SaysSomething (deepest_from n (limits ps) a) → AllWithin (deepest_from n (limits ps) a) vs
  keep_deepest [] n [] k says = tt
  keep_deepest [] n (v ∷ vs) k says = absurd k
  keep_deepest (p ∷ ps) n [] k says = absurd k
  keep_deepest (p ∷ ps) n (v ∷ vs) k says =
      let more : max (p.1 a) n ≤ deepest_from (max (p.1 a) n) (limits ps) a = deepest_more (limits ps) (max (p.1 a) n) a in
      let one : found_depth v ≤ p.1 a = k.0 (omega arith) in
      (omega arith, keep_deepest ps (max (p.1 a) n) vs k.1 says)

  pub keep_first : (ps : Parts) (vs : List (Option Tree)) → AllZip Keeps vs ps → SaysSomething (first_bound (limits ps) a) → FirstWithin (first_bound (limits ps) a) vs
  keep_first [] [] k says = tt
  keep_first [] (v ∷ vs) k says = absurd k
  keep_first (p ∷ ps) [] k says = absurd k
  keep_first (p ∷ ps) (v ∷ vs) k says = k.0 says

-- ---- names

last_append : {A : Type 0} (x : List ℕ) (found : A) (bs cs : List (List ℕ × A)) → last_of x found (bs ++ cs) ≡ last_of x (last_of x found bs) cs
last_append x found [] cs = refl
last_append x found (b ∷ bs) cs = last_append x (if bytes_eq b.0 x then b.1 else found) bs cs

-- more names, each with its bound, beside what was found before
abbrev pub NamesWithin : List (List ℕ × ℕ) → Names → Type 0
NamesWithin bs vs = (x : List ℕ) (n : ℕ) (v : Option Tree) → IsWithin n v → IsWithin (last_of x n bs) (last_of x v vs)

pub more_within : (a : Around) (env : Env) (bs : List (List ℕ × ℕ)) (vs : Names) → AreWithin a env → NamesWithin bs vs → AreWithin (with_bounds bs a) (with_bound vs env)
more_within a env bs vs w h = record {
  document = w.document;
  names = λ x. rw (last_append x 0 a.names bs, last_append x None env.names vs) (h x (last_of x 0 a.names) (value_in env x) (w.names x));
}

choose_within : (b : Bool) (n m : ℕ) (v u : Option Tree) → IsWithin n v → IsWithin m u → IsWithin (cond b n m) (cond b v u)
choose_within true n m v u h k = h
choose_within false n m v u h k = k

pub one_name : (x : List ℕ) (n : ℕ) (v : Option Tree) → IsWithin n v → NamesWithin ((x, n) ∷ []) ((x, v) ∷ [])
one_name x n v h y m u k = choose_within (bytes_eq x y) n m v u h k

pub paired_names : (a : Around) (env : Env) (xs : List (List ℕ)) (ps : Parts) (vs : List (Option Tree)) → AllZip (Keeps a env) vs ps → NamesWithin (paired xs (map (λ m. m a) (limits ps))) (paired xs vs)
paired_names a env [] ps vs k y m u h = h
paired_names a env (x ∷ xs) [] [] k y m u h = h
paired_names a env (x ∷ xs) [] (v ∷ vs) k y m u h = absurd k
paired_names a env (x ∷ xs) (p ∷ ps) [] k y m u h = absurd k
paired_names a env (x ∷ xs) (p ∷ ps) (v ∷ vs) k y m u h =
    paired_names a env xs ps vs k.1 y (cond (bytes_eq x y) (p.1 a) m) (cond (bytes_eq x y) v u) (choose_within (bytes_eq x y) (p.1 a) m v u k.0 h)
