-- The values of the forms of expressions (the manual, Aggregation Expressions), each from what its parts mean.
use Rattle.std.specs.Prelude.{ℕ, ℤ, neg_ℤ, nat_le, Bool, true, false, List, [], ◌∷◌, ◌++◌, map, Option, Some, None, Result, Ok, Err, if◌then◌else◌}
use Rattle.bson_value.specs.Tree.{Tree, leaf, doc, null, int, long, date, pairs_of}
use Rattle.bson_value.specs.Pairs.{put}
use Rattle.bson_value.specs.Depth.{depth}
use Rattle.bson_value.specs.Calendar.{part_at, add_at, trunc_at, diff_at}
use Rattle.bson_value.specs.declared.eval_code.EvalCode.{EvalCode}
use Rattle.bson_value.specs.declared.eval_code.EvalCode.TheVariants.{NoBranch, NestTooDeep}
use Rattle.bson_value.specs.declared.part.Part.{Part}
use Rattle.bson_value.specs.declared.unit.Unit.{Unit as DateUnit}
use Rattle.bson_value.specs.Operands.{Outcome, gives, gives_array, wrong_count, row, both, array_in, date_in, whole_in, counts, or_null}
use Rattle.expr_tree.specs.Env.{Env, with_bound, paired}

-- what an expression means: its outcome in each environment
abbrev pub Meaning : Type 0
Meaning = Env → Outcome

-- the first code stands
infixl 10 ◌>>=◌
abbrev pub ◌>>=◌ : {A B : Type 0} → Result A EvalCode → (A → Result B EvalCode) → Result B EvalCode
(Ok x) >>= f = f x
(Err c) >>= f = Err c

-- ---- values in a row

-- all of them, from left to right, behind those that there are
abbrev pub all_from : List (Option Tree) → List Meaning → Env → Result (List (Option Tree)) EvalCode
all_from front [] env = Ok front
all_from front (m ∷ ms) env = m env >>= λ v. all_from (front ++ v ∷ []) ms env

abbrev pub all : List Meaning → Env → Result (List (Option Tree)) EvalCode
all ms env = all_from [] ms env

-- a document's pairs with one more; a missing value is left out, and an equal name is replaced in place
abbrev pub put_found : List ℕ → Option Tree → List (List ℕ × Tree) → List (List ℕ × Tree)
put_found n None ps = ps
put_found n (Some t) ps = put n t ps

abbrev pub put_all : List (List ℕ × Tree) → List (List ℕ) → List (Option Tree) → List (List ℕ × Tree)
put_all ps [] vs = ps
put_all ps (n ∷ ns) [] = ps
put_all ps (n ∷ ns) (v ∷ vs) = put_all (put_found n v ps) ns vs

abbrev pub make_row : List (List ℕ) → List Meaning → Env → Outcome
make_row ns ms env = all ms env >>= λ vs. gives (doc (pairs_of (put_all [] ns vs)))

abbrev pub make_list_row : List Meaning → Env → Outcome
make_list_row ms env = all ms env >>= λ vs. gives_array (map or_null vs)

-- ---- `$and`, `$or`, `$cond`, `$ifNull`, `$switch`: what stands behind the deciding part isn't evaluated

abbrev pub every_counts : List Meaning → Env → Result Bool EvalCode
every_counts [] env = Ok true
every_counts (m ∷ ms) env = m env >>= λ v. if counts v then every_counts ms env else Ok false

abbrev pub some_counts : List Meaning → Env → Result Bool EvalCode
some_counts [] env = Ok false
some_counts (m ∷ ms) env = m env >>= λ v. if counts v then Ok true else some_counts ms env

abbrev pub choose_row : List Meaning → Env → Outcome
choose_row (c ∷ a ∷ b ∷ []) env = c env >>= λ v. if counts v then a env else b env
choose_row _ env = wrong_count

-- null or missing
abbrev pub is_nothing : Option Tree → Bool
is_nothing None = true
is_nothing (Some (leaf null)) = true
is_nothing (Some _) = false

-- the first that isn't nothing, else the last, which may stand in front already
abbrev pub first_given : Option Tree → List Meaning → Env → Outcome
first_given found [] env = Ok found
first_given found (m ∷ ms) env = m env >>= λ v. if is_nothing v then first_given v ms env else Ok v

abbrev pub if_null_row : List Meaning → Env → Outcome
if_null_row ms env = first_given (Some (leaf null)) ms env

-- cases and their values by turns; one at the end is the default
abbrev pub switch_row : List Meaning → Env → Outcome
switch_row [] env = Err NoBranch
switch_row (d ∷ []) env = d env
switch_row (c ∷ m ∷ ms) env = c env >>= λ v. if counts v then m env else switch_row ms env

-- ---- `$let`, `$map`, `$filter`, `$reduce`

-- the body, with names bound to values that see the outer names
abbrev pub bind_row : List (List ℕ) → List Meaning → Env → Outcome
bind_row ns (body ∷ ms) env = all ms env >>= λ vs. body (with_bound (paired ns vs) env)
bind_row _ _ env = wrong_count

-- the body for an element of an array
abbrev pub element_body : Meaning → List ℕ → Env → Tree → Outcome
element_body body x env t = body (with_bound ((x, Some t) ∷ []) env)

-- the values of all elements, missing ones as null
abbrev pub mapped : (Tree → Outcome) → List Tree → List Tree → Result (List Tree) EvalCode
mapped go front [] = Ok front
mapped go front (t ∷ ts) = go t >>= λ v. mapped go (front ++ or_null v ∷ []) ts

abbrev pub each_row : List ℕ → List Meaning → Env → Outcome
each_row x (input ∷ body ∷ []) env = input env >>= λ v. row (array_in v) (λ ts. mapped (element_body body x env) [] ts >>= gives_array)
each_row _ _ env = wrong_count

-- the elements whose values count as true
abbrev pub kept_if : Bool → List Tree → Tree → List Tree
kept_if b front t = if b then front ++ t ∷ [] else front

abbrev pub filtered : (Tree → Outcome) → List Tree → List Tree → Result (List Tree) EvalCode
filtered go front [] = Ok front
filtered go front (t ∷ ts) = go t >>= λ v. filtered go (kept_if (counts v) front t) ts

abbrev pub filter_row : List ℕ → List Meaning → Env → Outcome
filter_row x (input ∷ condition ∷ []) env = input env >>= λ v. row (array_in v) (λ ts. filtered (element_body condition x env) [] ts >>= gives_array)
filter_row _ _ env = wrong_count

-- `value` and `this`
abbrev pub value_name : List ℕ
value_name = 118 ∷ 97 ∷ 108 ∷ 117 ∷ 101 ∷ []

abbrev pub this_name : List ℕ
this_name = 116 ∷ 104 ∷ 105 ∷ 115 ∷ []

-- a value that isn't nested deeper than 200
abbrev pub found_depth : Option Tree → ℕ
found_depth None = 0
found_depth (Some t) = depth t

abbrev pub shallow : Option Tree → Outcome
shallow v = if nat_le (found_depth v) 200 then Ok v else Err NestTooDeep

-- the value of a step with `$$value` and `$$this`, missing as null
abbrev pub step : Meaning → Env → Option Tree → Tree → Outcome
step body env v t = body (with_bound ((this_name, Some t) ∷ []) (with_bound ((value_name, v) ∷ []) env)) >>= λ w. shallow (Some (or_null w))

-- step after step
abbrev pub reduced : (Option Tree → Tree → Outcome) → Option Tree → List Tree → Outcome
reduced go v [] = gives (or_null v)
reduced go v (t ∷ ts) = go v t >>= λ w. reduced go w ts

-- from the initial value, which may be missing in the first step
abbrev pub reduced_from : (Option Tree → Tree → Outcome) → Option Tree → List Tree → Outcome
reduced_from go v ts = shallow v >>= λ w. reduced go w ts

abbrev pub reduce_row : List Meaning → Env → Outcome
reduce_row (input ∷ initial ∷ body ∷ []) env =
    input env >>= λ a. initial env >>= λ v. row (array_in a) (λ ts. reduced_from (step body env) v ts)
reduce_row _ env = wrong_count

-- ---- dates

-- of one value, and of two
abbrev pub on_one : (Option Tree → Outcome) → List Meaning → Env → Outcome
on_one go (m ∷ []) env = m env >>= go
on_one go _ env = wrong_count

abbrev pub on_two : (Option Tree → Option Tree → Outcome) → List Meaning → Env → Outcome
on_two go (m ∷ n ∷ []) env = m env >>= λ a. n env >>= go a
on_two go _ env = wrong_count

abbrev pub part_row : Part → Option Tree → Outcome
part_row part v = row (date_in v) (λ ms. part_at part ms >>= λ n. gives (leaf (int n)))

-- the amount, negated where it is subtracted
abbrev pub signed : Bool → ℤ → ℤ
signed back n = if back then neg_ℤ n else n

abbrev pub sum_row : DateUnit → Bool → Option Tree → Option Tree → Outcome
sum_row unit back a b = row (both (date_in a) (whole_in b)) (λ p. add_at unit p.0 (signed back p.1) >>= λ ms. gives (leaf (date ms)))

abbrev pub diff_row : DateUnit → Option Tree → Option Tree → Outcome
diff_row unit a b = row (both (date_in a) (date_in b)) (λ p. diff_at unit p.0 p.1 >>= λ n. gives (leaf (long n)))

abbrev pub trunc_row : DateUnit → Option Tree → Outcome
trunc_row unit v = row (date_in v) (λ ms. trunc_at unit ms >>= λ d. gives (leaf (date d)))
