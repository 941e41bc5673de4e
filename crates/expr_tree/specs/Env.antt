-- What an expression is evaluated in: a document, and names that are bound.
use Rattle.std.specs.Prelude.{ℕ, List, [], ◌∷◌, ◌++◌, Option, None, if◌then◌else◌}
use Rattle.std.specs.Str.{bytes_eq}
use Rattle.bson_value.specs.Tree.{Tree, doc, pairs_of}

-- a name may be bound to a missing value
abbrev pub Names : Type 0
Names = List (List ℕ × Option Tree)

pub record Env : Type 0 where
  pub root : List (List ℕ × Tree)
  pub names : Names

abbrev pub env_of : List (List ℕ × Tree) → Names → Env
env_of ps ns = record { root = ps; names = ns }

-- the document as a value
abbrev pub root_in : Env → Tree
root_in env = doc (pairs_of env.root)

-- with more names
abbrev pub with_bound : Names → Env → Env
with_bound bs env = env_of env.root (env.names ++ bs)

-- names and what belongs to them, in order
abbrev pub paired : {A : Type 0} → List (List ℕ) → List A → List (List ℕ × A)
paired [] vs = []
paired (n ∷ ns) [] = []
paired (n ∷ ns) (v ∷ vs) = (n, v) ∷ paired ns vs

-- what the last of equal names has, or what was found before
abbrev pub last_of : {A : Type 0} → List ℕ → A → List (List ℕ × A) → A
last_of x found [] = found
last_of x found (b ∷ bs) = last_of x (if bytes_eq b.0 x then b.1 else found) bs

-- a name that isn't bound is missing
abbrev pub value_in : Env → List ℕ → Option Tree
value_in env x = last_of x None env.names
