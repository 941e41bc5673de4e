-- What a stage gives: a list of documents, or the least of the codes with which it fails.
use Rattle.std.specs.Prelude.{ℕ, List, [], ◌∷◌, ◌++◌, min, Result, Ok, Err, nat_lt, if◌then◌else◌}
use Rattle.bson_value.specs.Tree.{Tree}
use Rattle.bson_value.specs.Codes.{code_number}
use Rattle.bson_value.specs.declared.eval_code.EvalCode.{EvalCode}
use Rattle.bson_value.specs.declared.errors.Failure.{Failure}

-- a document's fields
abbrev pub Fields : Type 0
Fields = List (List ℕ × Tree)

abbrev pub Given : Type 0
Given = Result (List Fields) EvalCode

-- of two codes the one with the lesser number
abbrev pub lesser : EvalCode → EvalCode → EvalCode
lesser c d = if nat_lt (code_number d) (code_number c) then d else c

-- what two computations give together; where both fail, the lesser code
abbrev pub both : {A B C : Type 0} → (A → B → C) → Result A EvalCode → Result B EvalCode → Result C EvalCode
both f (Ok a) (Ok b) = Ok (f a b)
both f (Ok a) (Err d) = Err d
both f (Err c) (Ok b) = Err c
both f (Err c) (Err d) = Err (lesser c d)

-- each document's list, one after another; every document is looked at, and the least of all codes stands
abbrev pub each_doc : (Fields → Given) → List Fields → Given
each_doc go [] = Ok []
each_doc go (d ∷ ds) = both (λ xs ys. xs ++ ys) (go d) (each_doc go ds)

-- a stage's failure has the least of the numbers of its written stages
abbrev pub least_of : ℕ → List ℕ → ℕ
least_of n [] = n
least_of n (m ∷ ms) = least_of (min n m) ms

abbrev pub least_origin : List ℕ → ℕ
least_origin [] = 0
least_origin (n ∷ ns) = least_of n ns

abbrev pub Ran : Type 0
Ran = Result (List Fields) Failure

abbrev pub at_stage : ℕ → Given → Ran
at_stage n (Ok ds) = Ok ds
at_stage n (Err c) = Err (record { stage = n; code = c })

infixl 10 ◌>>=◌
abbrev pub ◌>>=◌ : {A B E : Type 0} → Result A E → (A → Result B E) → Result B E
Ok a >>= f = f a
Err e >>= f = Err e

-- each collection's name with its owned documents
abbrev pub World : Type 0
World = List (List ℕ × List Fields)

-- what a pipeline means
abbrev pub Running : Type 0
Running = World → List Fields → Ran
