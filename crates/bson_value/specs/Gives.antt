-- A call's answer is what the definition gives, unless memory ran out.
use Rattle.std.specs.Prelude.{◌≡◌, Result, Ok, Err}
use Rattle.bson_value.specs.declared.eval_code.EvalCode.{EvalCode}
use Rattle.bson_value.specs.declared.errors.EvalError.{EvalError}
use Rattle.bson_value.specs.declared.errors.EvalError.TheVariants.{Code, Memory}

-- a code is the definition's; want of memory says nothing
abbrev pub Fails : {Y : Type 0} → EvalError → Result Y EvalCode → Type 0
Fails Memory given = Unit {0}
Fails (Code c) given = given ≡ Err c

abbrev pub Gives : {X Y : Type 0} → (X → Y) → Result X EvalError → Result Y EvalCode → Type 0
Gives view (Ok x) given = given ≡ Ok (view x)
Gives view (Err e) given = Fails e given
