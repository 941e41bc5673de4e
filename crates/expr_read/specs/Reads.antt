-- A reader's answer is the reading, or that there is none, unless memory ran out.
use Rattle.std.specs.Prelude.{◌≡◌, Option, Some, None, Result, Ok, Err}
use Rattle.expr_read.specs.declared.errors.FormError.{FormError}
use Rattle.expr_read.specs.declared.errors.FormError.TheVariants.{Form, Memory}

abbrev pub Refuses : {Y : Type 0} → FormError → Option Y → Type 0
Refuses Memory o = Unit {0}
Refuses Form o = o ≡ None

abbrev pub Reads : {X Y : Type 0} → (X → Y) → Result X FormError → Option Y → Type 0
Reads view (Ok x) o = o ≡ Some (view x)
Reads view (Err e) o = Refuses e o
