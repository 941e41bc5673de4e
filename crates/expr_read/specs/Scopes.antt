-- The names that a scope binds, the inner ones first.
use Rattle.std.specs.Prelude.{◌∷◌, ◌++◌, []}
use Rattle.expr_tree.specs.Spells.{Names}
use Rattle.expr_read.specs.Reading.{names_of, fields_seen}
use Rattle.expr_read.specs.declared.scope.Scope.{Scope}
use Rattle.expr_read.specs.declared.scope.Scope.TheVariants.{Empty, Name', Fields'}

abbrev pub names_in : Scope → Names
names_in Empty = []
names_in (Name' p s x) = x.now ∷ names_in s
names_in (Fields' p s d) = names_of (fields_seen d.now) ++ names_in s
