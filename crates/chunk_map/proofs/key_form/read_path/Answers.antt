use Rattle.std.proofs.Common.{List, ℕ, ap, refl}
use Rattle.std.specs.Prelude.{Some}
use Rattle.chunk_map.proofs.PathTexts.{path_is_text, no_path}
use Rattle.chunk_map.proofs.key_form.read_path.Goals as goal

pub returns-in-Ok : goal.returns-in-Ok
returns-in-Ok c = rw (path_is_text c.args.text.now c.in-Ok.ensures.0) (ap (λ (p : List (List ℕ)). Some p) c.in-Ok.ensures.1)

pub returns-in-Err-Bad : goal.returns-in-Err-Bad
returns-in-Err-Bad c = let none = rw c.in-Err-Bad.field-0-is at c.in-Err-Bad.ensures in rw (no_path c.args.text.now none) refl
