-- What a file of a name is, among files of which several may have one name.
use Rattle.std.specs.Prelude.{◌≡◌, ◌≢◌, ℕ, List, ◌∷◌, ◌++◌}
use Rattle.std.specs.List.{AllByRecursion}
use Rattle.mq_ports.specs.World.{Held}

-- none of these files has the name
abbrev pub HaveOtherNames : List ℕ → Held → Type 0
HaveOtherNames name = AllByRecursion (λ file. file.0 ≢ name)

-- the first file of this name has these bytes
pub record IsFirstNamed (held : Held) (name bytes : List ℕ) : Type 0 where
  pub front : Held
  pub back : Held
  pub split : front ++ (name, bytes) ∷ back ≡ held
  pub others : HaveOtherNames name front
