-- The file of a name, from the first file on.
use Rattle.std.proofs.Common.{◌≡◌, ◌≢◌, ◌↔◌, ◌+◌, ℕ, suc, Bool, true, false, cond, ltb, lt-ltb, le-ltb, List, [], ◌∷◌, ◌++◌, length, Option, Some, None, inl, inr, refl, sym, ap, ◌∙◌, arith}
use Rattle.std.specs.List.{position_or_len}
use Rattle.std.specs.Option.{option_map}
use Rattle.std.specs.Str.{bytes_eq}
use Rattle.std.proofs.lemmas.Bool.{cases_lt}
use Rattle.std.proofs.lemmas.Slice.Eq.{bytes_eq-Decides}
use Rattle.mq_ports.specs.World.{Held, contents_at, file_of}
use Rattle.call_laws.specs.Named.{HaveOtherNames, IsFirstNamed}

module _ (name : List ℕ) where
  abbrev is_named : List ℕ × List ℕ → Bool
  is_named file = bytes_eq file.0 name

  named_first : (file : List ℕ × List ℕ) (held : Held) → file.0 ≡ name → file_of name (file ∷ held) ≡ Some file.1
  named_first file held e =
      let same : bytes_eq file.0 name ≡ true = (bytes_eq-Decides file.0 name).1 e in
      let some : ltb 0 (length (file ∷ held)) ≡ true = lt-ltb 0 (length (file ∷ held)) (omega arith) in
      rw (same, some) refl

  not_true : (b : Bool) → ¬ (b ≡ true) → b ≡ false
  not_true true ne = absurd (ne refl)
  not_true false ne = refl

  later_at : (k : ℕ) (file : List ℕ × List ℕ) (held : Held) → option_map (λ id. contents_at id (file ∷ held)) (cond (ltb (1 + k) (length (file ∷ held))) (Some (1 + k)) None) ≡ option_map (λ id. contents_at id held) (cond (ltb k (length held)) (Some k) None)
  later_at k file held =
      let next : 1 + k ≡ suc k = omega arith in
      elim (cases_lt k (length held)) [
        | inl lt ↦
            let a : ltb (1 + k) (length (file ∷ held)) ≡ true = lt-ltb _ _ (omega arith) in
            let b : ltb k (length held) ≡ true = lt-ltb _ _ lt in
            rw (a, b, next) refl
        | inr ge ↦
            let a : ltb (1 + k) (length (file ∷ held)) ≡ false = le-ltb _ _ (omega arith) in
            let b : ltb k (length held) ≡ false = le-ltb _ _ ge in
            rw (a, b) refl
      ]

  named_later : (file : List ℕ × List ℕ) (held : Held) → file.0 ≢ name → file_of name (file ∷ held) ≡ file_of name held
  named_later file held ne =
      let other : bytes_eq file.0 name ≡ false = not_true (bytes_eq file.0 name) (λ t. ne ((bytes_eq-Decides file.0 name).0 t)) in
      rw other (later_at (position_or_len is_named held) file held)

  same_bytes : (a b : List ℕ) → (let some : List ℕ → Option (List ℕ) = λ x. Some x in some a ≡ some b) → a ≡ b
  same_bytes a b e = cc

  other_name : (file : List ℕ × List ℕ) → bytes_eq file.0 name ≡ false → file.0 ≢ name
  other_name file e same = let t : bytes_eq file.0 name ≡ true = (bytes_eq-Decides file.0 name).1 same in absurd cc

  found_first : (b : Bool) (file : List ℕ × List ℕ) (held : Held) (bytes : List ℕ) → bytes_eq file.0 name ≡ b → file_of name (file ∷ held) ≡ Some bytes → (file_of name held ≡ Some bytes → IsFirstNamed held name bytes) → IsFirstNamed (file ∷ held) name bytes
  found_first true file held bytes is e later =
      let same : file.0 ≡ name = (bytes_eq-Decides file.0 name).0 is in
      let has : file.1 ≡ bytes = same_bytes file.1 bytes (sym (named_first file held same) ∙ e) in
      record { front = []; back = held; split = λ i. (sym same i, sym has i) ∷ held; others = tt }
  found_first false file held bytes is e later =
      let ne : file.0 ≢ name = other_name file is in
      let r = later (sym (named_later file held ne) ∙ e) in
      record { front = file ∷ r.front; back = r.back; split = ap (λ (l : Held). file ∷ l) r.split; others = (ne, r.others) }

  found : (held : Held) (bytes : List ℕ) → file_of name held ≡ Some bytes → IsFirstNamed held name bytes
  found [] bytes e = absurd cc
  found (file ∷ held) bytes e = found_first (bytes_eq file.0 name) file held bytes refl e (found held bytes)

  first_found : (front back : Held) (bytes : List ℕ) → HaveOtherNames name front → file_of name (front ++ (name, bytes) ∷ back) ≡ Some bytes
  first_found [] back bytes others = named_first (name, bytes) back refl
  first_found (file ∷ front) back bytes others = named_later file (front ++ (name, bytes) ∷ back) others.0 ∙ first_found front back bytes others.1

  others_first : (b : Bool) (file : List ℕ × List ℕ) (held : Held) → bytes_eq file.0 name ≡ b → file_of name (file ∷ held) ≡ None → (file_of name held ≡ None → HaveOtherNames name held) → HaveOtherNames name (file ∷ held)
  others_first true file held is e later =
      let some : file_of name (file ∷ held) ≡ Some file.1 = named_first file held ((bytes_eq-Decides file.0 name).0 is) in
      absurd cc
  others_first false file held is e later = let ne : file.0 ≢ name = other_name file is in (ne, later (sym (named_later file held ne) ∙ e))

  other_names : (held : Held) → file_of name held ≡ None → HaveOtherNames name held
  other_names [] e = tt
  other_names (file ∷ held) e = others_first (bytes_eq file.0 name) file held refl e (other_names held)

  none_found : (held : Held) → HaveOtherNames name held → file_of name held ≡ None
  none_found [] others = refl
  none_found (file ∷ held) others = named_later file held others.0 ∙ none_found held others.1

pub held_file : (held : Held) (name bytes : List ℕ) → (file_of name held ≡ Some bytes) ↔ IsFirstNamed held name bytes
held_file held name bytes = (found name held bytes, λ f. ap (file_of name) (sym f.split) ∙ first_found name f.front f.back bytes f.others)

pub absent_file : (held : Held) (name : List ℕ) → (file_of name held ≡ None) ↔ HaveOtherNames name held
absent_file held name = (other_names name held, none_found name held)
