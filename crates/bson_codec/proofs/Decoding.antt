-- What `decode` says of what was read.
use Rattle.std.proofs.Common.{◌≡◌, ℕ, ◌+◌, ◌-◌, ◌≤◌, List, ◌++◌, length, drop, refl, sym, ap, subst, ◌∙◌, arith, length-append, length-drop}
use Rattle.std.specs.Prelude.{Result, Ok, Err, IfOk}
use Rattle.std.proofs.lemmas.List.{drop_at, drop-drop}
use Rattle.bson_value.specs.Tree.{Tree, pairs_of}
use Rattle.bson_value.specs.Proper.{AreBytes}
use Rattle.bson_value.specs.declared.bad.BadBson.{BadBson}
use Rattle.bson_value.specs.declared.bad.BadWhy.TheVariants.{Truncated}
use Rattle.bson_codec.specs.declared.error.DecodeError.{DecodeError}
use Rattle.bson_codec.specs.declared.error.DecodeError.TheVariants as errors
use Rattle.bson_codec.specs.Spelling.{spelling, pairs_bytes, IsSpelledAt}
use Rattle.bson_codec.specs.Reading.{Gives, doc_at, value_at, read_at, measured}
use Rattle.bson_codec.proofs.Fields.{bind_ok, ok_is, AreBytes-drop}
use Rattle.bson_codec.proofs.Values.{doc_takes, doc_again, value_takes, value_again, length-framed}

abbrev Documents : Type 0
Documents = List (List ℕ × Tree)

-- what follows a text that stands at a place
pub behind : (bytes : List ℕ) (at end : ℕ) (text rest : List ℕ) → at ≤ length bytes → drop at bytes ≡ text ++ rest → at + length text ≡ end → rest ≡ drop end bytes
behind bytes at end text rest le e s =
    sym (drop_at text rest (length text) refl) ∙ ap (drop (length text)) (sym e) ∙ drop-drop (length text) at bytes ∙ ap (λ (k : ℕ). drop k bytes) s

pub read_takes : (at : ℕ) (bytes : List ℕ) (r : Documents × List ℕ) → AreBytes bytes → at ≤ length bytes → read_at at bytes ≡ Ok r → IsSpelledAt bytes at r.0 (length bytes - length r.1)
unfolding read_at
read_takes at bytes r fits le e =
    let t = doc_takes 99 (value_at 99) (value_takes 99) Truncated 16777216 at (drop at bytes) r (AreBytes-drop at bytes fits) e in
    let all : length bytes ≡ at + length (spelling r.0) + length r.1 = omega (arith, ap length t.parts, length-append (spelling r.0) r.1, length-drop at bytes, le) in
    let ends : at + length (spelling r.0) ≡ length bytes - length r.1 = omega (arith, all) in
    record {
      proper = t.proper;
      short = record { len = omega (arith, length-framed (pairs_bytes (pairs_of r.0)), t.short); deep = t.deep };
      within = omega arith;
      parts = t.parts ∙ ap (λ (l : List ℕ). spelling r.0 ++ l) (behind bytes at (length bytes - length r.1) (spelling r.0) r.1 le t.parts ends);
      len = ends;
    }

read_is : (at : ℕ) (bytes : List ℕ) (d : Documents) (end : ℕ) → AreBytes bytes → at ≤ length bytes → end ≤ length bytes → measured (read_at at bytes) ≡ Ok (d, length bytes - end) → IsSpelledAt bytes at d end
read_is at bytes d end fits le within e =
    let b = bind_ok (read_at at bytes) (λ x. Ok (x.0, length x.1)) (d, length bytes - end) e in
    let s = ok_is (b.0.0, length b.0.1) (d, length bytes - end) b.2 in
    let same : b.0.0 ≡ d = ap (λ (p : Documents × ℕ). p.0) s in
    let size : length b.0.1 ≡ length bytes - end = ap (λ (p : Documents × ℕ). p.1) s in
    let ends : length bytes - length b.0.1 ≡ end = omega (arith, size, within) in
    subst (λ (x : Documents). IsSpelledAt bytes at x end) same (subst (IsSpelledAt bytes at b.0.0) ends (read_takes at bytes b.0 fits le b.1))

pub is_found : (at : ℕ) (bytes : List ℕ) (r : Result (Documents × ℕ) DecodeError) → AreBytes bytes → at ≤ length bytes → IfOk r (λ x. (at ≤ x.1) × (x.1 ≤ length bytes))
    → Gives (λ x. (x.0, length bytes - x.1)) r (measured (read_at at bytes)) → IfOk r (λ x. IsSpelledAt bytes at x.0 x.1)
is_found at bytes (Ok x) fits le within given = read_is at bytes x.0 x.1 fits le within.1 given
is_found at bytes (Err e) fits le within given = tt

pub read_again : (at : ℕ) (bytes : List ℕ) (d : Documents) (end : ℕ) → IsSpelledAt bytes at d end → read_at at bytes ≡ Ok (d, drop end bytes)
unfolding read_at
read_again at bytes d end h =
    let size : length (pairs_bytes (pairs_of d)) + 5 ≤ 16777216 = omega (arith, length-framed (pairs_bytes (pairs_of d)), h.short.len) in
    ap (doc_at (value_at 99) Truncated 16777216 at) h.parts ∙ doc_again 99 (value_at 99) (value_again 99) Truncated 16777216 at d (drop end bytes) h.proper h.short.deep size (omega (arith, size))

pub is_only : (at : ℕ) (bytes : List ℕ) (r : Result (Documents × ℕ) DecodeError) → at ≤ length bytes → IfOk r (λ x. (at ≤ x.1) × (x.1 ≤ length bytes))
    → Gives (λ x. (x.0, length bytes - x.1)) r (measured (read_at at bytes)) → (d : Documents) (end : ℕ) → IsSpelledAt bytes at d end → Gives (λ x. x) r (Ok (d, end))
is_only at bytes (Ok x) le within given d end h =
    let e : measured (read_at at bytes) ≡ Ok (d, length bytes - end) = rw (read_again at bytes d end h) (ap (λ (n : ℕ). Ok (d, n)) (length-drop end bytes)) in
    let s = ok_is (d, length bytes - end) (x.0, length bytes - x.1) (sym e ∙ given) in
    let a : d ≡ x.0 = ap (λ (p : Documents × ℕ). p.0) s in
    let n : length bytes - end ≡ length bytes - x.1 = ap (λ (p : Documents × ℕ). p.1) s in
    let b : end ≡ x.1 = omega (arith, n, h.within, within.1) in
    rw (a, b) refl
is_only at bytes (Err errors.Memory) le within given d end h = tt
is_only at bytes (Err (errors.Bad f)) le within given d end h = let g = rw (read_again at bytes d end h) at given in absurd cc

measured_bad : {A : Type 0} (r : Result (A × List ℕ) BadBson) (b : BadBson) → measured r ≡ Err b → r ≡ Err b
measured_bad (Ok x) b e = absurd cc
measured_bad (Err c) b e = cc

pub is_fault : (at : ℕ) (bytes : List ℕ) (r : Result (Documents × ℕ) DecodeError) → Gives (λ x. (x.0, length bytes - x.1)) r (measured (read_at at bytes)) → (b : BadBson) → r ≡ Err (errors.Bad b) → read_at at bytes ≡ Err b
is_fault at bytes (Ok x) given b e = absurd cc
is_fault at bytes (Err errors.Memory) given b e = absurd cc
is_fault at bytes (Err (errors.Bad f)) given b e = measured_bad (read_at at bytes) b (given ∙ cc)
