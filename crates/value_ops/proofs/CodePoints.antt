-- Texts, cut at code points.
use Rattle.std.proofs.Common.{◌≡◌, ℕ, zero, suc, ◌+◌, ◌-◌, ◌≤◌, List, [], ◌∷◌, ◌++◌, length, take, drop, refl, sym, ap, ◌∙◌, arith, add-one}
use Rattle.std.specs.Str.{IsUtf8, chars, encode_utf8_all}
use Rattle.std.proofs.Math.ListN.{drop_of_length-le}
use Rattle.std.proofs.lemmas.List.{length-append, length-drop, nil_from_length}
use Rattle.std.proofs.lemmas.Str.{encodes-append, encodes-chars, chars-nil, chars_past_char, IsCharBoundary-at_seam}
use Rattle.std.specs.Char.{encode_utf8}
use Rattle.std.specs.Str.{IsCharBoundary}

pub take-drop : {A : Type 0} (n : ℕ) (xs : List A) → take n xs ++ drop n xs ≡ xs
take-drop zero xs = refl
take-drop (suc n) [] = refl
take-drop (suc n) (x ∷ xs) = ap (λ ys. x ∷ ys) (take-drop n xs)

-- a text, as its front and what follows so many code points
pub halves : (text after : List ℕ) (n : ℕ) → IsUtf8 text → IsUtf8 after → chars after ≡ drop n (chars text) → text ≡ encode_utf8_all (take n (chars text)) ++ after
halves text after n u v e =
    sym (encodes-chars text u) ∙ ap encode_utf8_all (sym (take-drop n (chars text))) ∙ encodes-append (take n (chars text)) (drop n (chars text))
    ∙ ap (λ bs. encode_utf8_all (take n (chars text)) ++ bs) (ap encode_utf8_all (sym e) ∙ encodes-chars after v)

pub take-front : {A : Type 0} (xs ys : List A) → take (length xs) (xs ++ ys) ≡ xs
take-front [] ys = refl
take-front (x ∷ xs) ys = ap (λ zs. x ∷ zs) (take-front xs ys)

pub front_fits : (text after front : List ℕ) → text ≡ front ++ after → length after ≤ length text
front_fits text after front e = omega (arith, ap length e, length-append front after)

pub front_is : (text after front : List ℕ) → text ≡ front ++ after → take (length text - length after) text ≡ front
front_is text after front e =
    let n : length text - length after ≡ length front = omega (arith, ap length e, length-append front after) in
    rw (n, e) (take-front front after)

pub front_ends : (text after front : List ℕ) → IsUtf8 after → text ≡ front ++ after → IsCharBoundary text (length text - length after)
front_ends text after front u e =
    let n : length text - length after ≡ length front = omega (arith, ap length e, length-append front after) in
    rw n (IsCharBoundary-at_seam text front after e u)

-- a text that is used up has no character left
pub nothing_past : (rest cs : List ℕ) (i n : ℕ) → length rest ≡ 0 → chars rest ≡ drop i cs → i ≤ n → drop n cs ≡ []
nothing_past rest cs i n none e le =
    let here : drop i cs ≡ [] = sym e ∙ ap chars (nil_from_length rest none) ∙ chars-nil in
    drop_of_length-le cs (omega (arith, ap length here, length-drop i cs))

tail_is : (c : ℕ) (i : ℕ) (cs xs : List ℕ) → drop i cs ≡ c ∷ xs → drop (suc i) cs ≡ xs
tail_is c zero [] xs e = absurd cc
tail_is c zero (d ∷ cs) xs e = cc
tail_is c (suc i) [] xs e = absurd cc
tail_is c (suc i) (d ∷ cs) xs e = tail_is c i cs xs e

pub one_past : (rest more cs : List ℕ) (c i : ℕ) → IsUtf8 rest → rest ≡ encode_utf8 c ++ more → chars rest ≡ drop i cs → chars more ≡ drop (i + 1) cs
one_past rest more cs c i u e f = rw add-one (sym (tail_is c i cs (chars more) (sym f ∙ chars_past_char rest more c u e)))
