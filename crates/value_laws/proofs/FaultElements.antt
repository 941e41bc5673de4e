-- What is wrong with an element, and what a reader says of it.
use Rattle.std.proofs.Common.{◌≡◌, ◌≢◌, ℕ, zero, suc, ◌+◌, ◌<◌, true, false, List, [], ◌∷◌, ◌++◌, length, Result, Err, refl, sym, ap, subst, ◌∙◌, arith, inl, inr, true≢false}
use Rattle.std.specs.Prelude.{Option, Some, None, ◌==◌, ◌⊎◌}
use Rattle.std.specs.Str.{is_utf8, IsUtf8}
use Rattle.std.proofs.lemmas.Bool.Decides.{nat_tests}
use Rattle.std.proofs.lemmas.Str.{IsUtf8-from_is_utf8, is_utf8-from_IsUtf8}
use Rattle.bson_value.specs.Tree.{Tree}
use Rattle.bson_value.specs.Proper.{HasNoZero, IsName}
use Rattle.bson_value.specs.declared.bad.BadBson.{BadBson}
use Rattle.bson_value.specs.declared.bad.BadWhy.{BadWhy}
use Rattle.bson_value.specs.declared.bad.BadWhy.TheVariants.{BadLength, TypeRefused, NotText}
use Rattle.bson_codec.specs.Spelling.{kind_byte, element}
use Rattle.bson_codec.specs.declared.kind.Kind.{Kind}
use Rattle.bson_codec.specs.Reading.{◌>>=◌, bad, to_zero, name_at, kind_of, kind_at}
use Rattle.bson_codec.proofs.Heads.{kind_of_byte, byte_of_kind, kind_again, name_again}
use Rattle.bson_codec.proofs.Utf8.{utf8_bad}
use Rattle.bson_codec.proofs.Zeros.{suc_no_zero}
use Rattle.value_laws.specs.Faults.{Fault, IsWrongName, IsBadElement}
use Rattle.value_laws.specs.Faults.IsBadElement.{ended_early, unknown_type, endless_name, name_text, wrong_name, bad_value}

-- ---- where a name ends

no_zero_tail : (b : ℕ) (n : List ℕ) → HasNoZero (suc b ∷ n) → HasNoZero n
no_zero_tail b n h = rw suc_no_zero at h

no_zero_cons : (b : ℕ) (n : List ℕ) → HasNoZero n → HasNoZero (suc b ∷ n)
no_zero_cons b n h = rw suc_no_zero h

pub endless : (bytes : List ℕ) → HasNoZero bytes → to_zero bytes ≡ None
endless [] h = refl
endless (zero ∷ bytes) h = absurd cc
endless (suc b ∷ bytes) h = rw (endless bytes (no_zero_tail b bytes h)) refl

pub ends : (name after : List ℕ) → HasNoZero name → to_zero (name ++ 0 ∷ after) ≡ Some (name, after)
ends [] after h = refl
ends (zero ∷ name) after h = absurd cc
ends (suc b ∷ name) after h = rw (ends name after (no_zero_tail b name h)) refl

abbrev IsCut : List ℕ → Type 0
IsCut bytes = (name : List ℕ) × (after : List ℕ) × (name ++ 0 ∷ after ≡ bytes) × HasNoZero name

cut_decided : (bytes : List ℕ) → HasNoZero bytes ⊎ IsCut bytes
cut_decided [] = inl refl
cut_decided (zero ∷ bytes) = inr ([], bytes, refl, refl)
cut_decided (suc b ∷ bytes) =
    elim (cut_decided bytes) [
      | inl h ↦ inl (no_zero_cons b bytes h)
      | inr h ↦ inr (suc b ∷ h.0, h.1, ap (λ (l : List ℕ). suc b ∷ l) h.2, no_zero_cons b h.0 h.3)
    ]

-- ---- types

no_kind : (byte : ℕ) → ((k : Kind) → kind_byte k ≢ byte) → kind_of byte ≡ None
no_kind byte h =
    elim (kind_of byte) as (λ o. kind_of byte ≡ o → o ≡ None) [
      | None ↦ λ e. refl
      | Some k ↦ λ e. absurd (h k (sym (byte_of_kind byte k e)))
    ] refl

none_some : {A : Type 0} (x : A) → (let none : Option A = None in none ≡ Some x) → ⊥
none_some x e = cc

kind_none : (byte : ℕ) → kind_of byte ≡ None → (k : Kind) → kind_byte k ≢ byte
kind_none byte e k same = none_some k (sym e ∙ ap kind_of (sym same) ∙ kind_of_byte k)

-- ---- the head of an element

module _ {B : Type 0} (at : ℕ) (then : Kind → List ℕ × List ℕ → Result B BadBson) where
  abbrev pub head : List ℕ → Result B BadBson
  head left = kind_at at left >>= λ k. name_at (at + 1) k.1 >>= λ m. then k.0 m

  abbrev of_name : Kind → Result (List ℕ × List ℕ) BadBson → Result B BadBson
  of_name k r = r >>= λ m. then k m

  head_zero : (after : List ℕ) → head (0 ∷ after) ≡ bad at BadLength
  unfolding kind_at kind_of
  head_zero after = refl

  head_unknown : (byte : ℕ) (after : List ℕ) → byte ≢ 0 → ((k : Kind) → kind_byte k ≢ byte) → head (byte ∷ after) ≡ bad at (TypeRefused byte)
  unfolding kind_at
  head_unknown byte after ne h =
      let t : (byte == 0) ≡ false = grind (arith, nat_tests) in
      rw (no_kind byte h, t) refl

  head_kind : (k : Kind) (after : List ℕ) → head (kind_byte k ∷ after) ≡ of_name k (name_at (at + 1) after)
  head_kind k after = rw (kind_again at k after) refl

  head_endless : (k : Kind) (after : List ℕ) → HasNoZero after → head (kind_byte k ∷ after) ≡ bad (at + 1) BadLength
  unfolding name_at
  head_endless k after h = head_kind k after ∙ rw (endless after h) refl

  head_text : (k : Kind) (name after : List ℕ) → HasNoZero name → ¬ IsUtf8 name → head (element k name after) ≡ bad (at + 1) NotText
  unfolding name_at
  head_text k name after h wrong = head_kind k (name ++ 0 ∷ after) ∙ rw (ends name after h, utf8_bad (at + 1) name wrong) refl

  pub head_ok : (k : Kind) (name after : List ℕ) → IsName name → head (element k name after) ≡ then k (name, after)
  head_ok k name after h = head_kind k (name ++ 0 ∷ after) ∙ rw (name_again (at + 1) name after h) refl

-- what the head of an element is, where nothing is wrong with it
pub record IsHead (left : List ℕ) : Type 0 where
  pub kind : Kind
  pub name : List ℕ
  pub after : List ℕ
  pub parts : element kind name after ≡ left
  pub good : IsName name

module _ (of_value : Kind → ℕ → List ℕ → Fault → Type 0) (done : Tree) (at : ℕ) where
  abbrev HeadDecided : List ℕ → Type 0
  HeadDecided left = ((f : Fault) × IsBadElement of_value done at left f) ⊎ IsHead left

  name_decided : (k : Kind) (name after : List ℕ) → HasNoZero name → HeadDecided (element k name after)
  name_decided k name after h =
      elim (is_utf8 name) as (λ t. is_utf8 name ≡ t → HeadDecided (element k name after)) [
        | true ↦ λ u. inr (record { kind = k; name = name; after = after; parts = refl; good = record { text = IsUtf8-from_is_utf8 name u; no_zero = h } })
        | false ↦ λ u. inl (_, name_text k name after refl h (λ right. true≢false (sym (is_utf8-from_IsUtf8 name right) ∙ u)) refl)
      ] refl

  named_decided : (k : Kind) (after : List ℕ) → HeadDecided (kind_byte k ∷ after)
  named_decided k after =
      elim (cut_decided after) [
        | inl h ↦ inl (_, endless_name k after refl h refl)
        | inr c ↦ subst (λ (l : List ℕ). HeadDecided (kind_byte k ∷ l)) c.2 (name_decided k c.0 c.1 c.3)
      ]

  typed_decided : (byte : ℕ) (after : List ℕ) (o : Option Kind) → kind_of byte ≡ o → HeadDecided (byte ∷ after)
  typed_decided byte after (Some k) e = subst (λ (x : ℕ). HeadDecided (x ∷ after)) (sym (byte_of_kind byte k e)) (named_decided k after)
  typed_decided zero after None e = inl (_, ended_early after refl refl)
  typed_decided (suc n) after None e = inl (_, unknown_type (suc n) after refl (λ z. omega (arith, z)) (kind_none (suc n) e) refl)

  pub head_decided : (left : List ℕ) → 0 < length left → HeadDecided left
  head_decided [] h = absurd (omega arith)
  head_decided (byte ∷ after) h = typed_decided byte after (kind_of byte) refl

  pub some_left : (left : List ℕ) (f : Fault) → IsBadElement of_value done at left f → 0 < length left
  some_left left f (ended_early after e w) = omega (arith, ap length e)
  some_left left f (unknown_type byte after e ne h w) = omega (arith, ap length e)
  some_left left f (endless_name k after e h w) = omega (arith, ap length e)
  some_left left f (name_text k name after e h wrong w) = omega (arith, ap length e)
  some_left left f (wrong_name k name after why e h wrong w) = omega (arith, ap length e)
  some_left left f (bad_value k name after e h good v) = omega (arith, ap length e)

-- an element of which something is wrong isn't read
module _ {B : Type 0} (of_value : Kind → ℕ → List ℕ → Fault → Type 0) (done : Tree) (at : ℕ) (then : Kind → List ℕ × List ℕ → Result B BadBson) (named_wrong : (k : Kind) (name after : List ℕ) (why : BadWhy) → IsWrongName done name why → then k (name, after) ≡ bad (at + 1) why) (valued_wrong : (k : Kind) (name after : List ℕ) (f : Fault) → ((why : BadWhy) → ¬ IsWrongName done name why) → of_value k (at + length (element k name [])) after f → then k (name, after) ≡ Err f.bad) where
  abbrev read : List ℕ → Result B BadBson
  read = head at then

  moved : (left text : List ℕ) (f : Fault) (c : BadBson) → text ≡ left → c ≡ f.bad → read text ≡ Err c → read left ≡ Err f.bad
  moved left text f c e w h = ap read (sym e) ∙ h ∙ ap (λ (x : BadBson). Err x) w

  pub element_fails : (left : List ℕ) (f : Fault) → IsBadElement of_value done at left f → read left ≡ Err f.bad
  element_fails left f (ended_early after e w) = moved left (0 ∷ after) f _ e (ap (λ (g : Fault). g.bad) w) (head_zero at then after)
  element_fails left f (unknown_type byte after e ne h w) = moved left (byte ∷ after) f _ e (ap (λ (g : Fault). g.bad) w) (head_unknown at then byte after ne h)
  element_fails left f (endless_name k after e h w) = moved left (kind_byte k ∷ after) f _ e (ap (λ (g : Fault). g.bad) w) (head_endless at then k after h)
  element_fails left f (name_text k name after e h wrong w) = moved left (element k name after) f _ e (ap (λ (g : Fault). g.bad) w) (head_text at then k name after h wrong)
  element_fails left f (wrong_name k name after why e h wrong w) = moved left (element k name after) f _ e (ap (λ (g : Fault). g.bad) w) (head_ok at then k name after h ∙ named_wrong k name after why wrong)
  element_fails left f (bad_value k name after e h good v) = moved left (element k name after) f f.bad e refl (head_ok at then k name after h ∙ valued_wrong k name after f good v)
