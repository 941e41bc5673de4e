use Rattle.std.proofs.Common.{◌≡◌, ◌++◌, ◌∷◌, [], List, ℕ, true, not, ◌==◌, sym, ap, ◌∙◌, append_assoc}
use Rattle.std.specs.List.{list_all}
use Rattle.key_codec.proofs.Elements.{text_key-plain}
use Rattle.key_codec.proofs.scalar.put_plain.Goals as goal

pub returns : goal.returns
returns c =
    let h : list_all (λ b. not (b == 0)) c.args.text.now ≡ true = sym c.has_no_zero.ensures ∙ c.if-not-has_no_zero.false in
    rw (text_key-plain c.args.text.now h)
    (c.in_ok-extend_from_slice-2.ensures.items ∙ (ap (λ (l : List ℕ). l ++ 0 ∷ 0 ∷ []) c.in_ok-extend_from_slice.ensures.items ∙ append_assoc c.args.out.now.items c.args.text.now (0 ∷ 0 ∷ [])))
