-- Scalars.
use Rattle.std.proofs.Common.{◌≡◌, ℕ, ◌^◌, ◌<◌, ℤ, pos, true, false, List, [], ◌∷◌, ◌++◌, length, refl, sym, ap, subst, ◌∙◌, arith, FitsSigned, if◌then◌else◌, ◌==◌, nat_abs}
use Rattle.std.specs.Int.{w64, to_be_bytes}
use Rattle.std.specs.Ordering.{nat_cmp, int_cmp, ordering_then}
use Rattle.std.specs.declared.cmp.Ordering.{Ordering}
use Rattle.bson_value.specs.Tree.{Leaf, least, null, int, long, text, bin, id, flag, date, stamp, greatest}
use Rattle.bson_value.specs.Order.{leaf_class, leaf_number, leaf_subtype, leaf_text, bytes_order}
use Rattle.key_codec.specs.Fits.{LeafFits}
use Rattle.key_codec.specs.Keyed.{signed_key, text_key, length_key, leaf_key}
use Rattle.key_codec.proofs.Tells.{Tells, then_Equal, byte_tells, joined_if, cmp_equal, begun}
use Rattle.key_codec.proofs.Texts.{even_tells, text_tells}
use Rattle.key_codec.proofs.Numbers.{pos_cmp, AreOctets-signed, signed_tells, unsigned_tells, length_tells}
use Rattle.key_codec.proofs.Turned.{AreOctets, AreOctets-append}
use Rattle.key_codec.proofs.Octets.{AreOctets-bytes, AreOctets-text, AreOctets-high, AreOctets-length}

-- how a class's values are written
pub data Form : Type 0 where
  none : Form
  signed : Form
  unsigned : Form
  one : Form
  letters : Form
  blob : Form
  twelve : Form

abbrev pub form_of : ℕ → Form
form_of c =
    if c == 3 then signed else if c == 10 then signed else if c == 11 then unsigned else if c == 9 then one else if c == 4 then letters else if c == 7 then blob else if c == 8 then twelve else none

-- by number, subtype and text
abbrev pub form_key : Form → ℤ → ℕ → List ℕ → List ℕ
form_key none n k s = []
form_key signed n k s = signed_key n
form_key unsigned n k s = to_be_bytes w64 (nat_abs n)
form_key one n k s = nat_abs n ∷ []
form_key letters n k s = text_key s
form_key blob n k s = length_key (length s) ++ k ∷ s
form_key twelve n k s = s

abbrev pub IsForm : Form → ℤ → ℕ → List ℕ → Type 0
IsForm none n k s = (n ≡ pos 0) × (k ≡ 0) × (s ≡ [])
IsForm signed n k s = FitsSigned w64 n × (k ≡ 0) × (s ≡ [])
IsForm unsigned n k s = (n ≡ pos (nat_abs n)) × (nat_abs n < 2 ^ 64) × (k ≡ 0) × (s ≡ [])
IsForm one n k s = (n ≡ pos (nat_abs n)) × (k ≡ 0) × (s ≡ [])
IsForm letters n k s = (n ≡ pos 0) × (k ≡ 0)
IsForm blob n k s = n ≡ pos (length s)
IsForm twelve n k s = (n ≡ pos 0) × (k ≡ 0) × (length s ≡ 12)

-- what is known of a scalar
pub record IsHead (l : Leaf) : Type 0 where
  pub key : leaf_key l ≡ form_key (form_of (leaf_class l)) (leaf_number l) (leaf_subtype l) (leaf_text l)
  pub form : IsForm (form_of (leaf_class l)) (leaf_number l) (leaf_subtype l) (leaf_text l)
  pub bytes : AreOctets (leaf_key l)
  pub some : 0 < leaf_class l
  pub few : leaf_class l < 13
  pub no_doc : leaf_class l ≡ 5 → ⊥
  pub no_list : leaf_class l ≡ 6 → ⊥

pub is_head : (l : Leaf) → LeafFits l → IsHead l
is_head least h = record { key = refl; form = (refl, refl, refl); bytes = tt; some = omega arith; few = omega arith; no_doc = λ e. omega arith; no_list = λ e. omega arith }
is_head null h = record { key = refl; form = (refl, refl, refl); bytes = tt; some = omega arith; few = omega arith; no_doc = λ e. omega arith; no_list = λ e. omega arith }
is_head (int n) h = record { key = refl; form = (h, refl, refl); bytes = AreOctets-signed n; some = omega arith; few = omega arith; no_doc = λ e. omega arith; no_list = λ e. omega arith }
is_head (long n) h = record { key = refl; form = (h, refl, refl); bytes = AreOctets-signed n; some = omega arith; few = omega arith; no_doc = λ e. omega arith; no_list = λ e. omega arith }
is_head (text s) h = record { key = refl; form = (refl, refl); bytes = AreOctets-text s (AreOctets-bytes s h); some = omega arith; few = omega arith; no_doc = λ e. omega arith; no_list = λ e. omega arith }
is_head (bin k s) h = record { key = refl; form = refl; bytes = AreOctets-append (length_key (length s)) (k ∷ s) (AreOctets-length (length s)) (h.0, AreOctets-bytes s h.1); some = omega arith; few = omega arith; no_doc = λ e. omega arith; no_list = λ e. omega arith }
is_head (id s) h = record { key = refl; form = (refl, refl, h.0); bytes = AreOctets-bytes s h.1; some = omega arith; few = omega arith; no_doc = λ e. omega arith; no_list = λ e. omega arith }
is_head (flag true) h = record { key = refl; form = (refl, refl, refl); bytes = (omega arith, tt); some = omega arith; few = omega arith; no_doc = λ e. omega arith; no_list = λ e. omega arith }
is_head (flag false) h = record { key = refl; form = (refl, refl, refl); bytes = (omega arith, tt); some = omega arith; few = omega arith; no_doc = λ e. omega arith; no_list = λ e. omega arith }
is_head (date n) h = record { key = refl; form = (h, refl, refl); bytes = AreOctets-signed n; some = omega arith; few = omega arith; no_doc = λ e. omega arith; no_list = λ e. omega arith }
is_head (stamp n) h = record { key = refl; form = (refl, h, refl, refl); bytes = AreOctets-high 8 _; some = omega arith; few = omega arith; no_doc = λ e. omega arith; no_list = λ e. omega arith }
is_head greatest h = record { key = refl; form = (refl, refl, refl); bytes = tt; some = omega arith; few = omega arith; no_doc = λ e. omega arith; no_list = λ e. omega arith }

-- two values of one form
abbrev pub form_order : ℤ → ℕ → List ℕ → ℤ → ℕ → List ℕ → Ordering
form_order n k s m j t = ordering_then (int_cmp n m) (ordering_then (nat_cmp k j) (bytes_order s t))

form_tells : (f : Form) (n : ℤ) (k : ℕ) (s : List ℕ) (m : ℤ) (j : ℕ) (t : List ℕ) → IsForm f n k s → IsForm f m j t → Tells (form_order n k s m j t) (form_key f n k s) (form_key f m j t)
form_tells none n k s m j t g h = rw (g.0, g.1, g.2, h.0, h.1, h.2) (record { at = λ x y. refl })
form_tells signed n k s m j t g h = rw (g.1, g.2, h.1, h.2, then_Equal (int_cmp n m)) (signed_tells n m g.0 h.0)
form_tells unsigned n k s m j t g h = rw (g.0, h.0, pos_cmp (nat_abs n) (nat_abs m), g.2, g.3, h.2, h.3, then_Equal (nat_cmp (nat_abs n) (nat_abs m))) (unsigned_tells (nat_abs n) (nat_abs m) g.1 h.1)
form_tells one n k s m j t g h = rw (g.0, h.0, pos_cmp (nat_abs n) (nat_abs m), g.1, g.2, h.1, h.2, then_Equal (nat_cmp (nat_abs n) (nat_abs m))) (byte_tells (nat_abs n) (nat_abs m))
form_tells letters n k s m j t g h = rw (g.0, g.1, h.0, h.1) (text_tells s t)
form_tells blob n k s m j t g h =
    rw (g, h, pos_cmp (length s) (length t))
    (joined_if (nat_cmp (length s) (length t)) (ordering_then (nat_cmp k j) (bytes_order s t)) (length_key (length s)) (length_key (length t)) (k ∷ s) (j ∷ t) (length_tells (length s) (length t))
    (λ e. begun k j (even_tells s t (cmp_equal (length s) (length t) e))))
form_tells twelve n k s m j t g h = rw (g.0, g.1, h.0, h.1) (even_tells s t (g.2 ∙ sym h.2))

forms_tell : (f g : Form) (u v : List ℕ) (n : ℤ) (k : ℕ) (s : List ℕ) (m : ℤ) (j : ℕ) (t : List ℕ) → f ≡ g → u ≡ form_key f n k s → v ≡ form_key g m j t → IsForm f n k s → IsForm g m j t → Tells (form_order n k s m j t) u v
forms_tell f g u v n k s m j t e a b x y = rw (a, b, e) (form_tells g n k s m j t (subst (λ i. IsForm i n k s) e x) y)

pub leaf_tells : (k l : Leaf) → IsHead k → IsHead l → leaf_class k ≡ leaf_class l
    → Tells (form_order (leaf_number k) (leaf_subtype k) (leaf_text k) (leaf_number l) (leaf_subtype l) (leaf_text l)) (leaf_key k) (leaf_key l)
leaf_tells k l h g e = forms_tell _ _ _ _ _ _ _ _ _ _ (ap form_of e) h.key g.key h.form g.form
