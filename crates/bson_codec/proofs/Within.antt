-- A fault lies within the bytes that were to be read.
use Rattle.std.proofs.Common.{◌≡◌, ℕ, zero, suc, ◌+◌, ◌-◌, ◌^◌, ◌<◌, ◌≤◌, Bool, true, false, cond, ltb, List, [], ◌∷◌, ◌++◌, length, get_or, take, drop, refl, ap, subst, ◌∙◌, arith, length-append, length-drop}
use Rattle.std.specs.Prelude.{Option, Some, None, is_some, Result, Ok, Err, ◌==◌}
use Rattle.std.specs.Int.{w32, w64, from_le_bytes, to_le_bytes, cast_signed}
use Rattle.std.specs.Fmt.{decimal}
use Rattle.std.specs.Str.{is_utf8, bytes_eq}
use Rattle.bson_value.specs.Tree as T
use Rattle.bson_value.specs.Tree.{Tree, pairs_of, trees_of}
use Rattle.bson_value.specs.Pairs.{find}
use Rattle.bson_value.specs.Proper.{AreBytes}
use Rattle.bson_value.specs.declared.bad.BadBson.{BadBson}
use Rattle.bson_value.specs.declared.bad.BadWhy.{BadWhy}
use Rattle.bson_value.specs.declared.bad.BadWhy.TheVariants.{Truncated, BadLength, TypeRefused, NotText, BadFlag, ArrayName, TwiceNamed, TooLong}
use Rattle.bson_codec.specs.declared.kind.Kind.{Kind}
use Rattle.bson_codec.specs.declared.kind.Kind.TheVariants as K
use Rattle.bson_codec.specs.Spelling.{kind_byte, element, tree_kind, tree_bytes}
use Rattle.bson_codec.specs.Reading.{◌>>=◌, bad, front_at, u32_at, u64_at, byte_at, utf8_text, ended_text, text_at, bin_at, flag_of, flag_at, leaf_at, leaf_value_at, to_zero, named, name_at, kind_of, kind_named, kind_at, Reader, new_name, pair_at, pairs_at, place_name, member_at, members_at, Frame, framing, frame_at, ended, doc_at, list_at, nested, value_at, read_at}
use Rattle.bson_codec.proofs.Fields.{refused, passed, ok_is, AreBytes-drop}
use Rattle.bson_codec.proofs.Heads.{AreBytes-rest, name_takes, kind_takes}
use Rattle.bson_codec.proofs.Trees.{Takes, pair_takes, member_takes}
use Rattle.bson_codec.proofs.Frames.{frame_takes}
use Rattle.bson_codec.proofs.Values.{value_takes}

abbrev pub IsPlaced : {A : Type 0} → ℕ → ℕ → Result A BadBson → Type 0
IsPlaced low high (Ok x) = Unit {0}
IsPlaced low high (Err b) = (low ≤ b.at) × (b.at ≤ high)

-- ---- steps

wider : {A : Type 0} (low high low' high' : ℕ) (r : Result A BadBson) → low' ≤ low → high ≤ high' → IsPlaced low high r → IsPlaced low' high' r
wider low high low' high' (Ok x) a b h = tt
wider low high low' high' (Err e) a b h = (omega (arith, h.0), omega (arith, h.1))

tested : {A : Type 0} (low high : ℕ) (b : Bool) (r s : Result A BadBson) → IsPlaced low high r → IsPlaced low high s → IsPlaced low high (cond b r s)
tested low high true r s h k = h
tested low high false r s h k = k

then : {A B : Type 0} (low high : ℕ) (r : Result A BadBson) (f : A → Result B BadBson) → IsPlaced low high r → ((x : A) → r ≡ Ok x → IsPlaced low high (f x)) → IsPlaced low high (r >>= f)
then low high (Ok x) f h k = k x refl
then low high (Err b) f h k = h

-- what is made of what was read without a fault
made : {A B : Type 0} (low high : ℕ) (r : Result A BadBson) (f : A → B) → IsPlaced low high r → IsPlaced low high (r >>= λ x. Ok (f x))
made low high r f h = then low high r (λ x. Ok (f x)) h (λ x e. tt)

-- ---- fields, whose faults stand where they begin

front_here : (at n : ℕ) (bytes : List ℕ) → IsPlaced at at (front_at at n bytes)
front_here at n bytes = tested at at (ltb (length bytes) n) (bad at BadLength) (Ok (take n bytes, drop n bytes)) (omega arith, omega arith) tt

u32_here : (at : ℕ) (bytes : List ℕ) → IsPlaced at at (u32_at at bytes)
u32_here at bytes = made at at (front_at at 4 bytes) (λ f. (from_le_bytes w32 f.0, f.1)) (front_here at 4 bytes)

u64_here : (at : ℕ) (bytes : List ℕ) → IsPlaced at at (u64_at at bytes)
u64_here at bytes = made at at (front_at at 8 bytes) (λ f. (from_le_bytes w64 f.0, f.1)) (front_here at 8 bytes)

byte_here : (at : ℕ) (bytes : List ℕ) → IsPlaced at at (byte_at at bytes)
byte_here at bytes = made at at (front_at at 1 bytes) (λ f. (get_or f.0 0 0, f.1)) (front_here at 1 bytes)

utf8_here : (at : ℕ) (bytes : List ℕ) → IsPlaced at at (utf8_text at bytes)
utf8_here at bytes = tested at at (is_utf8 bytes) (Ok bytes) (bad at NotText) tt (omega arith, omega arith)

text_here : (at : ℕ) (bytes : List ℕ) → IsPlaced at at (text_at at bytes)
unfolding text_at
text_here at bytes =
    then at at (u32_at at bytes) (λ n. (cond (n.0 == 0) (bad at BadLength) (front_at at n.0 n.1)) >>= λ f. ended_text at f.0 f.1) (u32_here at bytes) (λ n e.
    then at at (cond (n.0 == 0) (bad at BadLength) (front_at at n.0 n.1)) (λ f. ended_text at f.0 f.1) (tested at at (n.0 == 0) (bad at BadLength) (front_at at n.0 n.1) (omega arith, omega arith) (front_here at n.0 n.1)) (λ f g.
    tested at at (get_or f.0 (length f.0 - 1) 0 == 0) (utf8_text at (take (length f.0 - 1) f.0) >>= λ t. Ok (t, f.1)) (bad at BadLength)
    (made at at (utf8_text at (take (length f.0 - 1) f.0)) (λ t. (t, f.1)) (utf8_here at (take (length f.0 - 1) f.0))) (omega arith, omega arith)))

bin_here : (at : ℕ) (bytes : List ℕ) → IsPlaced at at (bin_at at bytes)
unfolding bin_at
bin_here at bytes =
    then at at (u32_at at bytes) (λ n. byte_at at n.1 >>= λ k. front_at at n.0 k.1 >>= λ f. Ok ((k.0, f.0), f.1)) (u32_here at bytes) (λ n e.
    then at at (byte_at at n.1) (λ k. front_at at n.0 k.1 >>= λ f. Ok ((k.0, f.0), f.1)) (byte_here at n.1) (λ k g.
    made at at (front_at at n.0 k.1) (λ f. ((k.0, f.0), f.1)) (front_here at n.0 k.1)))

flag_here : (at : ℕ) (bytes : List ℕ) → IsPlaced at at (flag_at at bytes)
flag_here at bytes =
    then at at (byte_at at bytes) (λ b. flag_of at b.0 b.1) (byte_here at bytes) (λ b e.
    tested at at (b.0 == 0) (Ok (false, b.1)) (cond (b.0 == 1) (Ok (true, b.1)) (bad at BadFlag)) tt
    (tested at at (b.0 == 1) (Ok (true, b.1)) (bad at BadFlag) tt (omega arith, omega arith)))

leaf_here : (k : Kind) (at : ℕ) (bytes : List ℕ) → IsPlaced at at (leaf_at k at bytes)
unfolding leaf_at
leaf_here K.Text at bytes = made at at (text_at at bytes) (λ f. (T.text f.0, f.1)) (text_here at bytes)
leaf_here K.Doc at bytes = (omega arith, omega arith)
leaf_here K.List at bytes = (omega arith, omega arith)
leaf_here K.Bin at bytes = made at at (bin_at at bytes) (λ f. (T.bin f.0.0 f.0.1, f.1)) (bin_here at bytes)
leaf_here K.Id at bytes = made at at (front_at at 12 bytes) (λ f. (T.id f.0, f.1)) (front_here at 12 bytes)
leaf_here K.Flag at bytes = made at at (flag_at at bytes) (λ f. (T.flag f.0, f.1)) (flag_here at bytes)
leaf_here K.Date at bytes = made at at (u64_at at bytes) (λ f. (T.date (cast_signed w64 f.0), f.1)) (u64_here at bytes)
leaf_here K.Null at bytes = tt
leaf_here K.Int at bytes = made at at (u32_at at bytes) (λ f. (T.int (cast_signed w32 f.0), f.1)) (u32_here at bytes)
leaf_here K.Stamp at bytes = made at at (u64_at at bytes) (λ f. (T.stamp f.0, f.1)) (u64_here at bytes)
leaf_here K.Long at bytes = made at at (u64_at at bytes) (λ f. (T.long (cast_signed w64 f.0), f.1)) (u64_here at bytes)
leaf_here K.Least at bytes = tt
leaf_here K.Greatest at bytes = tt

abbrev Placed : Reader → Type 0
Placed read = (k : Kind) (at : ℕ) (bytes : List ℕ) → AreBytes bytes → IsPlaced at (at + length bytes) (read k at bytes)

leaf_placed : Placed leaf_value_at
leaf_placed k at bytes fits = wider at at at (at + length bytes) (leaf_value_at k at bytes) (omega arith) (omega arith) (made at at (leaf_at k at bytes) (λ r. (T.leaf r.0, r.1)) (leaf_here k at bytes))

named_here : (at : ℕ) (o : Option (List ℕ × List ℕ)) → IsPlaced at at (named at o)
named_here at None = (omega arith, omega arith)
named_here at (Some n) = made at at (utf8_text at n.0) (λ t. n) (utf8_here at n.0)

name_here : (at : ℕ) (bytes : List ℕ) → IsPlaced at at (name_at at bytes)
unfolding name_at
name_here at bytes = named_here at (to_zero bytes)

kind_named_here : (at b : ℕ) (o : Option Kind) (rest : List ℕ) → IsPlaced at at (kind_named at b o rest)
kind_named_here at b None rest = tested at at (b == 0) (bad at BadLength) (bad at (TypeRefused b)) (omega arith, omega arith) (omega arith, omega arith)
kind_named_here at b (Some k) rest = tt

kind_here : (at : ℕ) (bytes : List ℕ) → IsPlaced at at (kind_at at bytes)
unfolding kind_at
kind_here at [] = (omega arith, omega arith)
kind_here at (b ∷ rest) = kind_named_here at b (kind_of b) rest

-- ---- elements

module _ (read : Reader) (placed : Placed read) where
  -- a value behind a type and a name
  value_within : (k : Kind) (at : ℕ) (bytes rest : List ℕ) (n m : List ℕ × List ℕ) → AreBytes rest → bytes ≡ kind_byte k ∷ rest → name_at (at + 1) rest ≡ Ok m → m ≡ n → IsPlaced at (at + length bytes) (read k (at + length n.0 + 2) n.1)
  value_within k at bytes rest n m fits parts e same =
      let t = name_takes (at + 1) rest m fits e in
      let fits2 : AreBytes n.1 = subst (λ (q : List ℕ × List ℕ). AreBytes q.1) same t.rest in
      let size : length rest ≡ length n.0 + suc (length n.1) = ap length t.parts ∙ length-append m.0 (0 ∷ m.1) ∙ ap (λ (q : List ℕ × List ℕ). length q.0 + suc (length q.1)) same in
      wider (at + length n.0 + 2) (at + length n.0 + 2 + length n.1) at (at + length bytes) (read k (at + length n.0 + 2) n.1) (omega arith) (omega (arith, ap length parts, size)) (placed k (at + length n.0 + 2) n.1 fits2)

  pair_within : (before : List (List ℕ × Tree)) (at : ℕ) (bytes : List ℕ) → AreBytes bytes → 0 < length bytes → IsPlaced at (at + length bytes) (pair_at read before at bytes)
  unfolding pair_at
  pair_within before at bytes fits some =
      then at (at + length bytes) (kind_at at bytes) (λ k. name_at (at + 1) k.1 >>= λ m. new_name (at + 1) before m >>= λ n. read k.0 (at + length n.0 + 2) n.1 >>= λ v. Ok ((n.0, v.0), v.1))
      (wider at at at (at + length bytes) (kind_at at bytes) (omega arith) (omega arith) (kind_here at bytes)) (λ k e.
      let parts = kind_takes at bytes k e in
      let fits1 : AreBytes k.1 = AreBytes-rest (kind_byte k.0) k.1 (subst AreBytes parts fits) in
      then at (at + length bytes) (name_at (at + 1) k.1) (λ m. new_name (at + 1) before m >>= λ n. read k.0 (at + length n.0 + 2) n.1 >>= λ v. Ok ((n.0, v.0), v.1))
      (wider (at + 1) (at + 1) at (at + length bytes) (name_at (at + 1) k.1) (omega arith) (omega arith) (name_here (at + 1) k.1)) (λ m g.
      then at (at + length bytes) (new_name (at + 1) before m) (λ n. read k.0 (at + length n.0 + 2) n.1 >>= λ v. Ok ((n.0, v.0), v.1))
      (tested at (at + length bytes) (is_some (find m.0 before)) (bad (at + 1) TwiceNamed) (Ok m) (omega arith, omega arith) tt) (λ n h.
      made at (at + length bytes) (read k.0 (at + length n.0 + 2) n.1) (λ v. ((n.0, v.0), v.1))
      (value_within k.0 at bytes k.1 n m fits1 parts g (ok_is m n (refused (is_some (find m.0 before)) (record { at = at + 1; why = TwiceNamed }) (Ok m) n h).1)))))

  member_within : (i at : ℕ) (bytes : List ℕ) → AreBytes bytes → 0 < length bytes → IsPlaced at (at + length bytes) (member_at read i at bytes)
  unfolding member_at
  member_within i at bytes fits some =
      then at (at + length bytes) (kind_at at bytes) (λ k. name_at (at + 1) k.1 >>= λ m. place_name (at + 1) i m >>= λ n. read k.0 (at + length n.0 + 2) n.1)
      (wider at at at (at + length bytes) (kind_at at bytes) (omega arith) (omega arith) (kind_here at bytes)) (λ k e.
      let parts = kind_takes at bytes k e in
      let fits1 : AreBytes k.1 = AreBytes-rest (kind_byte k.0) k.1 (subst AreBytes parts fits) in
      then at (at + length bytes) (name_at (at + 1) k.1) (λ m. place_name (at + 1) i m >>= λ n. read k.0 (at + length n.0 + 2) n.1)
      (wider (at + 1) (at + 1) at (at + length bytes) (name_at (at + 1) k.1) (omega arith) (omega arith) (name_here (at + 1) k.1)) (λ m g.
      then at (at + length bytes) (place_name (at + 1) i m) (λ n. read k.0 (at + length n.0 + 2) n.1)
      (tested at (at + length bytes) (bytes_eq m.0 (decimal i)) (Ok m) (bad (at + 1) ArrayName) tt (omega arith, omega arith)) (λ n h.
      value_within k.0 at bytes k.1 n m fits1 parts g (ok_is m n (passed (bytes_eq m.0 (decimal i)) (record { at = at + 1; why = ArrayName }) (Ok m) n h).1))))

module _ (d : ℕ) (read : Reader) (takes : Takes d read) (placed : Placed read) where
  pairs_within : (n : ℕ) (before : List (List ℕ × Tree)) (at : ℕ) (bytes : List ℕ) → AreBytes bytes → IsPlaced at (at + length bytes) (pairs_at read n before at bytes)
  unfolding pairs_at
  pairs_within zero before at bytes fits = tt
  pairs_within (suc n) before at [] fits = tt
  pairs_within (suc n) before at (b ∷ bytes) fits =
      then at (at + length (b ∷ bytes)) (pair_at read before at (b ∷ bytes)) (λ p. pairs_at read n (before ++ p.0 ∷ []) (at + (length (b ∷ bytes) - length p.1)) p.1)
      (pair_within read placed before at (b ∷ bytes) fits (omega arith)) (λ p e.
      let t = pair_takes d read takes before at (b ∷ bytes) p fits e in
      let shorter : length p.1 ≤ length (b ∷ bytes) = omega (arith, ap length t.parts, length-append (element (tree_kind p.0.1) p.0.0 (tree_bytes p.0.1)) p.1) in
      let next : ℕ = at + (length (b ∷ bytes) - length p.1) in
      wider (at + (length (b ∷ bytes) - length p.1)) (at + (length (b ∷ bytes) - length p.1) + length p.1) at (at + length (b ∷ bytes)) (pairs_at read n (before ++ p.0 ∷ []) (at + (length (b ∷ bytes) - length p.1)) p.1)
      (omega arith) (omega (arith, shorter)) (pairs_within n (before ++ p.0 ∷ []) (at + (length (b ∷ bytes) - length p.1)) p.1 t.rest))

  members_within : (n : ℕ) (before : List Tree) (at : ℕ) (bytes : List ℕ) → AreBytes bytes → IsPlaced at (at + length bytes) (members_at read n before at bytes)
  unfolding members_at
  members_within zero before at bytes fits = tt
  members_within (suc n) before at [] fits = tt
  members_within (suc n) before at (b ∷ bytes) fits =
      then at (at + length (b ∷ bytes)) (member_at read (length before) at (b ∷ bytes)) (λ t. members_at read n (before ++ t.0 ∷ []) (at + (length (b ∷ bytes) - length t.1)) t.1)
      (member_within read placed (length before) at (b ∷ bytes) fits (omega arith)) (λ p e.
      let t = member_takes d read takes (length before) at (b ∷ bytes) p fits e in
      let shorter : length p.1 ≤ length (b ∷ bytes) = omega (arith, ap length t.parts, length-append (element (tree_kind p.0) (decimal (length before)) (tree_bytes p.0)) p.1) in
      wider (at + (length (b ∷ bytes) - length p.1)) (at + (length (b ∷ bytes) - length p.1) + length p.1) at (at + length (b ∷ bytes)) (members_at read n (before ++ p.0 ∷ []) (at + (length (b ∷ bytes) - length p.1)) p.1)
      (omega arith) (omega (arith, shorter)) (members_within n (before ++ p.0 ∷ []) (at + (length (b ∷ bytes) - length p.1)) p.1 t.rest))

  -- ---- whole documents and lists

  framing_here : (short : BadWhy) (limit at n : ℕ) (rest : List ℕ) → IsPlaced at at (framing short limit at n rest)
  framing_here short limit at n rest =
      let made_of : Frame = record { body = take (n - 5) rest; last = get_or rest (n - 5) 0; after = drop (n - 4) rest } in
      tested at at (ltb n 5) (bad at BadLength) (cond (ltb (2 ^ 31 - 1) n) (bad at BadLength) (cond (ltb limit n) (bad at TooLong) (cond (ltb (length rest) (n - 4)) (bad at short) (Ok made_of)))) (omega arith, omega arith)
      (tested at at (ltb (2 ^ 31 - 1) n) (bad at BadLength) (cond (ltb limit n) (bad at TooLong) (cond (ltb (length rest) (n - 4)) (bad at short) (Ok made_of))) (omega arith, omega arith)
      (tested at at (ltb limit n) (bad at TooLong) (cond (ltb (length rest) (n - 4)) (bad at short) (Ok made_of)) (omega arith, omega arith)
      (tested at at (ltb (length rest) (n - 4)) (bad at short) (Ok made_of) (omega arith, omega arith) tt)))

  frame_within : (short : BadWhy) (limit at : ℕ) (bytes : List ℕ) → IsPlaced at (at + length bytes) (frame_at short limit at bytes)
  unfolding frame_at
  frame_within short limit at bytes =
      wider at at at (at + length bytes) (cond (ltb (length bytes) 4) (bad at short) (framing short limit at (from_le_bytes w32 (take 4 bytes)) (drop 4 bytes))) (omega arith) (omega arith)
      (tested at at (ltb (length bytes) 4) (bad at short) (framing short limit at (from_le_bytes w32 (take 4 bytes)) (drop 4 bytes)) (omega arith, omega arith) (framing_here short limit at (from_le_bytes w32 (take 4 bytes)) (drop 4 bytes)))

  frame_size : (bytes : List ℕ) (f : Frame) → bytes ≡ to_le_bytes w32 (length f.body + 5) ++ (f.body ++ f.last ∷ f.after) → length bytes ≡ 4 + (length f.body + suc (length f.after))
  frame_size bytes f e = ap length e ∙ length-append (to_le_bytes w32 (length f.body + 5)) (f.body ++ f.last ∷ f.after) ∙ ap (λ (n : ℕ). 4 + n) (length-append f.body (f.last ∷ f.after))

  doc_within : (short : BadWhy) (limit at : ℕ) (bytes : List ℕ) → AreBytes bytes → IsPlaced at (at + length bytes) (doc_at read short limit at bytes)
  unfolding doc_at
  doc_within short limit at bytes fits =
      then at (at + length bytes) (frame_at short limit at bytes) (λ f. pairs_at read (length f.body) [] (at + 4) f.body >>= λ ps. ended at f ps) (frame_within short limit at bytes) (λ f e.
      let t = frame_takes short limit at bytes f fits e in
      let size = frame_size bytes f t.parts in
      then at (at + length bytes) (pairs_at read (length f.body) [] (at + 4) f.body) (λ ps. ended at f ps)
      (wider (at + 4) (at + 4 + length f.body) at (at + length bytes) (pairs_at read (length f.body) [] (at + 4) f.body) (omega arith) (omega (arith, size)) (pairs_within (length f.body) [] (at + 4) f.body t.body)) (λ ps g.
      tested at (at + length bytes) (f.last == 0) (Ok (ps, f.after)) (bad (at + length f.body + 4) BadLength) tt (omega arith, omega (arith, size))))

  list_within : (at : ℕ) (bytes : List ℕ) → AreBytes bytes → IsPlaced at (at + length bytes) (list_at read at bytes)
  unfolding list_at
  list_within at bytes fits =
      then at (at + length bytes) (frame_at BadLength (2 ^ 31) at bytes) (λ f. members_at read (length f.body) [] (at + 4) f.body >>= λ ts. ended at f ts) (frame_within BadLength (2 ^ 31) at bytes) (λ f e.
      let t = frame_takes BadLength (2 ^ 31) at bytes f fits e in
      let size = frame_size bytes f t.parts in
      then at (at + length bytes) (members_at read (length f.body) [] (at + 4) f.body) (λ ts. ended at f ts)
      (wider (at + 4) (at + 4 + length f.body) at (at + length bytes) (members_at read (length f.body) [] (at + 4) f.body) (omega arith) (omega (arith, size)) (members_within (length f.body) [] (at + 4) f.body t.body)) (λ ts g.
      tested at (at + length bytes) (f.last == 0) (Ok (ts, f.after)) (bad (at + length f.body + 4) BadLength) tt (omega arith, omega (arith, size))))

  nested_within : Placed (nested read)
  nested_within K.Doc at bytes fits = made at (at + length bytes) (doc_at read BadLength (2 ^ 31) at bytes) (λ r. (T.doc (pairs_of r.0), r.1)) (doc_within BadLength (2 ^ 31) at bytes fits)
  nested_within K.List at bytes fits = made at (at + length bytes) (list_at read at bytes) (λ r. (T.list (trees_of r.0), r.1)) (list_within at bytes fits)
  nested_within K.Text at bytes fits = leaf_placed K.Text at bytes fits
  nested_within K.Bin at bytes fits = leaf_placed K.Bin at bytes fits
  nested_within K.Id at bytes fits = leaf_placed K.Id at bytes fits
  nested_within K.Flag at bytes fits = leaf_placed K.Flag at bytes fits
  nested_within K.Date at bytes fits = leaf_placed K.Date at bytes fits
  nested_within K.Null at bytes fits = leaf_placed K.Null at bytes fits
  nested_within K.Int at bytes fits = leaf_placed K.Int at bytes fits
  nested_within K.Stamp at bytes fits = leaf_placed K.Stamp at bytes fits
  nested_within K.Long at bytes fits = leaf_placed K.Long at bytes fits
  nested_within K.Least at bytes fits = leaf_placed K.Least at bytes fits
  nested_within K.Greatest at bytes fits = leaf_placed K.Greatest at bytes fits

value_placed : (d : ℕ) → Placed (value_at d)
unfolding value_at
value_placed zero k at bytes fits = leaf_placed k at bytes fits
value_placed (suc d) k at bytes fits = nested_within d (value_at d) (value_takes d) (value_placed d) k at bytes fits

at_fault : {A : Type 0} (low high : ℕ) (r : Result A BadBson) (b : BadBson) → IsPlaced low high r → r ≡ Err b → (low ≤ b.at) × (b.at ≤ high)
at_fault low high (Ok x) b h e = absurd cc
at_fault low high (Err c) b h e = let s : c ≡ b = cc in subst (λ (x : BadBson). (low ≤ x.at) × (x.at ≤ high)) s h

pub fault_within : (at : ℕ) (bytes : List ℕ) (b : BadBson) → AreBytes bytes → at ≤ length bytes → read_at at bytes ≡ Err b → (at ≤ b.at) × (b.at ≤ length bytes)
unfolding read_at
fault_within at bytes b fits le e =
    let h = at_fault at (at + length (drop at bytes)) (doc_at (value_at 99) Truncated 16777216 at (drop at bytes)) b (doc_within 99 (value_at 99) (value_takes 99) (value_placed 99) Truncated 16777216 at (drop at bytes) (AreBytes-drop at bytes fits)) e in
    (h.0, omega (arith, h.1, length-drop at bytes, le))
