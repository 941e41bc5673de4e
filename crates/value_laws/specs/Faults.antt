-- What is wrong with bytes that spell no document (BSON 1.1), line by line: what stands before is well spelled, and what
-- follows isn't. A place is counted from the first byte of the file. What is left are the bytes from a place to the end of
-- the file, or to the last byte of the document or list that the place is in.
use Rattle.std.specs.Prelude.{◌≡◌, ◌≢◌, ◌⊎◌, ℕ, zero, suc, ◌+◌, ◌^◌, ◌<◌, ◌≤◌, List, [], ◌∷◌, ◌++◌, length, take, drop, map}
use Rattle.std.specs.Fmt.{decimal}
use Rattle.std.specs.Int.{w32, from_le_bytes}
use Rattle.std.specs.List.{Contains}
use Rattle.std.specs.Str.{IsUtf8}
use Rattle.bson_value.specs.Tree as T
use Rattle.bson_value.specs.Tree.{Tree, entries, members}
use Rattle.bson_value.specs.Depth.{depth}
use Rattle.bson_value.specs.Proper.{HasNoZero, IsName, IsProper}
use Rattle.bson_value.specs.declared.bad.BadBson.{BadBson}
use Rattle.bson_value.specs.declared.bad.BadWhy.{BadWhy}
use Rattle.bson_value.specs.declared.bad.BadWhy.TheVariants.{Truncated, BadLength, TypeRefused, NotText, BadFlag, ArrayName, TwiceNamed, TooDeep, TooLong}
use Rattle.bson_codec.specs.Spelling.{kind_byte, element, tree_kind, pairs_bytes, trees_bytes}
use Rattle.bson_codec.specs.declared.kind.Kind.{Kind}
use Rattle.bson_codec.specs.declared.kind.Kind.TheVariants as K

-- a fault, and the place up to which bytes have to be seen to see it
pub record Fault : Type 0 where
  pub bad : BadBson
  pub shown : ℕ

abbrev pub fault : ℕ → BadWhy → ℕ → Fault
fault at why shown = record { bad = record { at = at; why = why }; shown = shown }

-- the length that the first four bytes are
abbrev pub told : List ℕ → ℕ
told left = from_le_bytes w32 (take 4 left)

-- a length, then a body and the byte behind it: the length counts the body and so many bytes more
pub record IsTold (more : ℕ) (left body : List ℕ) (last : ℕ) : Type 0 where
  pub field : List ℕ
  pub after : List ℕ
  pub parts : field ++ (body ++ last ∷ after) ≡ left
  pub four : length field ≡ 4
  pub counts : from_le_bytes w32 field ≡ length body + more

-- how many bytes each scalar of a kind has, or, of strings and binary data, has before what its length counts
abbrev pub fixed_bytes : Kind → ℕ
fixed_bytes K.Text = 4
fixed_bytes K.Doc = 0
fixed_bytes K.List = 0
fixed_bytes K.Bin = 5
fixed_bytes K.Id = 12
fixed_bytes K.Flag = 1
fixed_bytes K.Date = 8
fixed_bytes K.Null = 0
fixed_bytes K.Int = 4
fixed_bytes K.Stamp = 8
fixed_bytes K.Long = 8
fixed_bytes K.Least = 0
fixed_bytes K.Greatest = 0

-- what is wrong with a scalar of a kind, and how many of its bytes show it
pub data IsBadScalar (k : Kind) (left : List ℕ) (why : BadWhy) (seen : ℕ) : Type 0 where
  -- too few bytes are left
  cut_off : length left < fixed_bytes k → BadLength ≡ why → 0 ≡ seen → IsBadScalar k left why seen
  -- a string's length counts no byte, or more than are left
  string_length : K.Text ≡ k → 4 ≤ length left → (told left ≡ 0) ⊎ (length left < told left + 4) → BadLength ≡ why → 4 ≡ seen → IsBadScalar k left why seen
  -- binary data's length counts more bytes than are left
  binary_length : K.Bin ≡ k → 5 ≤ length left → length left < told left + 5 → BadLength ≡ why → 4 ≡ seen → IsBadScalar k left why seen
  -- a string's last byte isn't 0
  string_end : (text : List ℕ) (last : ℕ) → K.Text ≡ k → IsTold 1 left text last → last ≢ 0 → BadLength ≡ why → length text + 5 ≡ seen → IsBadScalar k left why seen
  -- a string isn't UTF-8
  string_text : (text : List ℕ) → K.Text ≡ k → IsTold 1 left text 0 → ¬ IsUtf8 text → NotText ≡ why → length text + 5 ≡ seen → IsBadScalar k left why seen
  -- a boolean is neither 0 nor 1
  flag_byte : (b : ℕ) (after : List ℕ) → K.Flag ≡ k → b ∷ after ≡ left → b ≢ 0 → b ≢ 1 → BadFlag ≡ why → 1 ≡ seen → IsBadScalar k left why seen

-- what is wrong with the length of a document or list that may have so many bytes; early is the cause where bytes lack
pub data IsBadLength (early : BadWhy) (most : ℕ) (left : List ℕ) (why : BadWhy) (seen : ℕ) : Type 0 where
  -- fewer bytes are left than a length has
  cut_off : length left < 4 → early ≡ why → 0 ≡ seen → IsBadLength early most left why seen
  -- it is less than that of an empty document, or it is negative, being a number of 32 bits with a sign
  too_small : 4 ≤ length left → (told left < 5) ⊎ (2 ^ 31 ≤ told left) → BadLength ≡ why → 4 ≡ seen → IsBadLength early most left why seen
  -- it is more than may be
  too_great : 4 ≤ length left → 5 ≤ told left → told left < 2 ^ 31 → most < told left → TooLong ≡ why → 4 ≡ seen → IsBadLength early most left why seen
  -- it counts more bytes than are left
  past_end : 4 ≤ length left → 5 ≤ told left → told left < 2 ^ 31 → told left ≤ most → length left < told left → early ≡ why → 4 ≡ seen → IsBadLength early most left why seen

-- the bytes that a good length of a document or list counts: those of its elements, and the last
pub record IsFrame (most : ℕ) (left body : List ℕ) (last : ℕ) : Type 0 where
  pub told : IsTold 5 left body last
  pub not_negative : length body + 5 < 2 ^ 31
  pub not_too_great : length body + 5 ≤ most

-- the elements of a document or list, one behind the other
abbrev pub elements_of : Tree → List ℕ
elements_of (T.leaf l) = []
elements_of (T.doc ps) = pairs_bytes ps
elements_of (T.list ts) = trees_bytes 0 ts

-- a document or list, of this kind, with nothing wrong in it, and with so many levels of values in it at most
pub record IsGood (levels : ℕ) (k : Kind) (done : Tree) : Type 0 where
  pub kind : tree_kind done ≡ k
  pub proper : IsProper done
  pub deep : depth done ≤ suc levels

abbrev pub names_of : T.Pairs → List (List ℕ)
names_of ps = map (λ p. p.0) (entries ps)

-- what is wrong with the name of a further element: in a document it is an earlier one's, in a list it isn't the place
pub data IsWrongName (done : Tree) (name : List ℕ) (why : BadWhy) : Type 0 where
  twice : (ps : T.Pairs) → T.doc ps ≡ done → Contains (names_of ps) name → TwiceNamed ≡ why → IsWrongName done name why
  not_its_place : (ts : T.Trees) → T.list ts ≡ done → name ≢ decimal (length (members ts)) → ArrayName ≡ why → IsWrongName done name why

-- what is wrong with an element behind those of a document or list, where of_value says it of its value
pub data IsBadElement (of_value : Kind → ℕ → List ℕ → Fault → Type 0) (done : Tree) (at : ℕ) (left : List ℕ) (f : Fault) : Type 0 where
  -- its type is 0, which is no type but the last byte of a document
  ended_early : (after : List ℕ) → 0 ∷ after ≡ left → fault at BadLength (at + 1) ≡ f → IsBadElement of_value done at left f
  -- its type is none of those that are read
  unknown_type : (byte : ℕ) (after : List ℕ) → byte ∷ after ≡ left → byte ≢ 0 → ((k : Kind) → kind_byte k ≢ byte) → fault at (TypeRefused byte) (at + 1) ≡ f → IsBadElement of_value done at left f
  -- no byte 0 ends its name
  endless_name : (k : Kind) (after : List ℕ) → kind_byte k ∷ after ≡ left → HasNoZero after → fault (at + 1) BadLength (at + length left) ≡ f → IsBadElement of_value done at left f
  -- its name isn't UTF-8
  name_text : (k : Kind) (name after : List ℕ) → element k name after ≡ left → HasNoZero name → ¬ IsUtf8 name → fault (at + 1) NotText (at + length (element k name [])) ≡ f → IsBadElement of_value done at left f
  -- its name is one that may not stand there
  wrong_name : (k : Kind) (name after : List ℕ) (why : BadWhy) → element k name after ≡ left → IsName name → IsWrongName done name why → fault (at + 1) why (at + length (element k name [])) ≡ f → IsBadElement of_value done at left f
  -- its value is wrong
  bad_value : (k : Kind) (name after : List ℕ) → element k name after ≡ left → IsName name → ((why : BadWhy) → ¬ IsWrongName done name why) → of_value k (at + length (element k name [])) after f → IsBadElement of_value done at left f

-- what is wrong with a document or list that may have so many bytes and levels, where of_value says it of values in it
pub data IsBadHolder (of_value : Kind → ℕ → List ℕ → Fault → Type 0) (levels : ℕ) (k : Kind) (early : BadWhy) (most at : ℕ) (left : List ℕ) (f : Fault) : Type 0 where
  -- its length is wrong
  bad_length : (why : BadWhy) (seen : ℕ) → IsBadLength early most left why seen → fault at why (at + seen) ≡ f → IsBadHolder of_value levels k early most at left f
  -- an element is wrong, behind others with nothing wrong in them
  bad_element : (body : List ℕ) (last : ℕ) (done : Tree) (next : List ℕ) → IsFrame most left body last → IsGood levels k done → elements_of done ++ next ≡ body
      → IsBadElement of_value done (at + 4 + length (elements_of done)) next f → IsBadHolder of_value levels k early most at left f
  -- nothing is wrong with its elements, and its last byte isn't 0
  no_end : (body : List ℕ) (last : ℕ) (done : Tree) → IsFrame most left body last → IsGood levels k done → elements_of done ≡ body → last ≢ 0
      → fault (at + 4 + length body) BadLength (at + 5 + length body) ≡ f → IsBadHolder of_value levels k early most at left f

-- what is wrong with a value, where of_holder says it of documents and lists
pub data IsBadValue (of_holder : Kind → ℕ → List ℕ → Fault → Type 0) (k : Kind) (at : ℕ) (left : List ℕ) (f : Fault) : Type 0 where
  bad_scalar : (why : BadWhy) (seen : ℕ) → IsBadScalar k left why seen → fault at why (at + seen) ≡ f → IsBadValue of_holder k at left f
  bad_holder : (K.Doc ≡ k) ⊎ (K.List ≡ k) → of_holder k at left f → IsBadValue of_holder k at left f

-- what is wrong with a document or list in another, where so many levels may be: of none, that it is there at all
abbrev pub IsBadInner : ℕ → Kind → ℕ → List ℕ → Fault → Type 0
IsBadInner zero k at left f = fault at TooDeep at ≡ f
IsBadInner (suc levels) k at left f = IsBadHolder (IsBadValue (IsBadInner levels)) levels k BadLength (2 ^ 31) at left f

-- the first fault of what is to be a document, at a place of a file: of 16,777,216 bytes and of 100 levels at most
abbrev pub IsFirstFault : ℕ → List ℕ → Fault → Type 0
IsFirstFault start bytes f = IsBadHolder (IsBadValue (IsBadInner 99)) 99 K.Doc Truncated 16777216 start (drop start bytes) f
