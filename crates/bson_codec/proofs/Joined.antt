-- The records of a file are what the joined spellings say, and its one document is what its spelling says.
use Rattle.std.proofs.Common.{◌≡◌, ℕ, zero, suc, ◌+◌, ◌-◌, ◌<◌, ◌≤◌, Bool, true, false, cond, ltb, List, [], ◌∷◌, ◌++◌, length, drop, refl, sym, ap, subst, ◌∙◌, append_assoc, arith, length-append, length-drop, inl, inr}
use Rattle.std.specs.Prelude.{Result, Ok, Err, ◌⊎◌, ◌↔◌}
use Rattle.std.proofs.lemmas.Bool.{cases_lt, le-ltb, lt-ltb}
use Rattle.std.proofs.lemmas.List.{append-nil, nil_from_length}
use Rattle.bson_value.specs.Tree.{pairs_of}
use Rattle.bson_value.specs.Proper.{AreBytes, IsDoc}
use Rattle.bson_value.specs.declared.bad.BadBson.{BadBson}
use Rattle.bson_codec.specs.Spelling.{spelling, pairs_bytes, IsShort, IsSpelledAt}
use Rattle.bson_codec.specs.Reading.{read_at}
use Rattle.bson_codec.specs.Begun.{IsReadTo}
use Rattle.bson_codec.specs.Records.{Document, BadRecord, after_one, record_then, records_from, records, joined, AreShort, AreRecords, IsFirstBad, FileFault, bytes_fault, trailing, alone, only_one, document_of, IsSpelling, IsTrailed, IsFileFault}
use Rattle.bson_codec.proofs.Values.{length-framed}
use Rattle.bson_codec.proofs.Decoding.{behind, read_takes, read_again}

abbrev Answer : Type 0
Answer = Result (List Document) BadRecord

-- ---- documents that are spelled one after the other are read

after_all : List Document → Answer → Answer
after_all [] r = r
after_all (d ∷ ds) r = after_one d (after_all ds r)

spelling_some : (d : Document) → 5 ≤ length (spelling d)
spelling_some d = omega (arith, length-framed (pairs_bytes (pairs_of d)))

count_joined : (ds : List Document) → length ds ≤ length (joined ds)
count_joined [] = omega arith
count_joined (d ∷ ds) = omega (arith, count_joined ds, spelling_some d, length-append (spelling d) (joined ds))

records_behind : (n k number last start stop : ℕ) (bytes : List ℕ) (ds : List Document) → AreShort ds → n ≡ length ds + k → number + length ds ≡ last → start + length (joined ds) ≡ stop → stop ≤ length bytes
    → drop start bytes ≡ joined ds ++ drop stop bytes → records_from n number start bytes ≡ after_all ds (records_from k last stop bytes)
unfolding after_all records_from
records_behind n k number last start stop bytes [] short count numbers ends within parts =
    let a : n ≡ k = omega arith in
    let b : number ≡ last = omega arith in
    let c : start ≡ stop = omega arith in
    rw (a, b, c) refl
records_behind zero k number last start stop bytes (d ∷ ds) short count numbers ends within parts = absurd (omega arith)
records_behind (suc n) k number last start stop bytes (d ∷ ds) short count numbers ends within parts =
    let end : ℕ = start + length (spelling d) in
    let sizes : length (spelling d ++ joined ds) ≡ length (spelling d) + length (joined ds) = length-append (spelling d) (joined ds) in
    let some : 5 ≤ length (spelling d) = spelling_some d in
    let front : drop start bytes ≡ spelling d ++ (joined ds ++ drop stop bytes) = parts ∙ append_assoc (spelling d) (joined ds) (drop stop bytes) in
    let rest : joined ds ++ drop stop bytes ≡ drop (start + length (spelling d)) bytes = behind bytes start (start + length (spelling d)) (spelling d) (joined ds ++ drop stop bytes) (omega arith) front refl in
    let spelled : IsSpelledAt bytes start d (start + length (spelling d)) = record {
      proper = short.0;
      short = short.1;
      within = omega arith;
      parts = front ∙ ap (λ (l : List ℕ). spelling d ++ l) rest;
      len = refl;
    } in
    let lt : ltb start (length bytes) ≡ true = lt-ltb _ _ (omega arith) in
    let len : length bytes - length (drop (start + length (spelling d)) bytes) ≡ start + length (spelling d) = omega (arith, length-drop (start + length (spelling d)) bytes) in
    rw (lt, read_again start bytes d (start + length (spelling d)) spelled, len)
    (ap (after_one d) (records_behind n k (suc number) last (start + length (spelling d)) stop bytes ds short.2 (omega arith) (omega arith) (omega arith) within (sym rest)))

after_all_ok : (ds : List Document) → after_all ds (Ok []) ≡ Ok ds
unfolding after_all
after_all_ok [] = refl
after_all_ok (d ∷ ds) = ap (after_one d) (after_all_ok ds)

after_all_bad : (ds : List Document) (b : BadRecord) → after_all ds (Err b) ≡ Err b
unfolding after_all
after_all_bad [] b = refl
after_all_bad (d ∷ ds) b = ap (after_one d) (after_all_bad ds b)

none_left : (k number start : ℕ) (bytes : List ℕ) → length bytes ≤ start → records_from k number start bytes ≡ Ok []
unfolding records_from
none_left zero number start bytes le = refl
none_left (suc k) number start bytes le = let ge : ltb start (length bytes) ≡ false = le-ltb _ _ le in rw ge refl

good_again : (bytes : List ℕ) (ds : List Document) → AreRecords bytes ds → records bytes ≡ Ok ds
unfolding records
good_again bytes ds h =
    let total : length (joined ds) ≡ length bytes = ap length h.parts in
    let none : drop (length bytes) bytes ≡ [] = nil_from_length (drop (length bytes) bytes) (omega (arith, length-drop (length bytes) bytes)) in
    let parts : bytes ≡ joined ds ++ drop (length bytes) bytes = sym h.parts ∙ sym (append-nil (joined ds)) ∙ ap (λ (l : List ℕ). joined ds ++ l) (sym none) in
    records_behind (length bytes) (length bytes - length ds) 1 (1 + length ds) 0 (length bytes) bytes ds h.short (omega (arith, count_joined ds)) refl (omega arith) (omega arith) parts
    ∙ ap (after_all ds) (none_left (length bytes - length ds) (1 + length ds) (length bytes) bytes (omega arith)) ∙ after_all_ok ds

one_bad : (k number start : ℕ) (bytes : List ℕ) (f : BadBson) → start < length bytes → read_at start bytes ≡ Err f → records_from (suc k) number start bytes ≡ Err (record { number = number; start = start; fault = f })
unfolding records_from
one_bad k number start bytes f more e = let lt : ltb start (length bytes) ≡ true = lt-ltb _ _ more in rw (lt, e) refl

bad_again : (bytes : List ℕ) (b : BadRecord) → IsFirstBad bytes b → records bytes ≡ Err b
unfolding records
bad_again bytes b h =
    let le : length h.before ≤ b.start = omega (arith, count_joined h.before, h.start) in
    let k : ℕ = length bytes - length h.before - 1 in
    let more : length bytes ≡ length h.before + suc (length bytes - length h.before - 1) = omega (arith, h.more, le) in
    records_behind (length bytes) (suc (length bytes - length h.before - 1)) 1 b.number 0 b.start bytes h.before h.short more (omega (arith, h.number)) (omega (arith, h.start)) (omega (arith, h.more)) (sym h.parts)
    ∙ ap (after_all h.before) (one_bad (length bytes - length h.before - 1) b.number b.start bytes b.fault h.more h.fault) ∙ after_all_bad h.before b

-- ---- what is read is spelled so

after_ok : (d : Document) (q : Answer) (ds : List Document) → after_one d q ≡ Ok ds → (rest : List Document) × (q ≡ Ok rest) × (d ∷ rest ≡ ds)
after_ok d (Ok rest) ds e = (rest, refl, cc)
after_ok d (Err b) ds e = absurd cc

after_bad : (d : Document) (q : Answer) (b : BadRecord) → after_one d q ≡ Err b → q ≡ Err b
after_bad d (Ok rest) b e = absurd cc
after_bad d (Err c) b e = cc

abbrev Read : Type 0
Read = Result (Document × List ℕ) BadBson

then_ok : (number start total : ℕ) (r : Read) (next : ℕ → Answer) (ds : List Document) → record_then number start total r next ≡ Ok ds
    → (x : Document × List ℕ) × (rest : List Document) × (r ≡ Ok x) × (next (total - length x.1) ≡ Ok rest) × (x.0 ∷ rest ≡ ds)
then_ok number start total (Ok x) next ds e = let a = after_ok x.0 (next (total - length x.1)) ds e in (x, a.0, refl, a.1, a.2)
then_ok number start total (Err b) next ds e = absurd cc

then_bad : (number start total : ℕ) (r : Read) (next : ℕ → Answer) (b : BadRecord) → record_then number start total r next ≡ Err b
    → ((r ≡ Err b.fault) × (number ≡ b.number) × (start ≡ b.start)) ⊎ ((x : Document × List ℕ) × (r ≡ Ok x) × (next (total - length x.1) ≡ Err b))
then_bad number start total (Ok x) next b e = inr (x, refl, after_bad x.0 (next (total - length x.1)) b e)
then_bad number start total (Err f) next b e = inl (cc, cc, cc)

-- ok is told by a test
cond_true : {A : Type 0} (b : Bool) (x y z : A) → b ≡ true → cond b x y ≡ z → x ≡ z
cond_true true x y z h e = e
cond_true false x y z h e = absurd cc

cond_false : {A : Type 0} (b : Bool) (x y z : A) → b ≡ false → cond b x y ≡ z → y ≡ z
cond_false true x y z h e = absurd cc
cond_false false x y z h e = e

pub record AreFrom (start : ℕ) (bytes : List ℕ) (ds : List Document) : Type 0 where
  pub short : AreShort ds
  pub parts : joined ds ≡ drop start bytes

nothing : (start : ℕ) (bytes : List ℕ) (ds : List Document) → length bytes ≤ start → [] ≡ ds → AreFrom start bytes ds
nothing start bytes ds le e = subst (AreFrom start bytes) e (record { short = tt; parts = sym (nil_from_length (drop start bytes) (omega (arith, length-drop start bytes))) })

ok_docs : (a b : List Document) → (let f : List Document → Answer = λ x. Ok x in f a ≡ f b) → a ≡ b
ok_docs a b e = cc

take_records : (n number start : ℕ) (bytes : List ℕ) (ds : List Document) → AreBytes bytes → start ≤ length bytes → length bytes - start ≤ n → records_from n number start bytes ≡ Ok ds → AreFrom start bytes ds
unfolding records_from
take_records zero number start bytes ds fits le fuel e = nothing start bytes ds (omega arith) (ok_docs [] ds e)
take_records (suc n) number start bytes ds fits le fuel e =
    elim (cases_lt start (length bytes)) [
      | inr ge ↦ nothing start bytes ds ge (ok_docs [] ds (cond_false (ltb start (length bytes)) _ (Ok []) (Ok ds) (le-ltb _ _ ge) e))
      | inl lt ↦
          let next : ℕ → Answer = λ (end : ℕ). records_from n (suc number) end bytes in
          let a = then_ok number start (length bytes) (read_at start bytes) (λ (end : ℕ). records_from n (suc number) end bytes) ds (cond_true (ltb start (length bytes)) (record_then number start (length bytes) (read_at start bytes) (λ (end : ℕ). records_from n (suc number) end bytes)) (Ok []) (Ok ds) (lt-ltb _ _ lt) e) in
          let s = read_takes start bytes a.0 fits le a.2 in
          let r = take_records n (suc number) (length bytes - length a.0.1) bytes a.1 fits s.within (omega (arith, s.len, spelling_some a.0.0, fuel)) a.3 in
          subst (AreFrom start bytes) a.4 (record { short = (s.proper, s.short, r.short); parts = ap (λ (l : List ℕ). spelling a.0.0 ++ l) r.parts ∙ sym s.parts })
    ]

pub record IsBadFrom (from start : ℕ) (bytes : List ℕ) (b : BadRecord) : Type 0 where
  pub before : List Document
  pub short : AreShort before
  pub number : from + length before ≡ b.number
  pub ends : start + length (joined before) ≡ b.start
  pub parts : joined before ++ drop b.start bytes ≡ drop start bytes
  pub more : b.start < length bytes
  pub fault : read_at b.start bytes ≡ Err b.fault

take_bad : (n number start : ℕ) (bytes : List ℕ) (b : BadRecord) → AreBytes bytes → start ≤ length bytes → records_from n number start bytes ≡ Err b → IsBadFrom number start bytes b
unfolding records_from
take_bad zero number start bytes b fits le e = absurd cc
take_bad (suc n) number start bytes b fits le e =
    elim (cases_lt start (length bytes)) [
      | inr ge ↦ let h : Ok [] ≡ Err b = cond_false (ltb start (length bytes)) _ (Ok []) (Err b) (le-ltb _ _ ge) e in absurd cc
      | inl lt ↦
          elim (then_bad number start (length bytes) (read_at start bytes) (λ (end : ℕ). records_from n (suc number) end bytes) b (cond_true (ltb start (length bytes)) (record_then number start (length bytes) (read_at start bytes) (λ (end : ℕ). records_from n (suc number) end bytes)) (Ok []) (Err b) (lt-ltb _ _ lt) e)) [
            | inl h ↦ record {
              before = [];
              short = tt;
              number = omega (arith, h.1);
              ends = omega (arith, h.2);
              parts = ap (λ (k : ℕ). drop k bytes) (sym h.2);
              more = rw (← h.2) lt;
              fault = rw (← h.2) h.0;
            }
            | inr h ↦
                let s = read_takes start bytes h.0 fits le h.1 in
                let r = take_bad n (suc number) (length bytes - length h.0.1) bytes b fits s.within h.2 in
                record {
                  before = h.0.0 ∷ r.before;
                  short = (s.proper, s.short, r.short);
                  number = omega (arith, r.number);
                  ends = omega (arith, r.ends, s.len, length-append (spelling h.0.0) (joined r.before));
                  parts = append_assoc (spelling h.0.0) (joined r.before) (drop b.start bytes) ∙ ap (λ (l : List ℕ). spelling h.0.0 ++ l) r.parts ∙ sym s.parts;
                  more = r.more;
                  fault = r.fault;
                }
          ]
    ]

-- where a fault is read, nothing is spelled
pub none_spelled : (at : ℕ) (bytes : List ℕ) (f : BadBson) → read_at at bytes ≡ Err f → (d : Document) (end : ℕ) → ¬ IsSpelledAt bytes at d end
none_spelled at bytes f e d end h = let g = read_again at bytes d end h in absurd cc

pub records_good : (bytes : List ℕ) (ds : List Document) → AreBytes bytes → (records bytes ≡ Ok ds) ↔ AreRecords bytes ds
unfolding records
records_good bytes ds fits = (
  λ e. let r = take_records (length bytes) 1 0 bytes ds fits (omega arith) (omega arith) e in record { short = r.short; parts = r.parts },
  good_again bytes ds,
)

pub records_bad : (bytes : List ℕ) (b : BadRecord) → AreBytes bytes → (records bytes ≡ Err b) ↔ IsFirstBad bytes b
unfolding records
records_bad bytes b fits = (
  λ e.
      let r = take_bad (length bytes) 1 0 bytes b fits (omega arith) e in
      record {
        before = r.before;
        short = r.short;
        number = omega (arith, r.number);
        start = omega (arith, r.ends);
        parts = r.parts;
        more = r.more;
        none = none_spelled b.start bytes b.fault r.fault;
        fault = r.fault;
      },
  bad_again bytes b,
)

-- ---- one document

abbrev One : Type 0
One = Result Document FileFault

alone_ok : (total : ℕ) (c : Document) (rest : List ℕ) (d : Document) → alone total c rest ≡ Ok d → (c ≡ d) × (rest ≡ [])
alone_ok total c [] d e = (cc, refl)
alone_ok total c (b ∷ bs) d e = absurd cc

only_ok : (total : ℕ) (r : Read) (d : Document) → only_one total r ≡ Ok d → r ≡ Ok (d, [])
only_ok total (Ok x) d e = let a = alone_ok total x.0 x.1 d e in ap (λ (p : Document × List ℕ). Ok p) (λ i. (a.0 i, a.1 i))
only_ok total (Err b) d e = absurd cc

-- what is spelled up to the end is the whole
whole_spelled : (bytes : List ℕ) (d : Document) → IsSpelling bytes d → IsSpelledAt bytes 0 d (length bytes)
whole_spelled bytes d h =
    let none : drop (length bytes) bytes ≡ [] = nil_from_length (drop (length bytes) bytes) (omega (arith, length-drop (length bytes) bytes)) in
    record {
      proper = h.proper;
      short = h.short;
      within = omega arith;
      parts = sym h.parts ∙ sym (append-nil (spelling d)) ∙ ap (λ (l : List ℕ). spelling d ++ l) (sym none);
      len = omega (arith, ap length h.parts);
    }

spelled_whole : (bytes : List ℕ) (d : Document) (end : ℕ) → end ≡ length bytes → IsSpelledAt bytes 0 d end → IsSpelling bytes d
spelled_whole bytes d end e h =
    let none : drop end bytes ≡ [] = nil_from_length (drop end bytes) (omega (arith, length-drop end bytes)) in
    record { proper = h.proper; short = h.short; parts = sym (h.parts ∙ ap (λ (l : List ℕ). spelling d ++ l) none ∙ append-nil (spelling d)) }

pub document_good : (bytes : List ℕ) (d : Document) → AreBytes bytes → (document_of bytes ≡ Ok d) ↔ IsSpelling bytes d
unfolding document_of
document_good bytes d fits = (
  λ e. spelled_whole bytes d (length bytes - 0) (omega arith) (read_takes 0 bytes (d, []) fits (omega arith) (only_ok (length bytes) (read_at 0 bytes) d e)),
  λ h.
      let none : drop (length bytes) bytes ≡ [] = nil_from_length (drop (length bytes) bytes) (omega (arith, length-drop (length bytes) bytes)) in
      rw (read_again 0 bytes d (length bytes) (whole_spelled bytes d h), none) refl,
)

trailed : (bytes : List ℕ) (x : Document × List ℕ) (f : FileFault) → AreBytes bytes → read_at 0 bytes ≡ Ok x → alone (length bytes) x.0 x.1 ≡ Err f → IsFileFault bytes f
trailed bytes x f fits r e =
    elim x.1 as (λ (l : List ℕ). x.1 ≡ l → alone (length bytes) x.0 l ≡ Err f → IsFileFault bytes f) [
      | [] ↦ λ s g. absurd cc
      | b ∷ bs ↦ λ s g.
          let t = read_takes 0 bytes x fits (omega arith) r in
          let n : trailing (length bytes - length (b ∷ bs)) ≡ f = cc in
          let i : IsTrailed bytes (length bytes - length (b ∷ bs)) = record { document = x.0; spelled = rw s at t; more = omega (arith, t.len, spelling_some x.0, ap length s, t.within) } in
          subst (IsFileFault bytes) n i
    ] refl e

file_bad : (bytes : List ℕ) (r : Read) (f : FileFault) → AreBytes bytes → read_at 0 bytes ≡ r → only_one (length bytes) r ≡ Err f → IsFileFault bytes f
file_bad bytes (Ok x) f fits r e = trailed bytes x f fits r e
file_bad bytes (Err b) f fits r e = let n : bytes_fault b ≡ f = cc in subst (IsFileFault bytes) n (none_spelled 0 bytes b r, r)

alone_more : (total : ℕ) (d : Document) (rest : List ℕ) → 0 < length rest → alone total d rest ≡ Err (trailing (total - length rest))
alone_more total d [] lt = absurd (omega arith)
alone_more total d (b ∷ bs) lt = refl

fault_again : (bytes : List ℕ) (f : FileFault) → IsFileFault bytes f → document_of bytes ≡ Err f
unfolding document_of
fault_again bytes (bytes_fault b) h = rw h.1 refl
fault_again bytes (trailing end) h =
    let some : 0 < length (drop end bytes) = omega (arith, length-drop end bytes, h.more) in
    let len : length bytes - length (drop end bytes) ≡ end = omega (arith, length-drop end bytes, h.more) in
    rw (read_again 0 bytes h.document end h.spelled) (alone_more (length bytes) h.document (drop end bytes) some ∙ ap (λ (k : ℕ). Err (trailing k)) len)

pub document_bad : (bytes : List ℕ) (f : FileFault) → AreBytes bytes → (document_of bytes ≡ Err f) ↔ IsFileFault bytes f
unfolding document_of
document_bad bytes f fits = (λ e. file_bad bytes (read_at 0 bytes) f fits refl e, fault_again bytes f)

-- ---- one reading

read_of : (a b : Document × List ℕ) → (let f : Document × List ℕ → Read = λ x. Ok x in f a ≡ f b) → a ≡ b
read_of a b e = cc

pub one_at_a_place : (bytes : List ℕ) (at : ℕ) (d e : Document) (m n : ℕ) → IsSpelledAt bytes at d m → IsSpelledAt bytes at e n → (d ≡ e) × (m ≡ n)
one_at_a_place bytes at d e m n h k =
    let s = read_of (d, drop m bytes) (e, drop n bytes) (sym (read_again at bytes d m h) ∙ read_again at bytes e n k) in
    let same : d ≡ e = ap (λ (p : Document × List ℕ). p.0) s in
    (same, sym h.len ∙ ap (λ (x : Document). at + length (spelling x)) same ∙ k.len)

pub one_prefix : (d e : Document) (rest : List ℕ) → IsDoc d → IsShort d → IsDoc e → IsShort e → spelling d ≡ spelling e ++ rest → d ≡ e
one_prefix d e rest pd sd pe se h =
    let bytes : List ℕ = spelling d in
    let size : length (spelling d) ≡ length (spelling e) + length rest = ap length h ∙ length-append (spelling e) rest in
    let whole = whole_spelled (spelling d) d (record { proper = pd; short = sd; parts = refl }) in
    let front : IsSpelledAt (spelling d) 0 e (length (spelling e)) = record {
      proper = pe;
      short = se;
      within = omega (arith, size);
      parts = h ∙ ap (λ (l : List ℕ). spelling e ++ l) (behind (spelling d) 0 (length (spelling e)) (spelling e) rest (omega arith) h (omega arith));
      len = omega arith;
    } in
    (one_at_a_place (spelling d) 0 d e (length (spelling d)) (length (spelling e)) whole front).0

-- ---- reading on from record to record

joined-append : (a b : List Document) → joined (a ++ b) ≡ joined a ++ joined b
joined-append [] b = refl
joined-append (d ∷ ds) b = ap (λ (l : List ℕ). spelling d ++ l) (joined-append ds b) ∙ sym (append_assoc (spelling d) (joined ds) (joined b))

AreShort-append : (a : List Document) (d : Document) → AreShort a → IsDoc d → IsShort d → AreShort (a ++ d ∷ [])
AreShort-append [] d s p q = (p, q, tt)
AreShort-append (x ∷ xs) d s p q = (s.0, s.1, AreShort-append xs d s.2 p q)

pub read_none : (file : List ℕ) → IsReadTo file [] 0
read_none file = record { short = tt; place = refl; parts = refl }

pub read_more : (file : List ℕ) (before : List Document) (at : ℕ) (d : Document) (end : ℕ) → IsReadTo file before at → IsSpelledAt file at d end → IsReadTo file (before ++ d ∷ []) end
read_more file before at d end h s =
    let all : joined (before ++ d ∷ []) ≡ joined before ++ spelling d = joined-append before (d ∷ []) ∙ ap (λ (l : List ℕ). joined before ++ l) (append-nil (spelling d)) in
    record {
      short = AreShort-append before d h.short s.proper s.short;
      place = omega (arith, ap length all, length-append (joined before) (spelling d), h.place, s.len);
      parts = ap (λ (l : List ℕ). l ++ drop end file) all ∙ append_assoc (joined before) (spelling d) (drop end file) ∙ ap (λ (l : List ℕ). joined before ++ l) (sym s.parts) ∙ h.parts;
    }

pub read_all : (file : List ℕ) (before : List Document) (at : ℕ) → IsReadTo file before at → length file ≤ at → records file ≡ Ok before
read_all file before at h le =
    let none : drop at file ≡ [] = nil_from_length (drop at file) (omega (arith, length-drop at file)) in
    good_again file before (record { short = h.short; parts = sym (append-nil (joined before)) ∙ ap (λ (l : List ℕ). joined before ++ l) (sym none) ∙ h.parts })

pub read_bad : (file : List ℕ) (before : List Document) (at : ℕ) (b : BadBson) → IsReadTo file before at → at < length file → read_at at file ≡ Err b → records file ≡ Err (record { number = length before + 1; start = at; fault = b })
read_bad file before at b h lt e =
    bad_again file (record { number = length before + 1; start = at; fault = b }) (record {
      before = before;
      short = h.short;
      number = refl;
      start = h.place;
      parts = h.parts;
      more = lt;
      none = none_spelled at file b e;
      fault = e;
    })

ok_behind : (before : List Document) (q : Answer) (ds : List Document) → after_all before q ≡ Ok ds → (rest : List Document) × (before ++ rest ≡ ds)
unfolding after_all
ok_behind [] q ds e = (ds, refl)
ok_behind (d ∷ before) q ds e =
    let a = after_ok d (after_all before q) ds e in
    let r = ok_behind before q a.0 a.1 in
    (r.0, ap (λ (l : List Document). d ∷ l) r.1 ∙ a.2)

-- what was read stands at the front of all records
pub read_front : (file : List ℕ) (before : List Document) (at : ℕ) (ds : List Document) → IsReadTo file before at → records file ≡ Ok ds → (rest : List Document) × (before ++ rest ≡ ds)
unfolding records
read_front file before at ds h e =
    let sizes : length (joined before) + length (drop at file) ≡ length file = sym (length-append (joined before) (drop at file)) ∙ ap length h.parts in
    let le : length before ≤ at = omega (arith, count_joined before, h.place) in
    let within : at ≤ length file = omega (arith, sizes, h.place) in
    let behind_all = records_behind (length file) (length file - length before) 1 (1 + length before) 0 at file before h.short (omega arith) refl (omega (arith, h.place)) within (sym h.parts) in
    ok_behind before (records_from (length file - length before) (1 + length before) at file) ds (sym behind_all ∙ e)
