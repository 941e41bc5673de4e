-- The verdict on a collection: that on the file of one shard after another.
use Rattle.std.proofs.Common.{◌≡◌, List, [], ◌∷◌, ◌++◌, refl, sym, ap, ◌∙◌, inl, inr}
use Rattle.std.specs.Prelude.{◌⊎◌, Ok, Err}
use Rattle.std.specs.List.{All, AllByRecursion}
use Rattle.std.proofs.lemmas.List.Elements.{All-from_recursion, recursion_from_All}
use Rattle.chunk_map.specs.Owned.{Files}
use Rattle.chunk_map.specs.Table.{ShardRow, CollectionRow}
use Rattle.orphan_filter.specs.Survey.{Verdict, file_verdict, verdict_then, shards_verdict, surveyed}
use Rattle.orphan_filter.specs.declared.errors.SurveyError.{SurveyError}
use Rattle.stage_laws.specs.Surveys.{IsGood, AreFiles, IsFirstRefused}
use Rattle.stage_laws.proofs.Refusals.{good_gives, refused_gives, file_good, file_refused}

then_good : (a b : Verdict) → verdict_then a b ≡ Ok tt → (a ≡ Ok tt) × (b ≡ Ok tt)
then_good (Ok x) b e = (refl, e)
then_good (Err d) b e = absurd cc

then_refused : (a b : Verdict) (e : SurveyError) → verdict_then a b ≡ Err e → (a ≡ Err e) ⊎ ((a ≡ Ok tt) × (b ≡ Err e))
then_refused (Ok x) b e h = inr (refl, h)
then_refused (Err d) b e h = inl h

module _ (files : Files) (c : CollectionRow) (fits : AreFiles files) where
  abbrev good : ShardRow → Type 0
  good s = IsGood c.key_paths (files s.file)

  abbrev own : ShardRow → Verdict
  own s = file_verdict c s (files s.file)

  passes : (s : ShardRow) (ss : List ShardRow) → good s → shards_verdict files c (s ∷ ss) ≡ shards_verdict files c ss
  passes s ss h = ap (λ (v : Verdict). verdict_then v (shards_verdict files c ss)) (good_gives c s (files s.file) (fits s.file) h)

  all_good : (ss : List ShardRow) → AllByRecursion good ss → shards_verdict files c ss ≡ Ok tt
  all_good [] h = refl
  all_good (s ∷ ss) h = passes s ss h.0 ∙ all_good ss h.1

  good_all : (ss : List ShardRow) → shards_verdict files c ss ≡ Ok tt → AllByRecursion good ss
  good_all [] e = tt
  good_all (s ∷ ss) e =
      let r = then_good (own s) (shards_verdict files c ss) e in
      (file_good c s (files s.file) (fits s.file) r.0, good_all ss r.1)

  refused_at : (front : List ShardRow) (s : ShardRow) (back : List ShardRow) (e : SurveyError) → AllByRecursion good front → own s ≡ Err e → shards_verdict files c (front ++ s ∷ back) ≡ Err e
  refused_at [] s back e h r = ap (λ (v : Verdict). verdict_then v (shards_verdict files c back)) r
  refused_at (x ∷ front) s back e h r = passes x (front ++ s ∷ back) h.0 ∙ refused_at front s back e h.1 r

  first_refused : (ss : List ShardRow) (e : SurveyError) → shards_verdict files c ss ≡ Err e → (front : List ShardRow) × (s : ShardRow) × (back : List ShardRow) × (front ++ s ∷ back ≡ ss) × AllByRecursion good front × (own s ≡ Err e)
  first_refused [] e h = absurd cc
  first_refused (s ∷ ss) e h =
      elim (then_refused (own s) (shards_verdict files c ss) e h) [
        | inl r ↦ ([], s, ss, refl, tt, r)
        | inr r ↦
            let f = first_refused ss e r.1 in
            (s ∷ f.0, f.1, f.2, ap (λ (l : List ShardRow). s ∷ l) f.3, (file_good c s (files s.file) (fits s.file) r.0, f.4), f.5)
      ]

  pub found_good : All good c.shards → surveyed files c ≡ Ok tt
  unfolding surveyed
  found_good h = all_good c.shards (recursion_from_All good c.shards h)

  pub good_found : surveyed files c ≡ Ok tt → All good c.shards
  unfolding surveyed
  good_found e = All-from_recursion good c.shards (good_all c.shards e)

  pub found_refused : (e : SurveyError) → IsFirstRefused files c e → surveyed files c ≡ Err e
  unfolding surveyed
  found_refused e h =
      ap (shards_verdict files c) (sym h.split)
      ∙ refused_at h.front h.shard h.back e (recursion_from_All good h.front h.good) (refused_gives c h.shard (files h.shard.file) e (fits h.shard.file) h.refused)

  pub refused_found : (e : SurveyError) → surveyed files c ≡ Err e → IsFirstRefused files c e
  unfolding surveyed
  refused_found e h =
      let r = first_refused c.shards e h in
      record {
        front = r.0;
        shard = r.1;
        back = r.2;
        split = r.3;
        good = All-from_recursion good r.0 r.4;
        refused = file_refused c r.1 (files r.1.file) e (fits r.1.file) r.5;
      }
