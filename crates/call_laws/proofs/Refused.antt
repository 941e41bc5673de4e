-- Each refusal of the verdict has its cause, and each cause its refusal.
use Rattle.std.proofs.Common.{◌≡◌, ◌↔◌, ◌⊎◌, ℕ, Bool, true, false, List, None, Result, Ok, Err, inl, inr, refl, sym, ap, subst, ◌∙◌}
use Rattle.bson_value.specs.declared.errors.Failure.{Failure}
use Rattle.chunk_map.specs.Owned.{collection_named}
use Rattle.chunk_map.specs.declared.errors.BadCluster.{BadCluster}
use Rattle.mq_ports.specs.World.{Held, file_of}
use Rattle.orphan_filter.specs.Survey.{files_in, surveyed}
use Rattle.orphan_filter.specs.declared.errors.BadShard.{BadShard}
use Rattle.orphan_filter.specs.declared.errors.SurveyError.{SurveyError}
use Rattle.orphan_filter.specs.declared.errors.SurveyError.TheVariants as E
use Rattle.stage_tree.specs.Outcome.{World}
use Rattle.stage_tree.specs.declared.command.BadCommand.{BadCommand}
use Rattle.stage_chain.specs.Chain.{is_built}
use Rattle.aggregate_command.specs.declared.request.Request.{Request}
use Rattle.aggregate_command.specs.declared.status.Status.{Status}
use Rattle.aggregate_command.specs.declared.status.Status.TheVariants as S
use Rattle.aggregate_command.specs.Request.{request, requested}
use Rattle.aggregate_command.specs.Run.{Command, world_of, results}
use Rattle.aggregate_command.specs.Verdict.{file_in, table_at, command_at, good_survey, surveyed_if, good_results, written_if, run_over, run_command, run_request, verdict}
use Rattle.aggregate_command.proofs.Meanings.{ReadsCommands, cluster_ok, command_ok}
use Rattle.call_laws.specs.Refusals.{HaveNoReading, AskForUnbuilt, AskFor, HaveCluster, HaveCommand, HaveCollection, HaveUnbuiltStage, AskForFile, as_cluster, as_command, IsLongFile, HaveBadCluster, HaveBadCommand, HaveBadFiles, IsRefusal}
use Rattle.call_laws.proofs.Sequel.{either_step, stops, goes_on, same_refusal}
use Rattle.call_laws.proofs.Asked.{ReadsModes, WordsRefused, asked_for, asks, words_refused, no_reading, unbuilt_mode}
use Rattle.call_laws.proofs.Files.{ClusterRefused, cluster_refused, no_file, long_file, bad_cluster, no_cluster, cluster_is}
use Rattle.call_laws.proofs.Commands.{RefusesCommands, CommandRefused, command_refused, no_command, bad_command, unbuilt_command, command_is}
use Rattle.call_laws.proofs.CollectionFiles.{SurveyRefused, files_refused, bad_files}

-- the cause of a refusal
abbrev pub Cause : List (List ℕ) → Held → Status → Type 0
Cause words held S.Usage = HaveNoReading words
Cause words held S.NotBuilt = AskForUnbuilt words ⊎ HaveUnbuiltStage words held
Cause words held (S.BadCommand b) = HaveBadCommand words held b
Cause words held (S.BadCluster b) = HaveBadCluster words held b
Cause words held (S.BadShard b) = HaveBadFiles words held (E.Bad b)
Cause words held (S.NoFile name) = (AskForFile words held name × (file_of name held ≡ None)) ⊎ HaveBadFiles words held (E.NoFile name)
Cause words held (S.FileTooLong name len) = (AskForFile words held name × IsLongFile held name len) ⊎ HaveBadFiles words held (E.FileTooLong name len)
Cause words held (S.EvalError f) = Unit {0}
Cause words held s = ⊥

-- ---- each step's refusals

by_words : (words : List (List ℕ)) (held : Held) (s : Status) → WordsRefused words s → Cause words held s
by_words words held S.Usage w = w
by_words words held S.NotBuilt w = inl w
by_words words held s w = absurd w

-- a file that words and files ask for
file_asked : (words : List (List ℕ)) (held : Held) (name asked : List ℕ) (P : List ℕ → Type 0) → AskForFile words held name → name ≡ asked → P name → AskForFile words held asked × P asked
file_asked words held name asked P a same p = (subst (AskForFile words held) same a, subst P same p)

by_cluster : (words : List (List ℕ)) (held : Held) (cluster command : List ℕ) (s : Status) → AskFor words cluster command → ClusterRefused held cluster s → Cause words held s
by_cluster words held cluster command (S.BadCluster b) a r = record { cluster_name = cluster; command_name = command; asked = a; bytes = r.0; file = r.1; refused = r.2 }
by_cluster words held cluster command (S.NoFile name) a r = inl (file_asked words held cluster name (λ n. file_of n held ≡ None) (as_cluster command a) r.0 r.1)
by_cluster words held cluster command (S.FileTooLong name len) a r = inl (file_asked words held cluster name (λ n. IsLongFile held n len) (as_cluster command a) r.0 r.1)
by_cluster words held cluster command s a r = absurd r

by_command : (words : List (List ℕ)) (held : Held) (c : HaveCluster words held) (s : Status) → CommandRefused held c.command_name s → Cause words held s
by_command words held c (S.BadCommand b) r = record { cluster = c; bytes = r.0; file = r.1; refused = r.2 }
by_command words held c S.NotBuilt r = inr (record { asked = record { cluster = c; command = r.0; spelled = r.1 }; unbuilt = r.2 })
by_command words held c (S.NoFile name) r = inl (file_asked words held c.command_name name (λ n. file_of n held ≡ None) (as_command c refl) r.0 r.1)
by_command words held c (S.FileTooLong name len) r = inl (file_asked words held c.command_name name (λ n. IsLongFile held n len) (as_command c refl) r.0 r.1)
by_command words held c s r = absurd r

by_survey : (words : List (List ℕ)) (held : Held) (c : HaveCollection words held) (s : Status) → SurveyRefused held c.collection s → Cause words held s
by_survey words held c (S.BadShard b) r = record { found = c; refused = r }
by_survey words held c (S.NoFile name) r = inr (record { found = c; refused = r })
by_survey words held c (S.FileTooLong name len) r = inr (record { found = c; refused = r })
by_survey words held c s r = absurd r

results_refused : (words : List (List ℕ)) (held : Held) (r : Result (List ℕ) Failure) (s : Status) → good_results r ≡ Err s → Cause words held s
results_refused words held (Ok bytes) s e = absurd cc
results_refused words held (Err f) s e = subst (Cause words held) (same_refusal (S.EvalError f) s e) tt

by_run : (words : List (List ℕ)) (held : Held) (runs : Bool) (command : Command) (world : World) (s : Status) → written_if runs command world ≡ Err s → Cause words held s
by_run words held true command world s e = results_refused words held (results command world) s e
by_run words held false command world s e = absurd cc

caused : (words : List (List ℕ)) (held : Held) (s : Status) → Cause words held s → IsRefusal s
caused words held S.Usage c = tt
caused words held S.NotBuilt c = tt
caused words held (S.BadCommand b) c = tt
caused words held (S.BadCluster b) c = tt
caused words held (S.BadShard b) c = tt
caused words held (S.NoFile name) c = tt
caused words held (S.FileTooLong name len) c = tt
caused words held (S.EvalError f) c = tt
caused words held s c = absurd c

-- ---- the whole

module _ (modes : ReadsModes) (good : ReadsCommands) (bad : RefusesCommands) (words : List (List ℕ)) (held : Held) where
  over_refused : (c : HaveCommand words held) (runs : Bool) (s : Status) → is_built c.command.1 ≡ true → run_over (files_in held) c.cluster.collections runs c.command ≡ Err s → Cause words held s
  over_refused c runs s built e =
      elim (either_step (surveyed_if (files_in held) (collection_named c.command.0 c.cluster.collections)) (λ good. written_if runs c.command (world_of (files_in held) c.cluster.collections)) s e) [
        | inl h ↦
            let f = files_refused held (collection_named c.command.0 c.cluster.collections) s h in
            by_survey words held (record { asked = c; built = built; collection = f.collection; named = f.named }) s f.refused
        | inr n ↦ by_run words held runs c.command (world_of (files_in held) c.cluster.collections) s n.later
      ]

  command_step : (c : HaveCluster words held) (r : Request) (s : Status) → r.command ≡ c.command_name → run_command held r c.collections ≡ Err s → Cause words held s
  command_step c r s same e =
      elim (either_step (command_at held r.command) (λ command. run_over (files_in held) c.collections r.runs command) s e) [
        | inl h ↦ by_command words held c s (command_refused good bad held c.command_name s (ap (command_at held) (sym same) ∙ h))
        | inr n ↦
            let read = command_ok good held c.command_name n.value (ap (command_at held) (sym same) ∙ n.first) in
            over_refused (record { cluster = c; command = n.value; spelled = read.file }) r.runs s read.built n.later
      ]

  request_refused : (r : Request) (s : Status) → AskFor words r.cluster r.command → run_request held r ≡ Err s → Cause words held s
  request_refused r s asked e =
      elim (either_step (table_at held r.cluster) (λ collections. run_command held r collections) s e) [
        | inl h ↦ by_cluster words held r.cluster r.command s asked (cluster_refused held r.cluster s h)
        | inr n ↦
            command_step (record { cluster_name = r.cluster; command_name = r.command; asked = asked; collections = n.value; spelled = cluster_ok held r.cluster n.value n.first }) r s refl n.later
      ]

  cause : (s : Status) → verdict words held ≡ Err s → Cause words held s
  cause s e =
      elim (either_step (requested words) (λ request. run_request held request) s e) [
        | inl h ↦ by_words words held s (words_refused modes words s h)
        | inr n ↦ request_refused n.value s (asked_for modes words n.value n.first) n.later
      ]

  pub only_refusals : (s : Status) → verdict words held ≡ Err s → IsRefusal s
  only_refusals s e = caused words held s (cause s e)

  -- ---- from the causes

  pub refused_words : (s : Status) → requested words ≡ Err s → verdict words held ≡ Err s
  refused_words s e = stops (requested words) (λ request. run_request held request) s e

  at_request : (cluster command : List ℕ) → AskFor words cluster command → (runs : Bool) × (verdict words held ≡ run_request held (request cluster command runs))
  at_request cluster command a =
      let r = asks modes words cluster command a in
      (r.0, goes_on (requested words) (λ request. run_request held request) (request cluster command r.0) r.1)

  pub refused_cluster : (cluster command : List ℕ) (s : Status) → AskFor words cluster command → table_at held cluster ≡ Err s → verdict words held ≡ Err s
  refused_cluster cluster command s a e =
      let r = at_request cluster command a in
      r.1 ∙ stops (table_at held cluster) (λ collections. run_command held (request cluster command r.0) collections) s e

  at_command : (c : HaveCluster words held) → (runs : Bool) × (verdict words held ≡ run_command held (request c.cluster_name c.command_name runs) c.collections)
  at_command c =
      let r = at_request c.cluster_name c.command_name c.asked in
      (r.0, r.1 ∙ goes_on (table_at held c.cluster_name) (λ collections. run_command held (request c.cluster_name c.command_name r.0) collections) c.collections (cluster_is held c.cluster_name c.collections c.spelled))

  pub refused_command : (c : HaveCluster words held) (s : Status) → command_at held c.command_name ≡ Err s → verdict words held ≡ Err s
  refused_command c s e =
      let r = at_command c in
      r.1 ∙ stops (command_at held c.command_name) (λ command. run_over (files_in held) c.collections r.0 command) s e

  pub refused_files : (c : HaveCollection words held) (refusal : SurveyError) (s : Status) → surveyed (files_in held) c.collection ≡ Err refusal → good_survey (Err refusal) ≡ Err s → verdict words held ≡ Err s
  refused_files c refusal s e same =
      let r = at_command c.asked.cluster in
      r.1
      ∙ goes_on (command_at held c.asked.cluster.command_name) (λ command. run_over (files_in held) c.asked.cluster.collections r.0 command) c.asked.command (command_is good bad held c.asked.cluster.command_name c.asked.command c.asked.spelled c.built)
      ∙ stops (surveyed_if (files_in held) (collection_named c.asked.command.0 c.asked.cluster.collections)) (λ good. written_if r.0 c.asked.command (world_of (files_in held) c.asked.cluster.collections)) s
      (bad_files held (collection_named c.asked.command.0 c.asked.cluster.collections) c.collection refusal c.named e ∙ same)

  asked_file : (name : List ℕ) (s : Status) → AskForFile words held name → file_in held name ≡ Err s → verdict words held ≡ Err s
  asked_file name s (as_cluster command a) e = refused_cluster name command s a (no_cluster held name s e)
  asked_file name s (as_command c same) e = refused_command c s (no_command good bad held c.command_name s (ap (file_in held) same ∙ e))

  -- ---- each status

  pub usage_is : (verdict words held ≡ Err S.Usage) ↔ HaveNoReading words
  usage_is = (cause S.Usage, λ none. refused_words S.Usage (no_reading modes words none))

  not_built_from : AskForUnbuilt words ⊎ HaveUnbuiltStage words held → verdict words held ≡ Err S.NotBuilt
  not_built_from (inl a) = refused_words S.NotBuilt (unbuilt_mode modes words a)
  not_built_from (inr u) = refused_command u.asked.cluster S.NotBuilt (unbuilt_command good bad held u.asked.cluster.command_name u.asked.command u.asked.spelled u.unbuilt)

  pub not_built_is : (verdict words held ≡ Err S.NotBuilt) ↔ (AskForUnbuilt words ⊎ HaveUnbuiltStage words held)
  not_built_is = (cause S.NotBuilt, not_built_from)

  pub bad_command_is : (b : BadCommand) → (verdict words held ≡ Err (S.BadCommand b)) ↔ HaveBadCommand words held b
  bad_command_is b = (cause (S.BadCommand b), λ h. refused_command h.cluster (S.BadCommand b) (bad_command good bad held h.cluster.command_name h.bytes b h.file h.refused))

  pub bad_cluster_is : (b : BadCluster) → (verdict words held ≡ Err (S.BadCluster b)) ↔ HaveBadCluster words held b
  bad_cluster_is b = (cause (S.BadCluster b), λ h. refused_cluster h.cluster_name h.command_name (S.BadCluster b) h.asked (bad_cluster held h.cluster_name h.bytes b h.file h.refused))

  pub bad_shard_is : (b : BadShard) → (verdict words held ≡ Err (S.BadShard b)) ↔ HaveBadFiles words held (E.Bad b)
  bad_shard_is b = (cause (S.BadShard b), λ h. refused_files h.found (E.Bad b) (S.BadShard b) h.refused refl)

  no_file_from : (name : List ℕ) → (AskForFile words held name × (file_of name held ≡ None)) ⊎ HaveBadFiles words held (E.NoFile name) → verdict words held ≡ Err (S.NoFile name)
  no_file_from name (inl a) = asked_file name (S.NoFile name) a.0 (no_file held name a.1)
  no_file_from name (inr h) = refused_files h.found (E.NoFile name) (S.NoFile name) h.refused refl

  pub no_file_is : (name : List ℕ) → (verdict words held ≡ Err (S.NoFile name)) ↔ ((AskForFile words held name × (file_of name held ≡ None)) ⊎ HaveBadFiles words held (E.NoFile name))
  no_file_is name = (cause (S.NoFile name), no_file_from name)

  too_long_from : (name : List ℕ) (len : ℕ) → (AskForFile words held name × IsLongFile held name len) ⊎ HaveBadFiles words held (E.FileTooLong name len) → verdict words held ≡ Err (S.FileTooLong name len)
  too_long_from name len (inl a) = asked_file name (S.FileTooLong name len) a.0 (long_file held name len a.1)
  too_long_from name len (inr h) = refused_files h.found (E.FileTooLong name len) (S.FileTooLong name len) h.refused refl

  pub too_long_is : (name : List ℕ) (len : ℕ) → (verdict words held ≡ Err (S.FileTooLong name len)) ↔ ((AskForFile words held name × IsLongFile held name len) ⊎ HaveBadFiles words held (E.FileTooLong name len))
  too_long_is name len = (cause (S.FileTooLong name len), too_long_from name len)
