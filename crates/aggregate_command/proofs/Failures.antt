-- The verdict is that a stage fails exactly where the words and the files mean it.
use Rattle.std.proofs.Common.{◌≡◌, ◌↔◌, ℕ, Bool, true, false, cond, List, Option, Some, None, Result, Ok, Err, refl, sym, ap, ◌∙◌}
use Rattle.std.specs.Prelude.{nat_le, length}
use Rattle.bson_value.specs.declared.errors.Failure.{Failure}
use Rattle.bson_codec.specs.Records.{Document, FileFault, document_of}
use Rattle.chunk_map.specs.Table.{CollectionRow, Table}
use Rattle.chunk_map.specs.Form.{table}
use Rattle.chunk_map.specs.Owned.{collection_named}
use Rattle.chunk_map.specs.declared.errors.BadCluster.{BadCluster}
use Rattle.command_words.specs.declared.mode.Mode.{Mode}
use Rattle.command_words.specs.declared.mode.Mode.TheVariants.{Run, Explain, Check, Make, Work}
use Rattle.command_words.specs.Words.{mode_of}
use Rattle.mq_ports.specs.World.{Held, file_of}
use Rattle.orphan_filter.specs.Survey.{files_in, surveyed}
use Rattle.orphan_filter.specs.declared.errors.SurveyError.{SurveyError}
use Rattle.orphan_filter.specs.declared.errors.SurveyError.TheVariants as E
use Rattle.stage_tree.specs.declared.command.BadCommand.{BadCommand}
use Rattle.stage_tree.specs.Outcome.{World}
use Rattle.stage_read.specs.Commands.{command_read}
use Rattle.stage_chain.specs.Chain.{is_built}
use Rattle.aggregate_command.specs.declared.request.Request.{Request}
use Rattle.aggregate_command.specs.declared.status.Status.{Status}
use Rattle.aggregate_command.specs.declared.status.Status.TheVariants.{NotBuilt, FileTooLong, EvalError}
use Rattle.aggregate_command.specs.Status.{Step, ◌>>=◌}
use Rattle.aggregate_command.specs.Request.{request, request_in, requested}
use Rattle.aggregate_command.specs.Run.{Command, world_of, results}
use Rattle.aggregate_command.specs.Verdict.{longest, short_file, file_in, good_table, table_at, good_document, document_at, good_command, built, command_at, good_survey, surveyed_if, good_results, written_if, run_over, run_command, run_request, verdict}
use Rattle.aggregate_command.specs.Meaning.{Fails}
use Rattle.aggregate_command.proofs.Meanings.{ReadsCommands, comes_to, made, are_good, requested_is}

-- ---- a step after which another comes

record Next {A B : Type 0} (step : Step A) (next : A → Step B) (s : Status) : Type 0 where
  value : A
  first : step ≡ Ok value
  later : next value ≡ Err s

-- a refusal that the first step doesn't give comes of the next one
then_err : {A B : Type 0} (step : Step A) (next : A → Step B) (s : Status) → ¬ (step ≡ Err s) → (step >>= next) ≡ Err s → Next step next s
then_err (Ok x) next s never e = record { value = x; first = refl; later = e }
then_err (Err r) next s never e = absurd (never cc)

both_never : {A B : Type 0} (step : Step A) (next : A → Step B) (s : Status) → ¬ (step ≡ Err s) → ((x : A) → ¬ (next x ≡ Err s)) → ¬ ((step >>= next) ≡ Err s)
both_never (Ok x) next s first later e = later x e
both_never (Err r) next s first later e = first cc

-- ---- the steps before the run give no evaluation error

stats_never : (b : Bool) (r : Request) (f : Failure) → ¬ (cond b (Err NotBuilt) (Ok r) ≡ Err (EvalError f))
stats_never true r f e = absurd cc
stats_never false r f e = absurd cc

asked_never : (mode : Option Mode) (f : Failure) → ¬ (request_in mode ≡ Err (EvalError f))
asked_never None f e = absurd cc
asked_never (Some (Run a b o)) f e = stats_never o.stats (request a b true) f e
asked_never (Some (Explain a b)) f e = absurd cc
asked_never (Some (Check a b)) f e = absurd cc
asked_never (Some (Make part number count)) f e = absurd cc
asked_never (Some (Work number count o)) f e = absurd cc

words_never : (words : List (List ℕ)) (f : Failure) → ¬ (requested words ≡ Err (EvalError f))
words_never words f e = asked_never (mode_of words) f (sym (requested_is words) ∙ e)

len_never : (b : Bool) (bytes name : List ℕ) (n : ℕ) (f : Failure) → ¬ (cond b (Ok bytes) (Err (FileTooLong name n)) ≡ Err (EvalError f))
len_never true bytes name n f e = absurd cc
len_never false bytes name n f e = absurd cc

short_never : (name : List ℕ) (file : Option (List ℕ)) (f : Failure) → ¬ (short_file name file ≡ Err (EvalError f))
short_never name None f e = absurd cc
short_never name (Some bytes) f e = len_never (nat_le (length bytes) longest) bytes name (length bytes) f e

table_never : (r : Result Table BadCluster) (f : Failure) → ¬ (good_table r ≡ Err (EvalError f))
table_never (Ok t) f e = absurd cc
table_never (Err b) f e = absurd cc

cluster_never : (held : Held) (name : List ℕ) (f : Failure) → ¬ (table_at held name ≡ Err (EvalError f))
cluster_never held name f =
    both_never (file_in held name) (λ bytes. good_table (table bytes)) (EvalError f) (short_never name (file_of name held) f) (λ bytes. table_never (table bytes) f)

fields_never : (r : Result Document FileFault) (f : Failure) → ¬ (good_document r ≡ Err (EvalError f))
fields_never (Ok d) f e = absurd cc
fields_never (Err b) f e = absurd cc

read_never : (r : Result Command BadCommand) (f : Failure) → ¬ (good_command r ≡ Err (EvalError f))
read_never (Ok c) f e = absurd cc
read_never (Err b) f e = absurd cc

if_never : (b : Bool) (c : Command) (f : Failure) → ¬ (cond b (Ok c) (Err NotBuilt) ≡ Err (EvalError f))
if_never true c f e = absurd cc
if_never false c f e = absurd cc

document_never : (held : Held) (name : List ℕ) (f : Failure) → ¬ (document_at held name ≡ Err (EvalError f))
document_never held name f =
    both_never (file_in held name) (λ bytes. good_document (document_of bytes)) (EvalError f) (short_never name (file_of name held) f) (λ bytes. fields_never (document_of bytes) f)

command_never : (held : Held) (name : List ℕ) (f : Failure) → ¬ (command_at held name ≡ Err (EvalError f))
command_never held name f =
    both_never (document_at held name) (λ fields. good_command (command_read fields) >>= built) (EvalError f) (document_never held name f)
    (λ fields. both_never (good_command (command_read fields)) built (EvalError f) (read_never (command_read fields) f) (λ c. if_never (is_built c.1) c f))

survey_never : (r : Result (Unit {0}) SurveyError) (f : Failure) → ¬ (good_survey r ≡ Err (EvalError f))
survey_never (Ok x) f e = absurd cc
survey_never (Err (E.Bad b)) f e = absurd cc
survey_never (Err (E.NoFile name)) f e = absurd cc
survey_never (Err (E.FileTooLong name n)) f e = absurd cc
survey_never (Err E.ReadFault) f e = absurd cc
survey_never (Err E.Damage) f e = absurd cc
survey_never (Err E.Memory) f e = absurd cc

files_never : (held : Held) (c : Option CollectionRow) (f : Failure) → ¬ (surveyed_if (files_in held) c ≡ Err (EvalError f))
files_never held None f e = absurd cc
files_never held (Some c) f e = survey_never (surveyed (files_in held) c) f e

-- ---- the run

results_err : (r : Result (List ℕ) Failure) (f : Failure) → good_results r ≡ Err (EvalError f) → r ≡ Err f
results_err (Ok bytes) f e = absurd cc
results_err (Err g) f e = cc

written_err : (runs : Bool) (command : Command) (world : World) (f : Failure) → written_if runs command world ≡ Err (EvalError f) → (runs ≡ true) × (results command world ≡ Err f)
written_err true command world f e = (refl, results_err (results command world) f e)
written_err false command world f e = absurd cc

fails_ok : ReadsCommands → (words : List (List ℕ)) (held : Held) (f : Failure) → verdict words held ≡ Err (EvalError f) → Fails words held f
fails_ok law words held f e =
    let r = then_err (requested words) (λ request. run_request held request) (EvalError f) (words_never words f) e in
    let k = then_err (table_at held r.value.cluster) (λ collections. run_command held r.value collections) (EvalError f) (cluster_never held r.value.cluster f) r.later in
    let c = then_err (command_at held r.value.command) (λ command. run_over (files_in held) k.value r.value.runs command) (EvalError f) (command_never held r.value.command f) k.later in
    let row : Option CollectionRow = collection_named c.value.0 k.value in
    let s = then_err (surveyed_if (files_in held) row) (λ good. written_if r.value.runs c.value (world_of (files_in held) k.value)) (EvalError f) (files_never held row f) c.later in
    let w = written_err r.value.runs c.value (world_of (files_in held) k.value) f s.later in
    record {
      come = made law words held r.value k.value c.value r.first k.first c.first (are_good held row s.value s.first);
      runs = w.0;
      fails = w.1;
    }

fails_from : ReadsCommands → (words : List (List ℕ)) (held : Held) (f : Failure) → Fails words held f → verdict words held ≡ Err (EvalError f)
fails_from law words held f w =
    let world : World = world_of (files_in held) w.come.collections in
    comes_to law words held w.come ∙ ap (λ runs. written_if runs w.come.command world) w.runs ∙ ap good_results w.fails

pub fails_exactly : ReadsCommands → (words : List (List ℕ)) (held : Held) (f : Failure) → (verdict words held ≡ Err (EvalError f)) ↔ Fails words held f
fails_exactly law words held f = (fails_ok law words held f, fails_from law words held f)
