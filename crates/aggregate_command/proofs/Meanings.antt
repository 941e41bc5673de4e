-- The verdict is to write exactly what the words and the files mean.
use Rattle.std.proofs.Common.{◌≡◌, ◌≤◌, ◌↔◌, ℕ, Bool, true, false, cond, List, [], length, Option, Some, None, Result, Ok, Err, inl, inr, refl, sym, ap, subst, ◌∙◌, arith}
use Rattle.std.specs.Prelude.{nat_le}
use Rattle.std.proofs.lemmas.Bool.{leb-true, le-leb}
use Rattle.bson_codec.specs.Records.{Document, FileFault, document_of}
use Rattle.chunk_map.specs.Table.{CollectionRow, Table}
use Rattle.chunk_map.specs.Form.{table}
use Rattle.chunk_map.specs.Owned.{collection_named}
use Rattle.chunk_map.specs.declared.errors.BadCluster.{BadCluster}
use Rattle.chunk_map.proofs.Tables.{good_tables}
use Rattle.command_words.specs.declared.mode.Mode.{Mode}
use Rattle.command_words.specs.declared.mode.Mode.TheVariants.{Run, Explain, Check, Make, Work}
use Rattle.command_words.specs.declared.run_options.RunOptions.{RunOptions}
use Rattle.command_words.specs.Words.{mode_of}
use Rattle.mq_ports.specs.World.{Held, file_of}
use Rattle.orphan_filter.specs.Survey.{files_in, surveyed}
use Rattle.orphan_filter.specs.declared.errors.SurveyError.{SurveyError}
use Rattle.aggregate_command.specs.declared.request.Request.{Request}
use Rattle.aggregate_command.specs.declared.status.Status.{Status}
use Rattle.aggregate_command.specs.Status.{Step, ◌>>=◌}
use Rattle.aggregate_command.specs.declared.status.Status.TheVariants.{NotBuilt}
use Rattle.aggregate_command.specs.Request.{request, request_in, requested}
use Rattle.bson_value.specs.declared.errors.Failure.{Failure}
use Rattle.stage_tree.specs.declared.command.BadCommand.{BadCommand}
use Rattle.stage_tree.specs.Outcome.{World}
use Rattle.stage_read.specs.Commands.{command_read}
use Rattle.stage_read.specs.Written.{SpellsCommand}
use Rattle.stage_chain.specs.Chain.{is_built}
use Rattle.aggregate_command.specs.Run.{Command, world_of, results}
use Rattle.aggregate_command.specs.Verdict.{longest, short_file, file_in, good_table, table_at, good_document, document_at, good_command, built, command_at, good_survey, surveyed_if, good_results, written_if, run_over, run_command, run_request, verdict}
use Rattle.aggregate_command.specs.Meaning.{AsksForRun, AsksForCheck, AsksFor, IsFile, IsClusterFile, IsCommandFile, AreGood, IsWritten, Comes, Writes}

then_ok : {A B : Type 0} (step : Step A) (next : A → Step B) (y : B) → (step >>= next) ≡ Ok y → (x : A) × (step ≡ Ok x) × (next x ≡ Ok y)
then_ok (Ok x) next y e = (x, refl, e)
then_ok (Err r) next y e = absurd cc

then_from : {A B : Type 0} (step : Step A) (next : A → Step B) (x : A) (y : B) → step ≡ Ok x → next x ≡ Ok y → (step >>= next) ≡ Ok y
then_from step next x y e f = ap (λ s. s >>= next) e ∙ f

then_same : {A B : Type 0} (step : Step A) (next : A → Step B) (x : A) → step ≡ Ok x → (step >>= next) ≡ next x
then_same step next x e = ap (λ s. s >>= next) e

same_ok : {A : Type 0} (x y : A) → let s : Step A = Ok x in s ≡ Ok y → x ≡ y
same_ok x y e = cc

-- ---- words

run_ok : (stats : Bool) (a b : List ℕ) (o : RunOptions) (r : Request) → o.stats ≡ stats → cond stats (Err NotBuilt) (Ok (request a b true)) ≡ Ok r → AsksForRun (Some (Run a b o)) r
run_ok true a b o r is e = absurd cc
run_ok false a b o r is e =
    let same : request a b true ≡ r = same_ok (request a b true) r e in
    subst (AsksForRun (Some (Run a b o))) same (record { options = o; is = refl; no_stats = is; runs = refl })

pub asked_ok : (mode : Option Mode) (r : Request) → request_in mode ≡ Ok r → AsksFor mode r
asked_ok None r e = absurd cc
asked_ok (Some (Run a b o)) r e = inl (run_ok o.stats a b o r refl e)
asked_ok (Some (Explain a b)) r e = absurd cc
asked_ok (Some (Check a b)) r e =
    let same : request a b false ≡ r = same_ok (request a b false) r e in
    inr (subst (AsksForCheck (Some (Check a b))) same (record { is = refl; runs = refl }))
asked_ok (Some (Make part number count)) r e = absurd cc
asked_ok (Some (Work number count o)) r e = absurd cc

asked_from : (mode : Option Mode) (r : Request) → AsksFor mode r → request_in mode ≡ Ok r
asked_from mode r (inl a) =
    ap request_in a.is
    ∙ ap (λ stats. cond stats (Err NotBuilt) (Ok (request r.cluster r.command true))) a.no_stats
    ∙ ap (λ runs. Ok (request r.cluster r.command runs)) (sym a.runs)
asked_from mode r (inr a) = ap request_in a.is ∙ ap (λ runs. Ok (request r.cluster r.command runs)) (sym a.runs)

pub requested_is : (words : List (List ℕ)) → requested words ≡ request_in (mode_of words)
unfolding requested
requested_is words = refl

-- ---- files

if_ok : {A : Type 0} (b : Bool) (status : Status) (x y : A) → cond b (Ok x) (Err status) ≡ Ok y → (b ≡ true) × (x ≡ y)
if_ok true status x y e = (refl, cc)
if_ok false status x y e = absurd cc

if_from : {A : Type 0} (b : Bool) (status : Status) (x : A) → b ≡ true → cond b (Ok x) (Err status) ≡ Ok x
if_from true status x e = refl
if_from false status x e = absurd cc

short_ok : (name : List ℕ) (file : Option (List ℕ)) (bytes : List ℕ) → short_file name file ≡ Ok bytes → (file ≡ Some bytes) × (length bytes ≤ longest)
short_ok name None bytes e = absurd cc
short_ok name (Some b) bytes e =
    let t = if_ok (nat_le (length b) longest) _ b bytes e in
    let within : length b ≤ longest = leb-true (length b) longest t.0 in
    (ap Some t.1, omega (arith, ap length t.1))

file_ok : (held : Held) (name bytes : List ℕ) → file_in held name ≡ Ok bytes → IsFile held name bytes
file_ok held name bytes e = let s = short_ok name (file_of name held) bytes e in record { contents = s.0; short = s.1 }

file_from : (held : Held) (name bytes : List ℕ) → IsFile held name bytes → file_in held name ≡ Ok bytes
file_from held name bytes file = ap (short_file name) file.contents ∙ if_from (nat_le (length bytes) longest) _ bytes (le-leb (length bytes) longest file.short)

-- ---- the cluster file

table_ok : (r : Result Table BadCluster) (collections : Table) → good_table r ≡ Ok collections → r ≡ Ok collections
table_ok (Ok cs) collections e = cc
table_ok (Err b) collections e = absurd cc

pub cluster_ok : (held : Held) (name : List ℕ) (collections : Table) → table_at held name ≡ Ok collections → IsClusterFile held name collections
cluster_ok held name collections e =
    let f = then_ok (file_in held name) (λ bytes. good_table (table bytes)) collections e in
    record { bytes = f.0; file = file_ok held name f.0 f.1; form = (good_tables f.0 collections).0 (table_ok (table f.0) collections f.2) }

cluster_from : (held : Held) (name : List ℕ) (collections : Table) → IsClusterFile held name collections → table_at held name ≡ Ok collections
cluster_from held name collections k =
    then_from (file_in held name) (λ bytes. good_table (table bytes)) k.bytes collections (file_from held name k.bytes k.file) (ap good_table ((good_tables k.bytes collections).1 k.form))

-- ---- the command file

document_ok : (r : Result Document FileFault) (fields : Document) → good_document r ≡ Ok fields → r ≡ Ok fields
document_ok (Ok d) fields e = cc
document_ok (Err f) fields e = absurd cc

-- a document is read as a command exactly where it spells it
abbrev pub ReadsCommands : Type 0
ReadsCommands = (fields : Document) (c : Command) → (command_read fields ≡ Ok c) ↔ SpellsCommand fields c.0 c.1

good_ok : (r : Result Command BadCommand) (c : Command) → good_command r ≡ Ok c → r ≡ Ok c
good_ok (Ok d) c e = cc
good_ok (Err b) c e = absurd cc

pub record CommandRead (held : Held) (name : List ℕ) (c : Command) : Type 0 where
  pub file : IsCommandFile held name c
  pub built : is_built c.1 ≡ true

pub command_ok : ReadsCommands → (held : Held) (name : List ℕ) (c : Command) → command_at held name ≡ Ok c → CommandRead held name c
command_ok law held name c e =
    let d = then_ok (document_at held name) (λ fields. good_command (command_read fields) >>= built) c e in
    let f = then_ok (file_in held name) (λ bytes. good_document (document_of bytes)) d.0 d.1 in
    let r = then_ok (good_command (command_read d.0)) built c d.2 in
    let t = if_ok (is_built r.0.1) NotBuilt r.0 c r.2 in
    record {
      file = record {
        bytes = f.0;
        file = file_ok held name f.0 f.1;
        fields = d.0;
        document = document_ok (document_of f.0) d.0 f.2;
        form = (law d.0 c).0 (good_ok (command_read d.0) c (r.1 ∙ ap Ok t.1));
      };
      built = sym (ap (λ (o : Command). is_built o.1) t.1) ∙ t.0;
    }

command_from : ReadsCommands → (held : Held) (name : List ℕ) (c : Command) → IsCommandFile held name c → is_built c.1 ≡ true → command_at held name ≡ Ok c
command_from law held name c k built_is =
    then_from (document_at held name) (λ fields. good_command (command_read fields) >>= built) k.fields c
    (then_from (file_in held name) (λ bytes. good_document (document_of bytes)) k.bytes k.fields (file_from held name k.bytes k.file) (ap good_document k.document))
    (then_from (good_command (command_read k.fields)) built c c (ap good_command ((law k.fields c).1 k.form)) (if_from (is_built c.1) NotBuilt c built_is))

-- ---- the survey and the run

survey_ok : (r : Result (Unit {0}) SurveyError) (x : Unit {0}) → good_survey r ≡ Ok x → r ≡ Ok tt
survey_ok (Ok y) x e = refl
survey_ok (Err b) x e = absurd cc

pub are_good : (held : Held) (c : Option CollectionRow) (x : Unit {0}) → surveyed_if (files_in held) c ≡ Ok x → AreGood held c
are_good held None x e = tt
are_good held (Some c) x e = survey_ok (surveyed (files_in held) c) x e

good_from : (held : Held) (c : Option CollectionRow) → AreGood held c → surveyed_if (files_in held) c ≡ Ok tt
good_from held None g = refl
good_from held (Some c) g = ap good_survey g

results_ok : (r : Result (List ℕ) Failure) (written : List ℕ) → good_results r ≡ Ok written → r ≡ Ok written
results_ok (Ok bytes) written e = cc
results_ok (Err f) written e = absurd cc

written_ok : (runs : Bool) (command : Command) (world : World) (written : List ℕ) → written_if runs command world ≡ Ok written → IsWritten runs command world written
written_ok true command world written e = results_ok (results command world) written e
written_ok false command world written e = sym (same_ok [] written e)

written_from : (runs : Bool) (command : Command) (world : World) (written : List ℕ) → IsWritten runs command world written → written_if runs command world ≡ Ok written
written_from true command world written e = ap good_results e
written_from false command world written e = ap Ok (sym e)

over_ok : (held : Held) (collections : Table) (runs : Bool) (command : Command) (written : List ℕ) → run_over (files_in held) collections runs command ≡ Ok written → AreGood held (collection_named command.0 collections) × (written_if runs command (world_of (files_in held) collections) ≡ Ok written)
over_ok held collections runs command written e =
    let s = then_ok (surveyed_if (files_in held) (collection_named command.0 collections)) (λ good. written_if runs command (world_of (files_in held) collections)) written e in
    (are_good held (collection_named command.0 collections) s.0 s.1, s.2)

-- ---- the whole

-- what words and files that come to a run or a check give
pub comes_to : ReadsCommands → (words : List (List ℕ)) (held : Held) (c : Comes words held) → verdict words held ≡ written_if c.request.runs c.command (world_of (files_in held) c.collections)
comes_to law words held c =
    then_same (requested words) (λ request. run_request held request) c.request (requested_is words ∙ asked_from (mode_of words) c.request c.asked)
    ∙ then_same (table_at held c.request.cluster) (λ collections. run_command held c.request collections) c.collections (cluster_from held c.request.cluster c.collections c.cluster_file)
    ∙ then_same (command_at held c.request.command) (λ command. run_over (files_in held) c.collections c.request.runs command) c.command (command_from law held c.request.command c.command c.command_file c.built)
    ∙ then_same (surveyed_if (files_in held) (collection_named c.command.0 c.collections)) (λ good. written_if c.request.runs c.command (world_of (files_in held) c.collections)) tt (good_from held (collection_named c.command.0 c.collections) c.good)

abbrev pub made : ReadsCommands → (words : List (List ℕ)) (held : Held) (request : Request) (collections : Table) (command : Command) → requested words ≡ Ok request → table_at held request.cluster ≡ Ok collections → command_at held request.command ≡ Ok command → AreGood held (collection_named command.0 collections) → Comes words held
made law words held request collections command r k c good =
    let d = command_ok law held request.command command c in
    record {
      request = request;
      asked = asked_ok (mode_of words) request (sym (requested_is words) ∙ r);
      collections = collections;
      cluster_file = cluster_ok held request.cluster collections k;
      command = command;
      command_file = d.file;
      built = d.built;
      good = good;
    }

writes_ok : ReadsCommands → (words : List (List ℕ)) (held : Held) (written : List ℕ) → verdict words held ≡ Ok written → Writes words held written
writes_ok law words held written e =
    let r = then_ok (requested words) (λ request. run_request held request) written e in
    let k = then_ok (table_at held r.0.cluster) (λ collections. run_command held r.0 collections) written r.2 in
    let c = then_ok (command_at held r.0.command) (λ command. run_over (files_in held) k.0 r.0.runs command) written k.2 in
    let o = over_ok held k.0 r.0.runs c.0 written c.2 in
    record {
      come = made law words held r.0 k.0 c.0 r.1 k.1 c.1 o.0;
      written_is = written_ok r.0.runs c.0 (world_of (files_in held) k.0) written o.1;
    }

writes_from : ReadsCommands → (words : List (List ℕ)) (held : Held) (written : List ℕ) → Writes words held written → verdict words held ≡ Ok written
writes_from law words held written w =
    comes_to law words held w.come ∙ written_from w.come.request.runs w.come.command (world_of (files_in held) w.come.collections) written w.written_is

pub writes_exactly : ReadsCommands → (words : List (List ℕ)) (held : Held) (written : List ℕ) → (verdict words held ≡ Ok written) ↔ Writes words held written
writes_exactly law words held written = (writes_ok law words held written, writes_from law words held written)
