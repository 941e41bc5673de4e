-- The command file.
use Rattle.std.proofs.Common.{◌≡◌, ◌↔◌, ℕ, Bool, true, false, List, [], ◌∷◌, ◌++◌, Result, Ok, Err, inl, inr, refl, sym, ap, subst, ◌∙◌}
use Rattle.std.specs.Prelude.{◌&&◌}
use Rattle.bson_codec.specs.Records.{Document, FileFault, document_of}
use Rattle.mq_ports.specs.World.{Held}
use Rattle.stage_tree.specs.Stage.{StageNode, Stages, no_stages, placed, stages_of}
use Rattle.stage_tree.specs.declared.command.BadCommand.{BadCommand}
use Rattle.stage_read.specs.Commands.{command_read}
use Rattle.stage_read.specs.Faults.{IsFirstFault}
use Rattle.stage_chain.specs.Chain.{is_reshape_stage, is_built}
use Rattle.aggregate_command.specs.declared.status.Status.{Status}
use Rattle.aggregate_command.specs.declared.status.Status.TheVariants as S
use Rattle.aggregate_command.specs.Status.{Step, ◌>>=◌}
use Rattle.aggregate_command.specs.Run.{Command}
use Rattle.aggregate_command.specs.Verdict.{file_in, fault_why, good_document, document_at, good_command, built, command_at}
use Rattle.aggregate_command.specs.Meaning.{IsFile, IsCommandFile}
use Rattle.aggregate_command.proofs.Meanings.{ReadsCommands}
use Rattle.call_laws.specs.Refusals.{HasUnbuilt, IsNoCommand, no_document, no_form}
use Rattle.call_laws.proofs.Sequel.{either_step, stops, goes_on, same_refusal, if_bad, if_true, if_false}
use Rattle.call_laws.proofs.Files.{FileRefused, file_refused, file_found, file_is}

-- a document is refused as a command exactly where that is its first fault
abbrev pub RefusesCommands : Type 0
RefusesCommands = (fields : Document) (b : BadCommand) → (command_read fields ≡ Err b) ↔ IsFirstFault fields b

-- ---- stages that aren't built

behind : (s : StageNode) (origins : List ℕ) (ss : Stages) → HasUnbuilt ss → HasUnbuilt (placed s origins ss)
behind s origins ss u = record {
  front = (s, origins) ∷ u.front;
  stage = u.stage;
  back = u.back;
  split = ap (placed s origins) u.split;
  unbuilt = u.unbuilt;
}

items : (ss : Stages) → (xs : List (StageNode × List ℕ)) × (stages_of xs ≡ ss)
items no_stages = ([], refl)
items (placed s origins ss) = let r = items ss in ((s, origins) ∷ r.0, ap (placed s origins) r.1)

unbuilt_first : (b : Bool) (s : StageNode) (origins : List ℕ) (ss : Stages) → is_reshape_stage s ≡ b → (b && is_built ss) ≡ false → (is_built ss ≡ false → HasUnbuilt ss) → HasUnbuilt (placed s origins ss)
unbuilt_first true s origins ss is e later = behind s origins ss (later e)
unbuilt_first false s origins ss is e later =
    let r = items ss in
    record { front = []; stage = (s, origins); back = r.0; split = ap (placed s origins) r.1; unbuilt = is }

has_unbuilt : (ss : Stages) → is_built ss ≡ false → HasUnbuilt ss
has_unbuilt no_stages e = absurd cc
has_unbuilt (placed s origins ss) e = unbuilt_first (is_reshape_stage s) s origins ss refl e (has_unbuilt ss)

and_false : (a b : Bool) → b ≡ false → (a && b) ≡ false
and_false true b e = e
and_false false b e = refl

unbuilt_among : (front : List (StageNode × List ℕ)) (stage : StageNode × List ℕ) (back : List (StageNode × List ℕ)) → is_reshape_stage stage.0 ≡ false → is_built (stages_of (front ++ stage ∷ back)) ≡ false
unbuilt_among [] stage back e = ap (λ b. b && is_built (stages_of back)) e
unbuilt_among (x ∷ front) stage back e = and_false (is_reshape_stage x.0) (is_built (stages_of (front ++ stage ∷ back))) (unbuilt_among front stage back e)

not_built : (ss : Stages) → HasUnbuilt ss → is_built ss ≡ false
not_built ss u = ap is_built (sym u.split) ∙ unbuilt_among u.front u.stage u.back u.unbuilt

-- ---- the command file of this name

abbrev document_in : List ℕ → Step Document
document_in bytes = good_document (document_of bytes)

abbrev command_in : Document → Step Command
command_in fields = good_command (command_read fields) >>= built

-- why a command file is refused
abbrev pub CommandRefused : Held → List ℕ → Status → Type 0
CommandRefused held name (S.BadCommand b) = (bytes : List ℕ) × IsFile held name bytes × IsNoCommand bytes b
CommandRefused held name S.NotBuilt = (c : Command) × IsCommandFile held name c × HasUnbuilt c.1
CommandRefused held name s = FileRefused held name s

-- the document of a file
record DocumentRead (held : Held) (name : List ℕ) (fields : Document) : Type 0 where
  pub bytes : List ℕ
  pub file : IsFile held name bytes
  pub is : document_of bytes ≡ Ok fields

document_ok : (r : Result Document FileFault) (fields : Document) → good_document r ≡ Ok fields → r ≡ Ok fields
document_ok (Ok d) fields e = cc
document_ok (Err f) fields e = absurd cc

step_ok : (step : Step (List ℕ)) (next : List ℕ → Step Document) (fields : Document) → (step >>= next) ≡ Ok fields → (bytes : List ℕ) × (step ≡ Ok bytes) × (next bytes ≡ Ok fields)
step_ok (Ok bytes) next fields e = (bytes, refl, e)
step_ok (Err s) next fields e = absurd cc

good_ok : (r : Result Command BadCommand) (c : Command) → good_command r ≡ Ok c → r ≡ Ok c
good_ok (Ok d) c e = cc
good_ok (Err b) c e = absurd cc

module _ (good : ReadsCommands) (bad : RefusesCommands) (held : Held) (name : List ℕ) where
  as_command_file : (s : Status) → FileRefused held name s → CommandRefused held name s
  as_command_file (S.BadCommand b) f = absurd f
  as_command_file S.NotBuilt f = absurd f
  as_command_file s f = f

  bytes_refused : (bytes : List ℕ) (r : Result Document FileFault) (s : Status) → IsFile held name bytes → document_of bytes ≡ r → good_document r ≡ Err s → CommandRefused held name s
  bytes_refused bytes (Ok fields) s file is e = absurd cc
  bytes_refused bytes (Err fault) s file is e =
      subst (CommandRefused held name) (same_refusal (S.BadCommand (record { stage = 0; why = fault_why fault })) s e) (bytes, file, no_document fault is refl refl)

  document_refused : (s : Status) → document_at held name ≡ Err s → CommandRefused held name s
  document_refused s e =
      elim (either_step (file_in held name) document_in s e) [
        | inl h ↦ as_command_file s (file_refused held name s h)
        | inr n ↦ bytes_refused n.value (document_of n.value) s (file_found held name n.value n.first) refl n.later
      ]

  document_read : (fields : Document) → document_at held name ≡ Ok fields → DocumentRead held name fields
  document_read fields e =
      let f = step_ok (file_in held name) document_in fields e in
      record { bytes = f.0; file = file_found held name f.0 f.1; is = document_ok (document_of f.0) fields f.2 }

  form_refused : (fields : Document) (r : Result Command BadCommand) (s : Status) → DocumentRead held name fields → command_read fields ≡ r → good_command r ≡ Err s → CommandRefused held name s
  form_refused fields (Ok c) s d is e = absurd cc
  form_refused fields (Err b) s d is e = subst (CommandRefused held name) (same_refusal (S.BadCommand b) s e) (d.bytes, d.file, no_form fields d.is ((bad fields b).0 is))

  command_file : (fields : Document) (c : Command) → DocumentRead held name fields → command_read fields ≡ Ok c → IsCommandFile held name c
  command_file fields c d is = record { bytes = d.bytes; file = d.file; fields = fields; document = d.is; form = (good fields c).0 is }

  stages_refused : (c : Command) (s : Status) → IsCommandFile held name c → built c ≡ Err s → CommandRefused held name s
  stages_refused c s file e = let t = if_bad (is_built c.1) S.NotBuilt s c e in subst (CommandRefused held name) t.1 (c, file, has_unbuilt c.1 t.0)

  fields_refused : (fields : Document) (s : Status) → DocumentRead held name fields → command_in fields ≡ Err s → CommandRefused held name s
  fields_refused fields s d e =
      elim (either_step (good_command (command_read fields)) built s e) [
        | inl h ↦ form_refused fields (command_read fields) s d refl h
        | inr n ↦ stages_refused n.value s (command_file fields n.value d (good_ok (command_read fields) n.value n.first)) n.later
      ]

  pub command_refused : (s : Status) → command_at held name ≡ Err s → CommandRefused held name s
  command_refused s e =
      elim (either_step (document_at held name) command_in s e) [
        | inl h ↦ document_refused s h
        | inr n ↦ fields_refused n.value s (document_read n.value n.first) n.later
      ]

  pub no_command : (s : Status) → file_in held name ≡ Err s → command_at held name ≡ Err s
  no_command s e = stops (document_at held name) command_in s (stops (file_in held name) document_in s e)

  document_is : (bytes : List ℕ) (fields : Document) → IsFile held name bytes → document_of bytes ≡ Ok fields → document_at held name ≡ Ok fields
  document_is bytes fields file is = goes_on (file_in held name) document_in bytes (file_is held name bytes file) ∙ ap good_document is

  fields_are : (bytes : List ℕ) (fields : Document) → IsFile held name bytes → document_of bytes ≡ Ok fields → command_at held name ≡ command_in fields
  fields_are bytes fields file is = goes_on (document_at held name) command_in fields (document_is bytes fields file is)

  pub bad_command : (bytes : List ℕ) (b : BadCommand) → IsFile held name bytes → IsNoCommand bytes b → command_at held name ≡ Err (S.BadCommand b)
  bad_command bytes b file (no_document fault is stage why) =
      let same : record { stage = 0; why = fault_why fault } ≡ b = λ i. record { stage = sym stage i; why = sym why i } in
      stops (document_at held name) command_in (S.BadCommand b) (goes_on (file_in held name) document_in bytes (file_is held name bytes file) ∙ ap good_document is ∙ ap (λ (x : BadCommand). Err (S.BadCommand x)) same)
  bad_command bytes b file (no_form fields is fault) =
      fields_are bytes fields file is ∙ stops (good_command (command_read fields)) built (S.BadCommand b) (ap good_command ((bad fields b).1 fault))

  command_comes : (c : Command) → IsCommandFile held name c → command_at held name ≡ built c
  command_comes c k = fields_are k.bytes k.fields k.file k.document ∙ goes_on (good_command (command_read k.fields)) built c (ap good_command ((good k.fields c).1 k.form))

  pub unbuilt_command : (c : Command) → IsCommandFile held name c → HasUnbuilt c.1 → command_at held name ≡ Err S.NotBuilt
  unbuilt_command c k u = command_comes c k ∙ if_false (is_built c.1) S.NotBuilt c (not_built c.1 u)

  pub command_is : (c : Command) → IsCommandFile held name c → is_built c.1 ≡ true → command_at held name ≡ Ok c
  command_is c k e = command_comes c k ∙ if_true (is_built c.1) S.NotBuilt c e
