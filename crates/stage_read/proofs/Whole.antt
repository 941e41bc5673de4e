-- A document is read as the command that it spells, or refused with its first fault.
use Rattle.std.proofs.Common.{◌≡◌, ℕ, ◌≤◌, List, [], ◌++◌, refl, sym, ap, ◌∙◌, arith, inl, inr, subst}
use Rattle.std.specs.Prelude.{Option, Some, None, Result, Ok, Err, IfOk, ◌⊎◌}
use Rattle.bson_value.specs.Tree.{Trees}
use Rattle.expr_tree.specs.Spells.{Fields}
use Rattle.stage_tree.specs.Stage.{Stages, stages_of}
use Rattle.stage_tree.specs.declared.command.BadCommand.{BadCommand}
use Rattle.stage_tree.specs.declared.command.Command.{Command}
use Rattle.stage_read.specs.declared.errors.CommandError.{CommandError}
use Rattle.stage_read.specs.declared.errors.CommandError.TheVariants.{Bad, Memory}
use Rattle.stage_read.specs.Answers.{Answers, command_of}
use Rattle.stage_read.specs.Commands.{form_at, command_parts, top_from, within_limits, with_stages, command_read}
use Rattle.stage_read.specs.Faults.{HasNoStage, IsLeastBad, IsFirstFault}
use Rattle.pipeline_limits.specs.Limits.{past_limits}
use Rattle.stage_read.specs.Reading.{Placings}
use Rattle.stage_read.specs.Written.{IsCommand, SpellsTop, SpellsCommand}
use Rattle.stage_read.proofs.Bits.{no_some}
use Rattle.stage_read.proofs.Fields.{parts_spelled, parts_read}
use Rattle.stage_read.proofs.Tops.{ok_same, err_same, all_spelled, top_spelled, top_read, top_bad}

abbrev Read : Type 0
Read = Result (List ℕ × Stages) BadCommand

-- what a reading is of fields
abbrev IsOf : Fields → Read → Type 0
IsOf fields (Ok p) = SpellsCommand fields p.0 p.1
IsOf fields (Err b) = IsFirstFault fields b

module _ (fields : Fields) (name : List ℕ) (ts : Trees) (c : IsCommand fields name ts) where
  limits_of : (ss : Stages) → SpellsTop 1 ts ss → (o : Option BadCommand) → past_limits ss ≡ o → IsOf fields (within_limits name ss o)
  limits_of ss s None e = record { stages = ts; command = c; spelled = s; within = e }
  limits_of ss s (Some b) e = inr (name, ts, c, inr (ss, s, e))

  stages_are : (r : Result Placings BadCommand) → top_from [] 1 ts ≡ r → IsOf fields (with_stages name r)
  stages_are (Err b) e = let l = top_bad [] 1 ts b e in inr (name, ts, c, inl (l.0, l.1, (l.2, l.3)))
  stages_are (Ok ss) e =
      let r = top_spelled [] 1 ts ss e in
      limits_of (stages_of ss) (subst (λ us. SpellsTop 1 ts (stages_of us)) r.1 r.2) (past_limits (stages_of ss)) refl

no_command : (fields : Fields) → command_parts fields ≡ None → (name : List ℕ) (ts : Trees) → ¬ IsCommand fields name ts
no_command fields e = λ name ts c. no_some (name, ts) (sym e ∙ parts_read fields name ts c)

is_of : (fields : Fields) → IsOf fields (command_read fields)
is_of fields = with_parts (command_parts fields) refl
  where
    with_parts : (o : Option (List ℕ × Trees)) → command_parts fields ≡ o → IsOf fields (command_read fields)
    with_parts None e = rw e (inl (refl, no_command fields e))
    with_parts (Some p) e = rw e (stages_are fields p.0 p.1 (parts_spelled fields p.0 p.1 e) (top_from [] 1 p.1) refl)

pub good_is : (fields : Fields) (name : List ℕ) (ss : Stages) → command_read fields ≡ Ok (name, ss) → SpellsCommand fields name ss
good_is fields name ss e = subst (IsOf fields) e (is_of fields)

pub bad_is : (fields : Fields) (b : BadCommand) → command_read fields ≡ Err b → IsFirstFault fields b
bad_is fields b e = subst (IsOf fields) e (is_of fields)

-- and back
stages_given : (name : List ℕ) (ts : Trees) (ss : Stages) (o : Option BadCommand) → SpellsTop 1 ts ss → past_limits ss ≡ o → with_stages name (top_from [] 1 ts) ≡ within_limits name ss o
stages_given name ts ss o s e =
    let r = top_read ss [] 1 ts s in
    ap (with_stages name) r.1 ∙ ap (λ us. within_limits name us (past_limits us)) r.2 ∙ ap (within_limits name ss) e

command_given : (fields : Fields) (name : List ℕ) (ts : Trees) → IsCommand fields name ts → command_read fields ≡ with_stages name (top_from [] 1 ts)
command_given fields name ts c = rw (parts_read fields name ts c) refl

pub good_read : (fields : Fields) (name : List ℕ) (ss : Stages) → SpellsCommand fields name ss → command_read fields ≡ Ok (name, ss)
good_read fields name ss c = command_given fields name c.stages c.command ∙ stages_given name c.stages ss None c.spelled c.within

no_parts : (fields : Fields) → ((name : List ℕ) (ts : Trees) → ¬ IsCommand fields name ts) → command_parts fields ≡ None
no_parts fields h = with_parts (command_parts fields) refl
  where
    with_parts : (o : Option (List ℕ × Trees)) → command_parts fields ≡ o → command_parts fields ≡ None
    with_parts None e = e
    with_parts (Some p) e = absurd (h p.0 p.1 (parts_spelled fields p.0 p.1 e))

antisym : (k m : ℕ) → k ≤ m → m ≤ k → k ≡ m
antisym k m a b = omega (arith, a, b)

least_read : (name : List ℕ) (ts : Trees) (k : ℕ) → IsLeastBad ts k → (r : Result Placings BadCommand) → top_from [] 1 ts ≡ r → with_stages name r ≡ Err (form_at k)
least_read name ts k h (Ok ss) e = let r = top_spelled [] 1 ts ss e in absurd (all_spelled 1 k ts (stages_of r.0) r.2 h.0)
least_read name ts k h (Err b) e =
    let l = top_bad [] 1 ts b e in
    ap Err (l.1 ∙ ap form_at (antisym l.0 k (l.3 k h.0) (h.1 l.0 l.2)))

pub bad_read : (fields : Fields) (b : BadCommand) → IsFirstFault fields b → command_read fields ≡ Err b
bad_read fields b (inl h) = rw (no_parts fields h.1, h.0) refl
bad_read fields b (inr (name, ts, c, inl (k, e, l))) = command_given fields name ts c ∙ least_read name ts k l (top_from [] 1 ts) refl ∙ ap Err (sym e)
bad_read fields b (inr (name, ts, c, inr (ss, s, e))) = command_given fields name ts c ∙ stages_given name ts ss (Some b) s e

-- an answer that is the reading, said as what the document spells
pub found : (fields : Fields) (r : Result Command CommandError) → Answers command_of r (command_read fields) → IfOk r (λ c. SpellsCommand fields c.collection (stages_of c.pipeline))
found fields (Ok c) h = good_is fields c.collection (stages_of c.pipeline) h
found fields (Err e) h = tt

bad_same : (x y : BadCommand) → ◌≡◌ {A = Result Command CommandError} (Err (Bad x)) (Err (Bad y)) → x ≡ y
bad_same x y e = cc

pub refused : (fields : Fields) (r : Result Command CommandError) → Answers command_of r (command_read fields) → (b : BadCommand) → r ≡ Err (Bad b) → IsFirstFault fields b
refused fields (Ok c) h b e = absurd cc
refused fields (Err Memory) h b e = absurd cc
refused fields (Err (Bad d)) h b e = bad_is fields b (h ∙ ap Err (bad_same d b e))

pub parts_some : (fields : Fields) (name : List ℕ) (ts : Trees) → Some (name, ts) ≡ command_parts fields → command_read fields ≡ with_stages name (top_from [] 1 ts)
parts_some fields name ts e = rw (← e) refl

pub parts_none : (fields : Fields) → None ≡ command_parts fields → command_read fields ≡ Err (form_at 0)
parts_none fields e = rw (← e) refl
