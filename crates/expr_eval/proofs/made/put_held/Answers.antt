use Rattle.std.proofs.Common.{◌≡◌, ◌∷◌, ◌++◌, [], sym, ap, ◌∙◌, rules}
use Rattle.std.specs.Prelude.{None}
use Rattle.std.proofs.lemmas.Result.{on_ok_weaker}
use Rattle.bson_value.specs.Pairs.{find, put}
use Rattle.bson_value.specs.View.{tree_of}
use Rattle.expr_eval.specs.Seen.{HasNames}
use Rattle.expr_eval.proofs.Held.{put_new, held_put}
use Rattle.expr_eval.proofs.made.put_held.Goals as goal

pub returns-in-Some-clause-held : goal.returns-in-Some-clause-held
returns-in-Some-clause-held c =
    let held : HasNames c.insert.new.self (put c.args.name.now (tree_of c.args.value) c.args.doc.now)
    = rw c.bytes.ensures.same at (held_put tt c.bytes.result.now (tree_of c.args.value) c.args.doc.now c.args.held.now c.insert.new.self c.requires c.in_ok-found.ensures.updates) in
    on_ok_weaker c.put.result (λ (e : c.put.new.self ≡ put c.in_ok-name.name (tree_of c.args.value) c.args.doc.now). rw (e, c.in_ok-name.ensures) held) c.put.ensures.ok

pub returns-in-None-clause-doc : goal.returns-in-None-clause-doc
returns-in-None-clause-doc c =
    let missing : find c.in_ok-name.name c.args.doc.now ≡ None = search rules in
    on_ok_weaker c.append.result (λ (e : c.append.new.self ≡ c.args.doc.now ++ (c.in_ok-name.name, tree_of c.args.value) ∷ []).
    e ∙ sym (put_new c.in_ok-name.name (tree_of c.args.value) c.args.doc.now missing) ∙ ap (λ n. put n (tree_of c.args.value) c.args.doc.now) c.in_ok-name.ensures) c.append.ensures.ok

pub returns-in-None-clause-held : goal.returns-in-None-clause-held
returns-in-None-clause-held c =
    let missing : find c.in_ok-name.name c.args.doc.now ≡ None = search rules in
    let held : HasNames c.insert.new.self (put c.args.name.now (tree_of c.args.value) c.args.doc.now)
    = rw c.bytes.ensures.same at (held_put tt c.bytes.result.now (tree_of c.args.value) c.args.doc.now c.args.held.now c.insert.new.self c.requires c.in_ok-found.ensures.updates) in
    on_ok_weaker c.append.result (λ (e : c.append.new.self ≡ c.args.doc.now ++ (c.in_ok-name.name, tree_of c.args.value) ∷ []).
    rw (e, ← put_new c.in_ok-name.name (tree_of c.args.value) c.args.doc.now missing, c.in_ok-name.ensures) held) c.append.ensures.ok
