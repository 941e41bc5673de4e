use Rattle.std.proofs.Common.{sym, arith}
use Rattle.value_sets.proofs.FieldsPut.{new_name, fields_more}
use Rattle.value_sets.proofs.objects.doc_of.Goals as goal

pub append-requires : goal.append-requires
append-requires c =
    rw (c.in_ok-name_of-in-Some.ensures, c.loop-i.invariant) (new_name c.args.fields.now.entries c.loop-i.i (c.in-Some.name.now, c.in-Some.value.now) c.len-i-end.ensures.unique (sym c.in-Some.ensures.entry))

pub loop-i-preserved : goal.loop-i-preserved
loop-i-preserved c =
    rw (fields_more c.args.fields.now.entries c.loop-i.i (c.in-Some.name.now, c.in-Some.value.now) (sym c.in-Some.ensures.entry), sym c.loop-i.invariant, sym c.in_ok-name_of-in-Some.ensures, sym c.in_ok-to_value-in-Some.ensures) c.in_ok-append-in-Some.ensures.ok

pub returns-in-None : goal.returns-in-None
returns-in-None c = let found = c.in-None.ensures.found.1 (omega (arith, c.len-i-end.ensures.len)) in absurd (cc)
