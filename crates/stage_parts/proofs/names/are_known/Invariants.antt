use Rattle.std.proofs.Common.{◌≡◌, drop}
use Rattle.std.specs.List.{list_all}
use Rattle.stage_parts.specs.Names.{words, is_known}
use Rattle.stage_parts.proofs.names.are_known.Given as goal

abbrev pub invariant-loop-i : goal.invariant-loop-i
invariant-loop-i l = list_all (λ p. is_known (words l.required) (words l.optional) p.0) (drop l.i l.doc) ≡ list_all (λ p. is_known (words l.required) (words l.optional) p.0) l.doc
