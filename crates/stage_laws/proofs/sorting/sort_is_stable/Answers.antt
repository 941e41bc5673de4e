use Rattle.std.proofs.Common.{[]}
use Rattle.stage_laws.proofs.Sorted.{onto_permuted, is_sorted, is_stable, is_only}
use Rattle.stage_laws.proofs.sorting.sort_is_stable.Goals as goal

pub returns-clause-permuted : goal.returns-clause-permuted
returns-clause-permuted c keys ds = onto_permuted keys ds []

pub returns-clause-sorted : goal.returns-clause-sorted
returns-clause-sorted c = is_sorted

pub returns-clause-stable : goal.returns-clause-stable
returns-clause-stable c = is_stable

pub returns-clause-only : goal.returns-clause-only
returns-clause-only c = is_only
