use Rattle.chunk_map.proofs.InOrder.{by_name_filter, sorted_by_name}
use Rattle.stage_laws.proofs.ByName.{named_permuted, named_in_order}
use Rattle.stage_laws.proofs.names.shards_by_name.Goals as goal

pub returns-clause-permuted : goal.returns-clause-permuted
returns-clause-permuted c = named_permuted

pub returns-clause-sorted : goal.returns-clause-sorted
returns-clause-sorted c = named_in_order

pub returns-clause-stable : goal.returns-clause-stable
returns-clause-stable c shards z = by_name_filter z shards

pub returns-clause-only : goal.returns-clause-only
returns-clause-only c = sorted_by_name
