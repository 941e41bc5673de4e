use Rattle.value_sets.proofs.Held.{entries_pairs, members_trees}
use Rattle.value_sets.proofs.objects.element_field.Goals as goal

pub returns-in-Doc : goal.returns-in-Doc
returns-in-Doc c = rw (c.in-Doc.is, entries_pairs c.in-Doc.doc) c.doc_field.ensures

pub returns-in-List : goal.returns-in-List
returns-in-List c = rw (c.in-List.is, members_trees c.in-List.list) c.list_field.ensures
