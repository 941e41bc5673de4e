use Rattle.doc_path.proofs.Queried.{open_list}
use Rattle.doc_path.proofs.query_path.open.Goals as goal

pub returns-in-List : goal.returns-in-List
returns-in-List c = open_list _ c.args.found.now c.add.new.self _ _ c.in-List.list (first_of (rw (c.in-Some.is, c.in-List.is), rw (c.in-List.is))) c.in_ok-add.ensures.ok c.add_members.ensures
