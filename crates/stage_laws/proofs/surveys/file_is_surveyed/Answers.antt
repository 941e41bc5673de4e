use Rattle.stage_laws.proofs.Refusals.{absent_gives, absent_is, long_gives, long_is, good_gives, refused_gives, file_good, file_refused}
use Rattle.stage_laws.proofs.surveys.file_is_surveyed.Goals as goal

pub returns-clause-absent : goal.returns-clause-absent
returns-clause-absent c row s held name = (absent_is row s held name, absent_gives row s held name)

pub returns-clause-long : goal.returns-clause-long
returns-clause-long c row s held name len = (long_is row s held name len, long_gives row s held name len)

pub returns-clause-good : goal.returns-clause-good
returns-clause-good c row s held fits = (file_good row s held fits, good_gives row s held fits)

pub returns-clause-refused : goal.returns-clause-refused
returns-clause-refused c row s held e fits = (file_refused row s held e fits, refused_gives row s held e fits)
