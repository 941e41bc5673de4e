use Rattle.orphan_filter.specs.Reader.{reading_of}
use Rattle.orphan_filter.proofs.Arrays.{survey_begins}
use Rattle.orphan_filter.proofs.file_survey.survey_file.Goals as goal

pub read_all-requires : goal.read_all-requires
read_all-requires g c = survey_begins c.args.collection.now.key_paths _ c.args.id c.args.len (reading_of c.in-Ok.reader) c.in-Ok.ensures c.requires.len
