use Rattle.std.proofs.Common.{sym}
use Rattle.jiff_core.specs.Date.{epoch_day}
use Rattle.date_ops.proofs.IsoFacts.{iso_year-is, iso_week-is}
use Rattle.date_ops.proofs.civil.iso_week_of.Goals as goal

pub returns-clause-year : goal.returns-clause-year
returns-clause-year c = sym (iso_year-is c.iso_week_date.result.inner (epoch_day c.args.date) c.iso_week_date.ensures c.requires)

pub returns-clause-week : goal.returns-clause-week
returns-clause-week c = sym (iso_week-is c.iso_week_date.result.inner (epoch_day c.args.date) c.iso_week_date.ensures c.requires)
