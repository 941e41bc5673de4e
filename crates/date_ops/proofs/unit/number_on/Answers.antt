use Rattle.std.proofs.Common.{arith, ap}
use Rattle.std.proofs.lemmas.Int.{ints}
use Rattle.jiff_core.specs.declared.civil.date.Date.{Date}
use Rattle.date_ops.proofs.unit.number_on.Goals as goal

pub returns-in-Quarter-clause-value : goal.returns-in-Quarter-clause-value
returns-in-Quarter-clause-value c =
    let year = ap (λ (d : Date). d.year) c.to_plain-date.ensures in
    let month = ap (λ (d : Date). d.month) c.to_plain-date.ensures in
    rw (c.in-Quarter.is, c.requires.same_day.same_year, c.requires.same_day.same_month) (omega (arith, ints, year, month))

pub returns-in-Month-clause-value : goal.returns-in-Month-clause-value
returns-in-Month-clause-value c =
    let year = ap (λ (d : Date). d.year) c.to_plain-date.ensures in
    let month = ap (λ (d : Date). d.month) c.to_plain-date.ensures in
    rw (c.in-Month.is, c.requires.same_day.same_year, c.requires.same_day.same_month) (omega (arith, ints, year, month))
