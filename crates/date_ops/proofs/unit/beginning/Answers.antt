use Rattle.std.proofs.Common.{◌≡◌, ◌+◌, ◌%◌, arith, pos, ap, ◌∙◌}
use Rattle.jiff_core.proofs.SignedLemmas.{signed_arith}
use Rattle.jiff_core.specs.Calendar.{weekday_number}
use Rattle.jiff_core.specs.Weekday.{monday_zero}
use Rattle.jiff_core.specs.Date.{epoch_day}
use Rattle.bson_value.specs.Calendar.{day_number}
use Rattle.date_ops.proofs.RangeFacts.{is_date-bounds, sunday-week}
use Rattle.date_ops.proofs.unit.beginning.Goals as goal

pub returns-in-Week : goal.returns-in-Week
returns-in-Week c =
    let day = day_number c.args.ms in
    let same : epoch_day c.args.date ≡ day = c.requires.same_day.same_day in
    let weekday : monday_zero c.weekday.result ≡ weekday_number day = c.weekday.ensures ∙ ap weekday_number same in
    let offset : c.to_sunday_zero_offset.result ≡ pos ((weekday_number day + 1) % 7) = c.to_sunday_zero_offset.ensures.value ∙ ap (λ n. pos ((n + 1) % 7)) weekday in
    let b = is_date-bounds c.args.ms c.requires.in_range in
    rw c.in-Week.is (omega (arith, signed_arith, sunday-week day, same, offset, c.midnight-in-Week.ensures.value))
