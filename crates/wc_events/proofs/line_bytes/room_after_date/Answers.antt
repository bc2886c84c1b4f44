use Rattle.std.proofs.Common.{rules, ◌≡◌, length, arith}
use Rattle.wc_events.specs.LineObjects.{moment}
use Rattle.wc_objects.specs.Spelling.{value_bytes}
use Rattle.wc_objects.specs.declared.object.Object.TheVariants as objects
use Rattle.wc_events.proofs.ValueBytes.{date_length}
use Rattle.wc_events.proofs.line_bytes.room_after_date.Goals as goal

pub returns : goal.returns
returns c =
    let size : length (value_bytes (objects.Tim (moment c.args.date))) ≡ 11 = date_length c.args.date (omega (arith, c.if-date-lt1000000000.false)) (omega (arith, c.if-date-gt9999999999.false)) in
    search rules
