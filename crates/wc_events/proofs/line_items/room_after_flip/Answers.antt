use Rattle.std.proofs.Common.{rules, ◌≡◌, true, false}
use Rattle.wc_model.specs.Parts.{is_flipped}
use Rattle.wc_events.proofs.LinesTold.{flip_rest, flip_leaves}
use Rattle.wc_events.proofs.line_items.room_after_flip.Goals as goal

pub returns-then-not-has_at : goal.returns-then-not-has_at
returns-then-not-has_at c =
    let off : is_flipped c.args.flips.now c.args.line.now ≡ false = search rules in
    flip_rest c.args.left c.args.buffer c.args.keys.now c.args.flips.now c.args.line.now off

pub returns : goal.returns
returns c =
    let on : is_flipped c.args.flips.now c.args.line.now ≡ true = search rules in
    flip_leaves c.room_after_item.result c.args.left c.args.buffer c.args.keys.now c.args.flips.now c.args.line.now on c.room_after_item.ensures
