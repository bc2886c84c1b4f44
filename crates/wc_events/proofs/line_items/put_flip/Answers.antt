use Rattle.std.proofs.Common.{rules, ◌≡◌, true, false}
use Rattle.wc_model.specs.Parts.{is_flipped}
use Rattle.wc_events.proofs.LinesTold.{flip_room, flip_puts, flip_puts_none}
use Rattle.wc_events.proofs.line_items.put_flip.Goals as goal

pub put_item-requires : goal.put_item-requires
put_item-requires c =
    let on : is_flipped c.args.flips.now c.args.line.now ≡ true = search rules in
    flip_room c.args.out.now c.args.buffer c.args.keys.now c.args.flips.now c.args.line.now on c.requires

pub returns-else-has_at : goal.returns-else-has_at
returns-else-has_at c =
    let off : is_flipped c.args.flips.now c.args.line.now ≡ false = search rules in
    flip_puts_none c.args.out.now c.args.buffer c.args.keys.now c.args.flips.now c.args.line.now off

pub returns-then-has_at : goal.returns-then-has_at
returns-then-has_at c =
    let on : is_flipped c.args.flips.now c.args.line.now ≡ true = search rules in
    flip_puts c.args.out.now c.put_item.new.out c.args.buffer c.args.keys.now c.args.flips.now c.args.line.now on c.put_item.ensures
