use Rattle.std.proofs.Common.{rules, ◌≡◌, ◌<◌, ◌∷◌, [], filter, length, ap, arith}
use Rattle.wc_lines.specs.LinesLeft.{lines_left}
use Rattle.wc_model.specs.Parts.{is_flipped}
use Rattle.wc_events.specs.LinesTold.{lines_spelled}
use Rattle.wc_events.proofs.LinesTold.{amid_start, amid_on, amid_over, amid_end, flips_first}
use Rattle.wc_events.proofs.line_items.room_after_flipped.Goals as goal

pub loop-line-init : goal.loop-line-init
loop-line-init c =
    let all : lines_left c.into_iter-line-iterator.result ≡ c.args.lines.now.lines = search rules in
    amid_start c.args.buffer c.args.keys.now c.args.whole _ _ (ap (filter (is_flipped c.args.flips.now)) all)

pub room_after_flip-requires : goal.room_after_flip-requires
room_after_flip-requires c = omega (arith, c.requires, c.loop-line.invariant.few)

pub returns-in_err-left : goal.returns-in_err-left
returns-in_err-left c =
    let next : lines_left c.loop-line.line-iterator ≡ c.in-Some.line.now ∷ lines_left c.next.new.self = search rules in
    let over : c.args.whole.room < length (lines_spelled c.args.buffer c.args.keys.now (filter (is_flipped c.args.flips.now) c.args.lines.now.lines)) =
    amid_over c.args.buffer c.args.keys.now c.args.whole c.loop-line.left _ _ (filter (is_flipped c.args.flips.now) (c.in-Some.line.now ∷ [])) (filter (is_flipped c.args.flips.now) (lines_left c.next.new.self)) (flips_first c.args.flips.now c.in-Some.line.now _ _ next) c.loop-line.invariant c.in_err-left.ensures in
    search rules

pub loop-line-preserved : goal.loop-line-preserved
loop-line-preserved c =
    let next : lines_left c.loop-line.line-iterator ≡ c.in-Some.line.now ∷ lines_left c.next.new.self = search rules in
    amid_on c.args.buffer c.args.keys.now c.args.whole c.loop-line.left c.in_ok-left.left _ _ (filter (is_flipped c.args.flips.now) (c.in-Some.line.now ∷ [])) (filter (is_flipped c.args.flips.now) (lines_left c.next.new.self)) (flips_first c.args.flips.now c.in-Some.line.now _ _ next) c.loop-line.invariant c.in_ok-left.ensures

pub returns : goal.returns
returns c =
    let end : lines_left c.loop-line.line-iterator ≡ [] = search rules in
    amid_end c.args.buffer c.args.keys.now c.args.whole c.loop-line.left _ _ (ap (filter (is_flipped c.args.flips.now)) end) c.loop-line.invariant
