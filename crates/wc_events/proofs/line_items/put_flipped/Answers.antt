use Rattle.std.proofs.Common.{rules, ◌≡◌, ◌∷◌, [], filter, ap}
use Rattle.wc_lines.specs.LinesLeft.{lines_left}
use Rattle.wc_model.specs.Parts.{is_flipped}
use Rattle.wc_events.proofs.LinesTold.{puts_start, puts_room, puts_on, puts_end, flips_first}
use Rattle.wc_events.proofs.line_items.put_flipped.Goals as goal

pub loop-line-init : goal.loop-line-init
loop-line-init c =
    let all : lines_left c.into_iter-line-iterator.result ≡ c.args.lines.now.lines = search rules in
    puts_start c.args.buffer c.args.keys.now c.args.out.now _ _ (ap (filter (is_flipped c.args.flips.now)) all)

pub put_flip-requires : goal.put_flip-requires
put_flip-requires c =
    let next : lines_left c.loop-line.line-iterator ≡ c.in-Some.line.now ∷ lines_left c.next.new.self = search rules in
    puts_room c.args.buffer c.args.keys.now c.args.out.now c.loop-line.out _ _ (filter (is_flipped c.args.flips.now) (c.in-Some.line.now ∷ [])) (filter (is_flipped c.args.flips.now) (lines_left c.next.new.self)) (flips_first c.args.flips.now c.in-Some.line.now _ _ next) c.requires c.loop-line.invariant

pub loop-line-preserved : goal.loop-line-preserved
loop-line-preserved c =
    let next : lines_left c.loop-line.line-iterator ≡ c.in-Some.line.now ∷ lines_left c.next.new.self = search rules in
    puts_on c.args.buffer c.args.keys.now c.args.out.now c.loop-line.out c.put_flip.new.out _ _ (filter (is_flipped c.args.flips.now) (c.in-Some.line.now ∷ [])) (filter (is_flipped c.args.flips.now) (lines_left c.next.new.self)) (flips_first c.args.flips.now c.in-Some.line.now _ _ next) c.loop-line.invariant c.put_flip.ensures

pub returns : goal.returns
returns c =
    let end : lines_left c.loop-line.line-iterator ≡ [] = search rules in
    puts_end c.args.buffer c.args.keys.now c.args.out.now c.loop-line.out _ _ (ap (filter (is_flipped c.args.flips.now)) end) c.loop-line.invariant
