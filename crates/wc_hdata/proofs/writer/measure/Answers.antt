use Rattle.std.proofs.Common.{◌<◌, ◌^◌, length, sym, subst}
use Rattle.wc_hdata.proofs.WalkRooms.{few_reached}
use Rattle.wc_hdata.proofs.writer.measure.Goals as goal

pub size_of-requires-clause-few : goal.size_of-requires-clause-few
size_of-requires-clause-few c = subst (λ nodes. length nodes < 2 ^ 31) (sym c.in_ok-walker.ensures.left) (few_reached c.args.lists.now.world c.args.path.now c.requires.counted)
