use Rattle.std.proofs.Common.{arith, ◌≡◌, ◌+◌, min, length}
use Rattle.wc_hdata.specs.Ranges.{places_in}
use Rattle.wc_hdata.proofs.RangeLemmas.{some_back}
use Rattle.wc_hdata.proofs.cursor.Cursor.back.Goals as goal

pub returns : goal.returns
returns c =
    let high : c.min-high.result ≡ min (c.args.at + 1) (length (places_in c.args.source)) = omega (arith, c.saturating_add.ensures, c.len.ensures, c.min-high.ensures) in
    some_back (places_in c.args.source) c.args.most c.args.at _ _ high c.saturating_sub.ensures
