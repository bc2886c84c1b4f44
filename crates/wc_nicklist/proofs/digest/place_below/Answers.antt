use Rattle.std.proofs.Common.{arith}
use Rattle.wc_nicklist.proofs.Digests.{place_short, place_long}
use Rattle.wc_nicklist.proofs.digest.place_below.Goals as goal

pub returns-then-name-gt-PATH_BYTES-clause-place : goal.returns-then-name-gt-PATH_BYTES-clause-place
returns-then-name-gt-PATH_BYTES-clause-place c = place_long c.args.name.now c.args.is_group c.if-name-gt-PATH_BYTES.true

pub returns-clause-place : goal.returns-clause-place
returns-clause-place c =
    let place = place_short c.args.name.now c.args.is_group c.if-name-gt-PATH_BYTES.false in
    omega (arith, place, c.front-bytes.ensures.front, c.kind.ensures.kind)
