use Rattle.std.proofs.Common.{arith}
use Rattle.wc_nicklist.proofs.Numbers.{short_is, long_is, number_is}
use Rattle.wc_nicklist.proofs.by_name.number.Goals as goal

pub returns-then-name-gt-SHORT_BYTES-clause-long : goal.returns-then-name-gt-SHORT_BYTES-clause-long
returns-then-name-gt-SHORT_BYTES-clause-long c = long_is c.args.name.now c.if-name-gt-SHORT_BYTES.true

pub returns-clause-short : goal.returns-clause-short
returns-clause-short c =
    let number = number_is c.args.name.now in
    (short_is c.args.name.now c.front-bytes.ensures.bytes c.if-name-gt-SHORT_BYTES.false, omega (arith, number, c.front-bytes.ensures.front))
