use Rattle.std.proofs.Common.{◌<◌, ◌^◌, w64, arith}
use Rattle.std.proofs.lemmas.Nat.Bits.{bit_at-trailing_zeros}
use Rattle.wc_irc_texts.proofs.seat.ModeSet.highest.Goals as goal

pub returns-clause-first : goal.returns-clause-first
returns-clause-first c =
    let some : 0 < c.args.self.0 = omega arith in
    let fits : c.args.self.0 < 2 ^ 64 = omega arith in
    let lowest = bit_at-trailing_zeros w64 c.args.self.0 some fits in
    record { within = lowest.0; here = lowest.1; first = lowest.2 }
