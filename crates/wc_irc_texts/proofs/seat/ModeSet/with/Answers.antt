use Rattle.std.proofs.Common.{w64, ap}
use Rattle.std.specs.Prelude.{bit_or}
use Rattle.std.proofs.lemmas.Nat.{one_shl}
use Rattle.std.proofs.lemmas.Nat.Bits.{bit_at_set_same, bit_at_set_other}
use Rattle.wc_irc_texts.specs.ModeBits.{bits_with}
use Rattle.wc_irc_texts.proofs.seat.ModeSet.with.Goals as goal

pub returns-clause-here : goal.returns-clause-here
returns-clause-here c = bit_at_set_same w64 c.args.self.0 c.args.place c.requires

pub returns-clause-others : goal.returns-clause-others
returns-clause-others c = λ other apart. bit_at_set_other w64 c.args.self.0 c.args.place c.requires other apart

pub returns-clause-bits : goal.returns-clause-bits
unfolding bits_with
returns-clause-bits c = ap (bit_or c.args.self.0) (one_shl c.args.place 64 c.requires)
