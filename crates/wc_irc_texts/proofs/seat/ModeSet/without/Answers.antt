use Rattle.std.proofs.Common.{w64, ap, ℕ}
use Rattle.std.specs.Prelude.{bit_and}
use Rattle.std.specs.Int.{bit_not}
use Rattle.std.proofs.lemmas.Nat.{one_shl}
use Rattle.std.proofs.lemmas.Nat.Bits.{bit_at_clear_same, bit_at_clear_other}
use Rattle.wc_irc_texts.specs.ModeBits.{bits_without}
use Rattle.wc_irc_texts.proofs.seat.ModeSet.without.Goals as goal

pub returns-clause-here : goal.returns-clause-here
returns-clause-here c = bit_at_clear_same w64 c.args.self.0 c.args.place c.requires

pub returns-clause-others : goal.returns-clause-others
returns-clause-others c = λ other within apart. bit_at_clear_other w64 c.args.self.0 c.args.place c.requires other within apart

pub returns-clause-bits : goal.returns-clause-bits
unfolding bits_without
returns-clause-bits c = ap (λ (n : ℕ). bit_and c.args.self.0 (bit_not w64 n)) (one_shl c.args.place 64 c.requires)
