use Rattle.std.proofs.Common.{ap, sym, ◌∙◌, length, arith}
use Rattle.wc_irc.specs.Channels.{joined}
use Rattle.wc_irc_nicks.specs.Kept.{NewNickValue}
use Rattle.wc_irc.proofs.OneChannelLemmas.{short_comer}
use Rattle.wc_irc.proofs.channel.Channel.come_in.Goals as goal

pub push-requires-clause-short : goal.push-requires-clause-short
push-requires-clause-short c = omega (arith, ap (λ (v : NewNickValue). length v.nick) c.in_ok-new.ensures, short_comer c.args.prefixes.now c.args.nick.now (joined c.args.self.now) (sym c.comes_in.ensures ∙ c.if-not-comes_in.false))
