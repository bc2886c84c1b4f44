use Rattle.std.proofs.Common.{refl, codes}
use Rattle.wc_irc.proofs.LongLemmas.{text_sendable}
use Rattle.wc_irc.proofs.long_texts.put_notify.Goals as goal

pub text_act-requires : goal.text_act-requires
text_act-requires c = text_sendable (codes "NOTICE") _ c.args.target.now c.args.text.now refl refl c.requires
