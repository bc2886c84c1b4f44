use Rattle.std.proofs.Common.{refl, codes, true, arith, ◌∙◌}
use Rattle.wc_irc.proofs.LongLemmas.{parts_sendable}
use Rattle.wc_irc.proofs.long_texts.put_long_done.Goals as goal

pub put_parts-requires : goal.put_parts-requires
put_parts-requires c = parts_sendable (codes "PRIVMSG") _ c.args.target.now true c.args.room c.args.deed.now _ refl refl (omega arith) c.requires (c.as_slice.ensures ∙ c.in_ok-texts.ensures)
