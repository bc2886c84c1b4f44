use Rattle.std.proofs.Common.{refl, codes, false, arith, ◌∙◌}
use Rattle.wc_irc.proofs.LongLemmas.{parts_sendable}
use Rattle.wc_irc.proofs.long_texts.put_long_notice.Goals as goal

pub put_parts-requires : goal.put_parts-requires
put_parts-requires c = parts_sendable (codes "NOTICE") _ c.args.target.now false c.args.room c.args.text.now _ refl refl (omega arith) c.requires (c.as_slice.ensures ∙ c.in_ok-texts.ensures)
