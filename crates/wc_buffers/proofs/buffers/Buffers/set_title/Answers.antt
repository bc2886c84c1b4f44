use Rattle.std.proofs.Common.{◌≤◌, ◌∙◌, sym, subst, length, IsUtf8}
use Rattle.wc_buffers.proofs.Fits.{cut_short, cut_is_utf8}
use Rattle.wc_buffers.proofs.buffers.Buffers.set_title.Goals as goal

pub put_title-requires-clause-fits : goal.put_title-requires-clause-fits
put_title-requires-clause-fits c = subst (λ t. length t ≤ 1024) (sym (c.in_ok-title.ensures ∙ c.cut_value.ensures)) (cut_short c.as_slice.result.now)

pub put_title-requires-clause-utf8 : goal.put_title-requires-clause-utf8
put_title-requires-clause-utf8 c = subst IsUtf8 (sym (c.in_ok-title.ensures ∙ c.cut_value.ensures)) (cut_is_utf8 c.as_slice.result.now)
