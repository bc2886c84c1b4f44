use Rattle.std.proofs.Common.{◌∙◌, ap, sym}
use Rattle.wc_buffers.specs.Calls.{is_bad_name}
use Rattle.wc_buffers.proofs.RefusalLemmas.{short_name_good}
use Rattle.wc_buffers.proofs.buffers.Buffers.set_short_name.Goals as goal

pub put_short_name-requires-clause-there : goal.put_short_name-requires-clause-there
put_short_name-requires-clause-there c = (short_name_good c.args.h c.as_slice.result.now c.args.self.now (sym c.short_name_refusal.ensures ∙ c.in_default.is)).0

pub put_short_name-requires-clause-fits : goal.put_short_name-requires-clause-fits
put_short_name-requires-clause-fits c =
    ap (is_bad_name 128) (c.in_ok-name.ensures ∙ sym c.as_slice.ensures)
    ∙ (short_name_good c.args.h c.as_slice.result.now c.args.self.now (sym c.short_name_refusal.ensures ∙ c.in_default.is)).1
