use Rattle.std.proofs.Common.{◌≡◌, ◌++◌, List, subst, OnOk}
use Rattle.wc_irc.specs.declared.act.Act.{Act}
use Rattle.wc_irc.proofs.SentLemmas.{long_line}
use Rattle.wc_irc.proofs.sent_lines.put_line.Goals as goal

pub returns-else-fits_line : goal.returns-else-fits_line
returns-else-fits_line c =
    let same = long_line c.args.buffers.now c.args.line c.as_slice.result.now c.fits_line.result c.fits_line.ensures c.if-fits_line.false c.as_slice.ensures in
    subst (λ (more : List Act). OnOk c.put_long_line.result (c.put_long_line.new.acts ≡ c.args.acts.now ++ more)) same c.put_long_line.ensures
