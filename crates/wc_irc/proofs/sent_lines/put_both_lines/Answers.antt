use Rattle.std.proofs.Common.{◌≡◌, ◌++◌, List, subst, OnOk}
use Rattle.wc_irc.specs.declared.act.Act.{Act}
use Rattle.wc_irc.proofs.SentLemmas.{long_first, long_second}
use Rattle.wc_irc.proofs.sent_lines.put_both_lines.Goals as goal

pub returns-then-not-fits_line : goal.returns-then-not-fits_line
returns-then-not-fits_line c =
    let same = long_first c.args.buffers.now c.args.first c.args.second c.as_slice.result.now c.fits_line.result c.fits_line.ensures c.if-not-fits_line.true c.as_slice.ensures in
    subst (λ (more : List Act). OnOk c.put_long_line.result (c.put_long_line.new.acts ≡ c.args.acts.now ++ more)) same c.put_long_line.ensures

pub returns-then-not-fits_line-2 : goal.returns-then-not-fits_line-2
returns-then-not-fits_line-2 c =
    let same = long_second c.args.buffers.now c.args.first c.args.second c.as_slice-then-not-fits_line-2.result.now c.fits_line.result c.fits_line-2.result c.fits_line.ensures c.if-not-fits_line.false c.fits_line-2.ensures c.if-not-fits_line-2.true c.as_slice-then-not-fits_line-2.ensures in
    subst (λ (more : List Act). OnOk c.put_long_line-then-not-fits_line-2.result (c.put_long_line-then-not-fits_line-2.new.acts ≡ c.args.acts.now ++ more)) same c.put_long_line-then-not-fits_line-2.ensures
