use Rattle.std.proofs.Common.{◌∙◌, get_or, set, ap, sym}
use Rattle.wc_lines.specs.Flags.{flag_at, with_own_flag}
use Rattle.wc_lines.proofs.FlagLemmas.{next}
use Rattle.wc_lines.proofs.lines.set_flags.Goals as goal

pub loop-line-preserved : goal.loop-line-preserved
loop-line-preserved c =
    let F = with_own_flag (flag_at c.args.flags.now) in
    let at = c.loop-line.line-index in
    let line = c.line-item.result in
    let inside = c.loop-line-test.true in
    ap (set c.loop-line.lines at) (c.set_flag.ensures ∙ ap F (sym c.line-item.is))
    ∙ ap (λ lines. set lines at (F line)) c.loop-line.invariant
    ∙ next F at c.args.lines.now line inside (c.line-item.is ∙ ap (λ lines. get_or lines at line) c.loop-line.invariant)
