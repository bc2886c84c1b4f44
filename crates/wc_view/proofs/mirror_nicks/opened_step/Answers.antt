use Rattle.std.proofs.Common.{◌≡◌, [], sym, ap, ◌∙◌}
use Rattle.wc_view.specs.NickSteps.{put_new}
use Rattle.std.specs.Prelude.{option_map}
use Rattle.wc_view.proofs.NickFolded.{opened_some}
use Rattle.wc_view.proofs.mirror_nicks.opened_step.Goals as goal

pub returns : goal.returns
returns c = λ part.
    let entry : c.new-2.result ≡ (c.in-Some.buffer, []) = c.new-2.ensures ∙ ap (λ n. (c.in-Some.buffer, n.rows)) c.in_ok-list.ensures in
    ap (λ e. option_map (put_new e) part) entry ∙ opened_some _ c.in-Some.buffer part (sym c.in-Some.is ∙ c.in_ok-buffer.ensures)
