use Rattle.std.proofs.Common.{ap, sym, ◌∙◌, ◌||◌, ◌++◌, take, length}
use Rattle.std.specs.List.{list_any}
use Rattle.wc_outside.specs.Happenings.{is_listener}
use Rattle.wc_scripted.specs.Plays.{links_below}
use Rattle.wc_scripted.specs.Rows.{row_at, is_fresh_row}
use Rattle.wc_scripted.proofs.RowLemmas.{front_listener}
use Rattle.wc_scripted.proofs.report.report.Goals as goal

pub returns-clause-listening : goal.returns-clause-listening
returns-clause-listening c =
    let tokens = c.report_links.ensures.tokens ∙ ap (λ s. take 64 (s ++ links_below (λ link. is_fresh_row (row_at link c.args.rows.now)) (length c.args.rows.now))) c.report_listener.ensures.tokens in
    c.report_listener.ensures.listening ∙ ap (λ b. c.args.listening.now || b) (sym (ap (list_any is_listener) tokens ∙ front_listener c.args.arriving.now (λ link. is_fresh_row (row_at link c.args.rows.now)) (length c.args.rows.now) 63))
