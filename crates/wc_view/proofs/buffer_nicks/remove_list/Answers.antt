use Rattle.std.proofs.Common.{rules, ◌∙◌, ap}
use Rattle.std.proofs.lemmas.Fn.{filter_same}
use Rattle.wc_view.specs.NickEntries.{nicks_at}
use Rattle.wc_view.proofs.EditLemmas.{is_other}
use Rattle.wc_view.proofs.NickEntries.{list_gone}
use Rattle.wc_view.proofs.buffer_nicks.remove_list.Goals as goal

pub returns : goal.returns
returns c =
    ap nicks_at (filter_same _ (is_other c.args.buffer) _ (λ x b f' k. search rules) _ _ c.retain.ensures.filtered)
    ∙ list_gone c.args.buffer c.args.entries.now.items
