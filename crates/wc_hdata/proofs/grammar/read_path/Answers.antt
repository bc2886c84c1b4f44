use Rattle.std.proofs.Common.{Some, None, sym, ◌∙◌}
use Rattle.std.specs.Option.{option_copied}
use Rattle.wc_hdata.proofs.PathLemmas.{no_head, path_read, path_is, unspelled}
use Rattle.wc_hdata.proofs.grammar.read_path.Goals as goal

pub returns-in_default-clause-computed : goal.returns-in_default-clause-computed
returns-in_default-clause-computed c = no_head c.args.text.now c.split_once.result.0.now c.split_once.ensures.front c.in_default.ensures

pub returns-in_default-clause-none : goal.returns-in_default-clause-none
returns-in_default-clause-none c = unspelled c.args.text.now (no_head c.args.text.now c.split_once.result.0.now c.split_once.ensures.front c.in_default.ensures)

pub returns-in_default-2-clause-computed : goal.returns-in_default-2-clause-computed
returns-in_default-2-clause-computed c =
    path_read c.args.text.now c.split_once.result.0.now (option_copied c.split_once.result.1) c.in-Some.start c.in-Some.count c.element.result None
    c.split_once.ensures.front c.split_once.ensures.back c.in-Some.ensures c.element.ensures (sym c.in_default-2.is ∙ c.in_ok-steps.ensures)

pub returns-in_default-2-clause-none : goal.returns-in_default-2-clause-none
returns-in_default-2-clause-none c =
    unspelled c.args.text.now (path_read c.args.text.now c.split_once.result.0.now (option_copied c.split_once.result.1) c.in-Some.start c.in-Some.count c.element.result None
    c.split_once.ensures.front c.split_once.ensures.back c.in-Some.ensures c.element.ensures (sym c.in_default-2.is ∙ c.in_ok-steps.ensures))

pub returns-clause-computed : goal.returns-clause-computed
returns-clause-computed c =
    path_read c.args.text.now c.split_once.result.0.now (option_copied c.split_once.result.1) c.in-Some.start c.in-Some.count c.element.result (Some c.in-Some-2.steps)
    c.split_once.ensures.front c.split_once.ensures.back c.in-Some.ensures c.element.ensures (sym c.in-Some-2.is ∙ c.in_ok-steps.ensures)

pub returns-clause-spelled : goal.returns-clause-spelled
returns-clause-spelled c =
    path_is c.args.text.now _ (sym (path_read c.args.text.now c.split_once.result.0.now (option_copied c.split_once.result.1) c.in-Some.start c.in-Some.count c.element.result (Some c.in-Some-2.steps)
    c.split_once.ensures.front c.split_once.ensures.back c.in-Some.ensures c.element.ensures (sym c.in-Some-2.is ∙ c.in_ok-steps.ensures)))
