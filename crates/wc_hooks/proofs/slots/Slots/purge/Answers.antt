use Rattle.std.proofs.Common.{rules, ◌∙◌, ap}
use Rattle.std.specs.Prelude.{filter}
use Rattle.std.proofs.lemmas.Fn.{filter_same}
use Rattle.wc_hooks.specs.Slots.{is_live}
use Rattle.wc_hooks.proofs.slots.Slots.purge.Goals as goal

pub returns : goal.returns
returns c = filter_same _ is_live _ (λ x b f' k. search rules) _ _ c.retain.ensures.filtered ∙ ap (filter is_live) c.self.view_is
