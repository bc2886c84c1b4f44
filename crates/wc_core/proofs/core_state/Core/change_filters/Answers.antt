use Rattle.std.proofs.Common.{rules, ◌≡◌, List, ℕ, Option, [], unwrap_or, subst, sym}
use Rattle.std.specs.Option.{option_copied}
use Rattle.wc_rules.specs.Plans.{filters_switched}
use Rattle.wc_core.specs.Changing.{filter_step, planned_step}
use Rattle.wc_core.specs.declared.typed_filter.FilterChange.{FilterChange}
use Rattle.wc_core.specs.Contained.{Runs}
use Rattle.wc_core.proofs.core_state.Core.change_filters.Goals as goal

pub returns-in-Switch : goal.returns-in-Switch
returns-in-Switch c =
    let same : option_copied c.as_ref.result ≡ c.in-Switch.name = search rules in
    let P : Option (List ℕ) → Type 0 = λ name. Runs c.args.self.now c.switch_filters.new.self (λ state. planned_step state (unwrap_or name []) (filters_switched name c.in-Switch.switch state.filters)) in
    let Q : FilterChange → Type 0 = λ change. Runs c.args.self.now c.switch_filters.new.self (λ state. filter_step state change) in
    subst Q (sym c.in-Switch.is) (subst P same c.switch_filters.ensures)
