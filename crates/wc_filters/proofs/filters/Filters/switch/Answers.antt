use Rattle.std.proofs.Common.{◌≡◌, map, length, ap, sym, subst, ◌∙◌}
use Rattle.std.proofs.lemmas.List.{length-map}
use Rattle.std.specs.Option.{option_copied}
use Rattle.wc_filters.specs.Kept.{AreFine, with_switch}
use Rattle.wc_filters.proofs.FilterLemmas.{fine_switched, written}
use Rattle.wc_filters.proofs.filters.Filters.switch.Goals as goal

pub returns-clause-fine : goal.returns-clause-fine
returns-clause-fine c verdicts fine =
    let name = option_copied c.args.name in
    let F = with_switch name c.args.switch in
    let rows = c.self.inside.rows.items in
    let was : AreFine verdicts rows = subst (λ l. AreFine verdicts l) (sym c.self.view_is) fine in
    let now : c.switch_rows.new.rows ≡ map F rows = c.switch_rows.ensures ∙ ap (λ l. map F l) c.as_mut_slice.ensures.value in
    let old : length rows ≡ c.self.inside.rows.len = ap length (sym c.as_mut_slice.ensures.value) ∙ c.as_mut_slice.ensures.len in
    let new : length c.switch_rows.new.rows ≡ c.self.inside.rows.len = ap length now ∙ length-map rows F ∙ old in
    subst (λ l. AreFine verdicts l) (sym (written c.self.inside.rows.len c.switch_rows.new.rows rows old new ∙ now))
    (fine_switched verdicts name c.args.switch rows was)
