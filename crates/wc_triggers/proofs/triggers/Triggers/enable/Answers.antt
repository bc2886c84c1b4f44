use Rattle.std.proofs.Common.{◌≡◌, map, length, ap, sym, subst, ◌∙◌}
use Rattle.std.proofs.lemmas.List.{length-map}
use Rattle.wc_triggers.specs.Kept.{UpTo, with_flag}
use Rattle.wc_triggers.proofs.KeptLemmas.{up_to_switched, written}
use Rattle.wc_triggers.proofs.triggers.Triggers.enable.Goals as goal

pub invariant_of-self : goal.invariant_of-self
invariant_of-self c =
    let F = with_flag c.args.name.now c.args.on in
    let own = c.self.inside in
    let rows = own.rows.items in
    let now : c.enable.new.rows ≡ map F rows = c.enable.ensures ∙ ap (λ l. map F l) c.as_mut_slice.ensures.value in
    let old : length rows ≡ own.rows.len = ap length (sym c.as_mut_slice.ensures.value) ∙ c.as_mut_slice.ensures.len in
    let new : length c.enable.new.rows ≡ own.rows.len = ap length now ∙ length-map rows F ∙ old in
    subst (UpTo own.drawn) (sym (written own.rows.len c.enable.new.rows rows old new ∙ now))
    (up_to_switched own.drawn c.args.name.now c.args.on rows c.self.invariant)
