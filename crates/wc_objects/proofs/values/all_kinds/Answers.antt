use Rattle.std.proofs.Common.{ap, ◌∙◌}
use Rattle.wc_objects.specs.Forms.{kinds_of_keys}
use Rattle.wc_objects.specs.Left.{keys_left}
use Rattle.wc_objects.proofs.KeyLemmas.{after_kinds, kinds_start}
use Rattle.wc_objects.proofs.values.all_kinds.Goals as goal

pub loop-left-init : goal.loop-left-init
loop-left-init c =
    ap (λ front. after_kinds front (kinds_of_keys (keys_left c.all_keys-left.result))) c.new-kinds.ensures.items
    ∙ kinds_start c.args.keys.now c.all_keys-left.result c.all_keys-left.ensures
