use Rattle.std.proofs.Common.{Some, None, sym, ◌∙◌}
use Rattle.wc_text.proofs.MaskLemmas.{front_and_star}
use Rattle.wc_text.proofs.masks.mask_matches.Goals as goal

pub returns-in_default-after_front : goal.returns-in_default-after_front
returns-in_default-after_front c = let h = c.in-Some.ensures in sym (front_and_star c.args.fold c.args.mask.now c.in-Some.front.now c.in-Some.others.now c.args.text.now None h.0 h.1 c.in_default-after_front.ensures)

pub returns : goal.returns
returns c =
    let h = c.in-Some.ensures in
    c.matches_some_end.ensures
    ∙ sym (front_and_star c.args.fold c.args.mask.now c.in-Some.front.now c.in-Some.others.now c.args.text.now (Some c.in-Some-after_front.following.now) h.0 h.1 c.in-Some-after_front.ensures)
