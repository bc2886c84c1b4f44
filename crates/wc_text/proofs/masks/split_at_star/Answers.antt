use Rattle.std.proofs.Common.{◌≡◌, ◌<◌, ◌++◌, ◌∷◌, true, length, sym, ap, ◌∙◌, arith}
use Rattle.wc_text.specs.Mask.{is_plain}
use Rattle.wc_text.proofs.MaskLemmas.{no_star, star_at}
use Rattle.wc_text.proofs.masks.split_at_star.Goals as goal

pub returns-then-star-mask : goal.returns-then-star-mask
returns-then-star-mask c =
    let plain : is_plain c.args.mask.now ≡ true = no_star c.args.mask.now c.place_of-star.result c.place_of-star.ensures.place c.if-star-mask.true in
    plain

pub returns : goal.returns
returns c =
    let inside : c.place_of-star.result < length c.args.mask.now = omega (arith, c.place_of-star.ensures.within) in
    let h = star_at c.args.mask.now c.place_of-star.result c.place_of-star.ensures.place inside in
    let plain : is_plain c.split_at.result.0.now ≡ true = ap is_plain c.split_at.ensures.front ∙ h.0 in
    (plain, h.1 ∙ (λ k. sym c.split_at.ensures.front k ++ 42 ∷ sym c.split_at-2.ensures.back k))
