use Rattle.std.proofs.Common.{◌≡◌, ◌+◌, ◌<◌, ◌^◌, ◌++◌, ◌∷◌, [], ◌∙◌, List, ℕ, length, sym, ap, subst, take}
use Rattle.std.proofs.lemmas.List.{take_more}
use Rattle.wc_lines.specs.Packed.{spelled, all_spelled, AllFit}
use Rattle.wc_lines.proofs.PackedLaws.{put_one, fits_one}
use Rattle.wc_lines.proofs.packed_texts.put_tags.Goals as goal

pub loop-tag-preserved : goal.loop-tag-preserved
loop-tag-preserved c =
    let tags = c.args.tags.now in
    let at = c.loop-tag.tag-index in
    let tag = c.tag-item.result in
    let was = c.loop-tag.invariant in
    let more : take (at + 1) tags ≡ take at tags ++ tag ∷ [] =
    take_more tags at tag c.loop-tag-test.true ∙ ap (λ t. take at tags ++ t ∷ []) (sym c.tag-item.is) in
    let put = c.in_ok-put_tag.ensures.spelled ∙ ap (λ t. c.loop-tag.block.items ++ spelled t) c.as_slice.ensures in
    let fits : length tag < 2 ^ 32 = subst (λ (t : List ℕ). length t < 2 ^ 32) c.as_slice.ensures c.in_ok-put_tag.ensures.fits in
    let tags_put = put_one c.args.block.now.items c.loop-tag.block.items c.put_tag.new.block.items tag (take at tags) was.0 put in (
      tags_put ∙ ap (λ ts. c.args.block.now.items ++ all_spelled ts) (sym more),
      subst AllFit (sym more) (fits_one tag (take at tags) was.1 fits),
    )
