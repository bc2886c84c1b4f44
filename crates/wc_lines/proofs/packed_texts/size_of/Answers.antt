use Rattle.std.proofs.Common.{◌≡◌, ◌+◌, ◌++◌, ◌∷◌, [], ◌∙◌, length, sym, ap, take, arith}
use Rattle.std.proofs.lemmas.List.{take_more}
use Rattle.wc_lines.specs.Packed.{all_spelled}
use Rattle.wc_lines.proofs.PackedLaws.{one_longer}
use Rattle.wc_lines.proofs.packed_texts.size_of.Goals as goal

pub loop-tag-preserved : goal.loop-tag-preserved
loop-tag-preserved c =
    let tags = c.args.tags.now in
    let at = c.loop-tag.tag-index in
    let tag = c.tag-item.result in
    let more : take (at + 1) tags ≡ take at tags ++ tag ∷ [] =
    take_more tags at tag c.loop-tag-test.true ∙ ap (λ t. take at tags ++ t ∷ []) (sym c.tag-item.is) in
    let after : length (all_spelled (take (at + 1) tags)) ≡ length (all_spelled (take at tags)) + 4 + length tag =
    ap (λ ts. length (all_spelled ts)) more ∙ one_longer (take at tags) tag in
    omega (arith, c.loop-tag.invariant, c.in_ok-size-2.ensures, c.in_ok-size-3.ensures, ap length c.as_slice.ensures, after)
