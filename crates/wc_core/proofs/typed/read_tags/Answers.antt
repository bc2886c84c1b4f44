use Rattle.wc_text.specs.Splits.{before}
use Rattle.std.proofs.Common.{◌≡◌, ap, sym, ◌∙◌, ◌++◌, append_assoc, filter, [], ◌∷◌}
use Rattle.wc_text.specs.Words.{is_filled}
use Rattle.wc_core.proofs.ResolvedWords.{tags_split, tags_left}
use Rattle.wc_core.proofs.typed.read_tags.Goals as goal

pub loop-left-preserved : goal.loop-left-preserved
loop-left-preserved c =
    let tags = c.loop-left.tags in
    let text_after = c.split_once.result.1 in
    let pushed : c.push_filled.new.tags ≡ tags ++ filter is_filled (c.split_once.result.0.now ∷ []) = c.in_ok-push_filled.ensures in
    ap (λ t. t ++ tags_left text_after) (pushed ∙ ap (λ tag. tags ++ filter is_filled (tag ∷ [])) c.split_once.ensures.front)
    ∙ append_assoc tags (filter is_filled (before 44 c.in-Some.rest.now ∷ [])) (tags_left text_after)
    ∙ ap (λ t. tags ++ t) (sym (tags_split c.in-Some.rest.now text_after c.split_once.ensures.back)) ∙ sym (ap (λ o. tags ++ tags_left o) c.in-Some.is) ∙ c.loop-left.invariant
