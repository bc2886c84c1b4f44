use Rattle.std.proofs.Common.{◌≡◌, ◌∷◌, ap, ◌∙◌}
use Rattle.std.specs.Option.{option_copied}
use Rattle.wc_irc_texts.specs.Tags.{tags_left, or_before, tag_value}
use Rattle.wc_irc_texts.proofs.TagLemmas.{tags_split, next_tag}
use Rattle.wc_irc_texts.proofs.tags.tag_value.Goals as goal

pub loop-left-preserved : goal.loop-left-preserved
loop-left-preserved c =
    let tags : tags_left c.loop-left.left ≡ c.split_once.result.0.now ∷ tags_left c.split_once.result.1 =
    ap tags_left c.in-Some.is ∙ tags_split c.in-Some.rest.now c.split_once.result.0.now c.split_once.result.1 c.split_once.ensures.front c.split_once.ensures.back in
    let later = c.or_before-found.ensures ∙ ap (λ o. or_before o (option_copied c.loop-left.found)) c.value_in.ensures in
    next_tag c.args.name.now c.split_once.result.0.now (option_copied c.loop-left.found) (option_copied c.or_before-found.result) (tag_value c.args.name.now c.args.tags.now) (tags_left c.loop-left.left) (tags_left c.split_once.result.1) tags later c.loop-left.invariant
