use Rattle.std.proofs.Common.{◌++◌, ◌∙◌, length, ap, arith, length-append}
use Rattle.wc_lines.specs.Packed.{all_spelled}
use Rattle.wc_lines.proofs.PackedLaws.{end_of_block, texts_of_block}
use Rattle.wc_lines.proofs.packed_texts.PackedTexts.new.Goals as goal

pub returns : goal.returns
returns c =
    let tags = c.args.tags.now in
    let prefix = c.args.prefix.now in
    let message = c.args.message.now in
    let first = c.in_ok-message_at.ensures.bytes ∙ ap (λ bytes. bytes ++ prefix) c.in_ok-block.ensures.items in
    let second = c.in_ok-tags_at.ensures.bytes ∙ ap (λ bytes. bytes ++ message) first in
    let third = c.in_ok-put_tags.ensures.spelled ∙ ap (λ bytes. bytes ++ all_spelled tags) second in
    texts_of_block tags prefix message _ _ _ (c.in_ok-message_at.ensures.end ∙ ap length first)
    (c.in_ok-tags_at.ensures.end ∙ ap length second) c.in_ok-put_tags.ensures.fit third

pub invariant_of-result : goal.invariant_of-result
invariant_of-result c =
    let tags = c.args.tags.now in
    let prefix = c.args.prefix.now in
    let message = c.args.message.now in
    let first = c.in_ok-message_at.ensures.bytes ∙ ap (λ bytes. bytes ++ prefix) c.in_ok-block.ensures.items in
    let second = c.in_ok-tags_at.ensures.bytes ∙ ap (λ bytes. bytes ++ message) first in
    let third = c.in_ok-put_tags.ensures.spelled ∙ ap (λ bytes. bytes ++ all_spelled tags) second in
    let at_message = c.in_ok-message_at.ensures.end ∙ ap length first in
    let at_tags = c.in_ok-tags_at.ensures.end ∙ ap length second in
    record {
      message = omega (arith, at_message, at_tags, length-append prefix message);
      tags = omega (arith, at_tags, ap length third, length-append (prefix ++ message) (all_spelled tags));
      spelled = end_of_block tags (prefix ++ message) _ _ at_tags c.in_ok-put_tags.ensures.fit third;
    }
