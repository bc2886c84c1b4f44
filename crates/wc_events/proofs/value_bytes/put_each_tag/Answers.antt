use Rattle.std.proofs.Common.{◌++◌, ◌∙◌, length, ap, arith}
use Rattle.wc_events.proofs.ValueBytes.{spelled_length, spelled_tags_are}
use Rattle.wc_events.proofs.value_bytes.put_each_tag.Goals as goal

pub extend_reserved-requires : goal.extend_reserved-requires
extend_reserved-requires c =
    let room = c.requires.0 in
    omega (arith, room, ap length c.spelled_tags.ensures, spelled_length c.args.line.now.tags)

pub returns : goal.returns
returns c =
    let tags = c.args.line.now.tags in
    let spare = c.extend_reserved.ensures.spare in (
      c.extend_reserved.ensures.items ∙ ap (λ bytes. c.args.out.now.items ++ bytes) (c.spelled_tags.ensures ∙ spelled_tags_are tags),
      omega (arith, spare, ap length c.spelled_tags.ensures, spelled_length tags),
    )
