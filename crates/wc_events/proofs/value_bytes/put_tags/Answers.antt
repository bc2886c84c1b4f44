use Rattle.std.proofs.Common.{ℕ, List, sym, subst}
use Rattle.wc_objects.specs.declared.kind.Kind.TheVariants as kinds
use Rattle.wc_objects.specs.Kinds.{letters}
use Rattle.wc_objects.specs.Spelling.{HasRoomFor, Puts, with_count}
use Rattle.wc_objects.proofs.Rooms.{Puts-then, rest_has_room}
use Rattle.wc_events.specs.ValueBytes.{tag_bytes}
use Rattle.wc_events.proofs.ValueBytes.{tags_value}
use Rattle.wc_events.proofs.value_bytes.put_tags.Goals as goal

pub put_counted_tags-requires : goal.put_counted_tags-requires
put_counted_tags-requires c =
    let tags = c.args.line.now.tags in
    rest_has_room c.args.out.now c.put_kind.new.out (letters kinds.Str) (with_count tag_bytes tags) (subst (λ (b : List ℕ). HasRoomFor c.args.out.now b) (tags_value tags) c.requires) c.put_kind.ensures

pub returns : goal.returns
returns c =
    let tags = c.args.line.now.tags in
    subst (λ (b : List ℕ). Puts c.args.out.now c.put_counted_tags.new.out b) (sym (tags_value tags))
    (Puts-then c.args.out.now c.put_kind.new.out c.put_counted_tags.new.out (letters kinds.Str) (with_count tag_bytes tags) c.put_kind.ensures c.put_counted_tags.ensures)
