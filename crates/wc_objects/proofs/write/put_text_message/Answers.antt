use Rattle.wc_objects.specs.Spelling.{be32, text_body_bytes}
use Rattle.wc_objects.proofs.Rooms.{count_has_room, rest_has_room, sized_has_text_room, puts_text_message}
use Rattle.wc_objects.proofs.write.put_text_message.Goals as goal

pub put_count-requires : goal.put_count-requires
put_count-requires c =
    count_has_room c.args.out.now c.args.size (text_body_bytes c.args.id.now c.args.text.now)
    (sized_has_text_room c.args.out.now c.args.id.now c.args.text.now c.args.size c.requires.size c.requires.room)

pub put_text_body-requires : goal.put_text_body-requires
put_text_body-requires c =
    rest_has_room c.args.out.now c.put_count.new.out (be32 c.args.size) (text_body_bytes c.args.id.now c.args.text.now)
    (sized_has_text_room c.args.out.now c.args.id.now c.args.text.now c.args.size c.requires.size c.requires.room) c.put_count.ensures

pub returns : goal.returns
returns c = puts_text_message c.args.out.now c.put_count.new.out c.put_text_body.new.out c.args.id.now c.args.text.now c.args.size c.requires.size c.put_count.ensures c.put_text_body.ensures
