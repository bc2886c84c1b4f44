use Rattle.std.proofs.Common.{refl}
use Rattle.wc_events.specs.BufferObjects.{objects_of}
use Rattle.wc_session.proofs.buffer_event.BufferEvent.of_trim.Goals as goal

pub returns : goal.returns
unfolding objects_of
returns c = λ world. record {
  kind = refl;
  buffer = refl;
  bytes = rw (c.new-bytes.ensures.items, c.event_id.ensures.id, c.as_slice.ensures, c.in_ok-objects.ensures.objects) at c.in_ok-_fits.ensures.ok;
}
