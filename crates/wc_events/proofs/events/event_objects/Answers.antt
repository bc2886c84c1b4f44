use Rattle.wc_events.specs.BufferObjects.{opened_values, objects_of}
use Rattle.wc_events.proofs.events.event_objects.Goals as goal

pub returns-in-Opened-clause-objects : goal.returns-in-Opened-clause-objects
unfolding objects_of opened_values
returns-in-Opened-clause-objects c = rw (c.in-Opened.is, ← c.buffers.ensures) c.told_object.ensures.objects
