-- The objects of values that are lent.
use Rattle.wc_objects.specs.declared.kind.Kind.TheVariants as k
use Rattle.wc_objects.specs.declared.object.Object.{Object}
use Rattle.wc_objects.specs.declared.object.Object.TheVariants as o
use Rattle.wc_events.specs.declared.lent_value.LentValue.{LentValue}
use Rattle.wc_events.specs.declared.lent_value.LentValue.TheVariants as lent
use Rattle.wc_events.specs.BufferObjects.{table, text}
use Rattle.wc_events.specs.LineObjects.{texts}

abbrev pub object_of : LentValue → Object
object_of (lent.Int number) = o.Int number
object_of (lent.Chr number) = o.Chr number
object_of (lent.Ptr pointer) = o.Ptr pointer
object_of (lent.Tim seconds) = o.Tim seconds
object_of (lent.Str bytes) = text bytes.now
object_of (lent.Tags line) = o.Arr k.Str (texts line.now.tags)
object_of (lent.Vars vars) = table vars.now
