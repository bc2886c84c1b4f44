use Rattle.std.proofs.Common.{◌≡◌, ◌++◌, ◌+◌, ◌≤◌, length, take}
use Rattle.std.specs.Slice.Iter.{iter_rest}
use Rattle.mio.specs.Events.{items}
use Rattle.wc_edge.specs.Rows.{SourcesReported, is_there}
use Rattle.wc_edge.specs.Sources.{sources_of}
use Rattle.wc_edge.proofs.report.report.Given as goal

abbrev pub invariant-loop-event : goal.invariant-loop-event
invariant-loop-event l = record {
  reported : SourcesReported l.fn.rows l.rows l.fn.listening l.listening (take l.ready.count l.ready.tokens);
  room : l.ready.count + length (iter_rest l.event-iterator) ≤ 64;
  handed : take l.ready.count l.ready.tokens ++ sources_of (is_there l.fn.rows) (iter_rest l.event-iterator) ≡ sources_of (is_there l.fn.rows) (items l.events);
}
