use Rattle.std.proofs.Common.{rules, ◌≡◌, ◌++◌, ◌∷◌, take}
use Rattle.std.specs.Slice.Iter.{iter_rest}
use Rattle.mio.specs.Events.{items}
use Rattle.wc_edge.specs.Rows.{is_there}
use Rattle.wc_edge.specs.Sources.{sources_of}
use Rattle.wc_edge.proofs.SourceLemmas.{handed_on, reported_on}
use Rattle.wc_edge.proofs.report.report.Goals as goal

pub loop-event-preserved-in-Some-source_of : goal.loop-event-preserved-in-Some-source_of
loop-event-preserved-in-Some-source_of c =
    let rest = iter_rest c.next.new.self in
    let there = is_there c.args.rows.now in
    let told = take c.loop-event.ready.count c.loop-event.ready.tokens in
    let before : told ++ sources_of there (c.in-Some.event.now ∷ rest) ≡ sources_of there (items c.args.events.now) =
    rw c.in-Some.ensures.steps at c.loop-event.invariant.handed in
    record {
      reported = rw c.add.ensures.tokens (reported_on c.args.rows.now c.loop-event.rows c.mark.new.rows _ _ _ told c.in-Some-source_of.source c.loop-event.invariant.reported c.mark.ensures);
      room = search rules;
      handed = rw c.add.ensures.tokens (handed_on (is_there c.loop-event.rows) there c.in-Some.event.now rest c.in-Some-source_of.source told _ c.loop-event.invariant.reported.there c.in-Some-source_of.ensures.source before);
    }
