-- What contracts see of sockets, a keeper and a sink in memory.
use Rattle.std.specs.Prelude.{ℕ, List, length, take, drop}
use Rattle.wc_scripted.specs.declared.memory_keeper.MemoryKeeper.{MemoryKeeper}
use Rattle.wc_scripted.specs.declared.memory_sink.MemorySink.{MemorySink}
use Rattle.wc_scripted.specs.declared.memory_sockets.MemorySockets.{MemorySockets}
use Rattle.wc_scripted.specs.Counted.{Counted}
use Rattle.wc_scripted.specs.Cursors.{cursor_at, given_at}
use Rattle.wc_scripted.specs.Plays.{Plays}
use Rattle.wc_scripted.specs.Rows.{row_at}
use Rattle.wc_scripted.specs.Scripts.{nonces}
use Rattle.wc_outside.specs.Seen.{Seen}

-- what they gave, were sent and report
abbrev pub seen_of : MemorySockets → Seen
seen_of s = record {
  tells = s.told.tells;
  taken = s.told.taken;
  sent = λ link. (row_at link s.rows.items).sent;
  asked = s.told.asked;
  choked = λ link. (row_at link s.rows.items).choked;
  used = s.used;
  there = λ link. (row_at link s.rows.items).is_open;
  undrained = λ link. (row_at link s.rows.items).undrained;
  listening = s.listening;
  blocked = λ link. (row_at link s.rows.items).blocked;
  faults = record {
    waits = s.faults.waits;
    listens = s.faults.listens;
    connects = s.faults.connects;
    links = s.faults.links;
  };
}

-- how far they have played their script
abbrev pub play_of : MemorySockets → Plays
play_of s = record {
  released = take s.play.script.released s.play.script.steps;
  coming = drop s.play.script.released s.play.script.steps;
  moment = s.play.script.moment;
  arrived = length (nonces (take s.play.listener (take s.play.script.released s.play.script.steps)));
  given = λ link. given_at (take s.play.script.released s.play.script.steps) link
      (cursor_at link s.play.cursors.items);
  news = λ link. (row_at link s.rows.items).news;
  arriving = s.arriving;
  window = s.window;
  took = λ link. (row_at link s.rows.items).taken;
  calls = s.calls.made;
  failing = s.calls.failing;
  refused = s.told.refused;
}

-- what a keeper and a sink hold, how often they failed, and what they know of their calls
abbrev pub held_by : MemoryKeeper → List ℕ
held_by s = s.contents

abbrev pub faults_of : MemoryKeeper → ℕ
faults_of s = s.faults

abbrev pub printed_on : MemorySink → List ℕ
printed_on s = s.contents

abbrev pub sink_faults : MemorySink → ℕ
sink_faults s = s.faults

abbrev pub keeper_calls : MemoryKeeper → Counted
keeper_calls s = record { calls = s.calls.made; failing = s.calls.failing; refused = s.refused }

abbrev pub sink_calls : MemorySink → Counted
sink_calls s = record { calls = s.calls.made; failing = s.calls.failing; refused = s.refused }
