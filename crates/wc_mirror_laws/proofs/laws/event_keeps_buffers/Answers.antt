use Rattle.wc_mirror_laws.specs.Held.{Buffers}
use Rattle.wc_mirror_laws.proofs.EventLemmas.{step_mirrors, dump_mirrors}
use Rattle.wc_mirror_laws.proofs.laws.event_keeps_buffers.Goals as goal

pub returns-clause-kept : goal.returns-clause-kept
returns-clause-kept c = λ limit link id state event part kept free within fair plain after stays had. step_mirrors Buffers limit link id state event part kept free within fair plain after stays had

pub returns-clause-dump : goal.returns-clause-dump
returns-clause-dump c = λ limit link id state event part dump kept within asks takes plain after stays. dump_mirrors Buffers limit link id state event part dump kept within asks takes plain after stays
