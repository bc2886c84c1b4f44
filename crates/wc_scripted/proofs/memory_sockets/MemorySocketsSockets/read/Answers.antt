use Rattle.std.proofs.Common.{rules, refl}
use Rattle.wc_scripted.specs.declared.rows.Row.{Row}
use Rattle.wc_scripted.proofs.RowLemmas.{set_rest}
use Rattle.wc_scripted.proofs.SeesLemmas.{sees_with, plays_with, drained_sees}
use Rattle.wc_scripted.proofs.memory_sockets.MemorySocketsSockets.read.Goals as goal

pub returns-in-NotYet-clause-sees : goal.returns-in-NotYet-clause-sees
returns-in-NotYet-clause-sees c = sees_with c.drain.new.rows.items _ _ _ refl (search rules) (rw (c.drain.ensures.rows, c.in-NotYet.is) (drained_sees c.args.self.now.rows.items c.args.link.0))

pub returns-in-NotYet-clause-play : goal.returns-in-NotYet-clause-play
returns-in-NotYet-clause-play c = plays_with c.drain.new.rows.items _ _ refl (search rules) (λ other. rw c.drain.ensures.rows (set_rest (λ (row : Row). row.news) c.args.self.now.rows.items c.args.link.0 other _ refl)) (λ other. rw c.drain.ensures.rows (set_rest (λ (row : Row). row.taken) c.args.self.now.rows.items c.args.link.0 other _ refl))
