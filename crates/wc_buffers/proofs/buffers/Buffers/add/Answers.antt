use Rattle.std.proofs.Common.{sym, subst, All}
use Rattle.wc_buffers.specs.Entries.{IsText}
use Rattle.wc_buffers.proofs.RefusalLemmas.{not_due, add_refused}
use Rattle.wc_buffers.proofs.buffers.Buffers.add.Goals as goal

pub returns-in-Some-clause-refused : goal.returns-in-Some-clause-refused
returns-in-Some-clause-refused c = λ memory.
    let v = c.as_slice.ensures in
    add_refused c.args.row c.args.vars.now c.args.self.now c.add_refusal.result c.in-Some.refused (rw v at c.add_refusal.ensures) c.in-Some.is memory

pub put_new-requires-clause-vars : goal.put_new-requires-clause-vars
put_new-requires-clause-vars c = subst (All IsText) (sym c.as_slice-2.ensures) c.requires.vars

pub put_new-requires-clause-so_far : goal.put_new-requires-clause-so_far
put_new-requires-clause-so_far c = rw c.as_slice-2.ensures (not_due _ c.add_refusal.result (rw c.as_slice.ensures at c.add_refusal.ensures) c.in_default.is)
