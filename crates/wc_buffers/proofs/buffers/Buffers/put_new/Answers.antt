use Rattle.std.proofs.Common.{◌∙◌, ap, sym, subst, length, arith}
use Rattle.std.specs.List.{list_any}
use Rattle.wc_buffers.specs.declared.row.BufferEntry.{BufferEntry}
use Rattle.wc_buffers.specs.Calls.{other_named}
use Rattle.wc_buffers.specs.Groups.{rows}
use Rattle.wc_buffers.specs.Kept.{IsBuffer}
use Rattle.wc_buffers.proofs.Fits.{opened_fits}
use Rattle.wc_buffers.proofs.RefusalLemmas.{add_good, add_rest, vars_refused, vars_good}
use Rattle.wc_buffers.proofs.buffers.Buffers.put_new.Goals as goal

pub returns-then-len-gt-MOST_VARS-clause-refused : goal.returns-then-len-gt-MOST_VARS-clause-refused
returns-then-len-gt-MOST_VARS-clause-refused c = λ memory.
    add_rest c.args.row c.args.vars.now c.args.self.now c.requires.so_far
    ∙ vars_refused c.args.row.full_name c.args.vars.now (omega (arith, c.if-len-gt-MOST_VARS.true, c.len.ensures, ap (λ (e : BufferEntry). length e.vars) c.in_ok-entry.ensures))

pub put-requires-clause-fits : goal.put-requires-clause-fits
put-requires-clause-fits c =
    let few = vars_good c.args.row.full_name c.args.vars.now (omega (arith, c.if-len-gt-MOST_VARS.false, c.len.ensures, ap (λ (e : BufferEntry). length e.vars) c.in_ok-entry.ensures)) in
    subst IsBuffer (sym c.in_ok-entry.ensures) (opened_fits c.args.row c.args.vars.now c.requires.text c.requires.vars (add_good c.args.row c.args.vars.now c.args.self.now c.requires.so_far).0 few)

pub put-requires-clause-room : goal.put-requires-clause-room
put-requires-clause-room c = (add_good c.args.row c.args.vars.now c.args.self.now c.requires.so_far).2

pub put-requires-clause-free : goal.put-requires-clause-free
put-requires-clause-free c =
    ap (λ (e : BufferEntry). list_any (other_named e.row.full_name e.row.handle) (rows c.args.self.now)) c.in_ok-entry.ensures ∙ (add_good c.args.row c.args.vars.now c.args.self.now c.requires.so_far).1

pub returns-clause-accepted : goal.returns-clause-accepted
returns-clause-accepted c =
    add_rest c.args.row c.args.vars.now c.args.self.now c.requires.so_far
    ∙ vars_good c.args.row.full_name c.args.vars.now (omega (arith, c.if-len-gt-MOST_VARS.false, c.len.ensures, ap (λ (e : BufferEntry). length e.vars) c.in_ok-entry.ensures))
