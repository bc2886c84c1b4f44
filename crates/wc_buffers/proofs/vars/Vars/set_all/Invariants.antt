use Rattle.std.proofs.Common.{◌≡◌, take}
use Rattle.wc_buffers.specs.Vars.{set_all}
use Rattle.wc_buffers.proofs.vars.Vars.set_all.Given as goal

-- those so far are set
abbrev pub invariant-loop-var : goal.invariant-loop-var
invariant-loop-var l = l.self ≡ set_all l.fn.self (take l.var-index l.vars)
