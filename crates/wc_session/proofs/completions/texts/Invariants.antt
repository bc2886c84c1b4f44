use Rattle.std.proofs.Common.{◌≡◌, ◌++◌, drop}
use Rattle.wc_events.specs.LineObjects.{texts}
use Rattle.wc_session.proofs.completions.texts.Given as goal

-- the texts so far, and those that are left
abbrev pub invariant-loop-one : goal.invariant-loop-one
invariant-loop-one l = l.values ++ texts (drop l.one-index l.list) ≡ texts l.list
