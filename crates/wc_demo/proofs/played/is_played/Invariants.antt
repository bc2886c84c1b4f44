use Rattle.std.proofs.Common.{◌≡◌, map, take}
use Rattle.wc_demo.specs.Script.{given_as}
use Rattle.wc_demo.proofs.played.is_played.Given as goal

-- the steps so far were given
abbrev pub invariant-loop-place : goal.invariant-loop-place
invariant-loop-place l = take l.place l.taken ≡ map given_as (take l.place l.steps)
