use Rattle.std.proofs.Common.{◌≡◌, ◌-◌}
use Rattle.sha2.specs.Sha512.{sha512}
use Rattle.wc_relaycmd.specs.Pbkdf2.{key_block, round_after, rounds_up_to}
use Rattle.wc_relaycmd.proofs.rounds_sha512.pbkdf2_sha512.Given as goal

abbrev pub invariant-loop-i : goal.invariant-loop-i
invariant-loop-i l =
    (l.code ≡ round_after sha512 (key_block sha512 128 l.fn.password) l.fn.salt (l.i - 1))
    × (l.total ≡ rounds_up_to sha512 (key_block sha512 128 l.fn.password) l.fn.salt (l.i - 1))
