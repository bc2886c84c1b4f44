use Rattle.std.proofs.Common.{◌≡◌, ◌-◌}
use Rattle.sha2.specs.Sha256.{sha256}
use Rattle.wc_relaycmd.specs.Pbkdf2.{key_block, round_after, rounds_up_to}
use Rattle.wc_relaycmd.proofs.rounds_sha256.pbkdf2_sha256.Given as goal

abbrev pub invariant-loop-i : goal.invariant-loop-i
invariant-loop-i l =
    (l.code ≡ round_after sha256 (key_block sha256 64 l.fn.password) l.fn.salt (l.i - 1))
    × (l.total ≡ rounds_up_to sha256 (key_block sha256 64 l.fn.password) l.fn.salt (l.i - 1))
