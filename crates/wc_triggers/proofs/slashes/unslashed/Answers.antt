use Rattle.std.proofs.Common.{arith}
use Rattle.wc_triggers.proofs.SlashLemmas.{stopped_at, walked_at, ended_at, less_others}
use Rattle.wc_triggers.proofs.slashes.unslashed.Goals as goal

pub returns-then-first-stop-clause-read : goal.returns-then-first-stop-clause-read
returns-then-first-stop-clause-read c =
    stopped_at c.args.stop c.args.both c.loop-rest.value c.loop-rest.rest.now c.args.text.now
    c.in-len1-up.len_at_least c.if-first-stop.true c.loop-rest.invariant.read

pub loop-rest-preserved : goal.loop-rest-preserved
loop-rest-preserved c =
    let rest = c.loop-rest.rest.now in record {
      read = walked_at c.args.stop c.args.both c.loop-rest.value rest c.args.text.now c.append.new.self
          c.first_meant-byte.result.1.now c.first_meant-byte.result.0 c.in-len1-up.len_at_least c.if-first-stop.false
          c.first_meant-byte.ensures.meant c.in_ok-append.ensures.ok c.loop-rest.invariant.read;
      shorter = omega (arith, c.first_meant-byte.ensures.shorter, less_others rest, c.loop-rest.invariant.shorter);
    }

pub returns-clause-read : goal.returns-clause-read
returns-clause-read c =
    ended_at c.args.stop c.args.both c.loop-rest.value c.loop-rest.rest.now c.args.text.now c.in_default.len_below c.loop-rest.invariant.read
