use Rattle.std.proofs.Common.{◌≡◌, ℕ, subst, ◌<◌, ◌^◌, arith}
use Rattle.wc_nicklist.specs.Digest.{bytes_compared}
use Rattle.wc_nicklist.proofs.Digests.{front_next, front_bound, front_fits, cased_bytes}
use Rattle.wc_nicklist.proofs.digest.front.Goals as goal

pub overflow_mul-front : goal.overflow_mul-front
overflow_mul-front c =
    let bound = front_bound c.loop-i.i _ (cased_bytes c.loop-i.i c.args.keeps_case c.args.bytes.now (λ i. omega (arith, c.type_inv.bytes i))) in
    let below : c.loop-i.front < 256 ^ c.loop-i.i = omega (arith, bound, c.loop-i.invariant) in
    let fits = front_fits c.loop-i.i c.loop-i.front 0 (omega (arith, c.requires, c.loop-i-test.true)) below (omega arith) in
    omega (arith, fits)

pub overflow_add-front : goal.overflow_add-front
overflow_add-front c =
    let bound = front_bound c.loop-i.i _ (cased_bytes c.loop-i.i c.args.keeps_case c.args.bytes.now (λ i. omega (arith, c.type_inv.bytes i))) in
    let below : c.loop-i.front < 256 ^ c.loop-i.i = omega (arith, bound, c.loop-i.invariant) in
    let byte : c.from.result < 256 = omega (arith, c.from.ensures, c.byte_at.type_inv) in
    let fits = front_fits c.loop-i.i c.loop-i.front c.from.result (omega (arith, c.requires, c.loop-i-test.true)) below byte in
    omega (arith, fits)

pub loop-i-preserved : goal.loop-i-preserved
loop-i-preserved c =
    let more = front_next c.loop-i.i (bytes_compared c.args.keeps_case c.args.bytes.now) in
    omega (arith, more, c.loop-i.invariant, c.from.ensures, c.byte_at.ensures)

pub returns-clause-bytes : goal.returns-clause-bytes
returns-clause-bytes c = λ i. omega (arith, c.type_inv.bytes i)

pub returns-clause-bound : goal.returns-clause-bound
returns-clause-bound c =
    let all : c.loop-i.i ≡ c.args.count = omega (arith, c.loop-i-test.false, c.loop-i.auto.i-end) in
    let P : ℕ → Type 0 = λ n. c.loop-i.front < 256 ^ n in
    let bound = front_bound c.loop-i.i _ (cased_bytes c.loop-i.i c.args.keeps_case c.args.bytes.now (λ i. omega (arith, c.type_inv.bytes i))) in
    subst P all (omega (arith, bound, c.loop-i.invariant))
