-- The two words of bits, place by place.
use Rattle.std.proofs.Common.{◌≡◌, ℕ, zero, suc, ◌+◌, ◌%◌, ◌<◌, Bool, true, false, min, max, arith, refl, ap, ◌∙◌, w32}
use Rattle.std.specs.Prelude.{◌==◌, if◌then◌else◌, bit_and, bit_or, bit_xor, ◌≢◌}
use Rattle.std.specs.Int.{bit_at}
use Rattle.std.proofs.lemmas.Nat.Bits.{bit_at_and, bit_at_or, bit_at_xor, bit_at_ones, bit_at-lt, bit_at_clear_same, bit_at_clear_other}
use Rattle.wc_hooks.specs.declared.past.Past.{Past}
use Rattle.wc_hooks.specs.Past.{was_at, bit_on, opened_at, noted}

then_bits : (w c : ℕ) → w < 2 → c < 2 → (max (min w c) ((c + 1) % 2) == 1) ≡ (if c == 1 then w == 1 else true)
then_bits zero zero a b = refl
then_bits zero (suc zero) a b = refl
then_bits (suc zero) zero a b = refl
then_bits (suc zero) (suc zero) a b = refl
then_bits (suc (suc w)) c a b = absurd (omega arith)
then_bits zero (suc (suc c)) a b = absurd (omega arith)
then_bits (suc zero) (suc (suc c)) a b = absurd (omega arith)

else_bits : (w c : ℕ) → w < 2 → c < 2 → (min w c == 1) ≡ (if c == 1 then w == 1 else false)
else_bits zero zero a b = refl
else_bits zero (suc zero) a b = refl
else_bits (suc zero) zero a b = refl
else_bits (suc zero) (suc zero) a b = refl
else_bits (suc (suc w)) c a b = absurd (omega arith)
else_bits zero (suc (suc c)) a b = absurd (omega arith)
else_bits (suc zero) (suc (suc c)) a b = absurd (omega arith)

all_changed : (w q : ℕ) (e : Bool) → q < 32 → was_at (record { changed = 4294967295; was = w }) q e ≡ bit_on w q
unfolding was_at
all_changed w q e lt = ap (λ b. if b == 1 then bit_on w q else e) (bit_at_ones 32 q lt)

-- what was noted stays so, whatever the entry is from now on
pub noted_then : (enabled : Bool) (past : Past) (q : ℕ) (e : Bool) → q < 32 → was_at (noted enabled past) q e ≡ was_at past q enabled
unfolding was_at noted
noted_then true past q e lt =
    all_changed (bit_or (bit_and past.was past.changed) (bit_xor past.changed 4294967295)) q e lt
    ∙ ap (λ b. b == 1) (bit_at_or (bit_and past.was past.changed) (bit_xor past.changed 4294967295) q ∙ (λ i. max (bit_at_and past.was past.changed q i) (bit_at_xor past.changed 4294967295 q i)) ∙ (λ i. max (min (bit_at past.was q) (bit_at past.changed q)) ((bit_at past.changed q + bit_at_ones 32 q lt i) % 2)))
    ∙ then_bits (bit_at past.was q) (bit_at past.changed q) (bit_at-lt past.was q) (bit_at-lt past.changed q)
noted_then false past q e lt =
    all_changed (bit_and past.was past.changed) q e lt
    ∙ ap (λ b. b == 1) (bit_at_and past.was past.changed q)
    ∙ else_bits (bit_at past.was q) (bit_at past.changed q) (bit_at-lt past.was q) (bit_at-lt past.changed q)

-- at its opening a pass sees what is
pub opened_here : (past : Past) (k : ℕ) (e : Bool) → k < 32 → was_at (opened_at k past) k e ≡ e
unfolding was_at opened_at
opened_here past k e lt = ap (λ b. if b == 1 then bit_on past.was k else e) (bit_at_clear_same w32 past.changed k lt)

pub opened_elsewhere : (past : Past) (k q : ℕ) (e : Bool) → k < 32 → q < 32 → (q ≢ k) → was_at (opened_at k past) q e ≡ was_at past q e
unfolding was_at opened_at
opened_elsewhere past k q e kl ql ne = ap (λ b. if b == 1 then bit_on past.was q else e) (bit_at_clear_other w32 past.changed k kl q ql ne)
