use Rattle.std.proofs.Common.{◌∷◌, [], sym, ap, ◌∙◌, ◌≡◌, length, subst, arith}
use Rattle.wc_nicklist.specs.Rows.{last_or}
use Rattle.wc_nicklist.specs.Digest.{place_of, IsBytes}
use Rattle.wc_nicklist.proofs.Digests.{place_none, place_far, one_name}
use Rattle.wc_nicklist.proofs.digest.place.Goals as goal

pub returns-in-empty-clause-place : goal.returns-in-empty-clause-place
returns-in-empty-clause-place c = c.kind.ensures.kind ∙ place_none c.args.path.now c.args.is_group c.in-empty.len_below

pub returns-in-empty-clause-bytes : goal.returns-in-empty-clause-bytes
returns-in-empty-clause-bytes c = λ n e. let l : length c.args.path.now ≡ 1 = ap length e in absurd (omega (arith, l, c.in-empty.len_below))

pub returns-in-len1-clause-place : goal.returns-in-len1-clause-place
returns-in-len1-clause-place c =
    let one = one_name c.args.path.now c.name-item.result c.in-len1.len_at_least c.in-len1.len_below (sym c.name-item.is) in
    c.place_below.ensures.place ∙ ap (λ n. place_of (n ∷ []) c.args.is_group) c.as_slice.ensures ∙ ap (λ p. place_of p c.args.is_group) one

pub returns-in-len1-clause-bytes : goal.returns-in-len1-clause-bytes
returns-in-len1-clause-bytes c =
    let one = one_name c.args.path.now c.name-item.result c.in-len1.len_at_least c.in-len1.len_below (sym c.name-item.is) in
    λ n e. subst IsBytes (c.as_slice.ensures ∙ ap (last_or []) (one ∙ e)) c.place_below.ensures.bytes

pub returns-in_default-clause-place : goal.returns-in_default-clause-place
returns-in_default-clause-place c = place_far c.args.path.now c.args.is_group c.in_default.len_at_least

pub returns-in_default-clause-bytes : goal.returns-in_default-clause-bytes
returns-in_default-clause-bytes c = λ n e. let l : length c.args.path.now ≡ 1 = ap length e in absurd (omega (arith, l, c.in_default.len_at_least))
