-- The laws of the order of kinds, keys and priorities.
use Rattle.std.proofs.Common.{◌≡◌, ℕ, zero, suc, Bool, true, false, List, refl, sym, ap, ◌∙◌, Ordering}
use Rattle.std.specs.Prelude.{◌&&◌, bytes_eq}
use Rattle.std.specs.declared.cmp.Ordering.TheVariants.{Less, Equal, Greater}
use Rattle.std.specs.Ordering.{nat_cmp, ordering_then, ordering_reverse, is_lt, is_gt}
use Rattle.std.specs.Cmp.{IsTotalOrder}
use Rattle.std.specs.Cmp.Lexicographic.{slice_cmp, bytes_decides}
use Rattle.std.specs.FinMap.{nat_cmp-IsAntisymmetric, slice_cmp-IsAntisymmetric}
use Rattle.std.proofs.lemmas.Cmp.{then_total, on_total, back_total, nat_cmp_total, nat_list_cmp_total, tied_itself, alike_right}
use Rattle.std.proofs.lemmas.Bool.{and_parts, and_from, false≢true, eqb-true, eq-eqb, false_from_ne_true}
use Rattle.wc_hooks.specs.declared.kind.HookKind.{HookKind}
use Rattle.wc_hooks.specs.declared.kind.HookKind.TheVariants.{Relay, Signal, Print, Modifier, Command, CommandRun, Timer}
use Rattle.wc_hooks.specs.Kinds.{kind_number, same_kind}
use Rattle.wc_hooks.specs.Ranks.{Rank, topic_order, rank_order, precedes}

abbrev pub topics : Rank → Rank → Ordering
topics a b = topic_order a.kind a.key b.kind b.key

pub topics_total : IsTotalOrder topics
unfolding topic_order
topics_total = then_total (on_total (λ r. kind_number r.kind) nat_cmp_total) (on_total (λ r. r.key) nat_list_cmp_total)

pub ranks_total : IsTotalOrder rank_order
unfolding rank_order
ranks_total = then_total topics_total (on_total (λ r. r.priority) (back_total nat_cmp_total))

pub is_less : (r : Ordering) → is_lt r ≡ true → r ≡ Less
is_less Less e = refl
is_less Equal e = absurd (false≢true e)
is_less Greater e = absurd (false≢true e)

turned : (r s : Ordering) → r ≡ ordering_reverse s → is_lt s ≡ false → is_gt r ≡ false
turned r Less e h = absurd (false≢true (sym h))
turned r Equal e h = ap is_gt e
turned r Greater e h = ap is_gt e

-- one that does not come before another
pub not_after : {K : Type 0} {R : K → K → Ordering} (o : IsTotalOrder R) → (x y : K) → is_lt (R y x) ≡ false → is_gt (R x y) ≡ false
not_after {R = R} o x y h = turned (R x y) (R y x) (o.antisymm x y) h

up_from : {K : Type 0} {R : K → K → Ordering} (o : IsTotalOrder R) → (x y z : K) (r : Ordering) → R x y ≡ r → is_gt r ≡ false → is_lt (R y z) ≡ true → is_lt (R x z) ≡ true
up_from o x y z Less e h l = ap is_lt (o.trans x y z e (is_less _ l))
up_from o x y z Equal e h l = ap is_lt (o.congr x y z e) ∙ l
up_from o x y z Greater e h l = absurd (false≢true (sym h))

-- what is no higher than one that comes before a third comes before it too
pub lower_first : {K : Type 0} {R : K → K → Ordering} (o : IsTotalOrder R) → (x y z : K) → is_gt (R x y) ≡ false → is_lt (R y z) ≡ true → is_lt (R x z) ≡ true
lower_first {R = R} o x y z h l = up_from o x y z (R x y) refl h l

up_to : {K : Type 0} {R : K → K → Ordering} (o : IsTotalOrder R) → (x y z : K) (r : Ordering) → R y z ≡ r → is_lt (R x y) ≡ true → is_gt r ≡ false → is_lt (R x z) ≡ true
up_to o x y z Less e l h = ap is_lt (o.trans x y z (is_less _ l) e)
up_to o x y z Equal e l h = ap is_lt (sym (alike_right o y z x e)) ∙ l
up_to o x y z Greater e l h = absurd (false≢true (sym h))

pub higher_last : {K : Type 0} {R : K → K → Ordering} (o : IsTotalOrder R) → (x y z : K) → is_lt (R x y) ≡ true → is_gt (R y z) ≡ false → is_lt (R x z) ≡ true
higher_last {R = R} o x y z l h = up_to o x y z (R y z) refl l h

reversed : (r : Ordering) → r ≡ Less → is_lt (ordering_reverse r) ≡ false
reversed r e = ap (λ s. is_lt (ordering_reverse s)) e

pub not_both : {K : Type 0} {R : K → K → Ordering} (o : IsTotalOrder R) → (x y : K) → is_lt (R x y) ≡ true → is_lt (R y x) ≡ false
not_both {R = R} o x y l = ap is_lt (o.antisymm y x) ∙ reversed (R x y) (is_less _ l)

-- a rank that does not precede another has no earlier kind and key
topic_part : (r s : Ordering) → is_gt (ordering_then r s) ≡ false → is_gt r ≡ false
topic_part Less s h = refl
topic_part Equal s h = refl
topic_part Greater s h = h

pub topics_fall : (x y : Rank) → precedes y x ≡ false → is_gt (topics x y) ≡ false
unfolding rank_order
topics_fall x y h = topic_part (topics x y) (nat_cmp y.priority x.priority) (not_after ranks_total x y h)

-- the same kind and key
kind_at : ℕ → HookKind
kind_at zero = Relay
kind_at (suc zero) = Signal
kind_at (suc (suc zero)) = Print
kind_at (suc (suc (suc zero))) = Modifier
kind_at (suc (suc (suc (suc zero)))) = Command
kind_at (suc (suc (suc (suc (suc zero))))) = CommandRun
kind_at (suc (suc (suc (suc (suc (suc n)))))) = Timer

kind_back : (kind : HookKind) → kind_at (kind_number kind) ≡ kind
unfolding kind_at
kind_back Relay = refl
kind_back Signal = refl
kind_back Print = refl
kind_back Modifier = refl
kind_back Command = refl
kind_back CommandRun = refl
kind_back Timer = refl

pub same_kind_is : (a b : HookKind) → same_kind a b ≡ true → kind_number a ≡ kind_number b
same_kind_is a b e = eqb-true (kind_number a) (kind_number b) e

abbrev pub is_topic : HookKind → List ℕ → Rank → Bool
is_topic kind key rank = same_kind rank.kind kind && bytes_eq rank.key key

abbrev pub topic_rank : HookKind → List ℕ → Rank
topic_rank kind key = record { kind = kind; key = key; priority = 0 }

pub topic_equal : (kind : HookKind) (key : List ℕ) (r : Rank) → is_topic kind key r ≡ true → topics r (topic_rank kind key) ≡ Equal
unfolding topic_order
topic_equal kind key r h =
    let parts = and_parts (same_kind r.kind kind) (bytes_eq r.key key) h in
    let a : kind_number r.kind ≡ kind_number kind = same_kind_is r.kind kind parts.0 in
    let b : r.key ≡ key = (bytes_decides r.key key).0 parts.1 in
    (λ i. ordering_then (nat_cmp (a i) (kind_number kind)) (slice_cmp nat_cmp (b i) key))
    ∙ (λ i. ordering_then (tied_itself nat_cmp_total (kind_number kind) i) (tied_itself nat_list_cmp_total key i))

then_parts : (r s : Ordering) → ordering_then r s ≡ Equal → (r ≡ Equal) × (s ≡ Equal)
then_parts Less s e = absurd cc
then_parts Equal s e = (refl, e)
then_parts Greater s e = absurd cc

pub topic_is : (kind : HookKind) (key : List ℕ) (r : Rank) → topics r (topic_rank kind key) ≡ Equal → is_topic kind key r ≡ true
unfolding topic_order
topic_is kind key r e =
    let p = then_parts (nat_cmp (kind_number r.kind) (kind_number kind)) (slice_cmp nat_cmp r.key key) e in
    and_from _ _ (eq-eqb _ _ (nat_cmp-IsAntisymmetric _ _ p.0)) ((bytes_decides r.key key).1 (slice_cmp-IsAntisymmetric nat_cmp-IsAntisymmetric r.key key p.1))

neither : (r : Ordering) → is_lt r ≡ false → is_gt r ≡ false → r ≡ Equal
neither Less a b = absurd (false≢true (sym a))
neither Equal a b = refl
neither Greater a b = absurd (false≢true (sym b))

-- one that is before all of a kind and key is none of them
pub before_is_none : (kind : HookKind) (key : List ℕ) (r : Rank) → is_lt (topics r (topic_rank kind key)) ≡ true → is_topic kind key r ≡ false
before_is_none kind key r l = false_from_ne_true _ (λ h. false≢true (sym (ap is_lt (topic_equal kind key r h)) ∙ l))

-- one that is not before them, and is no higher than one of them, is one of them
pub between_is_one : (kind : HookKind) (key : List ℕ) (x y : Rank) → is_lt (topics x (topic_rank kind key)) ≡ false → precedes y x ≡ false → is_topic kind key y ≡ true → is_topic kind key x ≡ true
between_is_one kind key x y low fall h =
    let up : is_gt (topics x y) ≡ false = topics_fall x y fall in
    let e : topics x (topic_rank kind key) ≡ topics x y = sym (alike_right topics_total y (topic_rank kind key) x (topic_equal kind key y h)) in
    topic_is kind key x (neither (topics x (topic_rank kind key)) low (ap is_gt e ∙ up))

-- one between two of a kind and key is one of them
pub amid_is_one : (kind : HookKind) (key : List ℕ) (x a y : Rank) → is_topic kind key x ≡ true → precedes a x ≡ false → precedes y a ≡ false → is_topic kind key y ≡ true → is_topic kind key a ≡ true
amid_is_one kind key x a y hx fall_x fall_y hy =
    let up : is_gt (topics x a) ≡ false = topics_fall x a fall_x in
    between_is_one kind key a y (false_from_ne_true _ (λ l. false≢true (sym (ap is_lt (topic_equal kind key x hx)) ∙ lower_first topics_total x a (topic_rank kind key) up l))) fall_y hy

pub topic_same : (kind : HookKind) (key : List ℕ) (r : Rank) → is_topic kind key r ≡ true → (r.kind ≡ kind) × (r.key ≡ key)
topic_same kind key r h =
    let parts = and_parts (same_kind r.kind kind) (bytes_eq r.key key) h in (
      sym (kind_back r.kind) ∙ ap kind_at (same_kind_is r.kind kind parts.0) ∙ kind_back kind,
      (bytes_decides r.key key).0 parts.1,
    )

pub topic_self : (kind : HookKind) (key : List ℕ) → (same_kind kind kind && bytes_eq key key) ≡ true
topic_self kind key = and_from _ _ (eq-eqb _ _ refl) ((bytes_decides key key).1 refl)
