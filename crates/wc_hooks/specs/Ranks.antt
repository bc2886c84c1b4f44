-- The order of the entries: by kind, then by key, then by priority downward.
use Rattle.std.specs.Prelude.{ℕ, Bool, true, not, ◌&&◌, List, [], ◌∷◌, if◌then◌else◌}
use Rattle.std.specs.List.{list_all}
use Rattle.std.specs.Ordering.{nat_cmp, ordering_then, is_lt}
use Rattle.std.specs.Cmp.Lexicographic.{slice_cmp}
use Rattle.std.specs.declared.cmp.Ordering.{Ordering}
use Rattle.wc_hooks.specs.declared.kind.HookKind.{HookKind}
use Rattle.wc_hooks.specs.Kinds.{kind_number}

pub record Rank : Type 0 where
  pub kind : HookKind
  pub key : List ℕ
  pub priority : ℕ

-- the order of kinds and keys
unfoldable pub topic_order : HookKind → List ℕ → HookKind → List ℕ → Ordering
topic_order kind key other_kind other_key =
    ordering_then (nat_cmp (kind_number kind) (kind_number other_kind))
    (slice_cmp nat_cmp key other_key)

unfoldable pub rank_order : Rank → Rank → Ordering
rank_order a b = ordering_then (topic_order a.kind a.key b.kind b.key)
    (nat_cmp b.priority a.priority)

abbrev pub precedes : Rank → Rank → Bool
precedes a b = is_lt (rank_order a b)

-- after all but those that it precedes
abbrev pub put_by : {A : Type 0} → (A → Rank) → A → List A → List A
put_by rank new [] = new ∷ []
put_by rank new (other ∷ others) = if precedes (rank new) (rank other) then new ∷ (other ∷ others)
    else other ∷ put_by rank new others

-- none precedes one in front of it
abbrev pub falls_by : {A : Type 0} → (A → Rank) → List A → Bool
falls_by rank [] = true
falls_by rank (first ∷ others) = list_all (λ other. not (precedes (rank other) (rank first))) others
    && falls_by rank others
