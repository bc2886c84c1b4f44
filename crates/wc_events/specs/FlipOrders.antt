-- The contents of lines whose flags differ, in the order of their handles.
use Rattle.std.specs.Prelude.{◌≡◌, ℕ, ◌==◌, Bool, List, IfSome}
use Rattle.std.specs.List.{list_any}
use Rattle.std.specs.List.Sorted.{IsNonDecreasingBy}
use Rattle.wc_text.specs.declared.names.Handle.{Handle}
use Rattle.wc_events.specs.declared.flip_lookup.FlipLookup.TheInside.{Inside}

abbrev pub number_of : Handle → ℕ
number_of flip = flip.0

-- whether a content is one of these
abbrev pub is_named : List Handle → ℕ → Bool
is_named flips content = list_any (λ (flip : Handle). flip.0 == content) flips

-- handles that rise, which are those of a list
pub record IsOrderOf (flips order : List Handle) : Type 0 where
  pub rises : IsNonDecreasingBy number_of order
  pub same : (content : ℕ) → is_named order content ≡ is_named flips content

abbrev pub flips_of : Inside → List Handle
flips_of lookup = lookup.flips.now

abbrev pub IsLookup : Inside → Type 0
IsLookup lookup = IfSome lookup.order (λ order. IsOrderOf lookup.flips.now order.items)
