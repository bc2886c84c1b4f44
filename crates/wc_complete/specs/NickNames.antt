-- The names of the nicks of a nicklist.
use Rattle.std.specs.Prelude.{ℕ, List, [], ◌∷◌, if◌then◌else◌}
use Rattle.std.specs.List.{flat_map}
use Rattle.wc_nicklist.specs.declared.item.Item.{Item}
use Rattle.wc_nicklist.specs.declared.item.Row.{Row}

-- a group is no nick
abbrev pub nick_name : Item → List (List ℕ)
nick_name item = if item.is_group then [] else item.name ∷ []

-- in the order of the list
abbrev pub nick_names : List Row → List (List ℕ)
nick_names rows = flat_map (λ (row : Row). nick_name row.item) rows
