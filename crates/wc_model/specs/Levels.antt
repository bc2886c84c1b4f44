-- How much a line is worth a user's notice.
use Rattle.std.specs.Prelude.{ℕ, ℤ, pos, negsuc, Bool, not, ◌&&◌, ◌||◌, List, codes}
use Rattle.std.specs.Prelude.{if◌then◌else◌}
use Rattle.std.specs.List.{list_any}
use Rattle.std.specs.Str.{bytes_eq}

abbrev pub has_tag : List ℕ → List (List ℕ) → Bool
has_tag tag tags = list_any (λ other. bytes_eq tag other) tags

-- whether a line is highlighted, where it is known whether it calls the user by name
unfoldable pub highlight_of : List (List ℕ) → Bool → Bool
highlight_of tags calls_user = not (has_tag (codes "no_highlight") tags)
    && (has_tag (codes "notify_highlight") tags || calls_user)

-- by the first of three tags that a line has, in this order, wherever it has them
abbrev pub level_of_tags : List (List ℕ) → ℤ
level_of_tags tags =
    if has_tag (codes "notify_none") tags then negsuc 0 else (
    if has_tag (codes "notify_message") tags then pos 1 else (
    if has_tag (codes "notify_private") tags then pos 2 else pos 0))

-- the level of notification
unfoldable pub notify_of : List (List ℕ) → Bool → ℤ
notify_of tags calls_user = if highlight_of tags calls_user then pos 3 else level_of_tags tags
