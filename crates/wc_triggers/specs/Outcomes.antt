-- What becomes of what was going on, and of the trigger, once it ran.
use Rattle.std.specs.Prelude.{ℕ, List, [], ◌∷◌, Option, Some, None, codes, bytes_eq}
use Rattle.std.specs.Prelude.{if◌then◌else◌}
use Rattle.wc_triggers.specs.declared.outcomes.ReturnCode.{ReturnCode}
use Rattle.wc_triggers.specs.declared.outcomes.ReturnCode.TheVariants as codes_are
use Rattle.wc_triggers.specs.declared.outcomes.PostAction.{PostAction}
use Rattle.wc_triggers.specs.declared.outcomes.PostAction.TheVariants as actions

-- a word that lacks is empty, and means the first of them
abbrev pub code_of : List ℕ → Option ReturnCode
code_of [] = Some codes_are.Ok
code_of (b ∷ word) =
    if bytes_eq (b ∷ word) (codes "ok") then Some codes_are.Ok
    else if bytes_eq (b ∷ word) (codes "ok_eat") then Some codes_are.OkEat
    else if bytes_eq (b ∷ word) (codes "error") then Some codes_are.Error
    else None

abbrev pub post_of : List ℕ → Option PostAction
post_of [] = Some actions.Keep
post_of (b ∷ word) =
    if bytes_eq (b ∷ word) (codes "none") then Some actions.Keep
    else if bytes_eq (b ∷ word) (codes "disable") then Some actions.Disable
    else if bytes_eq (b ∷ word) (codes "delete") then Some actions.Delete
    else None
