-- What is done to the nicklists that a client holds.
use Rattle.std.specs.Prelude.{◌≡◌, ℕ, List, [], ◌∷◌, Option, Some, None, Result, Ok, Err}
use Rattle.std.specs.Prelude.{option_map, is_some, if◌then◌else◌}
use Rattle.std.specs.FinMap.{get, insert, remove}
use Rattle.wc_nickdiff.specs.declared.refused.DiffRefused.{DiffRefused}
use Rattle.wc_nickdiff.specs.declared.refused.DiffRefused.TheVariants.{BadItem, NoMemory}
use Rattle.wc_view.specs.declared.mirror_nicks.NickStep.{NickStep}
use Rattle.wc_view.specs.declared.mirror_nicks.NickStep.TheVariants.{Nothing, All, Becomes, Opened}
use Rattle.wc_view.specs.declared.mirror_nicks.NickStep.TheVariants.{Closed}
use Rattle.wc_view.specs.NickEntries.{NickEntry, nicks_at}
use Rattle.wc_view.specs.declared.nick_rows.NickChange.{NickChange}
use Rattle.wc_view.specs.NickFold.{NickPart, put_rows, changes_are_of}

-- a buffer that is not held, with its rows
abbrev pub put_new : NickEntry → NickPart → NickPart
put_new entry part = if is_some (get part entry.0) then part else insert part entry.0 entry.1

abbrev pub after_step : NickStep → Option NickPart → Option NickPart
after_step Nothing part = part
after_step (All entries) part = Some (nicks_at entries.items)
after_step (Becomes entry) part = option_map (put_rows entry.0 (Some entry.1)) part
after_step (Opened entry) part = option_map (put_new entry) part
after_step (Closed buffer) part = option_map (λ part. remove part buffer) part

-- why nothing comes of a message
abbrev pub RefusesDiff : {A : Type 0} → DiffRefused → Result A ℕ → Type 0
RefusesDiff (BadItem place) folded = folded ≡ Err place
RefusesDiff NoMemory folded = Unit {0}

-- the one buffer that changes are of
abbrev pub buffer_of : List NickChange → Option ℕ
buffer_of [] = None
buffer_of (change ∷ changes) = if changes_are_of change.buffer changes
    then Some change.buffer else None
