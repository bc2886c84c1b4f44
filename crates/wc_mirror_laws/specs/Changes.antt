-- The changes that the laws speak of.
use Rattle.std.specs.Prelude.{◌≤◌, All}
use Rattle.std.specs.Int.{w8}
use Rattle.std.specs.Int.RustNames.{FitsSigned}
use Rattle.std.specs.Str.{IsUtf8}
use Rattle.wc_buffers.specs.Entries.{IsText}
use Rattle.wc_model.specs.declared.change.What.{What}
use Rattle.wc_model.specs.declared.change.What.TheVariants.{Add, Close, MoveTo, MergeInto, Unmerge}
use Rattle.wc_model.specs.declared.change.What.TheVariants.{Hide, Unhide, Rename, ShortName, Title}
use Rattle.wc_model.specs.declared.change.What.TheVariants.{SetVar, RemoveVar, Print, Clear, Flips}
use Rattle.wc_model.specs.declared.change.What.TheVariants.{AddGroup, AddNick, RemoveGroup}
use Rattle.wc_model.specs.declared.change.What.TheVariants.{RemoveNick, ChangeGroup, ChangeNick, Limit}

-- Texts that are kept whole are text, a line has a level of 8 bits, and a limit is one that a world may
-- have.
abbrev pub IsTold : What → Type 0
IsTold (Add spec) = IsUtf8 spec.full_name × IsUtf8 spec.short_name × IsUtf8 spec.title × All IsText spec.vars
IsTold Close = Unit {0}
IsTold (MoveTo number) = Unit {0}
IsTold (MergeInto into) = Unit {0}
IsTold Unmerge = Unit {0}
IsTold Hide = Unit {0}
IsTold Unhide = Unit {0}
IsTold (Rename name flips) = IsUtf8 name
IsTold (ShortName name) = IsUtf8 name
IsTold (Title title) = Unit {0}
IsTold (SetVar var) = IsUtf8 var.name
IsTold (RemoveVar name) = Unit {0}
IsTold (Print line) = All IsUtf8 line.tags × FitsSigned w8 line.notify
IsTold Clear = Unit {0}
IsTold (Flips flips) = Unit {0}
IsTold (AddGroup parent item) = IsUtf8 item.name
IsTold (AddNick group item) = IsUtf8 item.name
IsTold (RemoveGroup name) = Unit {0}
IsTold (RemoveNick name) = Unit {0}
IsTold (ChangeGroup item) = IsUtf8 item.name
IsTold (ChangeNick item) = IsUtf8 item.name
IsTold (Limit limit) = (1 ≤ limit) × (limit ≤ 4096)

-- The changes that the core is asked for, by what is typed and by servers: it sets flags itself, as its
-- filters have them.
abbrev pub IsAsked : What → Type 0
IsAsked (Flips flips) = ⊥
IsAsked w = IsTold w
