-- The texts of what is typed are UTF-8, and nothing that is typed changes a nicklist.
use Rattle.std.specs.Str.{IsUtf8}
use Rattle.wc_model.specs.declared.change.What.{What}
use Rattle.wc_model.specs.declared.change.What.TheVariants.{Add, Close, MoveTo, MergeInto, Unmerge}
use Rattle.wc_model.specs.declared.change.What.TheVariants.{Hide, Unhide, Rename, ShortName, Title}
use Rattle.wc_model.specs.declared.change.What.TheVariants.{SetVar, RemoveVar, Print, Clear, Flips}
use Rattle.wc_model.specs.declared.change.What.TheVariants.{AddGroup, AddNick, RemoveGroup}
use Rattle.wc_model.specs.declared.change.What.TheVariants.{RemoveNick, ChangeGroup, ChangeNick, Limit}
use Rattle.wc_world.specs.Texts.{IsChangeText}
use Rattle.wc_core.specs.Filtering.{IsFilterText}
use Rattle.wc_core.specs.Resolved.{Effect, Stays, Ends, Tells, Asks, SetsOption, UnsetsOption}
use Rattle.wc_core.specs.Resolved.{SavesOptions, ChangesHotlist, ChangesFilters}

-- also the name of a variable that is to be taken out, which a refusal may tell
abbrev pub WhatUtf8 : What → Type 0
WhatUtf8 (RemoveVar name) = IsUtf8 name
WhatUtf8 (Add spec) = IsChangeText (Add spec)
WhatUtf8 Close = IsChangeText Close
WhatUtf8 (MoveTo number) = IsChangeText (MoveTo number)
WhatUtf8 (MergeInto into) = IsChangeText (MergeInto into)
WhatUtf8 Unmerge = IsChangeText Unmerge
WhatUtf8 Hide = IsChangeText Hide
WhatUtf8 Unhide = IsChangeText Unhide
WhatUtf8 (Rename name flips) = IsChangeText (Rename name flips)
WhatUtf8 (ShortName name) = IsChangeText (ShortName name)
WhatUtf8 (Title title) = IsChangeText (Title title)
WhatUtf8 (SetVar var) = IsChangeText (SetVar var)
WhatUtf8 (Print line) = IsChangeText (Print line)
WhatUtf8 Clear = IsChangeText Clear
WhatUtf8 (Flips flips) = IsChangeText (Flips flips)
WhatUtf8 (AddGroup parent item) = ⊥
WhatUtf8 (AddNick group item) = ⊥
WhatUtf8 (RemoveGroup name) = ⊥
WhatUtf8 (RemoveNick name) = ⊥
WhatUtf8 (ChangeGroup item) = ⊥
WhatUtf8 (ChangeNick item) = ⊥
WhatUtf8 (Limit limit) = IsChangeText (Limit limit)

-- the texts that a line comes to are UTF-8
abbrev pub EffectUtf8 : Effect → Type 0
EffectUtf8 Stays = Unit {0}
EffectUtf8 Ends = Unit {0}
EffectUtf8 (Tells text) = IsUtf8 text
EffectUtf8 (Asks change) = WhatUtf8 change.what
EffectUtf8 (SetsOption name value) = IsUtf8 name × IsUtf8 value
EffectUtf8 (UnsetsOption name) = IsUtf8 name
EffectUtf8 SavesOptions = Unit {0}
EffectUtf8 (ChangesHotlist usage buffer) = Unit {0}
EffectUtf8 (ChangesFilters change) = IsFilterText change
