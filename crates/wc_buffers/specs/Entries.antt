-- The variables as they are stored: each under the bytes of its name.
use Rattle.std.specs.Prelude.{◌≡◌, ℕ, List, [], ◌∷◌}
use Rattle.std.specs.Str.{IsUtf8}
use Rattle.std.specs.declared.alloc.Global.{Global}
use Rattle.std.specs.declared.vec.Vec.{Vec}
use Rattle.wc_text.specs.declared.names.Pair.{Pair}

abbrev pub AreNamed : List (Vec ℕ Global × Pair) → Type 0
AreNamed [] = Unit {0}
AreNamed (e ∷ es) = (e.0.items ≡ e.1.name) × AreNamed es

-- the name and the value are text
abbrev pub IsText : Pair → Type 0
IsText v = IsUtf8 v.name × IsUtf8 v.value
