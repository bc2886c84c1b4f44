-- Steps that lead from each place to exactly one.
use Rattle.std.specs.Prelude.{Bool, true, false, ◌&&◌, is_some, List, [], ◌∷◌}
use Rattle.wc_hdata.specs.declared.count.Count.{Count}
use Rattle.wc_hdata.specs.declared.count.Count.TheVariants.{One, All, Forward, Backward}
use Rattle.wc_hdata.specs.declared.element.Element.{Element}
use Rattle.wc_hdata.specs.declared.path.Step.{Step}
use Rattle.wc_hdata.specs.declared.variable.Variable.{Variable}
use Rattle.wc_hdata.specs.declared.variable.Variable.TheVariants as by
use Rattle.wc_hdata.specs.Paths.{leads, target}

abbrev pub is_one : Count → Bool
is_one One = true
is_one All = false
is_one (Forward n) = false
is_one (Backward n) = false

-- whether a variable leads to exactly one place, from where it leads to any
abbrev pub is_narrow : Variable → Count → Bool
is_narrow by.OwnLines count = true
is_narrow by.Lines count = true
is_narrow by.FirstLine count = false
is_narrow by.LastLine count = false
is_narrow by.Data count = true
is_narrow by.Buffer count = is_one count

-- whether a step leads to one place from each of an element
abbrev pub gives_one : Element → Step → Bool
gives_one element step = is_some (leads element step.variable) && is_narrow step.variable step.count

abbrev pub all_give_one : Element → List Step → Bool
all_give_one element [] = true
all_give_one element (step ∷ steps) = gives_one element step
    && all_give_one (target step.variable) steps

-- the same of all steps but the first
abbrev pub others_give_one : List Step → Bool
others_give_one [] = true
others_give_one (step ∷ steps) = all_give_one (target step.variable) steps
