use Rattle.std.proofs.Common.{All, sym, subst}
use Rattle.std.proofs.lemmas.List.Elements.{All-nil}
use Rattle.std.specs.Str.{IsUtf8}
use Rattle.wc_trigger_play.proofs.scenery.no_groups.Goals as goal

pub returns : goal.returns
returns c = subst (All IsUtf8) (sym c.new.ensures) (All-nil IsUtf8)
