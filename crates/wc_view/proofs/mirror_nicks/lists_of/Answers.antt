use Rattle.std.proofs.Common.{◌≡◌, List, [], ◌∷◌, ◌++◌, rules, sym, subst, ◌∙◌}
use Rattle.std.specs.Vec.Iter.{into_iter_items}
use Rattle.wc_view.specs.Each.{each}
use Rattle.wc_view.specs.NickEntries.{NickEntry}
use Rattle.wc_view.specs.NickGroups.{entry_listed}
use Rattle.wc_view.proofs.NickFolded.{Lists, list_more, rest_utf8}
use Rattle.wc_view.proofs.mirror_nicks.lists_of.Goals as goal

pub loop-group-preserved : goal.loop-group-preserved
loop-group-preserved c =
    let left = into_iter_items c.loop-group.group-iterator in
    let rest = into_iter_items c.next.new.self in
    let pushed : c.push.new.self.items ≡ c.loop-group.entries.items ++ c.in-Some-2.entry ∷ [] = search rules in
    record {
      lists = subst (λ (z : List NickEntry). Lists z rest (each entry_listed c.args.groups.items)) (sym pushed)
          (list_more c.loop-group.entries.items left rest c.in-Some.group _ c.in-Some-2.entry c.loop-group.invariant.lists c.in-Some.ensures.steps.0 (sym c.in-Some-2.is ∙ c.in_ok-entry.ensures));
      texts = rest_utf8 left rest c.in-Some.group c.in-Some.ensures.steps.0 c.loop-group.invariant.texts;
    }
