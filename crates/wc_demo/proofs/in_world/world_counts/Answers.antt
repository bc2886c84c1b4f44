use Rattle.std.proofs.Common.{rules, ◌≡◌, ◌++◌, ◌∷◌, [], List, ap, sym, ◌∙◌, append-nil, append_assoc}
use Rattle.wc_text.specs.declared.names.Handle.{Handle}
use Rattle.wc_buffers.specs.Groups.{rows}
use Rattle.wc_buffers.specs.Kept.{handles}
use Rattle.wc_demo.specs.Counts.{counted_in}
use Rattle.wc_demo.proofs.CountLemmas.{rows_more}
use Rattle.wc_demo.proofs.in_world.world_counts.Goals as goal

pub loop-group-init : goal.loop-group-init
loop-group-init c =
    let all : c.into_iter-group-iterator.result ≡ handles c.args.world.now.groups = search rules in
    record { before = []; counted = c.none-counts.ensures; rest = sym all }

pub loop-group-preserved : goal.loop-group-preserved
loop-group-preserved c =
    let holds = c.loop-group.invariant in
    let group = c.in-Some.group.now in
    let rest = c.next.new.self in
    let next : c.loop-group.group-iterator ≡ group ∷ rest = search rules in
    record {
      before = holds.before ++ group ∷ [];
      counted = c.in_ok-counts.ensures (rows holds.before) holds.counted ∙ ap (counted_in c.args.world.now) (rows_more holds.before group);
      rest = holds.rest ∙ ap (λ (groups : List (List Handle)). holds.before ++ groups) next ∙ sym (append_assoc holds.before (group ∷ []) rest);
    }

pub returns : goal.returns
returns c =
    let holds = c.loop-group.invariant in
    let end : c.loop-group.group-iterator ≡ [] = search rules in
    let all : handles c.args.world.now.groups ≡ holds.before = holds.rest ∙ ap (λ (groups : List (List Handle)). holds.before ++ groups) end ∙ append-nil holds.before in
    holds.counted ∙ ap (λ (groups : List (List Handle)). counted_in c.args.world.now (rows groups)) (sym all)
