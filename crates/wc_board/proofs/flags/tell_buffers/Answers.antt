use Rattle.std.proofs.Common.{rules, ◌≡◌, ◌++◌, ◌∷◌, [], ap, sym, subst, ◌∙◌}
use Rattle.wc_buffers.specs.Kept.{handles}
use Rattle.wc_model.specs.Parts.{flag_parts}
use Rattle.wc_world.specs.Near.{numbers, all_numbers}
use Rattle.wc_world.proofs.NearLemmas.{order_handles}
use Rattle.wc_board.specs.Served.{flags_of, PartsTold}
use Rattle.wc_board.proofs.FlagLemmas.{flags_are, flags_more, telling_more, telling_last}
use Rattle.wc_board.proofs.flags.tell_buffers.Goals as goal

pub loop-group-init : goal.loop-group-init
loop-group-init g c =
    let w = c.args.world.now in
    let flips = c.args.flips.now in
    let all : c.into_iter-group-iterator.result ≡ handles w.groups = search rules in
    let same : flags_of w flips (all_numbers c.into_iter-group-iterator.result) ≡ flag_parts w flips = ap (λ groups. flags_of w flips (all_numbers groups)) all ∙ ap (flags_of w flips) (sym (order_handles w.groups)) ∙ sym (flags_are w flips) in
    record { tells = λ u final m told. subst (λ parts. PartsTold w parts u c.args.clients.now final c.args.spellings.now m) same told }

pub loop-group-preserved : goal.loop-group-preserved
loop-group-preserved g c =
    let w = c.args.world.now in
    let flips = c.args.flips.now in
    let group = c.in-Some.group.now in
    let before = flags_of w flips (all_numbers c.loop-group.group-iterator) in
    let rest = all_numbers c.next.new.self in
    let next : c.loop-group.group-iterator ≡ group ∷ c.next.new.self = search rules in
    let split : before ≡ flags_of w flips (numbers group) ++ flags_of w flips rest = ap (λ groups. flags_of w flips (all_numbers groups)) next ∙ flags_more w flips (numbers group) rest in
    record {
      tells = telling_more w (flag_parts w flips) before (flags_of w flips (numbers group)) (flags_of w flips rest) c.loop-group.told c.tell_group-group_told.result
          c.args.clients.now c.loop-group.clients c.tell_group-group_told.new.clients c.args.spellings.now c.loop-group.spellings c.tell_group-group_told.new.spellings
          split c.loop-group.invariant.tells c.tell_group-group_told.ensures;
    }

pub returns : goal.returns
returns g c =
    let w = c.args.world.now in
    let flips = c.args.flips.now in
    let end : c.loop-group.group-iterator ≡ [] = search rules in
    telling_last w (flag_parts w flips) (flags_of w flips (all_numbers c.loop-group.group-iterator)) c.loop-group.told c.args.clients.now c.loop-group.clients c.args.spellings.now c.loop-group.spellings
    (ap (λ groups. flags_of w flips (all_numbers groups)) end) c.loop-group.invariant.tells
