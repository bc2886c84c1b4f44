use Rattle.std.proofs.Common.{ℕ, List, ◌++◌, sym, subst}
use Rattle.wc_objects.specs.declared.kind.Kind.TheVariants as kinds
use Rattle.wc_objects.specs.Kinds.{letters}
use Rattle.wc_objects.specs.Spelling.{HasRoomFor, Puts, with_count}
use Rattle.wc_objects.proofs.Rooms.{Puts-then, rest_has_room}
use Rattle.wc_events.specs.ValueBytes.{var_bytes}
use Rattle.wc_events.proofs.ValueBytes.{table_value}
use Rattle.wc_events.proofs.value_bytes.put_table.Goals as goal

pub put_counted_vars-requires : goal.put_counted_vars-requires
put_counted_vars-requires c =
    let vars = c.args.vars.now in
    let rest = with_count var_bytes vars in
    rest_has_room c.put_kind.new.out c.put_kind-2.new.out (letters kinds.Str) rest
    (rest_has_room c.args.out.now c.put_kind.new.out (letters kinds.Str) (letters kinds.Str ++ rest) (subst (λ (b : List ℕ). HasRoomFor c.args.out.now b) (table_value vars) c.requires) c.put_kind.ensures)
    c.put_kind-2.ensures

pub returns : goal.returns
returns c =
    let vars = c.args.vars.now in
    subst (λ (b : List ℕ). Puts c.args.out.now c.put_counted_vars.new.out b) (sym (table_value vars))
    (Puts-then c.args.out.now c.put_kind.new.out c.put_counted_vars.new.out (letters kinds.Str) (letters kinds.Str ++ with_count var_bytes vars) c.put_kind.ensures
    (Puts-then c.put_kind.new.out c.put_kind-2.new.out c.put_counted_vars.new.out (letters kinds.Str) (with_count var_bytes vars) c.put_kind-2.ensures c.put_counted_vars.ensures))
