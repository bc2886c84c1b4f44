use Rattle.std.proofs.Common.{◌≡◌, None, drop}
use Rattle.std.specs.Prelude.{option_copied}
use Rattle.wc_nickdiff.specs.Apply.{applied_from, AreUtf8}
use Rattle.wc_nickdiff.proofs.diff.apply_each.Given as goal

-- what is left to apply, from the rows and the parent so far
abbrev pub invariant-loop-place : goal.invariant-loop-place
invariant-loop-place l = record {
  rest : applied_from 0 None l.items l.fn.list.rows ≡ applied_from l.place (option_copied l.parent) (drop l.place l.items) l.list.rows;
  texts : AreUtf8 (drop l.place l.items);
  root : l.list.root ≡ l.fn.list.root;
}
