use Rattle.std.proofs.Common.{◌≡◌, take}
use Rattle.wc_nickdiff.specs.Compared.{keep, leaving_row, coming_row, changed_pair, picked_rows}
use Rattle.wc_nickdiff.specs.NickPush.{is_group, is_nick}
use Rattle.wc_nickdiff.proofs.differences.Differences.of.Given as goal

-- the keys so far are compared
abbrev pub invariant-loop-touch : goal.invariant-loop-touch
invariant-loop-touch l = record {
  out_nicks : l.differences.out_nicks.items ≡ picked_rows (λ t n. keep is_nick (leaving_row t n)) l.now.rows (take l.touch-index l.touches);
  out_groups : l.differences.out_groups.items ≡ picked_rows (λ t n. keep is_group (leaving_row t n)) l.now.rows (take l.touch-index l.touches);
  in_groups : l.differences.in_groups.items ≡ picked_rows (λ t n. keep is_group (coming_row t n)) l.now.rows (take l.touch-index l.touches);
  in_nicks : l.differences.in_nicks.items ≡ picked_rows (λ t n. keep is_nick (coming_row t n)) l.now.rows (take l.touch-index l.touches);
  changed : l.differences.changed.items ≡ picked_rows changed_pair l.now.rows (take l.touch-index l.touches);
}
