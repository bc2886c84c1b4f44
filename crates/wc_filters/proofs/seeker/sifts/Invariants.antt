use Rattle.std.proofs.Common.{◌≡◌, drop}
use Rattle.wc_filters.specs.Hides.{sifted}
use Rattle.wc_filters.specs.Parts.{tags_in}
use Rattle.wc_filters.proofs.seeker.sifts.Given as goal

-- the filters up to here hide nothing
abbrev pub invariant-loop-n : goal.invariant-loop-n
invariant-loop-n l = record {
  as_before : l.sieves ≡ l.initial.sieves;
  same : sifted (drop l.n l.initial.sieves) (tags_in l.line.tags) l.line.prefix.now l.line.message.now
      ≡ sifted l.initial.sieves (tags_in l.line.tags) l.line.prefix.now l.line.message.now;
}
