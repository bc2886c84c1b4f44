-- What is put after a list, one piece after another.
use Rattle.std.proofs.Common.{◌≡◌, List, ◌++◌, append_assoc, ap, ◌∙◌}

pub put_more : {A : Type 0} (old mid new front back : List A) → mid ≡ old ++ front → new ≡ mid ++ back → new ≡ old ++ (front ++ back)
put_more old mid new front back before then = then ∙ ap (λ xs. xs ++ back) before ∙ append_assoc old front back
