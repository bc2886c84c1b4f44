-- What was heard in a run without WebSocket links.
use Rattle.std.proofs.Common.{◌≡◌, ℕ, false, List, [], ◌∷◌, ◌++◌, map, refl, sym, ap, ◌∙◌, append_assoc}
use Rattle.std.proofs.lemmas.Bool.{false≢true}
use Rattle.wc_outside.specs.declared.happening.Happening.{Happening}
use Rattle.wc_outside.specs.declared.happening.Happening.TheVariants.{Read}
use Rattle.wc_turns.specs.Heard.{Heard, Happened, Unframed, NotPut, happenings}
use Rattle.wc_turns.specs.Events.{socket_on}
use Rattle.wc_turns.specs.Turns.{EndsEach}
use Rattle.wc_turns.proofs.HeardLemmas.{happenings-append, plain-before}

-- where no link is a WebSocket, what the sockets gave is all that was heard
pub plain-heard : (taken : List Happening) → ((k : ℕ) → socket_on k taken ≡ false) → (before history : List Heard) → happenings (before ++ history) ≡ taken → EndsEach before history → history ≡ map Happened (happenings history)
plain-heard taken plain before [] spells ends = refl
plain-heard taken plain before (Happened h ∷ more) spells ends =
    ap (λ hs. Happened h ∷ hs) (plain-heard taken plain (before ++ Happened h ∷ []) more (ap happenings (append_assoc before (Happened h ∷ []) more) ∙ spells) ends.1)
plain-heard taken plain before (Unframed link bytes text end ∷ more) spells ends =
    let parts : (happenings before ++ Read link bytes ∷ []) ++ happenings more ≡ taken = append_assoc (happenings before) (Read link bytes ∷ []) (happenings more) ∙ sym (happenings-append before (Unframed link bytes text end ∷ more)) ∙ spells in
    absurd (false≢true (sym (plain-before link.0 (happenings before ++ Read link bytes ∷ []) (happenings more) (ap (socket_on link.0) parts ∙ plain link.0)) ∙ ends.0.0))
plain-heard taken plain before (NotPut link ∷ more) spells ends =
    let parts : happenings before ++ happenings more ≡ taken = sym (happenings-append before (NotPut link ∷ more)) ∙ spells in
    absurd (false≢true (sym (plain-before link.0 (happenings before) (happenings more) (ap (socket_on link.0) parts ∙ plain link.0)) ∙ ends.0))
