-- Laws of the sources that events tell of, and that are reported.
use Rattle.std.proofs.Common.{◌≡◌, ℕ, Bool, List, [], ◌∷◌, ◌++◌, Some, ap, sym, subst, ◌∙◌, arith}
use Rattle.std.proofs.lemmas.Grind.{common_steps}
use Rattle.std.proofs.lemmas.List.{append_assoc}
use Rattle.std.specs.List.{cons_option}
use Rattle.mio.specs.declared.event.event.Event.{Event}
use Rattle.wc_outside.specs.declared.sockets.Token.{Token}
use Rattle.mio.specs.Event.{event_token}
use Rattle.wc_edge.specs.declared.rows.Row.{Row}
use Rattle.wc_edge.specs.Rows.{SourcesReported}
use Rattle.wc_edge.specs.Sources.{source_under, source_of, sources_of}

-- the links that are there are the same, and so is what an event tells of
same_source : (now there : ℕ → Bool) → ((link : ℕ) → now link ≡ there link) → (event : Event) → source_of now event ≡ source_of there event
same_source now there same event = ap (λ b. source_under (λ link. b) (event_token event).0) (same (event_token event).0)

-- the source of an event was put after those of the events before it
pub handed_on : (now there : ℕ → Bool) (event : Event) (events : List Event) (source : Token) (told all : List Token) → ((link : ℕ) → now link ≡ there link) → Some source ≡ source_of now event
    → told ++ sources_of there (event ∷ events) ≡ all → (told ++ source ∷ []) ++ sources_of there events ≡ all
handed_on now there event events source told all same found before =
    append_assoc told (source ∷ []) (sources_of there events)
    ∙ subst (λ o. told ++ cons_option o (sources_of there events) ≡ all) (sym (found ∙ same_source now there same event)) before

-- one more source was reported
pub reported_on : (old now new : List Row) (a b c : Bool) (told : List Token) (source : Token) → SourcesReported old now a b told → SourcesReported now new b c (source ∷ []) → SourcesReported old new a c (told ++ source ∷ [])
reported_on old now new a b c told source before next = grind (arith, common_steps)
