-- Heads: where they end, and why they are refused.
use Rattle.std.proofs.Common.{◌≡◌, ℕ, ◌+◌, ◌≤◌, ◌<◌, ◌∙◌, List, length, take, Option, None, Some}
use Rattle.std.proofs.Common.{Result, Ok, Err, refl, ap, subst, arith, length-take}
use Rattle.std.specs.Prelude.{min}
use Rattle.std.proofs.lemmas.List.{take_min}
use Rattle.memchr.specs.Find.{FindsNeedle}
use Rattle.wc_ws.specs.declared.names.WsRefused.{WsRefused}
use Rattle.wc_ws.specs.declared.names.WsRefused.TheVariants.{HeadTooLong, BadHead, BadFrame}
use Rattle.wc_ws.specs.declared.names.WsRefused.TheVariants.{NoMemory}
use Rattle.wc_ws.specs.declared.names.WsGot.{WsGot}
use Rattle.wc_ws.specs.declared.names.WsGot.TheVariants.{NotYet}
use Rattle.wc_ws.specs.declared.names.WsStage.TheVariants.{Frames}
use Rattle.wc_ws.specs.Head.{FirstEmptyLine, empty_line, head_to, HeadRefused, AnswerRefused}
use Rattle.wc_ws.specs.Head.{HeadTaken, HeadWaits}
use Rattle.wc_ws.specs.Link.{Link, IsOver, OnHead, OnFrames, Opens, waits, too_long, refused}
use Rattle.wc_ws.specs.Link.{starved, goes_on}

pub line_at : (input : List ℕ) (m : ℕ) (place : Option ℕ) → m ≡ min 8192 (length input)
    → FindsNeedle (take m input) empty_line 0 place → FirstEmptyLine input place
line_at input m place is found =
    subst (λ bytes. FindsNeedle bytes empty_line 0 place)
    (ap (λ n. take n input) is ∙ take_min 8192 input) found

pub line_fits : (input : List ℕ) (place : ℕ) → FirstEmptyLine input (Some place)
    → (place + 4 ≤ length input) × (place + 4 ≤ 8192)
line_fits input place found =
    (omega (arith, found.1.fits, length-take 8192 input), omega (arith, found.1.fits, length-take 8192 input))

pub head_refused : (input : List ℕ) (place : ℕ) (why : WsRefused)
    → FirstEmptyLine input (Some place)
    → AnswerRefused (head_to place input) why → HeadRefused input why
head_refused input place (HeadTooLong _) ends answer = absurd answer
head_refused input place BadHead ends answer = record { place = place; ends = ends; asks = answer }
head_refused input place BadFrame ends answer = absurd answer
head_refused input place NoMemory ends answer = tt

pub opens_by : (old mid : Link) → mid.stage ≡ Frames → mid.state ≡ old.state
    → mid.fragments ≡ old.fragments → HeadTaken old.input mid.input old.output mid.output
    → Opens old mid
opens_by old mid stage state fragments taken =
    record {
      place = taken.place;
      key = taken.key;
      ends = taken.ends;
      asks = taken.asks;
      is = rw (stage, state, fragments, taken.input, taken.output) refl;
    }

pub refused_by : (old new : Link) (why : WsRefused) → HeadRefused old.input why → IsOver old why new
    → OnHead old (Err why) new
refused_by old new (HeadTooLong limit) cause over =
    too_long cause.1 cause.2 (rw cause.0 refl) (rw cause.0 at over)
refused_by old new BadHead cause over = refused cause refl over
refused_by old new BadFrame cause over = absurd cause
refused_by old new NoMemory cause over = starved refl over

pub goes_by : (old mid new : Link) (result : Result WsGot WsRefused) → mid.stage ≡ Frames
    → mid.state ≡ old.state → mid.fragments ≡ old.fragments
    → HeadTaken old.input mid.input old.output mid.output → OnFrames mid result new
    → OnHead old result new
goes_by old mid new result stage state fragments taken frames =
    goes_on mid (opens_by old mid stage state fragments taken) frames

pub waits_by : (old new : Link) → new.stage ≡ old.stage → new.state ≡ old.state
    → new.fragments ≡ old.fragments → HeadWaits old.input new.input old.output new.output
    → OnHead old (Ok NotYet) new
waits_by old new stage state fragments still =
    waits still.ends still.short refl (rw (stage, state, fragments, still.input, still.output) refl)

pub waits_at : (i s o : List ℕ) (n : ℕ) → s ≡ i → FirstEmptyLine s None → n ≡ length i → n < 8192
    → HeadWaits i i o o
waits_at i s o n same ends long short =
    record {
      ends = subst (λ x. FirstEmptyLine x None) same ends;
      short = rw long at short;
      input = refl;
      output = refl;
    }

pub too_long_at : (i s : List ℕ) (n : ℕ) → s ≡ i → FirstEmptyLine s None → n ≡ length i → 8192 ≤ n
    → HeadRefused i (HeadTooLong 8192)
too_long_at i s n same ends is long =
    (refl, subst (λ x. FirstEmptyLine x None) same ends, rw is at long)
