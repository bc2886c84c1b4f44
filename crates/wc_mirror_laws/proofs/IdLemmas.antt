-- The id of a request is that of no event, and it is no longer than its line.
use Rattle.std.proofs.Common.{◌≡◌, ℕ, ◌≤◌, Bool, false, List, [], ◌∷◌, ◌++◌, length, Some, refl, sym, ap, subst, arith, eqb, bytes_eq}
use Rattle.std.proofs.lemmas.Bool.Decides.{nat_tests}
use Rattle.std.proofs.lemmas.List.{length-append}
use Rattle.wc_relaycmd.specs.declared.request.Request.{Request}
use Rattle.wc_relaycmd.specs.Answers.{request_of}
use Rattle.wc_text.specs.Splits.{BeginsWithout, blanks}
use Rattle.wc_view.specs.Ids.{IsFree}
use Rattle.wc_relaycmd.specs.Grammar.{IsTag}
use Rattle.wc_relaycmd.proofs.ReadLemmas.{reads-request_of}

free_by : (tag id : List ℕ) → IsTag tag id → BeginsWithout 95 id
free_by [] id is = subst (BeginsWithout 95) (sym is) tt
free_by (b ∷ tag) [] is = tt
free_by (b ∷ tag) (c ∷ id) is = is.2.0

pub request_free : (line : List ℕ) (escaped : Bool) (request : Request) → request_of escaped line ≡ Some request → BeginsWithout 95 request.id
request_free line escaped request e =
    let reads = reads-request_of line escaped request e in
    free_by reads.calls.tag request.id reads.calls.tagged

tag_size : (tag id : List ℕ) → IsTag tag id → length id ≤ length tag
tag_size [] id is = omega (arith, ap length is)
tag_size (b ∷ tag) id is = omega (arith, ap length is.1, length-append id (41 ∷ []))

pub request_size : (line : List ℕ) (escaped : Bool) (request : Request) → request_of escaped line ≡ Some request → length request.id ≤ length line
request_size line escaped request e =
    let reads = reads-request_of line escaped request e in
    let calls = reads.calls in
    let size = tag_size calls.tag request.id calls.tagged in
    omega (
      arith,
      ap length calls.spelled,
      length-append (blanks calls.margin) (calls.tag ++ (blanks calls.gap ++ calls.call)),
      length-append calls.tag (blanks calls.gap ++ calls.call),
    )

-- an id that begins with the mark of events differs from one that does not
pub event_apart : (text id : List ℕ) → BeginsWithout 95 id → bytes_eq (95 ∷ text) id ≡ false
event_apart text [] free = refl
event_apart text (b ∷ id) free = let e : eqb 95 b ≡ false = grind (arith, nat_tests) in rw e refl

pub apart_event : (text id : List ℕ) → BeginsWithout 95 id → bytes_eq id (95 ∷ text) ≡ false
apart_event text [] free = refl
apart_event text (b ∷ id) free = let e : eqb b 95 ≡ false = grind (arith, nat_tests) in rw e refl

-- in the words of the mirror
pub id_free : (id : List ℕ) → BeginsWithout 95 id → IsFree id
id_free [] free = refl
id_free (b ∷ id) free = grind (arith, nat_tests)
