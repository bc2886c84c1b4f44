-- Hash logins by their parts.
use Rattle.std.proofs.Common.{◌≡◌, ℕ, List, ◌∷◌, ap, sym, ◌∙◌, Option, Some, None, Result, Ok, Err, IfOk}
use Rattle.wc_text.specs.declared.no_memory.NoMemory.{NoMemory}
use Rattle.wc_relaycmd.specs.declared.login.HashLogin.{HashLogin}
use Rattle.wc_text.specs.Splits.{before, text_after}
use Rattle.wc_relaycmd.specs.declared.algorithm.Algorithm.{Algorithm}
use Rattle.wc_relaycmd.specs.Logins.{hash_named, rounds_named, rounds_in, hash_of, hash_of_parts, hash_from}
use Rattle.wc_relaycmd.proofs.SplitLemmas.{slice_split_last, slice_split_more, slice_split_cut}

pub hash_of-one : (text : List ℕ) → None ≡ text_after 58 text → None ≡ hash_of text
unfolding hash_of
hash_of-one text none = ap hash_of_parts (sym (slice_split_last 58 text (sym none)))

pub hash_of-two : (text second : List ℕ) → Some second ≡ text_after 58 text → None ≡ text_after 58 second → None ≡ hash_of text
unfolding hash_of
hash_of-two text second some none =
    ap (λ parts. hash_of_parts (before 58 text ∷ parts)) (sym (slice_split_last 58 second (sym none))) ∙
    ap hash_of_parts (sym (slice_split_more 58 text second (sym some)))

hash_of-three : (text second third : List ℕ) → Some second ≡ text_after 58 text → Some third ≡ text_after 58 second → None ≡ text_after 58 third
    → hash_from (hash_named (before 58 text)) (Some 0) (before 58 second) (before 58 third) ≡ hash_of text
unfolding hash_of
hash_of-three text second third some_second some_third none =
    ap (λ parts. hash_of_parts (before 58 text ∷ before 58 second ∷ parts)) (sym (slice_split_last 58 third (sym none))) ∙
    ap (λ parts. hash_of_parts (before 58 text ∷ parts)) (sym (slice_split_more 58 second third (sym some_third))) ∙
    ap hash_of_parts (sym (slice_split_more 58 text second (sym some_second)))

hash_of-four : (text second third fourth : List ℕ) → Some second ≡ text_after 58 text → Some third ≡ text_after 58 second → Some fourth ≡ text_after 58 third
    → None ≡ text_after 58 fourth
    → hash_from (rounds_named (before 58 text)) (rounds_in (before 58 third)) (before 58 second) (before 58 fourth) ≡ hash_of text
unfolding hash_of
hash_of-four text second third fourth some_second some_third some_fourth none =
    ap (λ parts. hash_of_parts (before 58 text ∷ before 58 second ∷ before 58 third ∷ parts)) (sym (slice_split_last 58 fourth (sym none))) ∙
    ap (λ parts. hash_of_parts (before 58 text ∷ before 58 second ∷ parts)) (sym (slice_split_more 58 third fourth (sym some_fourth))) ∙
    ap (λ parts. hash_of_parts (before 58 text ∷ parts)) (sym (slice_split_more 58 second third (sym some_third))) ∙
    ap hash_of_parts (sym (slice_split_more 58 text second (sym some_second)))

pub hash_of-five : (text second third fourth fifth : List ℕ) → Some second ≡ text_after 58 text → Some third ≡ text_after 58 second → Some fourth ≡ text_after 58 third
    → Some fifth ≡ text_after 58 fourth → None ≡ hash_of text
unfolding hash_of
hash_of-five text second third fourth fifth some_second some_third some_fourth some_fifth =
    ap (λ parts. hash_of_parts (before 58 text ∷ before 58 second ∷ before 58 third ∷ before 58 fourth ∷ parts)) (sym (slice_split_cut 58 fifth)) ∙
    ap (λ parts. hash_of_parts (before 58 text ∷ before 58 second ∷ before 58 third ∷ parts)) (sym (slice_split_more 58 fourth fifth (sym some_fifth))) ∙
    ap (λ parts. hash_of_parts (before 58 text ∷ before 58 second ∷ parts)) (sym (slice_split_more 58 third fourth (sym some_fourth))) ∙
    ap (λ parts. hash_of_parts (before 58 text ∷ parts)) (sym (slice_split_more 58 second third (sym some_third))) ∙
    ap hash_of_parts (sym (slice_split_more 58 text second (sym some_second)))

-- what a call made of the parts gave
pub read_as : (result : Result (Option HashLogin) NoMemory) (value : Option HashLogin) (text : List ℕ) → IfOk result (λ login. login ≡ value) → value ≡ hash_of text
    → IfOk result (λ login. login ≡ hash_of text)
read_as (Ok login) value text made is = made ∙ is
read_as (Err e) value text made is = tt

pub three_read : (text second third name salt hash : List ℕ) (named : Option Algorithm) → named ≡ hash_named name → name ≡ before 58 text → salt ≡ before 58 second
    → hash ≡ before 58 third → Some second ≡ text_after 58 text → Some third ≡ text_after 58 second → None ≡ text_after 58 third
    → hash_from named (Some 0) salt hash ≡ hash_of text
three_read text second third name salt hash named is n s h some_second some_third none =
    ap (λ x. hash_from x (Some 0) salt hash) (is ∙ ap hash_named n) ∙
    ap (λ x. hash_from (hash_named (before 58 text)) (Some 0) x hash) s ∙
    ap (hash_from (hash_named (before 58 text)) (Some 0) (before 58 second)) h ∙
    hash_of-three text second third some_second some_third none

pub four_read : (text second third fourth name salt digits hash : List ℕ) (named : Option Algorithm) (rounds : Option ℕ) → named ≡ rounds_named name
    → rounds ≡ rounds_in digits → name ≡ before 58 text → salt ≡ before 58 second → digits ≡ before 58 third → hash ≡ before 58 fourth
    → Some second ≡ text_after 58 text → Some third ≡ text_after 58 second → Some fourth ≡ text_after 58 third → None ≡ text_after 58 fourth
    → hash_from named rounds salt hash ≡ hash_of text
four_read text second third fourth name salt digits hash named rounds is counts n s d h some_second some_third some_fourth none =
    ap (λ x. hash_from x rounds salt hash) (is ∙ ap rounds_named n) ∙
    ap (λ x. hash_from (rounds_named (before 58 text)) x salt hash) (counts ∙ ap rounds_in d) ∙
    ap (λ x. hash_from (rounds_named (before 58 text)) (rounds_in (before 58 third)) x hash) s ∙
    ap (hash_from (rounds_named (before 58 text)) (rounds_in (before 58 third)) (before 58 second)) h ∙
    hash_of-four text second third fourth some_second some_third some_fourth none
