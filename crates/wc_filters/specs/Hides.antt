-- Which lines filters hide.
use Rattle.std.specs.Prelude.{ℕ, Bool, not, ◌&&◌, List, codes}
use Rattle.std.specs.List.{list_any}
use Rattle.std.specs.Str.{bytes_eq}
use Rattle.wc_filters.specs.Masks.{buffers_match, tags_match}
use Rattle.wc_filters.specs.Patterns.{search_of, search_holds}
use Rattle.wc_filters.specs.declared.filter.Filter.{Filter}

-- it may hide lines of the buffer of this name
abbrev pub concerns : List ℕ → Filter → Bool
concerns name f = f.enabled && buffers_match f.buffers name

-- the tag that keeps a line from being hidden
abbrev pub is_shielded : List (List ℕ) → Bool
is_shielded tags = list_any (λ tag. bytes_eq tag (codes "no_filter")) tags

-- it may hide a line with these tags
abbrev pub takes : List (List ℕ) → Filter → Bool
takes tags f = tags_match f.tags tags && not (is_shielded tags)

-- what it asks of prefix and message holds
abbrev pub asks : List ℕ → List ℕ → Filter → Bool
asks prefix message f = search_holds (search_of f.pattern) prefix message

-- it hides lines with these tags, prefix and message, in a buffer that it concerns
abbrev pub sifts : List (List ℕ) → List ℕ → List ℕ → Filter → Bool
sifts tags prefix message f = takes tags f && asks prefix message f

abbrev pub is_hider : List ℕ → List (List ℕ) → List ℕ → List ℕ → Filter → Bool
is_hider name tags prefix message f = concerns name f && sifts tags prefix message f

-- some filter hides the line with these tags, prefix and message in the buffer of this name
abbrev pub hides : List Filter → List ℕ → List (List ℕ) → List ℕ → List ℕ → Bool
hides filters name tags prefix message =
    list_any (λ f. is_hider name tags prefix message f) filters

-- some of these, which concern its buffer, hides a line
abbrev pub sifted : List Filter → List (List ℕ) → List ℕ → List ℕ → Bool
sifted filters tags prefix message = list_any (λ f. sifts tags prefix message f) filters
