-- The entries that are filed: those that live, and those that were unhooked while a pass was open,
-- until the last is closed.
use Rattle.std.specs.Prelude.{ℕ, not, ◌&&◌, ◌==◌, List, filter, bytes_eq}
use Rattle.wc_hooks.specs.declared.entry.HookId.{HookId}
use Rattle.wc_hooks.specs.declared.kind.HookKind.{HookKind}
use Rattle.wc_hooks.specs.Kinds.{same_kind}
use Rattle.wc_hooks.specs.Ranks.{Rank, put_by}
use Rattle.wc_hooks.specs.Rows.{HookRow}

pub record Filing : Type 0 where
  pub id : HookId
  pub kind : HookKind
  pub key : List ℕ
  pub priority : ℕ

abbrev pub filing_of : HookRow → Filing
filing_of row = record { id = row.id; kind = row.kind; key = row.key; priority = row.priority }

abbrev pub filing_rank : Filing → Rank
filing_rank filing = record { kind = filing.kind; key = filing.key; priority = filing.priority }

-- one more, in the order of the entries
abbrev pub with_filing : Filing → List Filing → List Filing
with_filing filing filings = put_by filing_rank filing filings

abbrev pub without_filing : HookId → List Filing → List Filing
without_filing id filings = filter (λ filing. not (filing.id.0 == id.0)) filings

-- those of a kind and a key
abbrev pub filed_under : HookKind → List ℕ → List Filing → List Filing
filed_under kind key filings = filter (λ filing. same_kind filing.kind kind
    && bytes_eq filing.key key) filings
