-- Drafts become statements.
use Rattle.std.specs.Prelude.{ℕ, List, map}
use Rattle.mdg_base.specs.declared.number.Site.{Site}
use Rattle.mdg_code.specs.declared.code.Line.{Line}
use Rattle.mdg_code.specs.declared.code.SharedRow.{SharedRow}
use Rattle.mdg_code.specs.declared.statement.Statement.{Statement}
use Rattle.mdg_code.specs.declared.statement.Statement.TheVariants as s
use Rattle.mdg_profile.specs.declared.entry.Entry.{Entry}
use Rattle.mdg_lower.specs.declared.draft.Draft.{Draft}
use Rattle.mdg_lower.specs.declared.draft.Draft.TheVariants as d
use Rattle.mdg_lower.specs.declared.draft.DraftLine.{DraftLine}
use Rattle.mdg_lower.specs.declared.draft.Label.{Label}
use Rattle.mdg_lower.specs.declared.draft.Label.TheVariants as t
use Rattle.mdg_lower.specs.declared.link.Linked.{Linked}
use Rattle.mdg_lower.specs.Columns.{columns_in, column_of}
use Rattle.mdg_lower.specs.SharedRows.{shared_in, shared_number}

-- where a branch goes; one that was never resolved goes to site 0
abbrev pub site_of : Label → Site
site_of (t.Site site) = site
site_of t.Break = record { 0 = 0 }
site_of t.Continue = record { 0 = 0 }

-- the statement, with the columns of names and the numbers of shared things
abbrev pub linked_statement : List (List ℕ) → List SharedRow → Draft → Statement
linked_statement columns shared (d.Complete statement) = statement
linked_statement columns shared (d.Get into of name) = s.Get into of name (record { 0 = column_of columns name })
linked_statement columns shared (d.Set of name value) = s.Set of name (record { 0 = column_of columns name }) value
linked_statement columns shared (d.Shared into home name) =
    s.Shared into (record { 0 = shared_number shared home name })
linked_statement columns shared (d.Branch left right) = s.Branch (site_of left) (site_of right)

abbrev pub linked_line : List (List ℕ) → List SharedRow → DraftLine → Line
linked_line columns shared line = record {
  statement = linked_statement columns shared line.draft;
  place = line.place;
  function = line.function;
}

-- the lines that drafts become under a profile, their columns and their shared things
unfoldable pub linked : List Entry → List DraftLine → Linked
linked entries lines = record {
  lines = map (linked_line (columns_in lines) (shared_in entries lines)) lines;
  columns = columns_in lines;
  shared = shared_in entries lines;
}
