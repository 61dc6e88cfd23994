-- The sites of a table have names.
use Rattle.std.proofs.Common.{◌≡◌, ◌≤◌, ◌==◌, not, ℕ, true, All, List, None, Some, length, get_or, sym, subst}
use Rattle.std.specs.List.{position}
use Rattle.std.proofs.lemmas.List.Quantifiers.{position-Some}
use Rattle.std.proofs.lemmas.Bool.{and_parts, eqb-true}
use Rattle.er_event.specs.declared.steps.Kind.TheVariants.{Read}
use Rattle.er_trace.specs.Names.{NameTable}
use Rattle.er_report.specs.Names.{HasNames}
use Rattle.er_report.specs.declared.report.Line.{Line}
use Rattle.er_report.specs.declared.report.Line.TheVariants.{Race, Reused, Refused, Shown}
use Rattle.er_sites.specs.declared.row.SiteRow.{SiteRow}
use Rattle.er_sites.specs.Table.{is_at, IsOwnCount}

-- the site of a race has a name
named_at : (names : NameTable) (s : ℕ) (line : Line) → HasNames names line → is_at s line ≡ true → s ≤ length names.sites
named_at names s (Race kind thread site number word details) named here = subst (λ (n : ℕ). n ≤ length names.sites) (sym (eqb-true s site here)) named.site
named_at names s (Reused thread site number range details) named here =
    subst (λ (n : ℕ). n ≤ length names.sites) (sym (eqb-true s site (and_parts (not (site == 0)) (s == site) here).1)) named.site
named_at names s (Refused refusal step number) named here = absurd (cc)
named_at names s (Shown number word state) named here = absurd (cc)

-- a site of which a line is the first race has a name
pub first_named : (names : NameTable) (lines : List Line) (s k : ℕ) → All (HasNames names) lines → position (is_at s) lines ≡ Some k → s ≤ length names.sites
first_named names lines s k named first =
    let some = position-Some (is_at s) lines k (Race Read 0 0 0 0 None) first in
    named_at names s (get_or lines k (Race Read 0 0 0 0 None)) (named k (Race Read 0 0 0 0 None) some.0) some.1

-- so a row's site has one
pub site_named : (names : NameTable) (lines : List Line) (row : SiteRow) → All (HasNames names) lines → IsOwnCount names lines row → row.site ≤ length names.sites
site_named names lines row named own = first_named names lines row.site row.example named own.example
