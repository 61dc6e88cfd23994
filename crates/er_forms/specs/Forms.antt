-- The reports of a trace in each form.
use Rattle.std.specs.Prelude.{◌≡◌, ℕ, List}
use Rattle.er_forms.specs.Page.{html_reports}
use Rattle.er_forms.specs.declared.excerpts.Excerpt.{Excerpt}
use Rattle.er_json.specs.Document.{json_reports}
use Rattle.er_places.specs.Places.{PlaceTable}
use Rattle.er_print.specs.Printed.{reports_text}
use Rattle.er_report.specs.declared.reports.Form.{Form}
use Rattle.er_report.specs.declared.reports.Form.TheVariants.{Text, BySite, Json, Sarif, Html}
use Rattle.er_report.specs.declared.reports.Reports.{Reports}
use Rattle.er_rules.specs.Rules.{Target}
use Rattle.er_json.specs.Sarif.{sarif_reports}
use Rattle.er_sites.specs.Sites.{AreSitesOf}
use Rattle.er_trace.specs.Names.{NameTable}

-- these bytes are the reports in this form. All forms but the text have the places, SARIF has how many races each rule takes, and a page the excerpts
abbrev pub IsForm : Form → NameTable → PlaceTable → List Target → List Excerpt → Reports → List ℕ → Type 0
IsForm Text names places rules excerpts reports bytes = bytes ≡ reports_text names reports
IsForm BySite names places rules excerpts reports bytes = AreSitesOf names places reports bytes
IsForm Json names places rules excerpts reports bytes = bytes ≡ json_reports names places reports
IsForm Sarif names places rules excerpts reports bytes = bytes ≡ sarif_reports names places rules reports
IsForm Html names places rules excerpts reports bytes = bytes ≡ html_reports names places reports excerpts
