-- Reports as a page: the JSON of the reports and that of the excerpts, each in a block of data, between parts that are always the same.
use Rattle.std.specs.Prelude.{◌≢◌, ℕ, ◌==◌, nat_lt, cond, All, List, [], ◌∷◌, ◌++◌, flat_map, codes, decimal, string_bytes}
use Rattle.er_forms.specs.declared.excerpts.Excerpt.{Excerpt}
use Rattle.er_forms.specs.declared.picture.TheConstants.{PICTURE}
use Rattle.er_forms.specs.declared.script.TheConstants.{SCRIPT}
use Rattle.er_forms.specs.declared.shell.TheConstants.{BEFORE_SCRIPT, BETWEEN, BODY, CLOSING, OPENING}
use Rattle.er_forms.specs.declared.style.TheConstants.{STYLE}
use Rattle.er_json.specs.Document.{json_reports}
use Rattle.er_places.specs.Places.{PlaceTable}
use Rattle.er_print.specs.Styles.{escaped, string_text}
pub use Rattle.er_print.specs.Values.{values_text}
pub use Rattle.er_report.specs.Reports.{HaveNames}
use Rattle.er_report.specs.declared.reports.Reports.{Reports}
use Rattle.er_trace.specs.Names.{NameTable}

-- a byte of a block: a less-than sign, which could end the block, is written as JSON's escape of it
abbrev pub inert : ℕ → List ℕ
inert byte = cond (byte == 60) (codes "\\u003c") (byte ∷ [])

-- JSON as a block: it says the same, with no less-than sign
unfoldable pub block_text : List ℕ → List ℕ
block_text json = flat_map inert json

-- no byte is a less-than sign
abbrev pub IsInert : List ℕ → Type 0
IsInert bytes = All (λ byte. byte ≢ 60) bytes

-- a byte of a source file in a string: a tab and a line feed are JSON's escapes of them, and another control character is a space
abbrev pub source_byte : ℕ → List ℕ
source_byte byte = cond (byte == 10) (codes "\\n") (cond (byte == 9) (codes "\\t") (cond (nat_lt byte 32) (32 ∷ []) (escaped byte)))

-- an excerpt as an object
unfoldable pub excerpt_text : Excerpt → List ℕ
excerpt_text excerpt =
    codes "\n{\"site\":" ++ string_text (string_bytes excerpt.site) ++ codes ",\"line\":" ++ decimal excerpt.first_line
    ++ codes ",\"text\":\"" ++ flat_map source_byte (string_bytes excerpt.text) ++ codes "\"}"

-- all of them
unfoldable pub excerpts_text : List Excerpt → List ℕ
excerpts_text excerpts = codes "[" ++ values_text excerpt_text excerpts ++ codes "]"

-- the whole page
unfoldable pub html_reports : NameTable → PlaceTable → Reports → List Excerpt → List ℕ
html_reports names table reports excerpts =
    OPENING.now ++ STYLE.now ++ BODY.now ++ block_text (json_reports names table reports) ++ BETWEEN.now ++ block_text (excerpts_text excerpts)
    ++ BEFORE_SCRIPT.now ++ PICTURE.now ++ SCRIPT.now ++ CLOSING.now
