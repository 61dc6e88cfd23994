-- The three parts, one behind another, of a thread whose start is known.
use Rattle.std.proofs.Common.{◌∙◌, ◌++◌, ℕ, List, Option, Some, codes, ap, sym}
use Rattle.std.proofs.lemmas.Result.{on_ok_weaker}
use Rattle.er_json.specs.Document.{began_row, name_value, started_row}
use Rattle.er_places.specs.Names.{start_of}
use Rattle.er_places.specs.Places.{PlaceTable}
use Rattle.er_places.specs.declared.facts.Start.{Start}
use Rattle.er_print.proofs.DigitLemmas.{put_three}
use Rattle.er_print.specs.Styles.{string_text, thread_in}
use Rattle.er_print.specs.declared.styles.Style.TheVariants as style
use Rattle.er_sites.proofs.MentionLemmas.{name_found}
use Rattle.er_trace.specs.Names.{NameTable}
use Rattle.er_json.proofs.document.put_thread_row.Goals as goal

pub returns : goal.returns
returns c =
    let old : List ℕ = c.args.out.now.items in
    let names : NameTable = c.args.legend.now.names.now in
    let table : PlaceTable = c.args.legend.now.places.now in
    let thread : ℕ = c.args.thread in
    let name : List ℕ = c.as_slice.result.now in
    on_ok_weaker c.put-2.result
    (λ put. put_three old _ _ _ _ _ _ c.in_ok-put.ensures.joined c.in_ok-put_name.ensures put
    ∙ ap (λ (site : List ℕ). old ++ ((codes ",\n{\"thread\":" ++ thread_in style.Json names thread ++ codes ",\"name\":") ++ name_value name ++ (codes ",\"site\":" ++ string_text site ++ codes "}"))) c.call_name-site.ensures
    ∙ ap (λ (name : List ℕ). old ++ started_row names table thread name (Some c.in-Some-place.place)) c.as_slice.ensures.value
    ∙ ap (λ (place : Option ℕ). old ++ started_row names table thread c.in-Some.start.now.name.items place) (sym c.in-Some-place.is)
    ∙ ap (λ (found : Option Start). old ++ began_row names table thread found) (c.in-Some.ensures ∙ ap (start_of table) (c.as_bytes-name.ensures.value ∙ name_found names.threads thread _ c.thread_name.ensures)))
    c.put-2.ensures.joined
