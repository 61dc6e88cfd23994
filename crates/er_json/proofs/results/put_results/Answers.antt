-- The next line counts, and adds its result if it has one.
use Rattle.std.proofs.Common.{◌≡◌, ◌∙◌, ◌&&◌, ◌<◌, ◌+◌, ℕ, Bool, List, ◌++◌, length, take, slice_get, Some, refl, sym, ap, arith}
use Rattle.std.proofs.lemmas.List.{append-nil}
use Rattle.std.proofs.lemmas.Option.{slice_get_read}
use Rattle.er_json.proofs.RowLemmas.{none_more}
use Rattle.er_json.specs.Document.{rows_text}
use Rattle.er_json.specs.Inner.Sections.{has_none}
use Rattle.er_places.specs.Places.{PlaceTable}
use Rattle.er_report.specs.declared.report.Line.{Line}
use Rattle.er_json.proofs.ResultLemmas.{like, results_next, text_next}
use Rattle.er_sites.proofs.CountLemmas.{counts_next, counts_room}
use Rattle.er_json.specs.Sarif.{races_like, results_below, results_of}
use Rattle.er_trace.specs.Names.{NameTable}
use Rattle.er_json.proofs.results.put_results.Goals as goal

pub loop-line-init : goal.loop-line-init
unfolding results_below
loop-line-init c = record { seen = c.new-seen.ensures; first = refl; text = sym (append-nil _) }

pub count-requires : goal.count-requires
count-requires c = counts_room c.args.lines.now c.loop-line.line-index c.loop-line.seen c.loop-line-test.true (omega arith) c.loop-line.invariant.seen

pub loop-line-preserved : goal.loop-line-preserved
loop-line-preserved c =
    let names : NameTable = c.args.legend.now.names.now in
    let table : PlaceTable = c.args.legend.now.places.now in
    let lines : List Line = c.args.lines.now in
    let k : ℕ = c.loop-line.line-index in
    let line : Line = c.line-item.result in
    let within : k < length lines = c.loop-line-test.true in
    let here : slice_get lines k ≡ Some line = slice_get_read lines (length lines) k line refl within c.line-item.is in
    let before : c.like-before.result ≡ races_like (take k lines) line = c.like-before.ensures ∙ like c.loop-line.seen (take k lines) c.loop-line.invariant.seen line in
    let count : c.like-count.result ≡ races_like lines line = c.like-count.ensures ∙ like c.args.total.now lines c.requires.total line in
    let e = c.in_ok-count.ensures in
    let known = c.loop-line.invariant.seen in
    let rows : List (List ℕ) = results_below c.args.of names table lines k in
    let more : List (List ℕ) = results_of c.args.of names table c.like-before.result c.like-count.result line in
    let next : results_below c.args.of names table lines (k + 1) ≡ rows ++ more = results_next c.args.of names table lines k line _ _ here before count in
    record {
      seen = counts_next lines k line c.loop-line.seen c.count.new.self within c.line-item.is known e.reads e.writes e.reuses (e.few_reads known.few_reads) (e.few_writes known.few_writes) (e.few_reuses known.few_reuses);
      first = c.in_ok-is_first.ensures.first ∙ ap (λ (b : Bool). b && has_none more) c.loop-line.invariant.first ∙ sym (none_more rows more) ∙ ap has_none (sym next);
      text = text_next c.args.of names table _ _ line rows _ _ _ c.loop-line.is_first c.loop-line.invariant.first c.loop-line.invariant.text c.in_ok-is_first.ensures.text
          ∙ ap (λ (all : List (List ℕ)). c.args.out.now.items ++ rows_text all) (sym next);
    }
