-- The four parts, one behind another.
use Rattle.std.proofs.Common.{◌≡◌, ◌==◌, ◌∙◌, ℕ, false, List, [], ◌∷◌, ◌++◌, length, flat_map, Option, Some, option_copied, codes, decimal, refl, sym, ap}
use Rattle.er_json.proofs.PutLemmas.{put_four}
use Rattle.er_json.specs.Sarif.{call_frame, frame_text, stack_if, stack_text}
use Rattle.er_places.specs.Names.{function_of}
use Rattle.er_places.specs.Places.{PlaceTable}
use Rattle.er_places.specs.declared.places.Place.{Place}
use Rattle.er_print.specs.Printed.{site_text}
use Rattle.er_print.specs.Styles.{site_in}
use Rattle.er_print.specs.declared.styles.Style.TheVariants as style
use Rattle.er_trace.specs.Names.{NameTable}
use Rattle.er_json.proofs.stacks.put_stack.Goals as goal

stack_some : (table : PlaceTable) (place : Place) (calls : List ℕ) → false ≡ (length calls == 0) →
    stack_text table place calls ≡ codes ",{\"message\":{\"text\":\"line " ++ decimal place.line ++ codes " of the trace\"},\"frames\":[" ++ frame_text (site_text table.names place.site) (function_of table (Some place))
    ++ flat_map (call_frame table) calls ++ codes "]}"
unfolding stack_text
stack_some table place [] some = absurd (cc)
stack_some table place (call ∷ calls) some = refl

pub returns : goal.returns
returns c =
    let table : PlaceTable = c.args.places.now in
    let place : Place = c.in-Some.place.now in
    let calls : List ℕ = c.calls_of-calls.result.now in
    let site = c.deref.ensures.value ∙ c.in_ok-put.ensures.joined ∙ ap (λ (start : List ℕ). start ++ site_in style.Plain c.names.result.now place.site) c.new-site.ensures.items
    ∙ ap (λ (names : NameTable). site_in style.Plain names place.site) c.names.ensures in
    let stack : c.extend_from_slice.new.self.items ≡ c.args.out.now.items ++ stack_text table place calls =
    rw (stack_some table place calls c.if-is_empty.ensures)
    (put_four _ _ _ _ _ _ _ _ _ c.in_ok-put-2.ensures.joined (c.in_ok-put_frame.ensures ∙ ap (λ (site : List ℕ). c.put-2.new.out.items ++ frame_text site c.function_of.result.now) site
    ∙ ap (λ (function : List ℕ). c.put-2.new.out.items ++ frame_text (site_text table.names place.site) function) c.function_of.ensures)
    c.in_ok-put_calls.ensures c.in_ok-extend_from_slice.ensures.items) in
    stack ∙ ap (λ (calls : List ℕ). c.args.out.now.items ++ stack_text table place calls) c.calls_of-calls.ensures
    ∙ ap (λ (known : Option Place). c.args.out.now.items ++ stack_if table known) (sym (ap option_copied c.in-Some.is))
