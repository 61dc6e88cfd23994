use Rattle.std.proofs.Common.{◌≡◌, ◌<◌, ◌≤◌, length, take, refl, sym, ap, ◌∙◌, arith}
use Rattle.std.proofs.lemmas.List.{length-take-le, take-set}
use Rattle.std.proofs.lemmas.List.Sums.{count_by-le-length}
use Rattle.std.specs.Int.{from_bool}
use Rattle.std.specs.List.{count_by}
use Rattle.er_parts.specs.Parts.{is_of_page, kept_beside}
use Rattle.er_parts.proofs.KeepLemmas.{byte-le, count-next, kept-else, kept-steps, kept-then, kept-whole, step-old}
use Rattle.er_parts.proofs.part.Part.keep.Goals as goal
use Rattle.er_parts.proofs.part.Part.keep.Goals.{then-takes, else-takes}

pub loop-i-init : goal.loop-i-init
unfolding kept_beside
loop-i-init c = record {
  steps = (omega arith, refl, refl, refl);
  lines = (omega arith, c.requires.lines, refl, refl);
  sites = (omega arith, c.requires.sites, refl, refl);
  counted = refl;
}

pub index_mut-requires : goal.index_mut-requires
index_mut-requires c =
    let so_far : c.loop-i.kept ≤ c.loop-i.i = c.loop-i.invariant.steps.0 in
    let long : length c.loop-i.steps.items ≡ length c.args.steps.now.items = c.loop-i.invariant.steps.1 in
    omega (arith, c.loop-i-test.true, c.len-i-end.ensures)

pub index_mut-requires-in-loop-i : goal.index_mut-requires-in-loop-i
index_mut-requires-in-loop-i c =
    let so_far : c.loop-i.kept ≤ c.loop-i.i = c.loop-i.invariant.steps.0 in
    let long : length c.loop-i.lines.items ≡ length c.args.steps.now.items = c.loop-i.invariant.lines.1 in
    omega (arith, c.loop-i-test.true, c.len-i-end.ensures)

pub index_mut-requires-in-loop-i-2 : goal.index_mut-requires-in-loop-i-2
index_mut-requires-in-loop-i-2 c =
    let so_far : c.loop-i.kept ≤ c.loop-i.i = c.loop-i.invariant.steps.0 in
    let long : length c.loop-i.sites.items ≡ length c.args.steps.now.items = c.loop-i.invariant.sites.1 in
    omega (arith, c.loop-i-test.true, c.len-i-end.ensures)

pub overflow_add-kept : goal.overflow_add-kept
overflow_add-kept c =
    let so_far : c.loop-i.kept ≤ c.loop-i.i = c.loop-i.invariant.steps.0 in
    omega (arith, c.loop-i-test.true, c.len-i-end.type_inv)

pub overflow_add-counted : goal.overflow_add-counted
overflow_add-counted c =
    let so_far : c.loop-i.kept ≤ c.loop-i.i = c.loop-i.invariant.steps.0 in
    let long : length c.loop-i.steps.items ≡ length c.args.steps.now.items = c.loop-i.invariant.steps.1 in
    let below : c.loop-i.i < length c.args.steps.now.items = omega (arith, c.loop-i-test.true, c.len-i-end.ensures) in
    let few = count_by-le-length is_of_page (take c.loop-i.kept c.loop-i.steps.items) in
    let all = length-take-le c.loop-i.kept c.loop-i.steps.items (omega arith) in
    let one = byte-le c.is_of_page.result in
    omega (arith, c.loop-i.invariant.counted, few, all, one, c.from-counted.ensures, c.loop-i-test.true, c.len-i-end.type_inv)

pub loop-i-preserved : goal.loop-i-preserved
loop-i-preserved c =
    let below : c.loop-i.i < length c.args.steps.now.items = omega (arith, c.loop-i-test.true, c.len-i-end.ensures) in
    let so_far : c.loop-i.kept ≤ c.loop-i.i = c.loop-i.invariant.steps.0 in
    let long : length c.loop-i.steps.items ≡ length c.args.steps.now.items = c.loop-i.invariant.steps.1 in
    let within : c.loop-i.kept < length c.loop-i.steps.items = omega arith in
    let step = step-old c.args.self c.args.steps.now.items c.loop-i.steps.items c.loop-i.kept c.loop-i.i c.index.result.now c.loop-i.invariant.steps c.index.ensures in
    elim c.if-takes.branch [
      | then-takes w ↦ rw (w.kept-is, w.counted-is) record {
        steps = kept-then _ _ _ _ _ _ _ _ refl below step c.index.ensures c.loop-i.invariant.steps (sym c.takes.ensures ∙ w.if-takes.true);
        lines = kept-then _ _ _ _ _ _ _ _ c.requires.lines below step c.index-in-loop-i.ensures c.loop-i.invariant.lines (sym c.takes.ensures ∙ w.if-takes.true);
        sites = kept-then _ _ _ _ _ _ _ _ c.requires.sites below step c.index-in-loop-i-2.ensures c.loop-i.invariant.sites (sym c.takes.ensures ∙ w.if-takes.true);
        counted = count-next is_of_page _ _ _ _ _ within c.loop-i.invariant.counted (w.from-counted.ensures ∙ ap from_bool w.is_of_page.ensures);
      }
      | else-takes w ↦ rw (w.kept-is, w.counted-is) record {
        steps = kept-else _ _ _ _ _ _ _ _ refl below step c.index.ensures c.loop-i.invariant.steps (sym c.takes.ensures ∙ w.if-takes.false);
        lines = kept-else _ _ _ _ _ _ _ _ c.requires.lines below step c.index-in-loop-i.ensures c.loop-i.invariant.lines (sym c.takes.ensures ∙ w.if-takes.false);
        sites = kept-else _ _ _ _ _ _ _ _ c.requires.sites below step c.index-in-loop-i-2.ensures c.loop-i.invariant.sites (sym c.takes.ensures ∙ w.if-takes.false);
        counted = c.loop-i.invariant.counted ∙ sym (ap (count_by is_of_page) (take-set c.loop-i.steps.items c.loop-i.kept c.index.result.now));
      }
    ]

pub returns-clause-steps : goal.returns-clause-steps
returns-clause-steps c =
    c.truncate.ensures.items ∙ kept-whole _ _ _ _ _ _ refl (omega (arith, c.loop-i-test.false, c.len-i-end.ensures)) c.loop-i.invariant.steps ∙ kept-steps _ _

pub returns-clause-lines : goal.returns-clause-lines
returns-clause-lines c = c.truncate-2.ensures.items ∙ kept-whole _ _ _ _ _ _ c.requires.lines (omega (arith, c.loop-i-test.false, c.len-i-end.ensures)) c.loop-i.invariant.lines

pub returns-clause-sites : goal.returns-clause-sites
returns-clause-sites c = c.truncate-3.ensures.items ∙ kept-whole _ _ _ _ _ _ c.requires.sites (omega (arith, c.loop-i-test.false, c.len-i-end.ensures)) c.loop-i.invariant.sites

pub returns-clause-counted : goal.returns-clause-counted
returns-clause-counted c = c.loop-i.invariant.counted ∙ sym (ap (count_by is_of_page) c.truncate.ensures.items)
