-- The span of the number lies within the bytes.
use Rattle.std.proofs.Common.{◌≤◌, ℕ, List, length, ap, ◌∙◌, rules}
use Rattle.er_binary.proofs.NameLemmas.{found, no_name}
use Rattle.er_binary.specs.Numbers.{name_at}
use Rattle.er_binary.proofs.names.Names.get.Goals as goal

pub slice_bounds-result-count : goal.slice_bounds-result-count
slice_bounds-result-count c =
    let h = c.in-Some.ensures.lookup in
    let all = c.deref.ensures.value in
    (found c.self.inside.bytes.items c.self.inside.spans.items c.args.n c.in-Some.span.now c.self.invariant (rw all at h.3.0) (rw all at h.1)).ordered

pub slice_bounds-result-start : goal.slice_bounds-result-start
slice_bounds-result-start c =
    let h = c.in-Some.ensures.lookup in
    let all = c.deref.ensures.value in
    let f = found c.self.inside.bytes.items c.self.inside.spans.items c.args.n c.in-Some.span.now c.self.invariant (rw all at h.3.0) (rw all at h.1) in
    let ordered : c.in-Some.span.now.start ≤ c.in-Some.span.now.end = f.ordered in
    search rules

pub slice_bounds-result-end : goal.slice_bounds-result-end
slice_bounds-result-end c =
    let h = c.in-Some.ensures.lookup in
    let all = c.deref.ensures.value in
    let f = found c.self.inside.bytes.items c.self.inside.spans.items c.args.n c.in-Some.span.now c.self.invariant (rw all at h.3.0) (rw all at h.1) in
    let within : c.in-Some.span.now.end ≤ length c.deref-in-Some.result.now = rw c.deref-in-Some.ensures.value f.within in
    search rules

pub returns-in-Some : goal.returns-in-Some
returns-in-Some c =
    let h = c.in-Some.ensures.lookup in
    let all = c.deref.ensures.value in
    let f = found c.self.inside.bytes.items c.self.inside.spans.items c.args.n c.in-Some.span.now c.self.invariant (rw all at h.3.0) (rw all at h.1) in
    rw c.deref-in-Some.ensures.value (f.name ∙ ap (λ (names : List (List ℕ)). name_at names c.args.n) c.self.view_is)

pub returns-in-None : goal.returns-in-None
returns-in-None c =
    let h = c.in-None.ensures.lookup in
    c.as_slice.ensures ∙ no_name c.self.inside.bytes.items c.self.inside.spans.items c.args.n (rw c.deref.ensures.value at h.3)
    ∙ ap (λ (names : List (List ℕ)). name_at names c.args.n) c.self.view_is
