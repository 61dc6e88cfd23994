-- The name lies behind the others, whose spans stay as they were.
use Rattle.std.proofs.Common.{◌≡◌, ◌+◌, ◌++◌, [], ◌∷◌, ℕ, List, length, ap, ◌∙◌, arith, rules, length-append}
use Rattle.er_binary.proofs.NameLemmas.{more_bytes, pushed, still_within, within_more}
use Rattle.er_binary.proofs.TextLemmas.{on_err_of}
use Rattle.er_binary.specs.declared.names.Span.{Span}
use Rattle.er_binary.proofs.names.Names.push.Goals as goal

pub invariant_of-self-in_err-push : goal.invariant_of-self-in_err-push
invariant_of-self-in_err-push c =
    rw (c.in_ok-extend_from_slice.ensures.items, c.in_err-push.ensures.items) (still_within c.self.inside.bytes.items c.args.name.now c.self.inside.spans.items c.self.invariant)

pub returns-in_err-push-clause-err : goal.returns-in_err-push-clause-err
returns-in_err-push-clause-err c =
    on_err_of c.from_residual-in_err-push.result _ (rw (c.in_ok-extend_from_slice.ensures.items, c.in_err-push.ensures.items)
    (more_bytes c.self.inside.bytes.items c.args.name.now c.self.inside.spans.items c.self.invariant ∙ c.self.view_is))

pub invariant_of-self-2 : goal.invariant_of-self-2
invariant_of-self-2 c =
    let bytes = c.self.inside.bytes.items in
    let name = c.args.name.now in
    let span : Span = record { start = c.len-start.result; end = c.len-end.result } in
    let start : c.len-start.result ≡ length bytes = search rules in
    let end : c.len-end.result ≡ length bytes + length name = search rules in
    rw (c.in_ok-extend_from_slice.ensures.items, c.in_ok-push.ensures.items)
    (within_more (bytes ++ name) c.self.inside.spans.items span (still_within bytes name c.self.inside.spans.items c.self.invariant) (omega arith) (omega (arith, length-append bytes name)))

pub returns-clause-ok : goal.returns-clause-ok
returns-clause-ok c =
    let bytes = c.self.inside.bytes.items in
    let name = c.args.name.now in
    let span : Span = record { start = c.len-start.result; end = c.len-end.result } in
    let start : c.len-start.result ≡ length bytes = search rules in
    let end : c.len-end.result ≡ length bytes + length name = search rules in
    rw (c.in_ok-extend_from_slice.ensures.items, c.in_ok-push.ensures.items)
    (pushed bytes name c.self.inside.spans.items span c.self.invariant start end ∙ ap (λ (names : List (List ℕ)). names ++ name ∷ []) c.self.view_is)
