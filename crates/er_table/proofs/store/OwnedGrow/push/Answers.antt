-- The set comes behind the others, and its hash leads to it.
use Rattle.std.proofs.Common.{◌≡◌, ◌∙◌, ◌+◌, ℕ, List, [], ◌∷◌, ◌++◌, length, nat_eq, cond, Option, Some, ap, sym, subst, arith}
use Rattle.std.specs.HashMap.{get}
use Rattle.std.specs.Option.{unwrap_or}
use Rattle.std.proofs.lemmas.Result.{IfOk-at_ok}
use Rattle.er_table.specs.Owned.{AreLaid, cut, hash_by}
use Rattle.er_table.specs.declared.store.Span.{Span}
use Rattle.er_table.proofs.OwnedLemmas.{AreLaid-push, cut-push}
use Rattle.er_table.proofs.store.OwnedGrow.push.Goals as goal

pub invariant_of-self-2 : goal.invariant_of-self-2
invariant_of-self-2 g c =
    let locks = c.self.inside.locks.items in
    let spans = c.self.inside.spans.items in
    let newest : ℕ → Option ℕ = get nat_eq c.self.inside.newest in
    let newest2 : ℕ → Option ℕ = get nat_eq c.insert-replaced.new.self in
    let set = c.args.set.now in
    let span : Span = record { start = c.len-start.result; end = c.len-end.result; older = c.unwrap_or-older.result } in
    let locks_are : c.extend_from_slice.new.self.items ≡ locks ++ set = c.in_ok-extend_from_slice.ensures.items ∙ ap (λ (s : List ℕ). locks ++ s) c.as_slice.ensures.locks in
    let spans_are : c.push_reserved.new.self.items ≡ spans ++ span ∷ [] = c.push_reserved.ensures.items ∙ ap (λ (s : List Span). s ++ span ∷ []) c.in_ok-reserve.ensures.items in
    let len_is = c.len.ensures in
    let stored = c.reserve.new.self.ok.0 in
    let kept = ap length c.in_ok-reserve.ensures.items in
    let len : c.len.result ≡ length spans = omega (arith, len_is, stored, kept) in
    let now : (k : ℕ) → newest2 k ≡ cond (nat_eq c.args.hash k) (Some (length spans + 1)) (newest k) =
    λ k. (IfOk-at_ok _ c.unwrap.ensures c.insert-replaced.ensures.updates).0 k ∙ (λ i. cond (nat_eq c.args.hash k) (Some (len i + 1)) (c.reserve-2.ensures.entries.2 k i)) in
    let older : c.unwrap_or-older.result ≡ unwrap_or (newest c.args.hash) 0 =
    c.unwrap_or-older.ensures ∙ ap (λ (o : Option ℕ). unwrap_or o 0) (IfOk-at_ok _ c.unwrap.ensures c.insert-replaced.ensures.old ∙ c.reserve-2.ensures.entries.2 c.args.hash) in
    let start_is = c.len-start.ensures in
    let started = c.self.inside.locks.ok.0 in
    let start : c.len-start.result ≡ length locks = omega (arith, start_is, started) in
    let end_is = c.len-end.ensures in
    let ended = c.extend_from_slice.new.self.ok.0 in
    let all = ap length locks_are in
    let end : c.len-end.result ≡ length (locks ++ set) = omega (arith, end_is, ended, all) in
    let hash = c.requires.hash ∙ ap (λ v. hash_by v.hasher set) (sym c.self.view_is) in
    let laid = AreLaid-push c.self.inside.hasher locks spans newest newest2 set c.args.hash span c.self.invariant hash c.as_slice.ensures.rising
    start end older now in
    subst (λ ls. AreLaid c.self.inside.hasher ls c.push_reserved.new.self.items newest2) (sym locks_are)
    (subst (λ ss. AreLaid c.self.inside.hasher (locks ++ set) ss newest2) (sym spans_are) laid)

pub returns-clause-ok : goal.returns-clause-ok
returns-clause-ok g c =
    let locks = c.self.inside.locks.items in
    let spans = c.self.inside.spans.items in
    let set = c.args.set.now in
    let span : Span = record { start = c.len-start.result; end = c.len-end.result; older = c.unwrap_or-older.result } in
    let locks_are : c.extend_from_slice.new.self.items ≡ locks ++ set = c.in_ok-extend_from_slice.ensures.items ∙ ap (λ (s : List ℕ). locks ++ s) c.as_slice.ensures.locks in
    let spans_are : c.push_reserved.new.self.items ≡ spans ++ span ∷ [] = c.push_reserved.ensures.items ∙ ap (λ (s : List Span). s ++ span ∷ []) c.in_ok-reserve.ensures.items in
    let start_is = c.len-start.ensures in
    let started = c.self.inside.locks.ok.0 in
    let start : c.len-start.result ≡ length locks = omega (arith, start_is, started) in
    let end_is = c.len-end.ensures in
    let ended = c.extend_from_slice.new.self.ok.0 in
    let all = ap length locks_are in
    let end : c.len-end.result ≡ length (locks ++ set) = omega (arith, end_is, ended, all) in
    (λ i. cut (locks_are i) (spans_are i)) ∙ (cut-push locks spans set span c.self.invariant.ends start end ∙ ap (λ v. v.sets ++ set ∷ []) c.self.view_is)
