use Rattle.std.proofs.Common.{◌≡◌, ◌≢◌, ℕ, List, [], length, IfOk, OnOk, OnErr, Contains, IsErrOf, sym, subst}
use Rattle.er_event.specs.Lockset.{meet}
use Rattle.er_event.specs.declared.refusals.NoRoom.TheVariants.{TableFull}
use Rattle.er_table.specs.Sets.{set_at, with_set}
use Rattle.er_table.proofs.SetsLemmas.{with_set-present}
use Rattle.er_table.proofs.KnownLemmas.{Contains-meet}
use Rattle.er_table.proofs.known.KnownIn.intersect.Goals as goal

pub returns-in-Some-clause-ok : goal.returns-in-Some-clause-ok
returns-in-Some-clause-ok g c = sym (with_set-present _ _ (Contains-meet _ _ _ c.in-Some.ensures))

pub returns-in-Some-clause-next : goal.returns-in-Some-clause-next
returns-in-Some-clause-next g c = λ absent. absurd (absent (Contains-meet _ _ _ c.in-Some.ensures))

pub returns-clause-next : goal.returns-clause-next
returns-clause-next g c =
    let P : List (List ℕ) → Type 0 = λ s. IfOk c.number_anew.result (λ n. ¬ Contains s (meet (set_at s c.args.first) (set_at s c.args.second)) → n ≡ length s) in
    subst P c.self.view_is c.number_anew.ensures.numbered.next

pub returns-clause-full_only_if_new : goal.returns-clause-full_only_if_new
returns-clause-full_only_if_new g c =
    let P : List (List ℕ) → Type 0 = λ s. IsErrOf c.number_anew.result TableFull → ¬ Contains s (meet (set_at s c.args.first) (set_at s c.args.second)) in
    subst P c.self.view_is c.number_anew.ensures.numbered.full_only_if_new

pub returns-clause-ok : goal.returns-clause-ok
returns-clause-ok g c =
    let P : List (List ℕ) → Type 0 = λ s. OnOk c.number_anew.result (c.number_anew.new.numbers ≡ with_set s (meet (set_at s c.args.first) (set_at s c.args.second))) in
    subst P c.self.view_is c.number_anew.ensures.numbered.ok

pub returns-clause-names : goal.returns-clause-names
returns-clause-names g c =
    let P : List (List ℕ) → Type 0 = λ s. IfOk c.number_anew.result (λ n. set_at c.number_anew.new.numbers n ≡ meet (set_at s c.args.first) (set_at s c.args.second)) in
    subst P c.self.view_is c.number_anew.ensures.numbered.names

pub returns-clause-empty : goal.returns-clause-empty
returns-clause-empty g c =
    let P : List (List ℕ) → Type 0 = λ s. IfOk c.number_anew.result (λ n. meet (set_at s c.args.first) (set_at s c.args.second) ≡ [] → n ≡ 0) in
    subst P c.self.view_is c.number_anew.ensures.numbered.empty

pub returns-clause-only_empty : goal.returns-clause-only_empty
returns-clause-only_empty g c =
    let P : List (List ℕ) → Type 0 = λ s. IfOk c.number_anew.result (λ n. n ≡ 0 → meet (set_at s c.args.first) (set_at s c.args.second) ≡ []) in
    subst P c.self.view_is c.number_anew.ensures.numbered.only_empty

pub returns-clause-err : goal.returns-clause-err
returns-clause-err g c =
    let P : List (List ℕ) → Type 0 = λ s. OnErr c.number_anew.result (c.number_anew.new.numbers ≡ s) in
    subst P c.self.view_is c.number_anew.ensures.numbered.err

pub returns-clause-full_only_if_some : goal.returns-clause-full_only_if_some
returns-clause-full_only_if_some g c =
    let P : List (List ℕ) → Type 0 = λ s. IsErrOf c.number_anew.result TableFull → meet (set_at s c.args.first) (set_at s c.args.second) ≢ [] in
    subst P c.self.view_is c.number_anew.ensures.numbered.full_only_if_some
