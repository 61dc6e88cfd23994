-- What holds of all names holds of this one.
use Rattle.std.proofs.Common.{◌≡◌, true, sym, ◌∙◌, subst}
use Rattle.std.specs.List.{list_all}
use Rattle.er_trace.specs.Names.{is_plain_name, is_shown_name}
use Rattle.er_trace.proofs.RecentLemmas.{known_one}
use Rattle.er_trace.proofs.list.NameList.is_allowed_at.Goals as goal
use Rattle.er_trace.proofs.list.NameList.is_allowed_at.Goals.{then-may_be_other, else-may_be_other}

pub returns-then-are_allowed : goal.returns-then-are_allowed
returns-then-are_allowed c is =
    let knows = c.is_at.ensures is in
    let shown : c.self.inside.are_shown ≡ true → is_shown_name c.args.name.now ≡ true = λ all.
    known_one is_shown_name c.args.self.now c.args.name.now c.args.number knows (subst (λ names. list_all is_shown_name names ≡ true) c.self.view_is (c.self.invariant.2 all)) in
    let plain : c.self.inside.are_plain ≡ true → is_plain_name c.args.name.now ≡ true = λ all.
    known_one is_plain_name c.args.self.now c.args.name.now c.args.number knows (subst (λ names. list_all is_plain_name names ≡ true) c.self.view_is (c.self.invariant.1 all)) in
    let truth = c.if-are_allowed.true in
    (knows, elim c.if-may_be_other.branch [ then-may_be_other w ↦ rw w.if-may_be_other.true (shown (sym w.are_allowed-is ∙ truth)) | else-may_be_other w ↦ rw w.if-may_be_other.false (plain (sym w.are_allowed-is ∙ truth)) ])
