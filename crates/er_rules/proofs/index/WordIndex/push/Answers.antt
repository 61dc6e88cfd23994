-- The new entry reaches as far as those that it stands for.
use Rattle.std.proofs.Common.{◌≡◌, ◌∙◌, ◌∷◌, ◌++◌, [], List, cond, Some, None, sym, ap, subst}
use Rattle.std.specs.Option.{option_or}
use Rattle.er_rules.specs.declared.index.Entry.{Entry}
use Rattle.er_rules.specs.Targets.{span_of}
use Rattle.er_rules.specs.Inner.Index.{first_of, has_both}
use Rattle.er_rules.proofs.IndexLemmas.{Start, Reaching, start-push, reaching-push, first_of-push}
use Rattle.er_rules.proofs.index.WordIndex.push.Goals as goal

pub invariant_of-self-2 : goal.invariant_of-self-2
invariant_of-self-2 c =
    let items = c.reserve.new.self.items in
    let entry : Entry = record { words = c.args.words; rule = c.args.rule; start = c.loop-start.start; reach = c.loop-start.reach } in
    let added : c.push_reserved.new.self.items ≡ items ++ entry ∷ [] = c.push_reserved.ensures.items in
    let starts : Start items = subst (λ (es : List Entry). Start es) (sym c.reserve.ensures.items) c.args.self.now.starts in
    let reaches : Reaching items = subst (λ (es : List Entry). Reaching es) (sym c.reserve.ensures.items) c.args.self.now.reaches in
    record {
      starts = subst (λ (es : List Entry). Start es) (sym added) (start-push items entry starts c.loop-start.invariant.within);
      reaches = subst (λ (es : List Entry). Reaching es) (sym added) (reaching-push items entry reaches c.loop-start.invariant);
    }

pub returns-clause-ok : goal.returns-clause-ok
returns-clause-ok c = λ lo hi.
    let items = c.reserve.new.self.items in
    let entry : Entry = record { words = c.args.words; rule = c.args.rule; start = c.loop-start.start; reach = c.loop-start.reach } in
    ap (λ es. first_of es lo hi) c.push_reserved.ensures.items
    ∙ (first_of-push items entry lo hi ∙ ap (λ es. option_or (first_of es lo hi) (cond (has_both (Some (span_of c.args.words)) lo hi) (Some c.args.rule) None)) c.reserve.ensures.items)
