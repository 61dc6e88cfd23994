-- Lines that are gone over one by one, and what is counted of them.
use Rattle.std.proofs.Common.{◌≡◌, ◌∙◌, ◌+◌, ℕ, Bool, cond, is_none, map, nat_eq, List, [], ◌∷◌, ◌++◌, All, filter, position, IfSome, Option, Some, None, option_map, refl, sym, ap, subst, arith}
use Rattle.std.proofs.lemmas.List.Elements.{All-filter}
use Rattle.std.proofs.lemmas.List.Sums.{sum_by-cons}
use Rattle.er_places.specs.Places.{PlaceTable}
use Rattle.er_report.specs.Names.{HasNames}
use Rattle.er_report.specs.Report.{is_rule}
use Rattle.er_report.specs.declared.report.Line.{Line}
use Rattle.er_report.specs.declared.report.Report.{Report}
use Rattle.er_rules.specs.Rules.{Target, target_of}
use Rattle.er_rules.specs.declared.rules.Rule.{Rule}
use Rattle.er_rules.proofs.MatchLemmas.{later, position-cons}
use Rattle.er_trace.specs.Names.{NameTable}
use Rattle.er_triage.specs.Facts.{line_rule, taken_by, with_more, IsLeftOf}

pub position-map : (p : Target → Bool) (rules : List Rule) → position (λ rule. p (target_of rule)) rules ≡ position p (map target_of rules)
position-map p [] = refl
position-map p (rule ∷ rules) =
    position-cons (λ r. p (target_of r)) rule rules
    ∙ (ap (λ o. cond (p (target_of rule)) (Some 0) (later o)) (position-map p rules) ∙ sym (position-cons p (target_of rule) (map target_of rules)))

more_twice : (a b c : ℕ) → with_more a (with_more b c) ≡ with_more (b + a) c
more_twice a b c = omega arith

module _ (table : PlaceTable) (rules : List Target) where
  abbrev pub stays : Line → Bool
  stays line = is_none (line_rule table rules line)

  taken-cons : (line : Line) (rest : List Line) (i : ℕ) → taken_by table rules (line ∷ rest) i ≡ cond (is_rule i (line_rule table rules line)) 1 0 + taken_by table rules rest i
  taken-cons line rest i = sum_by-cons (λ l. cond (is_rule i (line_rule table rules l)) 1 0) line rest

  -- a line that is not kept
  pub gone_on : (line : Line) (rest kept all : List Line) (place : ℕ) → line_rule table rules line ≡ Some place → kept ++ filter stays (line ∷ rest) ≡ all → kept ++ filter stays rest ≡ all
  gone_on line rest kept all place some is = sym (ap (λ (o : Option ℕ). kept ++ cond (is_none o) (line ∷ filter stays rest) (filter stays rest)) some) ∙ is

  counted : (a n : ℕ) (count : Option ℕ) → option_map (with_more n) (option_map (with_more a) count) ≡ option_map (with_more (a + n)) count
  counted a n None = refl
  counted a n (Some c) = ap Some (more_twice n a c)

  pub counted_on : (line : Line) (rest : List Line) (i place : ℕ) (count new all : Option ℕ) → line_rule table rules line ≡ Some place
      → option_map (with_more (taken_by table rules (line ∷ rest) i)) count ≡ all → new ≡ option_map (with_more (cond (nat_eq i place) 1 0)) count
      → option_map (with_more (taken_by table rules rest i)) new ≡ all
  counted_on line rest i place count new all some is one =
      ap (option_map (with_more (taken_by table rules rest i))) one
      ∙ (counted (cond (nat_eq i place) 1 0) (taken_by table rules rest i) count
      ∙ (sym (ap (λ (n : ℕ). option_map (with_more n) count) (taken-cons line rest i ∙ ap (λ (o : Option ℕ). cond {A = ℕ} (is_rule i o) 1 0 + taken_by table rules rest i) some)) ∙ is))

  -- what holds of all lines holds of those that are left
  pub named_left : (names : NameTable) (report left : Option Report) → IsLeftOf table rules report left → IfSome report (λ r. All (HasNames names) r.lines.items) → IfSome left (λ r. All (HasNames names) r.lines.items)
  named_left names None None is named = tt
  named_left names None (Some left) is named = absurd (let e : Some left ≡ None = is in cc)
  named_left names (Some report) None is named = tt
  named_left names (Some report) (Some left) is named = subst (λ (lines : List Line). All (HasNames names) lines) (sym is.lines) (All-filter stays (HasNames names) report.lines.items named)
