use Rattle.std.proofs.Common.{rules, ◌≡◌, ◌∙◌, ◌∷◌, ◌++◌, [], cond, length, map, Some, None, ap, sym}
use Rattle.std.specs.Option.{option_or}
use Rattle.er_rules.specs.Targets.{target_of}
use Rattle.er_rules.specs.Inner.Index.{is_of_pattern, is_of_site, is_of_words}
use Rattle.er_rules.proofs.MatchLemmas.{first_by_pattern, first_by_site, first_by_words, position-pushed}
use Rattle.er_rules.proofs.rules.Suppressions.push.Goals as goal

pub invariant_of-self-2 : goal.invariant_of-self-2
invariant_of-self-2 c =
    let added : c.push_reserved.new.self.items ≡ c.reserve.new.self.items ++ c.args.rule ∷ [] = c.push_reserved.ensures.items in
    let count : c.len.result ≡ length c.reserve.new.self.items = search rules in
    let same : c.reserve.new.self.items ≡ c.args.self.now.rules.items = c.reserve.ensures.items in
    record {
      by_site = λ site.
          c.in_ok-push.ensures.sites site ∙ (ap (λ o. option_or o (cond (is_of_site (target_of c.args.rule) site) (Some c.len.result) None)) (c.args.self.now.by_site site)
          ∙ ((λ k. option_or (first_by_site (map target_of (sym same k)) site) (cond (is_of_site (target_of c.args.rule) site) (Some (count k)) None))
          ∙ sym (ap (λ rs. first_by_site (map target_of rs) site) added ∙ position-pushed (λ t. is_of_site t site) c.reserve.new.self.items c.args.rule)));
      by_pattern = λ site.
          c.in_ok-push.ensures.patterns site ∙ (ap (λ o. option_or o (cond (is_of_pattern (target_of c.args.rule) site) (Some c.len.result) None)) (c.args.self.now.by_pattern site)
          ∙ ((λ k. option_or (first_by_pattern (map target_of (sym same k)) site) (cond (is_of_pattern (target_of c.args.rule) site) (Some (count k)) None))
          ∙ sym (ap (λ rs. first_by_pattern (map target_of rs) site) added ∙ position-pushed (λ t. is_of_pattern t site) c.reserve.new.self.items c.args.rule)));
      by_words = λ lo hi.
          c.in_ok-push.ensures.words lo hi ∙ (ap (λ o. option_or o (cond (is_of_words (target_of c.args.rule) lo hi) (Some c.len.result) None)) (c.args.self.now.by_words lo hi)
          ∙ ((λ k. option_or (first_by_words (map target_of (sym same k)) lo hi) (cond (is_of_words (target_of c.args.rule) lo hi) (Some (count k)) None))
          ∙ sym (ap (λ rs. first_by_words (map target_of rs) lo hi) added ∙ position-pushed (λ t. is_of_words t lo hi) c.reserve.new.self.items c.args.rule)));
    }
