pub mod IndexLemmas
pub mod ReachLemmas
pub mod MatchLemmas
pub mod PatternLemmas
pub mod RuleLaws
pub mod PlaceLemmas
pub mod RuleTexts
