-- Rules found by their sites and by their words, and two rules that take a race: the lesser number is that of the first.
use Rattle.std.specs.Prelude.{ℕ, Bool, false, string_bytes, ◌&&◌, cond, min, List, [], ◌∷◌, Option, Some, None}
use Rattle.er_event.specs.Span.{Span}
use Rattle.er_rules.specs.Targets.{Target, AtSite, AtSites, AtWords, AtFact, span_of, same_site, takes_name, is_among}
use Rattle.er_rules.specs.declared.index.Entry.{Entry}
use Rattle.er_rules.specs.declared.index.Pattern.{Pattern}

-- the lesser of two numbers, where there are two
abbrev pub least_of : Option ℕ → Option ℕ → Option ℕ
least_of None second = second
least_of (Some first) None = Some first
least_of (Some first) (Some second) = Some (min first second)

-- both words are of the run
abbrev pub has_both : Option Span → ℕ → ℕ → Bool
has_both words lo hi = is_among words lo && is_among words hi

-- a rule of the site
abbrev pub is_of_site : Target → Option (List ℕ) → Bool
is_of_site (AtSite name) site = same_site name site
is_of_site (AtSites pattern) site = false
is_of_site (AtWords words) site = false
is_of_site (AtFact kind pattern) site = false

-- a rule of a pattern that takes the site's name
abbrev pub is_of_pattern : Target → Option (List ℕ) → Bool
is_of_pattern (AtSite name) site = false
is_of_pattern (AtSites pattern) site = takes_name pattern site
is_of_pattern (AtWords words) site = false
is_of_pattern (AtFact kind pattern) site = false

-- a rule whose words have both
abbrev pub is_of_words : Target → ℕ → ℕ → Bool
is_of_words (AtSite name) lo hi = false
is_of_words (AtSites pattern) lo hi = false
is_of_words (AtWords words) lo hi = has_both words lo hi
is_of_words (AtFact kind pattern) lo hi = false

-- the first rule whose words have both
unfoldable pub first_of : List Entry → ℕ → ℕ → Option ℕ
first_of [] lo hi = None
first_of (entry ∷ entries) lo hi = cond (has_both (Some (span_of entry.words)) lo hi) (Some entry.rule) (first_of entries lo hi)

-- the first rule of a pattern that takes the site's name
unfoldable pub first_taking : List Pattern → Option (List ℕ) → Option ℕ
first_taking [] site = None
first_taking (p ∷ ps) site = cond (takes_name (string_bytes p.bytes) site) (Some p.rule) (first_taking ps site)
