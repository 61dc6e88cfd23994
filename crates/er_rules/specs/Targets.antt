-- What rules say, and the races that they take.
use Rattle.std.specs.Prelude.{ℕ, nat_le, Bool, true, false, ◌&&◌, List, position, Option, Some, None, is_some, option_map, bytes_eq, string_bytes}
use Rattle.std.specs.List.{list_any}
use Rattle.er_event.specs.Span.{Span}
use Rattle.er_rules.specs.Patterns.{pattern_takes}
use Rattle.er_rules.specs.declared.rules.FactKind.{FactKind}
use Rattle.er_rules.specs.declared.rules.Rule.{Rule}
use Rattle.er_rules.specs.declared.rules.Rule.TheVariants.{Site, Sites, Words, Fact}
use Rattle.er_rules.specs.declared.rules.WordSpan.{WordSpan}

-- what a rule aims at: a site by its name or the missing one, the sites of a pattern, a run of words or none, or what a trace says of the program, by a pattern
pub data Target : Type 0 where
  AtSite : (name : Option (List ℕ)) → Target
  AtSites : (pattern : List ℕ) → Target
  AtWords : (words : Option Span) → Target
  AtFact : (kind : FactKind) → (pattern : List ℕ) → Target

-- the words of a run
abbrev pub span_of : WordSpan → Span
span_of words = record { first = words.first; last = words.last }

-- what a rule aims at, by its text
abbrev pub target_of : Rule → Target
target_of (Site name) = AtSite (option_map string_bytes name)
target_of (Sites pattern) = AtSites (string_bytes pattern)
target_of (Words words) = AtWords (option_map span_of words)
target_of (Fact kind pattern) = AtFact kind (string_bytes pattern)

-- the names of two sites are equal, or both are the missing site
abbrev pub same_site : Option (List ℕ) → Option (List ℕ) → Bool
same_site None None = true
same_site None (Some other) = false
same_site (Some name) None = false
same_site (Some name) (Some other) = bytes_eq name other

-- the site has a name, and the pattern takes it
abbrev pub takes_name : List ℕ → Option (List ℕ) → Bool
takes_name pattern None = false
takes_name pattern (Some name) = pattern_takes pattern name

-- the word is one of the run
abbrev pub is_among : Option Span → ℕ → Bool
is_among None word = false
is_among (Some s) word = nat_le s.first word && nat_le word s.last

-- whether a rule takes a race of an access at the site to the word, by these alone
abbrev pub takes : Target → Option (List ℕ) → ℕ → Bool
takes (AtSite name) site word = same_site name site
takes (AtSites pattern) site word = takes_name pattern site
takes (AtWords words) site word = is_among words word
takes (AtFact kind pattern) site word = false

-- whether a rule takes a race of a reuse of the words from lo to hi: it is of the reuse's site, which isn't missing, or takes its name, or has all the words
abbrev pub takes_reuse : Target → Option (List ℕ) → ℕ → ℕ → Bool
takes_reuse (AtSite name) site lo hi = is_some name && same_site name site
takes_reuse (AtSites pattern) site lo hi = takes_name pattern site
takes_reuse (AtWords words) site lo hi = is_among words lo && is_among words hi
takes_reuse (AtFact kind pattern) site lo hi = false

-- the place of the first rule that takes a race of an access
abbrev pub matching_rule : List Target → Option (List ℕ) → ℕ → Option ℕ
matching_rule targets site word = position (λ target. takes target site word) targets

-- the place of the first rule that takes a race of a reuse
abbrev pub matching_reuse_rule : List Target → Option (List ℕ) → ℕ → ℕ → Option ℕ
matching_reuse_rule targets site lo hi = position (λ target. takes_reuse target site lo hi) targets

-- the rule asks what a trace says of the program
abbrev pub asks_facts : Target → Bool
asks_facts (AtSite name) = false
asks_facts (AtSites pattern) = false
asks_facts (AtWords words) = false
asks_facts (AtFact kind pattern) = true

-- one of the rules does
abbrev pub ask_facts : List Target → Bool
ask_facts targets = list_any asks_facts targets
