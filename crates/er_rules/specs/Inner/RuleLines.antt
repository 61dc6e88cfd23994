-- The rules of lines, as the code finds them out. The grammar of suppression texts stands apart from it, in `Rules`.
use Rattle.std.specs.Prelude.{◌≡◌, ℕ, ◌+◌, ◌^◌, ◌&&◌, ◌||◌, ◌++◌, not, Bool, true, false, nat_le, nat_lt, List, [], ◌∷◌, Option, Some, None, Result, Ok, Err, codes, option_map, if◌then◌else◌}
use Rattle.std.specs.List.{list_all}
use Rattle.std.specs.Str.{bytes_eq}
use denote.Ref.{Bor}
use Rattle.er_event.specs.Span.{Span}
use Rattle.er_rules.specs.Rules.{Target, AtSite, AtSites, AtWords, AtFact, span_of, targets_of}
use Rattle.er_rules.specs.declared.rules.FactKind.{FactKind}
use Rattle.er_rules.specs.declared.rules.WordSpan.{WordSpan}
use Rattle.er_rules.specs.declared.rules.Suppressions.{Suppressions}
use Rattle.er_lines.specs.declared.faults.TextKind.{TextKind}
use Rattle.er_rules.specs.Texts.{is_header, kind_in, run_of, site_target}
use Rattle.er_lines.specs.Naming.{is_site_name}
use Rattle.er_lines.specs.declared.faults.TextKind.TheVariants.{BadName, NotAscii, MissingOperand, BadVerb, ExtraOperand, AddressOutOfRange}
use Rattle.er_lines.specs.declared.faults.TextFault.{TextFault}
use Rattle.er_lines.specs.declared.faults.ReadFault.{ReadFault}
use Rattle.er_lines.specs.declared.faults.ReadFault.TheVariants as fault
use Rattle.er_rules.specs.declared.texts.LineRule.{LineRule}
use Rattle.er_rules.specs.declared.texts.LineRule.TheVariants.{Site, Sites, Words, Fact}
use Rattle.er_lines.specs.Lines.{Placed, placed, says_something, has_bytes, words, word_at, is_ascii}
use Rattle.er_lines.specs.Words.{and_then, map_ok, number_in, seen_name, GivesBy}
use Rattle.er_lines.specs.Reading.{read_lines}

-- the only operand, which is a name
abbrev pub name_in : List ℕ → List ℕ → Result (List ℕ) TextKind
name_in first second =
    if not (has_bytes first) then Err MissingOperand else if has_bytes second then Err ExtraOperand else if not (is_site_name first) then Err BadName else Ok first

-- the rule of sites of the words behind `site`
abbrev pub site_rule_in : Bool → List ℕ → List ℕ → Result Target TextKind
site_rule_in is_second first second = map_ok (site_target is_second) (name_in first second)

-- the rule of what a trace says of the program, of the words behind the first
abbrev pub fact_rule_in : Option FactKind → List ℕ → List ℕ → Result Target TextKind
fact_rule_in None first second = Err BadVerb
fact_rule_in (Some kind) first second = map_ok (AtFact kind) (name_in first second)

-- some of so many bytes from an address on are outside of memory
abbrev pub is_outside : ℕ → ℕ → Bool
is_outside address size = nat_le (2 ^ 48) address || nat_lt (2 ^ 48) (address + size)

-- a run of bytes of any size within memory
abbrev pub long_run_in : ℕ → ℕ → Result (Option Span) TextKind
long_run_in address size = if is_outside address size then Err AddressOutOfRange else Ok (run_of address size)

-- the rule of words of memory, of the words behind `words`
abbrev pub run_rule_in : List ℕ → List ℕ → List ℕ → Result Target TextKind
run_rule_in first second third =
    if not (has_bytes second) then Err MissingOperand else if has_bytes third then Err ExtraOperand
    else and_then (number_in first) (λ a. and_then (number_in second) (λ n. map_ok AtWords (long_run_in a n)))

-- the rule that four words write, of which those that are missing are empty
abbrev pub rule_in : Bool → List ℕ → List ℕ → List ℕ → List ℕ → Result Target TextKind
rule_in is_second sort first second third =
    if bytes_eq sort (codes "site") then site_rule_in is_second first second
    else if bytes_eq sort (codes "words") then run_rule_in first second third
    else fact_rule_in (kind_in is_second sort) first second

-- the rule that the words of a line write
abbrev pub rule_of : Bool → List (List ℕ) → Result Target TextKind
rule_of is_second words = rule_in is_second (word_at 0 words) (word_at 1 words) (word_at 2 words) (word_at 3 words)

-- the four words are a header
abbrev pub header_in : List ℕ → List ℕ → List ℕ → List ℕ → Bool
header_in first second third fourth = bytes_eq first (codes "eraser") && bytes_eq second (codes "suppressions") && bytes_eq third (codes "2") && not (has_bytes fourth)

-- what was read so far: whether the text is of the second edition, and its rules
abbrev pub ReadSoFar : Type 0
ReadSoFar = Bool × List Target

-- there is a rule
abbrev pub has_some : List Target → Bool
has_some [] = false
has_some (t ∷ ts) = true

-- a header or a rule was read
abbrev pub has_begun : ReadSoFar → Bool
has_begun read = read.0 || has_some read.1

-- with one rule more
abbrev pub with_rule : ReadSoFar → Target → ReadSoFar
with_rule read rule = (read.0, read.1 ++ rule ∷ [])

-- with the words of one more line: the header, if nothing was read yet, or a rule
abbrev pub add_words : ReadSoFar → List (List ℕ) → Result ReadSoFar TextKind
add_words read words = if not (has_begun read) && is_header words then Ok (true, read.1) else map_ok (with_rule read) (rule_of read.0 words)

-- with the bytes of one more line, which may say nothing
abbrev pub add_at : ReadSoFar → List ℕ → Result ReadSoFar TextKind
add_at read bytes = if says_something bytes then add_words read (words bytes) else Ok read

-- a line in the limits
abbrev pub plain_rule_at : ReadSoFar → List ℕ → Result ReadSoFar TextKind
plain_rule_at read bytes = if not (list_all is_ascii bytes) then Err NotAscii else add_at read bytes

-- the rules so far, and that of one more line
abbrev pub add_line : ReadSoFar → Placed → Result ReadSoFar TextKind
add_line read line = add_at read line.line.bytes

-- what a reading of a text gives
abbrev pub rules_in : ℕ → List ℕ → Result ReadSoFar TextFault
rules_in limit text = read_lines limit add_line (placed text) (false, [])

-- the code's values, without where they lie in memory
abbrev pub rule_view : LineRule → Target
rule_view (Site name) = AtSite (seen_name name)
rule_view (Sites pattern) = AtSites pattern.now
rule_view (Words run) = AtWords (option_map span_of run)
rule_view (Fact kind pattern) = AtFact kind pattern.now

-- what a call that reads a name gives
abbrev pub GivesName : Result (Bor (List ℕ)) TextKind → Result (List ℕ) TextKind → Type 0
GivesName = GivesBy (λ name. name.now)

-- what a call that reads a run of words gives
abbrev pub GivesRun : Result (Option WordSpan) TextKind → Result (Option Span) TextKind → Type 0
GivesRun = GivesBy (option_map span_of)

-- what a call that reads a rule gives
abbrev pub GivesRule : Result LineRule TextKind → Result Target TextKind → Type 0
GivesRule = GivesBy rule_view

-- what a call returned is this outcome, unless memory or the reader failed
abbrev pub IsRulesOutcome : Result ReadSoFar TextFault → Result Suppressions ReadFault → Type 0
IsRulesOutcome outcome (Ok rules) = (is_second : Bool) × (outcome ≡ Ok (is_second, targets_of rules))
IsRulesOutcome outcome (Err (fault.Text f)) = outcome ≡ Err f
IsRulesOutcome outcome (Err fault.Memory) = Unit {0}
IsRulesOutcome outcome (Err fault.Read) = Unit {0}
