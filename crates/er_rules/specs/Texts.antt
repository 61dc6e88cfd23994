-- The grammar of suppression texts, in two editions, and the fault of a text that is none. It speaks of whole lines, and knows no reading.
use Rattle.std.specs.Prelude.{◌≡◌, ◌⊎◌, ℕ, ◌+◌, ◌^◌, ◌<◌, ◌≤◌, ◌&&◌, ◌||◌, ◌==◌, Bool, true, false, not, List, [], ◌∷◌, Option, Some, None, Result, Ok, Err, length, drop, filter, nat_lt, nat_le, codes, if◌then◌else◌}
use Rattle.std.specs.List.{AllByRecursion}
use Rattle.std.specs.Str.{bytes_eq}
use Rattle.er_rules.specs.Rules.{Target, AtSite, AtSites, AtWords, AtFact, targets_of}
use Rattle.er_rules.specs.declared.rules.FactKind.{FactKind}
use Rattle.er_rules.specs.declared.rules.FactKind.TheVariants.{Frame, Function, Variable}
use Rattle.er_rules.specs.declared.rules.Suppressions.{Suppressions}
use Rattle.er_lines.specs.declared.faults.TextKind.{TextKind}
use Rattle.er_lines.specs.declared.faults.TextKind.TheVariants.{BadName, MissingOperand, BadVerb, ExtraOperand, BadNumber, AddressOutOfRange}
use Rattle.er_lines.specs.declared.faults.TextFault.{TextFault}
use Rattle.er_lines.specs.declared.faults.ReadFault.{ReadFault}
use Rattle.er_lines.specs.declared.faults.ReadFault.TheVariants as fault
use Rattle.er_lines.specs.Lines.{Placed, placed, has_bytes, has_content, words, word_at}
use Rattle.er_rules.specs.Patterns.{has_star}
use Rattle.er_lines.specs.FirstFault.{IsPlain, IsFirstFaulty}
use Rattle.er_lines.specs.Number.{number_of, number_at, is_number_at}
use Rattle.er_lines.specs.Naming.{is_site_name}
use Rattle.er_event.specs.Span.{Span, span_of_bytes}

-- the words that some bytes touch, if there is a byte
abbrev pub run_of : ℕ → ℕ → Option Span
run_of address size = if size == 0 then None else Some (span_of_bytes address size)

-- what a site of a rule aims at: `-` is the missing site, and in the second edition a name with a star is a pattern
abbrev pub site_target : Bool → List ℕ → Target
site_target is_second name =
    if bytes_eq name (codes "-") then AtSite None
    else if is_second && has_star name then AtSites name
    else AtSite (Some name)

-- the words that write a rule of sites: a site as in a trace text 3, which has the sites of the others too
abbrev pub IsSiteRule : Bool → List (List ℕ) → Target → Type 0
IsSiteRule is_second words target = (name : List ℕ) × (words ≡ codes "site" ∷ name ∷ []) × (is_site_name name ≡ true) × (target ≡ site_target is_second name)

-- those that write a rule of words: an address and a size in bytes
abbrev pub IsRunRule : List (List ℕ) → Target → Type 0
IsRunRule words target =
    (address size : List ℕ) × (a n : ℕ) × (words ≡ codes "words" ∷ address ∷ size ∷ [])
    × (number_of address ≡ Some a) × (number_of size ≡ Some n) × (a < 2 ^ 48) × (a + n ≤ 2 ^ 48) × (target ≡ AtWords (run_of a n))

-- what a word of the second edition asks of a trace
abbrev pub kind_of : List ℕ → Option FactKind
kind_of word =
    if bytes_eq word (codes "frame") then Some Frame else if bytes_eq word (codes "function") then Some Function else if bytes_eq word (codes "variable") then Some Variable
    else None

-- the first edition has no such word
abbrev pub kind_in : Bool → List ℕ → Option FactKind
kind_in is_second word = if is_second then kind_of word else None

-- those that write a rule of what a trace says of the program: such a word and a pattern, in the second edition
abbrev pub IsFactRule : Bool → List (List ℕ) → Target → Type 0
IsFactRule is_second words target =
    (word name : List ℕ) × (kind : FactKind) × (words ≡ word ∷ name ∷ []) × (kind_in is_second word ≡ Some kind) × (is_site_name name ≡ true) × (target ≡ AtFact kind name)

-- the words that write a rule
abbrev pub IsRule : Bool → List (List ℕ) → Target → Type 0
IsRule is_second words target = IsSiteRule is_second words target ⊎ (IsRunRule words target ⊎ IsFactRule is_second words target)

-- lines and the rules that they write, one for one
abbrev pub AllRule : Bool → List Placed → List Target → Type 0
AllRule is_second [] [] = Unit {0}
AllRule is_second (p ∷ ps) (t ∷ ts) = IsRule is_second (words p.line.bytes) t × AllRule is_second ps ts
AllRule is_second [] (t ∷ ts) = ⊥
AllRule is_second (p ∷ ps) [] = ⊥

-- the words `eraser suppressions 2`
abbrev pub is_header : List (List ℕ) → Bool
is_header words =
    bytes_eq (word_at 0 words) (codes "eraser") && bytes_eq (word_at 1 words) (codes "suppressions") && bytes_eq (word_at 2 words) (codes "2")
    && not (has_bytes (word_at 3 words))

-- of lines with content, the first is the header of the second edition
abbrev pub has_header : List Placed → Bool
has_header [] = false
has_header (p ∷ ps) = is_header (words p.line.bytes)

-- the lines behind the header, or all if there is none
abbrev pub behind_header : List Placed → List Placed
behind_header [] = []
behind_header (p ∷ ps) = if is_header (words p.line.bytes) then ps else p ∷ ps

-- lines with content and the rules that they write
abbrev pub AreRules : List Placed → List Target → Type 0
AreRules lines targets = AllRule (has_header lines) (behind_header lines) targets

-- the faults of the words behind `site`, in their order
abbrev pub site_kinds : List (List ℕ) → List (Bool × TextKind)
site_kinds operands =
    (nat_lt (length operands) 1, MissingOperand) ∷ (nat_lt 1 (length operands), ExtraOperand) ∷ (not (is_site_name (word_at 0 operands)), BadName) ∷ []

-- the faults of the words behind `words`, in their order
abbrev pub run_kinds : List (List ℕ) → List (Bool × TextKind)
run_kinds operands =
    (nat_lt (length operands) 2, MissingOperand) ∷ (nat_lt 2 (length operands), ExtraOperand)
    ∷ (not (is_number_at 0 operands), BadNumber) ∷ (not (is_number_at 1 operands), BadNumber)
    ∷ (nat_le (2 ^ 48) (number_at 0 operands) || nat_lt (2 ^ 48) (number_at 0 operands + number_at 1 operands), AddressOutOfRange) ∷ []

-- the faults of the words behind any other word
abbrev pub fact_kinds : Option FactKind → List (List ℕ) → List (Bool × TextKind)
fact_kinds None operands = (true, BadVerb) ∷ []
fact_kinds (Some kind) operands = site_kinds operands

-- the faults of the words of a rule, in their order
abbrev pub rule_kinds : Bool → List (List ℕ) → List (Bool × TextKind)
rule_kinds is_second words =
    if bytes_eq (word_at 0 words) (codes "site") then site_kinds (drop 1 words)
    else if bytes_eq (word_at 0 words) (codes "words") then run_kinds (drop 1 words)
    else fact_kinds (kind_in is_second (word_at 0 words)) (drop 1 words)

-- the faults of what a line says, in an edition that a line in front of it has shown to be the second or not; the first line with content may be the header
abbrev pub rule_content_kinds : Option Bool → Placed → List (Bool × TextKind)
rule_content_kinds None p = if has_content p && not (is_header (words p.line.bytes)) then rule_kinds false (words p.line.bytes) else []
rule_content_kinds (Some is_second) p = if has_content p then rule_kinds is_second (words p.line.bytes) else []

-- whether the text is of the second edition, as far as this line shows it
abbrev pub edition_at : Option Bool → Placed → Option Bool
edition_at None p = if has_content p then Some (is_header (words p.line.bytes)) else None
edition_at (Some is_second) p = Some is_second

-- the fault of a text
abbrev pub IsRulesFault : List ℕ → ℕ → TextFault → Type 0
IsRulesFault text limit f = IsFirstFaulty limit rule_content_kinds edition_at None (placed text) f

-- a text writes these rules: it is in its limits, and its lines with content are the rules in order, behind the header of the second edition if it has one
pub record IsRules (text : List ℕ) (limit : ℕ) (targets : List Target) : Type 0 where
  pub short : length text ≤ limit
  pub plain : AllByRecursion IsPlain (placed text)
  pub rules : AreRules (filter has_content (placed text)) targets

-- what is told of a text: its rules, or its fault, unless memory or the reader failed
abbrev pub TellsRules : List ℕ → ℕ → Result Suppressions ReadFault → Type 0
TellsRules text limit (Ok rules) = IsRules text limit (targets_of rules)
TellsRules text limit (Err (fault.Text f)) = IsRulesFault text limit f
TellsRules text limit (Err fault.Memory) = Unit {0}
TellsRules text limit (Err fault.Read) = Unit {0}
