-- A reading of rules gives what the grammar says of the text, and a text has nothing else: rules, or a fault.
use Rattle.std.proofs.Common.{◌≡◌, ℕ, ◌⊎◌, inl, inr, Bool, true, false, not, ◌&&◌, ◌||◌, cond, List, [], ◌∷◌, ◌++◌, append_assoc, Option, Some, None, IfSome, Result, Ok, Err, filter, refl, subst, sym, ap, ◌∙◌, arith}
use Rattle.std.proofs.lemmas.List.{append-nil}
use Rattle.er_rules.specs.Rules.{Target, targets_of}
use Rattle.er_rules.specs.declared.rules.Suppressions.{Suppressions}
use Rattle.er_lines.specs.declared.faults.TextKind.{TextKind}
use Rattle.er_lines.specs.declared.faults.TextFault.{TextFault}
use Rattle.er_lines.specs.declared.faults.ReadFault.{ReadFault}
use Rattle.er_lines.specs.declared.faults.ReadFault.TheVariants as fault
use Rattle.er_lines.specs.Lines.{Placed, placed, has_content, words, lines_of}
use Rattle.er_lines.specs.FirstFault.{first_kind}
use Rattle.er_rules.specs.Texts.{AllRule, AreRules, is_header, rule_kinds, rule_content_kinds, edition_at, IsRulesFault, IsRules, TellsRules}
use Rattle.er_lines.specs.Words.{and_then, map_ok}
use Rattle.er_lines.specs.Reading.{read_contents}
use Rattle.er_rules.specs.Inner.RuleLines.{ReadSoFar, has_some, has_begun, rule_of, with_rule, add_line, rules_in, IsRulesOutcome}
use Rattle.er_lines.proofs.SaidLemmas.{fault_of, fault_of-map}
use Rattle.er_lines.proofs.ReadingLaws.{Agrees, whole_words, size_of, all_passed, all_again, first_found, first_stops}
use Rattle.er_rules.proofs.RuleLaws.{rule_faults, rule_says, rule_again}

-- what was read says whether a line with content was, and of which edition the text is then
abbrev Begins : ReadSoFar → Option Bool → Type 0
Begins read None = has_begun read ≡ false
Begins read (Some is_second) = (has_begun read ≡ true) × (read.0 ≡ is_second)

opening_faults : {T : Type 0} (some header : Bool) (kinds : List (Bool × TextKind)) (t u : T) (r : Result T TextKind) → first_kind kinds ≡ fault_of r
    → first_kind (cond (some && not header) kinds []) ≡ fault_of (cond some (cond header (Ok u) r) (Ok t))
opening_faults true true kinds t u r e = refl
opening_faults true false kinds t u r e = e
opening_faults false header kinds t u r e = refl

later_faults : {T : Type 0} (some : Bool) (kinds : List (Bool × TextKind)) (t : T) (r : Result T TextKind) → first_kind kinds ≡ fault_of r
    → first_kind (cond some kinds []) ≡ fault_of (cond some r (Ok t))
later_faults true kinds t r e = e
later_faults false kinds t r e = refl

words_faults : (read : ReadSoFar) (second : Bool) (p : Placed) → read.0 ≡ second
    → first_kind (rule_kinds second (words p.line.bytes)) ≡ fault_of (map_ok (with_rule read) (rule_of read.0 (words p.line.bytes)))
words_faults read second p same =
    subst (λ (b : Bool). first_kind (rule_kinds b (words p.line.bytes)) ≡ fault_of (map_ok (with_rule read) (rule_of read.0 (words p.line.bytes)))) same
    (rule_faults read.0 (words p.line.bytes) (whole_words p.line.bytes) ∙ sym (fault_of-map (with_rule read) (rule_of read.0 (words p.line.bytes))))

first_false : (a b : Bool) → (a || b) ≡ false → a ≡ false
first_false true b e = e
first_false false b e = refl

content_faults : (read : ReadSoFar) (known : Option Bool) (p : Placed) → Begins read known → first_kind (rule_content_kinds known p) ≡ fault_of (add_line read p)
content_faults read None p stands =
    let ws = words p.line.bytes in
    let rule = map_ok (with_rule read) (rule_of read.0 ws) in
    opening_faults (has_content p) (is_header ws) (rule_kinds false ws) read (true, read.1) rule (words_faults read false p (first_false read.0 (has_some read.1) stands))
    ∙ sym (ap (λ (b : Bool). fault_of (cond (has_content p) (cond (not b && is_header ws) (Ok (true, read.1)) rule) (Ok read))) stands)
content_faults read (Some second) p stands =
    let ws = words p.line.bytes in
    let rule = map_ok (with_rule read) (rule_of read.0 ws) in
    later_faults (has_content p) (rule_kinds second ws) read rule (words_faults read second p stands.1)
    ∙ sym (ap (λ (b : Bool). fault_of (cond (has_content p) (cond (not b && is_header ws) (Ok (true, read.1)) rule) (Ok read))) stands.0)

or-true : (b : Bool) → (b || true) ≡ true
or-true true = refl
or-true false = refl

or-false : (b : Bool) → (b || false) ≡ b
or-false true = refl
or-false false = refl

some_more : (rules : List Target) (t : Target) → has_some (rules ++ t ∷ []) ≡ true
some_more [] t = refl
some_more (u ∷ rules) t = refl

begun_more : (read : ReadSoFar) (t : Target) → has_begun (with_rule read t) ≡ true
begun_more read t = ap (λ b. read.0 || b) (some_more read.1 t) ∙ or-true read.0

begun_by : (read next : ReadSoFar) (r : Result Target TextKind) → map_ok (with_rule read) r ≡ Ok next → has_begun next ≡ true
begun_by read next (Err k) e = absurd (cc)
begun_by read next (Ok t) e = let same : with_rule read t ≡ next = cc in sym (ap has_begun same) ∙ begun_more read t

begun_on : (some header : Bool) (read next : ReadSoFar) (r : Result Target TextKind)
    → cond some (cond (not (has_begun read) && header) (Ok (true, read.1)) (map_ok (with_rule read) r)) (Ok read) ≡ Ok next → has_begun next ≡ (has_begun read || some)
begun_on false header read next r e = let same : read ≡ next = cc in sym (ap has_begun same) ∙ sym (or-false (has_begun read))
begun_on true header read next r e = by (not (has_begun read) && header) e ∙ sym (or-true (has_begun read))
  where
    by : (b : Bool) → cond b (Ok (true, read.1)) (map_ok (with_rule read) r) ≡ Ok next → has_begun next ≡ true
    by true f = let same : (true, read.1) ≡ next = cc in sym (ap has_begun same)
    by false f = begun_by read next r f

same_edition : (read next : ReadSoFar) (r : Result Target TextKind) → map_ok (with_rule read) r ≡ Ok next → next.0 ≡ read.0
same_edition read next (Err k) e = absurd (cc)
same_edition read next (Ok t) e = let same : with_rule read t ≡ next = cc in sym (ap (λ (x : ReadSoFar). x.0) same)

-- a first line with content, and one behind it
opens_by : (some header : Bool) (read next : ReadSoFar) (r : Result Target TextKind) → has_begun read ≡ false → read.0 ≡ false
    → cond some (cond header (Ok (true, read.1)) (map_ok (with_rule read) r)) (Ok read) ≡ Ok next → Begins next (cond some (Some header) None)
opens_by false header read next r none first e = let same : read ≡ next = cc in sym (ap has_begun same) ∙ none
opens_by true true read next r none first e = let same : (true, read.1) ≡ next = cc in (sym (ap has_begun same), sym (ap (λ (x : ReadSoFar). x.0) same))
opens_by true false read next r none first e = (begun_by read next r e, same_edition read next r e ∙ first)

goes_by : (some : Bool) (read next : ReadSoFar) (r : Result Target TextKind) → has_begun read ≡ true
    → cond some (map_ok (with_rule read) r) (Ok read) ≡ Ok next → (has_begun next ≡ true) × (next.0 ≡ read.0)
goes_by false read next r begun e = let same : read ≡ next = cc in (sym (ap has_begun same) ∙ begun, sym (ap (λ (x : ReadSoFar). x.0) same))
goes_by true read next r begun e = (begun_by read next r e, same_edition read next r e)

moves_on : (read next : ReadSoFar) (known : Option Bool) (p : Placed) → Begins read known → add_line read p ≡ Ok next → Begins next (edition_at known p)
moves_on read next None p stands e =
    let ws = words p.line.bytes in
    let rule = map_ok (with_rule read) (rule_of read.0 ws) in
    opens_by (has_content p) (is_header ws) read next (rule_of read.0 ws) stands (first_false read.0 (has_some read.1) stands)
    (sym (ap (λ (b : Bool). cond (has_content p) (cond (not b && is_header ws) (Ok (true, read.1)) rule) (Ok read)) stands) ∙ e)
moves_on read next (Some second) p stands e =
    let ws = words p.line.bytes in
    let rule = map_ok (with_rule read) (rule_of read.0 ws) in
    let on = goes_by (has_content p) read next (rule_of read.0 ws) stands.0 (sym (ap (λ (b : Bool). cond (has_content p) (cond (not b && is_header ws) (Ok (true, read.1)) rule) (Ok read)) stands.0) ∙ e) in
    (on.0, on.1 ∙ stands.1)

rules_agree : Agrees add_line rule_content_kinds edition_at Begins
rules_agree = record { faults = content_faults; moves = λ read next known p stands e. moves_on read next known p stands e }

-- a line behind the first one with content is no header
abbrev add_rule : ReadSoFar → Placed → Result ReadSoFar TextKind
add_rule read p = cond (has_content p) (map_ok (with_rule read) (rule_of read.0 (words p.line.bytes))) (Ok read)

no_header : (read : ReadSoFar) (p : Placed) → (not (has_begun read) && is_header (words p.line.bytes)) ≡ false → add_line read p ≡ add_rule read p
no_header read p none = ap (λ b. cond (has_content p) (cond b (Ok (true, read.1)) (map_ok (with_rule read) (rule_of read.0 (words p.line.bytes)))) (Ok read)) none

later_step : (p : Placed) (lines : List Placed) (read : ReadSoFar) (r : Result ReadSoFar TextKind)
    → ((next : ReadSoFar) → has_begun next ≡ true → read_contents add_line lines next ≡ read_contents add_rule lines next)
    → has_begun read ≡ true → add_line read p ≡ r → and_then r (read_contents add_line lines) ≡ and_then r (read_contents add_rule lines)
later_step p lines read (Err k) more begun is = refl
later_step p lines read (Ok next) more begun is =
    more next (begun_on (has_content p) (is_header (words p.line.bytes)) read next (rule_of read.0 (words p.line.bytes)) is ∙ ap (λ b. b || has_content p) begun)

later : (lines : List Placed) (read : ReadSoFar) → has_begun read ≡ true → read_contents add_line lines read ≡ read_contents add_rule lines read
later [] read begun = refl
later (p ∷ lines) read begun =
    later_step p lines read (add_line read p) (λ next b. later lines next b) begun refl
    ∙ ap (λ r. and_then r (read_contents add_rule lines)) (no_header read p (ap (λ b. not b && is_header (words p.line.bytes)) begun))

-- the reading from the first line with content on, which may be the header
abbrev editions : List Placed → Result ReadSoFar TextKind
editions [] = Ok (false, [])
editions (p ∷ lines) =
    cond (has_content p) (cond (is_header (words p.line.bytes)) (read_contents add_rule lines (true, [])) (read_contents add_rule (p ∷ lines) (false, []))) (editions lines)

first_rule : (lines : List Placed) (r : Result Target TextKind)
    → and_then (map_ok (with_rule (false, [])) r) (read_contents add_line lines) ≡ and_then (map_ok (with_rule (false, [])) r) (read_contents add_rule lines)
first_rule lines (Err k) = refl
first_rule lines (Ok t) = later lines (false, t ∷ []) refl

opened_step : (some header : Bool) (p : Placed) (lines : List Placed) → has_content p ≡ some → read_contents add_line lines (false, []) ≡ editions lines
    → and_then (cond some (cond header (Ok (true, [])) (map_ok (with_rule (false, [])) (rule_of false (words p.line.bytes)))) (Ok (false, []))) (read_contents add_line lines)
    ≡ cond some (cond header (read_contents add_rule lines (true, [])) (read_contents add_rule (p ∷ lines) (false, []))) (editions lines)
opened_step false header p lines is rest = rest
opened_step true true p lines is rest = later lines (true, []) refl
opened_step true false p lines is rest =
    first_rule lines (rule_of false (words p.line.bytes))
    ∙ sym (ap (λ b. and_then (cond {A = Result ReadSoFar TextKind} b (map_ok (with_rule (false, [])) (rule_of false (words p.line.bytes))) (Ok (false, []))) (read_contents add_rule lines)) is)

opened : (lines : List Placed) → read_contents add_line lines (false, []) ≡ editions lines
opened [] = refl
opened (p ∷ lines) = opened_step (has_content p) (is_header (words p.line.bytes)) p lines refl (opened lines)

-- what lines add to the rules
abbrev Adds : List Placed → ReadSoFar → ReadSoFar → Type 0
Adds lines read end = (more : List Target) × AllRule read.0 (filter has_content lines) more × (end ≡ (read.0, read.1 ++ more))

adds_rule : (line : Placed) (lines : List Placed) (read next end : ReadSoFar) (r : Result Target TextKind) → has_content line ≡ true → rule_of read.0 (words line.line.bytes) ≡ r
    → map_ok (with_rule read) r ≡ Ok next → Adds lines next end → Adds (line ∷ lines) read end
adds_rule line lines read next end (Err k) some is e rest = absurd (cc)
adds_rule line lines read next end (Ok t) some is e rest =
    let same : with_rule read t ≡ next = cc in
    let after : Adds lines (with_rule read t) end = subst (λ (x : ReadSoFar). Adds lines x end) (sym same) rest in
    rw some (
      t ∷ after.0,
      (rule_says read.0 (words line.line.bytes) t (whole_words line.line.bytes) is, after.1),
      after.2 ∙ ap (λ (x : List Target). (read.0, x)) (append_assoc read.1 (t ∷ []) after.0),
    )

adds_line : (some : Bool) (line : Placed) (lines : List Placed) (read next end : ReadSoFar) → has_content line ≡ some
    → cond some (map_ok (with_rule read) (rule_of read.0 (words line.line.bytes))) (Ok read) ≡ Ok next → Adds lines next end → Adds (line ∷ lines) read end
adds_line true line lines read next end is e rest = adds_rule line lines read next end (rule_of read.0 (words line.line.bytes)) is refl e rest
adds_line false line lines read next end is e rest =
    let same : read ≡ next = cc in
    let after : Adds lines read end = subst (λ (x : ReadSoFar). Adds lines x end) (sym same) rest in
    rw is after

adds_step : (line : Placed) (lines : List Placed) (read end : ReadSoFar) (r : Result ReadSoFar TextKind)
    → ((next : ReadSoFar) → read_contents add_rule lines next ≡ Ok end → Adds lines next end)
    → add_rule read line ≡ r → and_then r (read_contents add_rule lines) ≡ Ok end → Adds (line ∷ lines) read end
adds_step line lines read end (Err k) more is e = absurd (cc)
adds_step line lines read end (Ok next) more is e = adds_line (has_content line) line lines read next end refl is (more next e)

adds : (lines : List Placed) (read end : ReadSoFar) → read_contents add_rule lines read ≡ Ok end → Adds lines read end
adds [] read end e = let same : read ≡ end = cc in ([], tt, sym same ∙ ap (λ (x : List Target). (read.0, x)) (sym (append-nil read.1)))
adds (line ∷ lines) read end e = adds_step line lines read end (add_rule read line) (λ next h. adds lines next end h) refl e

-- the lines that are left are read as the rules that they write
added_last : (second : Bool) (rules more : List Target) (end : ReadSoFar) → AllRule second [] more → end ≡ (second, rules ++ more) → (second, rules) ≡ end
added_last second rules [] end writes told = sym (told ∙ ap (λ (x : List Target). (second, x)) (append-nil rules))
added_last second rules (t ∷ more) end writes told = absurd writes

added_step : (some : Bool) (line : Placed) (lines : List Placed) (read end : ReadSoFar) (more : List Target)
    → ((next : ReadSoFar) → Adds lines next end → read_contents add_rule lines next ≡ Ok end) → has_content line ≡ some
    → AllRule read.0 (cond some (line ∷ filter has_content lines) (filter has_content lines)) more → end ≡ (read.0, read.1 ++ more)
    → and_then (cond some (map_ok (with_rule read) (rule_of read.0 (words line.line.bytes))) (Ok read)) (read_contents add_rule lines) ≡ Ok end
added_step false line lines read end more rest is writes told = rest read (more, writes, told)
added_step true line lines read end [] rest is writes told = absurd writes
added_step true line lines read end (t ∷ more) rest is writes told =
    ap (λ (r : Result Target TextKind). and_then (map_ok (with_rule read) r) (read_contents add_rule lines)) (rule_again read.0 (words line.line.bytes) t writes.0)
    ∙ rest (with_rule read t) (more, writes.1, told ∙ ap (λ (x : List Target). (read.0, x)) (sym (append_assoc read.1 (t ∷ []) more)))

added : (lines : List Placed) (read end : ReadSoFar) → Adds lines read end → read_contents add_rule lines read ≡ Ok end
added [] read end h = ap Ok (added_last read.0 read.1 h.0 end h.1 h.2)
added (line ∷ lines) read end h = added_step (has_content line) line lines read end h.0 (λ next g. added lines next end g) refl h.1 h.2

-- the lines of a text of either edition
from_adds : (second : Bool) (lines : List Placed) (end : ReadSoFar) → Adds lines (second, []) end → AllRule second (filter has_content lines) end.1
from_adds second lines end h = subst (λ (x : ReadSoFar). AllRule second (filter has_content lines) x.1) (sym h.2) h.1

edition_step : (some header : Bool) (p : Placed) (lines : List Placed) (end : ReadSoFar) → has_content p ≡ some → is_header (words p.line.bytes) ≡ header
    → (editions lines ≡ Ok end → AreRules (filter has_content lines) end.1)
    → cond some (cond header (read_contents add_rule lines (true, [])) (read_contents add_rule (p ∷ lines) (false, []))) (editions lines) ≡ Ok end
    → AreRules (cond some (p ∷ filter has_content lines) (filter has_content lines)) end.1
edition_step false header p lines end is also rest e = rest e
edition_step true true p lines end is also rest e = rw also (from_adds true lines end (adds lines (true, []) end e))
edition_step true false p lines end is also rest e =
    rw also (subst (λ (b : Bool). AllRule false (cond b (p ∷ filter has_content lines) (filter has_content lines)) end.1) is (from_adds false (p ∷ lines) end (adds (p ∷ lines) (false, []) end e)))

edition_is : (lines : List Placed) (end : ReadSoFar) → editions lines ≡ Ok end → AreRules (filter has_content lines) end.1
edition_is [] end e = let same : (false, []) ≡ end = cc in subst (λ (x : ReadSoFar). AllRule false [] x.1) same tt
edition_is (p ∷ lines) end e = edition_step (has_content p) (is_header (words p.line.bytes)) p lines end refl refl (λ h. edition_is lines end h) e

-- an edition that reads these rules
abbrev IsRead : Result ReadSoFar TextKind → List Target → Type 0
IsRead r rules = (second : Bool) × (r ≡ Ok (second, rules))

edition_last : (rules : List Target) → AllRule false [] rules → IsRead (Ok (false, [])) rules
edition_last [] writes = (false, refl)
edition_last (t ∷ rules) writes = absurd writes

reads_step : (some header : Bool) (p : Placed) (lines : List Placed) (rules : List Target) → has_content p ≡ some → is_header (words p.line.bytes) ≡ header
    → (AreRules (filter has_content lines) rules → IsRead (editions lines) rules)
    → AreRules (cond some (p ∷ filter has_content lines) (filter has_content lines)) rules
    → IsRead (cond some (cond header (read_contents add_rule lines (true, [])) (read_contents add_rule (p ∷ lines) (false, []))) (editions lines)) rules
reads_step false header p lines rules is also rest writes = rest writes
reads_step true true p lines rules is also rest writes = (true, added lines (true, []) (true, rules) (rules, rw also at writes, refl))
reads_step true false p lines rules is also rest writes =
    (false, added (p ∷ lines) (false, []) (false, rules) (rules, subst (λ (b : Bool). AllRule false (cond b (p ∷ filter has_content lines) (filter has_content lines)) rules) (sym is) (rw also at writes), refl))

edition_reads : (lines : List Placed) (rules : List Target) → AreRules (filter has_content lines) rules → IsRead (editions lines) rules
edition_reads [] rules writes = edition_last rules writes
edition_reads (p ∷ lines) rules writes = reads_step (has_content p) (is_header (words p.line.bytes)) p lines rules refl refl (λ h. edition_reads lines rules h) writes

rules_is : (limit : ℕ) (text : List ℕ) (end : ReadSoFar) → rules_in limit text ≡ Ok end → IsRules text limit end.1
rules_is limit text end e =
    let all = all_passed limit add_line 1 0 (lines_of text) (false, []) end (omega arith) e in
    let size = all.size in
    record { short = omega (arith, size, size_of text); plain = all.plain; rules = edition_is (placed text) end (sym (opened (placed text)) ∙ all.read) }

rules_read : (limit : ℕ) (text : List ℕ) (rules : List Target) → IsRules text limit rules → (second : Bool) × (rules_in limit text ≡ Ok (second, rules))
rules_read limit text rules is =
    let short = is.short in
    let read = edition_reads (placed text) rules is.rules in (
      read.0,
      all_again limit add_line 1 0 (lines_of text) (false, []) (read.0, rules)
          (record { size = omega (arith, short, size_of text); plain = is.plain; read = opened (placed text) ∙ read.1 }),
    )

fault_is : (limit : ℕ) (text : List ℕ) (f : TextFault) → rules_in limit text ≡ Err f → IsRulesFault text limit f
fault_is limit text f e = first_found limit add_line rule_content_kinds edition_at Begins 1 0 (lines_of text) (false, []) None f rules_agree refl (omega arith) e

fault_read : (limit : ℕ) (text : List ℕ) (f : TextFault) → IsRulesFault text limit f → rules_in limit text ≡ Err f
fault_read limit text f h = first_stops limit add_line rule_content_kinds edition_at Begins 1 0 (lines_of text) (false, []) None f rules_agree refl (omega arith) h

-- of a text and a limit: rules or a fault, and no two of them
outcome : (text : List ℕ) (limit : ℕ) (r : Result ReadSoFar TextFault) → rules_in limit text ≡ r
    → ((rules : List Target) × IsRules text limit rules) ⊎ ((f : TextFault) × IsRulesFault text limit f)
outcome text limit (Ok end) e = inl (end.1, rules_is limit text end e)
outcome text limit (Err f) e = inr (f, fault_is limit text f e)

pub either_one : (text : List ℕ) (limit : ℕ) → ((rules : List Target) × IsRules text limit rules) ⊎ ((f : TextFault) × IsRulesFault text limit f)
either_one text limit = outcome text limit (rules_in limit text) refl

pub not_both : (text : List ℕ) (limit : ℕ) (rules : List Target) (f : TextFault) → IsRules text limit rules → IsRulesFault text limit f → ⊥
not_both text limit rules f is fails = let e = sym (rules_read limit text rules is).1 ∙ fault_read limit text f fails in cc

pub same_rules : (text : List ℕ) (limit : ℕ) (r s : List Target) → IsRules text limit r → IsRules text limit s → r ≡ s
same_rules text limit r s is also =
    let one = rules_read limit text r is in
    let other = rules_read limit text s also in
    let e = sym one.1 ∙ other.1 in
    let same : (one.0, r) ≡ (other.0, s) = cc in
    ap (λ (read : ReadSoFar). read.1) same

pub same_fault : (text : List ℕ) (limit : ℕ) (f g : TextFault) → IsRulesFault text limit f → IsRulesFault text limit g → f ≡ g
same_fault text limit f g is also = let e = sym (fault_read limit text f is) ∙ fault_read limit text g also in cc

-- the outcome of a reading is the rules of the text, or its fault
outcome_tells : (text : List ℕ) (limit : ℕ) (r : Result Suppressions ReadFault) → IsRulesOutcome (rules_in limit text) r → TellsRules text limit r
outcome_tells text limit (Ok rules) e = rules_is limit text _ e.1
outcome_tells text limit (Err (fault.Text f)) e = fault_is limit text f e
outcome_tells text limit (Err fault.Memory) e = tt
outcome_tells text limit (Err fault.Read) e = tt

pub known_tells : (known : Option (List ℕ)) (limit : ℕ) (r : Result Suppressions ReadFault) → IfSome known (λ text. IsRulesOutcome (rules_in limit text) r) → IfSome known (λ text. TellsRules text limit r)
known_tells None limit r e = e
known_tells (Some text) limit r e = outcome_tells text limit r e

pub known_reads : (known : Option (List ℕ)) (limit : ℕ) (second : Bool) (rules : Suppressions) → IfSome known (λ text. rules_in limit text ≡ Ok (second, targets_of rules)) → IfSome known (λ text. TellsRules text limit (Ok rules))
known_reads None limit second rules e = e
known_reads (Some text) limit second rules e = rules_is limit text (second, targets_of rules) e
