-- What the line in front did to a reading of rules, by its place, its number and its bytes.
use Rattle.std.proofs.Common.{◌≡◌, ℕ, true, List, take, Option, None, Ok, Err, subst, sym}
use Rattle.er_lines.specs.declared.faults.ReadFault.{ReadFault}
use Rattle.er_lines.specs.Lines.{Placed}
use Rattle.er_lines.specs.declared.lines.FrontLine.{FrontLine}
use Rattle.er_lines.specs.Places.{Place}
use Rattle.er_lines.specs.Lending.{lines_left, front_line, past, limit_fault, LineThen}
use Rattle.er_lines.specs.Reading.{Reads, Turns}
use Rattle.er_rules.specs.Inner.RuleLines.{ReadSoFar, plain_rule_at, add_line}
use Rattle.er_lines.proofs.TurnLemmas.{turn_on, turn_fails}

-- what a line of a suppression text did to the reading
pub rule_fails : (old at : Place) (front : FrontLine) (left rest new : Option (List Placed)) (t u v : ReadSoFar) (line : ℕ) (bytes : List ℕ) (e : ReadFault)
    → LineThen left (front_line at front) rest → limit_fault at.limit (front_line at front) ≡ None → at.limit ≡ old.limit
    → line ≡ at.number → bytes ≡ take front.len at.ahead → Reads {X = Unit {0}} line v (Err e) (plain_rule_at t bytes)
    → Turns old.limit add_line left new t u (Err e)
rule_fails old at front left rest new t u v line bytes e first within limit same all gives =
    let G : ℕ → Type 0 = λ n. Reads {X = Unit {0}} n v (Err e) (plain_rule_at t bytes) in
    let H : List ℕ → Type 0 = λ b. Reads {X = Unit {0}} at.number v (Err e) (plain_rule_at t b) in
    let L : ℕ → Type 0 = λ l. Turns l add_line left new t u (Err e) in
    subst L limit (turn_fails at.limit add_line left rest new (front_line at front) t u v e first within (subst H all (subst G same gives)))

pub rule_reads : (old at after : Place) (front : FrontLine) (left : Option (List Placed)) (known : Option (List ℕ)) (t u : ReadSoFar) (bytes : List ℕ)
    → LineThen left (front_line at front) (lines_left (past at front) known) → limit_fault at.limit (front_line at front) ≡ None → at.limit ≡ old.limit
    → after ≡ past at front → bytes ≡ take front.len at.ahead → plain_rule_at t bytes ≡ Ok u
    → Turns old.limit add_line left (lines_left after known) t u (Ok true)
rule_reads old at after front left known t u bytes first within limit same all gives =
    let H : List ℕ → Type 0 = λ b. plain_rule_at t b ≡ Ok u in
    let L : ℕ → Type 0 = λ l. Turns l add_line left (lines_left after known) t u (Ok true) in
    let A : Place → Type 0 = λ p. Turns at.limit add_line left (lines_left p known) t u (Ok true) in
    subst L limit (subst A (sym same) (turn_on at.limit add_line left (lines_left (past at front) known) (front_line at front) t u first within (subst H all gives)))
