-- The first races of a report are lines of the report.
use Rattle.std.proofs.Common.{◌-◌, ℕ, zero, suc, Bool, true, false, cond, is_some, nat_lt, List, [], ◌∷◌, All, arith}
use Rattle.er_report.specs.declared.report.Line.{Line}
use Rattle.er_triage.specs.First.{first_races}
use Rattle.er_triage.specs.Known.{race_of}

module _ (P : Line → Type 0) where
  put : (line : Line) (lines : List Line) → P line → All P lines → All P (line ∷ lines)
  put line lines first others zero d h = first
  put line lines first others (suc k) d h = others k d (omega arith)

  pub all_first : (most : ℕ) (lines : List Line) → All P lines → All P (first_races most lines)
  all_first most [] all = all
  all_first most (line ∷ lines) all = by (is_some (race_of line)) (nat_lt 0 most) (λ m. all_first m lines (λ k d h. all (suc k) d (omega arith)))
    where
      by : (race room : Bool) → ((m : ℕ) → All P (first_races m lines))
          → All P (cond race (cond room (line ∷ first_races (most - 1) lines) (first_races most lines)) (line ∷ first_races most lines))
      by true true rest = put line (first_races (most - 1) lines) (all 0 line (omega arith)) (rest (most - 1))
      by true false rest = rest most
      by false room rest = put line (first_races most lines) (all 0 line (omega arith)) (rest most)
