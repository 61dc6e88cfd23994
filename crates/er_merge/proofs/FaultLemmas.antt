-- Texts of reports of parts have no fault.
use Rattle.std.proofs.Common.{◌≡◌, ℕ, zero, suc, ◌-◌, ◌<◌, List, [], ◌∷◌, length, get_or, Result, Ok, Err, sym, ◌∙◌, arith}
use Rattle.er_report.specs.Report.{Summary}
use Rattle.er_trace.specs.Names.{NameTable}
use Rattle.er_merge.specs.Merging.{IsFirstFault}
use Rattle.er_merge.specs.Parts.{ReportView, part_of}
use Rattle.er_merge.specs.Texts.{ArePartTexts, HasPlainNames}
use Rattle.er_merge.specs.declared.faults.LineFault.{LineFault}
use Rattle.er_merge.proofs.ReportLemmas.{text_read}

part_at : (names : NameTable) (reports : List Summary) (texts : List (List ℕ)) (k : ℕ) → HasPlainNames names → ArePartTexts names reports texts → k < length texts → (view : ReportView) × (part_of (get_or texts k []) ≡ Ok view)
part_at names [] [] k plain are within = absurd (omega (arith, within))
part_at names [] (text ∷ texts) k plain are within = absurd are
part_at names (s ∷ reports) [] k plain are within = absurd are
part_at names (s ∷ reports) (text ∷ texts) zero plain are within = (_, text_read names s text are.0 plain)
part_at names (s ∷ reports) (text ∷ texts) (suc k) plain are within = part_at names reports texts k plain are.1 (omega (arith, within))

never : (view : ReportView) (fault : ℕ × LineFault) (found : Result ReportView (ℕ × LineFault)) → found ≡ Ok view → found ≡ Err fault → ⊥
never view fault found good bad = let clash = sym good ∙ bad in absurd (cc)

pub no_fault : (names : NameTable) (reports : List Summary) (texts : List (List ℕ)) (number line : ℕ) (fault : LineFault) → HasPlainNames names → ArePartTexts names reports texts → IsFirstFault texts number line fault → ⊥
no_fault names reports texts number line fault plain are first =
    let there = part_at names reports texts (number - 1) plain are (omega (arith, first.some, first.within)) in
    never there.0 (line, fault) (part_of (get_or texts (number - 1) [])) there.1 first.here
