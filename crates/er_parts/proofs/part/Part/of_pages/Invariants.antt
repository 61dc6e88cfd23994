use Rattle.std.proofs.Common.{◌≡◌, ℕ, ◌%◌, ◌<◌, true, false, get_or, length}
use Rattle.er_parts.proofs.part.Part.of_pages.Given as goal

abbrev pub invariant-loop-page : goal.invariant-loop-page
invariant-loop-page l = (length l.remainders ≡ 4096) × ((j : ℕ) → j < l.page-index → get_or l.remainders (get_or l.pages j 0 % 4096) false ≡ true)
