use Rattle.std.proofs.Common.{◌≡◌, ◌++◌, take, codes}
use Rattle.er_forms.specs.Page.{excerpt_text}
use Rattle.er_print.specs.Values.{values_text}
use Rattle.er_forms.proofs.page.excerpts_text.Given as goal

abbrev pub invariant-loop-place : goal.invariant-loop-place
invariant-loop-place l = l.json.items ≡ codes "[" ++ values_text excerpt_text (take l.place l.excerpts)
