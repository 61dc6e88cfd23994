-- The parts of the page, one behind another.
use Rattle.std.proofs.Common.{◌++◌, ◌∙◌, ℕ, List, ap}
use Rattle.er_forms.specs.Page.{block_text, html_reports}
use Rattle.er_forms.proofs.JoinLemmas.{ten_parts}
use Rattle.er_forms.proofs.page.html_text.Goals as goal

pub returns-clause-text : goal.returns-clause-text
unfolding html_reports
returns-clause-text c =
    ten_parts c.new-text.result.items c.extend_from_slice.new.self.items c.extend_from_slice-2.new.self.items c.extend_from_slice-3.new.self.items c.put_block.new.out.items
    c.extend_from_slice-4.new.self.items c.put_block-2.new.out.items c.extend_from_slice-5.new.self.items c.extend_from_slice-6.new.self.items c.extend_from_slice-7.new.self.items
    c.extend_from_slice-8.new.self.items _ _ _ _ _ _ _ _ _ _ c.new-text.ensures.items c.in_ok-extend_from_slice.ensures.items c.in_ok-extend_from_slice-2.ensures.items
    c.in_ok-extend_from_slice-3.ensures.items
    (c.in_ok-put_block.ensures ∙ ap (λ (json : List ℕ). c.extend_from_slice-3.new.self.items ++ block_text json) (c.deref.ensures.value ∙ c.in_ok-json.ensures))
    c.in_ok-extend_from_slice-4.ensures.items
    (c.in_ok-put_block-2.ensures ∙ ap (λ (json : List ℕ). c.extend_from_slice-4.new.self.items ++ block_text json) (c.deref-2.ensures.value ∙ c.in_ok-sources.ensures))
    c.in_ok-extend_from_slice-5.ensures.items c.in_ok-extend_from_slice-6.ensures.items c.in_ok-extend_from_slice-7.ensures.items c.in_ok-extend_from_slice-8.ensures.items
