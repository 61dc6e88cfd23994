-- The next rule adds its result if it has one.
use Rattle.std.proofs.Common.{◌≡◌, ◌∙◌, ◌&&◌, ◌<◌, ◌+◌, ℕ, Bool, List, ◌++◌, length, get_or, slice_get, sym, ap, append_assoc, arith}
use Rattle.std.proofs.lemmas.List.{append-nil, length-map}
use Rattle.er_json.proofs.RowLemmas.{none_more}
use Rattle.er_json.specs.Document.{rows_text}
use Rattle.er_json.specs.Inner.Sections.{has_none}
use Rattle.er_rules.specs.Rules.{Target, target_of, targets_of}
use Rattle.er_rules.specs.declared.rules.Rule.{Rule}
use Rattle.er_json.proofs.SuppressedLemmas.{suppressed_more, suppressed_next, text_goes_on}
use Rattle.er_json.specs.Sarif.{suppressed_below, suppressed_of}
use Rattle.er_sites.proofs.SiteLemmas.{got}
use Rattle.er_json.proofs.suppressed.put_suppressed.Goals as goal

pub loop-place-init : goal.loop-place-init
unfolding suppressed_below
loop-place-init c = record {
  first = λ rows is. is ∙ ap has_none (sym (append-nil rows));
  text = λ old rows is so_far. so_far ∙ ap (λ (all : List (List ℕ)). old ++ rows_text all) (sym (append-nil rows));
}

pub loop-place-preserved : goal.loop-place-preserved
loop-place-preserved c =
    let counts : List ℕ = c.args.rule_counts.now in
    let rules : List Rule = c.args.rules.now.rules.items in
    let k : ℕ = c.loop-place.place in
    let rule : Rule = c.rule-item.result in
    let within : k < length rules = rw c.deref-rule-items.ensures.value at c.loop-place-test.true in
    let item : rule ≡ get_or rules k rule = rw c.deref-rule-items.ensures.value at c.rule-item.is in
    let before : List (List ℕ) = suppressed_below c.args.of counts (targets_of c.args.rules.now) k in
    let more : List (List ℕ) = suppressed_of c.args.of (k + 1) (slice_get counts k) (target_of rule) in
    let next : suppressed_below c.args.of counts (targets_of c.args.rules.now) (k + 1) ≡ before ++ more = suppressed_next c.args.of counts rules k rule within item in
    let behind : (rows : List (List ℕ)) → (rows ++ before) ++ more ≡ rows ++ suppressed_below c.args.of counts (targets_of c.args.rules.now) (k + 1) =
    λ rows. append_assoc rows before more ∙ ap (λ (all : List (List ℕ)). rows ++ all) (sym next) in
    let count : c.copied-count.result ≡ slice_get counts k = c.copied-count.ensures ∙ got counts k c.get.result c.get.ensures.lookup in
    let first = rw count at c.in_ok-still_first.ensures.first in
    let put = rw count at c.in_ok-still_first.ensures.text in
    record {
      first = λ rows is. first ∙ ap (λ (b : Bool). b && has_none more) (c.loop-place.invariant.first rows is) ∙ sym (none_more (rows ++ before) more) ∙ ap has_none (behind rows);
      text = λ old rows is so_far. text_goes_on (rows ++ before) more old _ _ _ (suppressed_more c.args.of (k + 1) (slice_get counts k) (target_of rule) (rows ++ before)) (c.loop-place.invariant.first rows is) (c.loop-place.invariant.text old rows is so_far) put
          ∙ ap (λ (all : List (List ℕ)). old ++ rows_text all) (behind rows);
    }

-- behind the last rule all are put
pub returns : goal.returns
returns c =
    let targets : List Target = targets_of c.args.rules.now in
    let end : c.loop-place.place ≡ length targets = omega (arith, length-map c.args.rules.now.rules.items target_of, ap length c.deref-rule-items.ensures.value) in
    λ old rows is so_far. c.loop-place.invariant.text old rows is so_far
    ∙ ap (λ (n : ℕ). old ++ rows_text (rows ++ suppressed_below c.args.of c.args.rule_counts.now targets n)) end
