-- A wanted line that is met leaves to be kept what was to be kept, and behind the last one that is made none is left.
use Rattle.std.proofs.Common.{IsSorted, ◌≡◌, ◌<◌, ◌≤◌, ◌&&◌, nat_le, ℕ, Bool, false, cond, length, vec_items, ap, refl, subst, sym, ◌∙◌, arith, rules}
use Rattle.std.specs.Global.{Vec}
use Rattle.std.specs.Ordering.{nat_cmp}
use Rattle.er_binary.specs.Nodes.{way_to}
use Rattle.er_places.proofs.NotingLemmas.{all_beyond, all_met, left_more, met_more, none_left}
use Rattle.er_places.specs.Facts.{is_left, table_of, way_on}
use Rattle.er_places.proofs.facts.Facts.meet_lines.Goals as goal

pub loop-line-preserved : goal.loop-line-preserved
loop-line-preserved c =
    let s = c.loop-line.self in
    let state = c.args.state.now in
    let within : s.met < length (vec_items s.wanted) = search rules in record {
      lines = c.note.ensures.lines ∙ c.loop-line.invariant.lines;
      wanted = c.note.ensures.wanted ∙ c.loop-line.invariant.wanted;
      ways = λ line. rw (c.note.ensures.lines, c.note.ensures.met, c.note.ensures.wanted)
          (met_more (vec_items s.wanted) s.met c.in-Some.line s.lines line (way_on (table_of s)) (way_on (table_of c.note.new.self)) (way_to state.nodes state.node) within c.in-Some.ensures.within.1 c.in-Some.ensures.value
          c.in_ok-note.ensures.way c.note.ensures.others ∙ c.loop-line.invariant.ways line);
      left = λ line. rw (c.note.ensures.lines, c.note.ensures.met, c.note.ensures.wanted)
          (left_more (vec_items s.wanted) s.met c.in-Some.line s.lines line within c.in-Some.ensures.within.1 c.in-Some.ensures.value ∙ c.loop-line.invariant.left line);
    }

pub returns : goal.returns
returns c = λ rising.
    let s = c.loop-line.self in
    let state = c.args.state.now in
    let sorted = subst (λ (wanted : Vec ℕ). IsSorted nat_cmp (vec_items wanted)) (sym c.loop-line.invariant.wanted) rising in
    let none : (line : ℕ) → (is_left s line && nat_le line s.lines) ≡ false = λ line. all_met (vec_items s.wanted) s.met s.lines line sorted (sym c.in_default.ensures.value) in record {
      lines = λ more. c.loop-line.invariant.lines;
      ways = λ line. sym (ap (λ (due : Bool). cond due (way_to state.nodes state.node) (way_on (table_of s) line)) (none line)) ∙ c.loop-line.invariant.ways line;
      left = λ line. all_beyond (is_left s line) (nat_le line s.lines) (none line) ∙ c.loop-line.invariant.left line;
      wanted = c.loop-line.invariant.wanted;
    }

pub returns-then-self-len : goal.returns-then-self-len
returns-then-self-len c = λ rising.
    let s = c.args.self.now in
    let state = c.args.state.now in
    let all : length (vec_items s.wanted) ≤ s.met = search rules in
    let none : (line : ℕ) → (is_left s line && nat_le line s.lines) ≡ false = λ line. none_left (vec_items s.wanted) s.met s.lines line all in record {
      lines = λ more. absurd (omega arith);
      ways = λ line. sym (ap (λ (due : Bool). cond due (way_to state.nodes state.node) (way_on (table_of s) line)) (none line));
      left = λ line. all_beyond (is_left s line) (nat_le line s.lines) (none line);
      wanted = refl;
    }
