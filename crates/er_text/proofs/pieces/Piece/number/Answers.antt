-- What was read is numbered by what the piece knows.
use Rattle.std.proofs.Common.{◌≡◌, ℕ, ◌+◌, ◌∙◌, length, refl, subst, sym, ap}
use Rattle.std.proofs.lemmas.List.{length-map}
use Rattle.er_text.specs.Pieces.{ReadPiece, IsNumbered, CanBeNumbered}
use Rattle.er_trace.specs.Appended.{renumbered_site, renumbered_step}
use Rattle.er_text.proofs.pieces.Piece.number.Goals as goal

pub returns : goal.returns
returns c =
    let inside : ReadPiece = record {
      told = c.self.inside.trace;
      lines = c.self.inside.lines;
      len = c.self.inside.len;
      whole = c.self.inside.whole;
      comment = c.self.inside.comment;
      numbers = c.self.inside.numbers;
      before = c.self.inside.before;
      steps = c.self.inside.steps.items;
      places = c.self.inside.places.items;
      sites = c.self.inside.sites.items;
    } in
    let can : CanBeNumbered inside = subst CanBeNumbered (sym c.self.view_is) c.requires in
    let is = c.take_numbered.ensures in
    let numbered : ReadPiece = record {
      told = c.take_numbered.new.self;
      lines = c.self.inside.lines;
      len = c.self.inside.len;
      whole = c.self.inside.whole;
      comment = c.self.inside.comment;
      numbers = c.self.inside.numbers;
      before = c.self.inside.before;
      steps = c.take_numbered.new.steps.items;
      places = c.take_numbered.new.lines.items;
      sites = c.take_numbered.new.sites.items;
    } in
    let stepped : length c.take_numbered.new.steps.items ≡ length c.self.inside.trace.steps =
    ap length (is.steps can.names can.numbers) ∙ length-map c.self.inside.trace.steps (renumbered_step c.self.inside.trace.names can.names) in
    let all : IsNumbered inside numbered = record {
      steps = is.steps;
      places = is.lines;
      sites = is.sites;
      level = ap length is.lines ∙ length-map c.self.inside.trace.lines (λ (line : ℕ). c.self.inside.before + line) ∙ is.level ∙ sym stepped;
      level_sites = ap length (is.sites can.names can.numbers)
          ∙ length-map c.self.inside.trace.sites (renumbered_site c.self.inside.trace.names.sites can.names.sites)
          ∙ is.level_sites
          ∙ sym stepped;
      named = is.named;
      named_sites = is.named_sites;
      lines = refl;
      len = refl;
      comment = refl;
    } in
    subst (λ (p : ReadPiece). IsNumbered p numbered) c.self.view_is all
