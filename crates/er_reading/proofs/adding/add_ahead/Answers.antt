-- The pieces in front, of which those up to the first broken one are added: their names, their numbers, their steps.
use Rattle.std.proofs.Common.{◌≤◌, ◌++◌, ℕ, List, length, subst, arith}
use Rattle.std.proofs.lemmas.Bool.{eqb-true}
use Rattle.er_text.specs.Batches.{HasRead}
use Rattle.er_reading.proofs.AddedLemmas.{all_can, may_add, names_kept, same_first, some_fit, told_some}
use Rattle.er_reading.proofs.ChunkLemmas.{none_formed, with_none}
use Rattle.er_event.specs.declared.steps.Step.{Step}
use Rattle.er_reading.specs.Chunks.{chunk_lines, chunk_sites, chunk_steps}
use Rattle.er_trace.specs.Names.{NameTable}
use Rattle.er_reading.specs.Inner.Adding.{StandInFront}
use Rattle.er_reading.specs.Pieces.{ArePiecesOf}
use Rattle.er_reading.proofs.adding.add_ahead.Goals as goal

pub enter_pieces-requires : goal.enter_pieces-requires
enter_pieces-requires g c =
    let lines = c.args.lines.now in
    let pieces = c.read_pieces.new.pieces in
    let front : StandInFront c.args.trace.now.names lines pieces = record {
      version = c.in-Some.version;
      stage = c.in-Some.ensures.0;
      idle = c.in-Some.ensures.1;
      front = c.ahead-bytes.result.now;
      more = c.ahead-bytes.ensures.front.0;
      ahead = c.ahead-bytes.ensures.front.1;
      within = c.ahead-bytes.ensures.within;
      read = subst (λ (names : NameTable). ArePiecesOf c.in-Some.version names c.ahead-bytes.result.now pieces) c.names.ensures c.read_pieces.ensures.pieces;
    } in
    some_fit c.args.trace.now lines pieces c.split_at_mut-whole.result.0.now c.whole_count-count.result c.lines_before-before.result front
    c.split_at_mut-whole.ensures.front c.whole_count-count.ensures.whole c.lines_before-before.ensures.bound c.lines_before-before.ensures.most_limit

pub number_pieces-requires-after_bounds : goal.number_pieces-requires-after_bounds
number_pieces-requires-after_bounds g c κs within =
    let lines = c.args.lines.now in
    let pieces = c.read_pieces.new.pieces in
    let front : StandInFront c.args.trace.now.names lines pieces = record {
      version = c.in-Some.version;
      stage = c.in-Some.ensures.0;
      idle = c.in-Some.ensures.1;
      front = c.ahead-bytes.result.now;
      more = c.ahead-bytes.ensures.front.0;
      ahead = c.ahead-bytes.ensures.front.1;
      within = c.ahead-bytes.ensures.within;
      read = subst (λ (names : NameTable). ArePiecesOf c.in-Some.version names c.ahead-bytes.result.now pieces) c.names.ensures c.read_pieces.ensures.pieces;
    } in
    all_can c.lines_before-before.result c.args.trace.now.names c.split_at_mut-whole.result.0.now c.enter_pieces.new.pieces c.in_ok-enter_pieces.ensures.entered
    (some_fit c.args.trace.now lines pieces c.split_at_mut-whole.result.0.now c.whole_count-count.result c.lines_before-before.result front
    c.split_at_mut-whole.ensures.front c.whole_count-count.ensures.whole c.lines_before-before.ensures.bound c.lines_before-before.ensures.most_limit)

pub add_numbered-requires-clause-front : goal.add_numbered-requires-clause-front
add_numbered-requires-clause-front g c =
    let lines = c.args.lines.now in
    let pieces = c.read_pieces.new.pieces in
    let front : StandInFront c.args.trace.now.names lines pieces = record {
      version = c.in-Some.version;
      stage = c.in-Some.ensures.0;
      idle = c.in-Some.ensures.1;
      front = c.ahead-bytes.result.now;
      more = c.ahead-bytes.ensures.front.0;
      ahead = c.ahead-bytes.ensures.front.1;
      within = c.ahead-bytes.ensures.within;
      read = subst (λ (names : NameTable). ArePiecesOf c.in-Some.version names c.ahead-bytes.result.now pieces) c.names.ensures c.read_pieces.ensures.pieces;
    } in
    may_add c.args.trace.now lines pieces c.split_at_mut-whole.result.0.now c.whole_count-count.result c.lines_before-before.result front
    c.split_at_mut-whole.ensures.front c.whole_count-count.ensures.whole c.enter_pieces.new.trace c.enter_pieces.new.pieces c.number_pieces.new.pieces
    c.lines_before-before.ensures.value c.in_ok-enter_pieces.ensures.entered c.number_pieces.ensures c.in_ok-enter_pieces.ensures.names

pub returns-clause-told : goal.returns-clause-told
returns-clause-told g c = λ text steps numbers sites known read.
    let lines = c.args.lines.now in
    let pieces = c.read_pieces.new.pieces in
    let front : StandInFront c.args.trace.now.names lines pieces = record {
      version = c.in-Some.version;
      stage = c.in-Some.ensures.0;
      idle = c.in-Some.ensures.1;
      front = c.ahead-bytes.result.now;
      more = c.ahead-bytes.ensures.front.0;
      ahead = c.ahead-bytes.ensures.front.1;
      within = c.ahead-bytes.ensures.within;
      read = subst (λ (names : NameTable). ArePiecesOf c.in-Some.version names c.ahead-bytes.result.now pieces) c.names.ensures c.read_pieces.ensures.pieces;
    } in
    told_some c.args.trace.now lines pieces c.split_at_mut-whole.result.0.now c.whole_count-count.result c.lines_before-before.result front
    c.split_at_mut-whole.ensures.front c.whole_count-count.ensures.whole text steps numbers sites known c.enter_pieces.new.trace c.enter_pieces.new.pieces
    c.number_pieces.new.pieces (HasRead text (steps ++ chunk_steps c.add_numbered.new.chunks) (numbers ++ chunk_lines c.add_numbered.new.chunks) (sites ++ chunk_sites c.add_numbered.new.chunks) c.add_numbered.new.lines known c.add_numbered.new.trace) c.lines_before-before.ensures.value
    c.in_ok-enter_pieces.ensures.entered c.number_pieces.ensures c.in_ok-enter_pieces.ensures.names
    (λ names read front whole ready named had. c.in_ok-add_numbered.ensures.told text steps numbers sites known names read front whole ready named had) read

pub returns-clause-more : goal.returns-clause-more
returns-clause-more g c = λ whole.
    let pieces = c.read_pieces.new.pieces in
    let same = same_first pieces c.split_at_mut-whole.result.0.now c.enter_pieces.new.pieces c.number_pieces.new.pieces c.whole_count-count.result c.lines_before-before.result
    c.args.trace.now.names c.split_at_mut-whole.ensures.front (eqb-true c.whole_count-count.result (length pieces) whole)
    c.in_ok-enter_pieces.ensures.entered c.number_pieces.ensures in
    let long : 1 ≤ length c.ahead-bytes.result.now = omega arith in
    omega (arith, c.in_ok-add_numbered.ensures.start, same, c.read_pieces.ensures.first long)

pub returns-clause-names : goal.returns-clause-names
returns-clause-names g c =
    names_kept c.args.trace.now c.enter_pieces.new.trace c.add_numbered.new.trace c.split_at_mut-whole.result.0.now c.in_ok-enter_pieces.ensures.names c.in_ok-add_numbered.ensures.names

-- Nothing is added if the lines or the chunks are too few.
pub returns-in_default-clause-told : goal.returns-in_default-clause-told
returns-in_default-clause-told g c = λ text steps numbers sites known read.
    with_none (λ (s : List Step) (n p : List ℕ). HasRead text s n p c.args.lines.now known c.args.trace.now) steps numbers sites c.args.chunks.now c.requires.empty read

pub returns-in_default-clause-formed : goal.returns-in_default-clause-formed
returns-in_default-clause-formed g c = none_formed c.args.trace.now.names c.args.chunks.now c.requires.empty

pub returns-then-bytes-pieces-clause-told : goal.returns-then-bytes-pieces-clause-told
returns-then-bytes-pieces-clause-told g c = λ text steps numbers sites known read.
    with_none (λ (s : List Step) (n p : List ℕ). HasRead text s n p c.args.lines.now known c.args.trace.now) steps numbers sites c.args.chunks.now c.requires.empty read

pub returns-then-bytes-pieces-clause-formed : goal.returns-then-bytes-pieces-clause-formed
returns-then-bytes-pieces-clause-formed g c = none_formed c.args.trace.now.names c.args.chunks.now c.requires.empty
