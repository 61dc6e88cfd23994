-- The name of a known thread stands before the first space.
use Rattle.std.proofs.Common.{◌≡◌, length, rules}
use Rattle.er_text.proofs.FastPathLaws.{front_found}
use Rattle.er_text.proofs.fast_path.any_leading_thread.Goals as goal

pub returns : goal.returns
returns c =
    let name = c.in_ok-name_of.field-0.now in
    let word = c.split_at_space.result.0.now in
    let rest = c.split_at_space.result.1.now in
    let some : length rest ≡ 0 → ⊥ = search rules in
    let found = c.in_ok-thread.ensures.some in
    record {
      led = record {
        name = name;
        front = front_found c.args.bytes.now word rest name c.split_at_space.ensures.before c.split_at_space.ensures.behind some c.in_ok-name_of.ensures;
        known = found.1;
        is = found.0;
      };
    }
