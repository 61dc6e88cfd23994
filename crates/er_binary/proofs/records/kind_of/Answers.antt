use Rattle.std.proofs.lemmas.List.{get_or_default}
use Rattle.er_binary.specs.Records.{kinds}
use Rattle.er_binary.specs.declared.records.Kind.TheVariants as kind
use Rattle.er_binary.proofs.records.kind_of.Goals as goal

pub returns : goal.returns
returns c = get_or_default kinds c.args.n _ kind.Fact c.requires
