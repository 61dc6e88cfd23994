use Rattle.er_binary.proofs.nodes.+put_way.Given as goal

abbrev pub decreases-put_way : goal.decreases-put_way
decreases-put_way l = l.count
