-- A word is what its bytes spell.
use Rattle.std.proofs.Common.{◌≡◌, true, codes, refl, arith, rules}
use Rattle.std.proofs.lemmas.Slice.Eq.{text_from_reads}
use Rattle.er_text.specs.Verbs.{has_levels, is_third}
use Rattle.er_text.proofs.verbs.verb_of.Goals as goal

pub returns-in-write : goal.returns-in-write
returns-in-write c = rw (text_from_reads c.args.word.now (codes "write") (omega arith) (omega arith, (omega arith, (omega arith, (omega arith, (omega arith, tt)))))) refl

pub returns-in-rlock : goal.returns-in-rlock
returns-in-rlock c = rw (text_from_reads c.args.word.now (codes "rlock") (omega arith) (omega arith, (omega arith, (omega arith, (omega arith, (omega arith, tt)))))) refl

pub returns-in-reuse : goal.returns-in-reuse
returns-in-reuse c = rw (text_from_reads c.args.word.now (codes "reuse") (omega arith) (omega arith, (omega arith, (omega arith, (omega arith, (omega arith, tt)))))) refl

pub returns-in-unlock : goal.returns-in-unlock
returns-in-unlock c = rw (text_from_reads c.args.word.now (codes "unlock") (omega arith) (omega arith, (omega arith, (omega arith, (omega arith, (omega arith, (omega arith, tt))))))) refl

pub returns-in-runlock : goal.returns-in-runlock
returns-in-runlock c = rw (text_from_reads c.args.word.now (codes "runlock") (omega arith) (omega arith, (omega arith, (omega arith, (omega arith, (omega arith, (omega arith, (omega arith, tt)))))))) refl

pub returns-in-105 : goal.returns-in-105
returns-in-105 c = rw (text_from_reads c.args.word.now (codes "ignore-on") (omega arith) (omega arith, (omega arith, (omega arith, (omega arith, (omega arith, (omega arith, (omega arith, (omega arith, (omega arith, tt)))))))))) refl

pub returns-in-105-2 : goal.returns-in-105-2
returns-in-105-2 c = rw (text_from_reads c.args.word.now (codes "ignore-off") (omega arith) (omega arith, (omega arith, (omega arith, (omega arith, (omega arith, (omega arith, (omega arith, (omega arith, (omega arith, (omega arith, tt))))))))))) refl

pub returns-in-level : goal.returns-in-level
returns-in-level c =
    let allowed : has_levels c.args.version ≡ true = search rules in
    rw (text_from_reads c.args.word.now (codes "level") (omega arith) (omega arith, (omega arith, (omega arith, (omega arith, (omega arith, tt))))), allowed) refl

pub returns-in-start : goal.returns-in-start
returns-in-start c =
    let allowed : is_third c.args.version ≡ true = search rules in
    rw (text_from_reads c.args.word.now (codes "start") (omega arith) (omega arith, (omega arith, (omega arith, (omega arith, (omega arith, tt))))), allowed) refl

pub returns-in-signal : goal.returns-in-signal
returns-in-signal c =
    let allowed : is_third c.args.version ≡ true = search rules in
    rw (text_from_reads c.args.word.now (codes "signal") (omega arith) (omega arith, (omega arith, (omega arith, (omega arith, (omega arith, (omega arith, tt)))))), allowed) refl

pub returns-in-await : goal.returns-in-await
returns-in-await c =
    let allowed : is_third c.args.version ≡ true = search rules in
    rw (text_from_reads c.args.word.now (codes "await") (omega arith) (omega arith, (omega arith, (omega arith, (omega arith, (omega arith, tt))))), allowed) refl
