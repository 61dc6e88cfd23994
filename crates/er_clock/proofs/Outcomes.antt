-- What a call came to.
use Rattle.std.proofs.Common.{Result, Ok, Err, OnOk, OnErr, IsOk}

-- a call that can't fail
pub surely : {T E : Type 0} (r : Result T E) (P : Type 0) → IsOk r → OnOk r P → P
surely (Ok v) P ok p = p
surely (Err e) P ok p = cc

-- what follows from two facts about one outcome
pub on_both : {T E : Type 0} (r : Result T E) (P Q G : Type 0) → OnOk r P → OnOk r Q → (P → Q → G) → OnOk r G
on_both (Ok v) P Q G p q f = f p q
on_both (Err e) P Q G p q f = tt

-- what follows from two facts of each outcome
pub both_ways : {T E : Type 0} (r : Result T E) (P Q R S G : Type 0) → OnOk r P → OnOk r Q → OnErr r R → OnErr r S → (P → Q → G) → (R → S → G) → G
both_ways (Ok v) P Q R S G p q r s f g = f p q
both_ways (Err e) P Q R S G p q r s f g = g r s
