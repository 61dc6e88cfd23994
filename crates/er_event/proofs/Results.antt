-- Facts on what a call answers that std doesn't have, and that several crates use.
use Rattle.std.proofs.Common.{Result, Ok, Err, OnOk, OnErr}

-- what follows from a fact about one outcome
pub on_ok : {T E : Type 0} (r : Result T E) (P Q : Type 0) → OnOk r P → (P → Q) → OnOk r Q
on_ok (Ok v) P Q p f = f p
on_ok (Err e) P Q p f = tt

pub on_err : {T E : Type 0} (r : Result T E) (P Q : Type 0) → OnErr r P → (P → Q) → OnErr r Q
on_err (Ok v) P Q p f = tt
on_err (Err e) P Q p f = f p

-- what holds anyway holds after an error
pub on_err_of : {T E : Type 0} (r : Result T E) (P : Type 0) → P → OnErr r P
on_err_of (Ok v) P p = tt
on_err_of (Err e) P p = p
