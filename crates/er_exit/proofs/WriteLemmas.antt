-- What a device's write leaves, told by whether the device failed.
use Rattle.std.proofs.Common.{◌≡◌, ◌∙◌, sym, subst, ℕ, Bool, true, false, List, [], append-nil, Option, Some, None, Result, Ok, Err}
use Rattle.std.specs.Io.KnownBytes.{Appends}
use Rattle.er_device.specs.Device.{Failing, WritesPrefix}
use Rattle.er_exit.specs.Writes.{WritesBytes}

-- a device that had not failed wrote all of the bytes, unless it has failed now
pub WritesBytes-of-prefix : {X E : Type 0} (result : Result X E) (old new : Option (List ℕ)) (bytes : List ℕ) (was is : Bool) → was ≡ false → WritesPrefix old new bytes result → Failing was is result → WritesBytes old new bytes is
WritesBytes-of-prefix (Ok x) old new bytes was is open_before written same =
    subst (λ b. WritesBytes old new bytes b) (sym (same ∙ open_before)) written
WritesBytes-of-prefix (Err e) old new bytes was is open_before written failed =
    subst (λ b. WritesBytes old new bytes b) (sym failed) written

no_more : (old : Option (List ℕ)) → Appends old old []
no_more None = tt
no_more (Some x) = sym (append-nil x)

-- nothing is written once a write has failed
pub nothing-behind : (old : Option (List ℕ)) (bytes : List ℕ) (is : Bool) → is ≡ true → WritesBytes old old bytes is
nothing-behind old bytes is failed = subst (λ b. WritesBytes old old bytes b) (sym failed) (0, no_more old)
