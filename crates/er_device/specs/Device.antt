-- What a clause says of a device: what it wraps, whether a call failed, how many bytes were taken from it.
use Rattle.std.specs.Prelude.{◌≡◌, ℕ, ◌+◌, ◌-◌, ◌^◌, min, Bool, true, false, MatchResult, Result, Option, List, take}
use Rattle.std.specs.Io.KnownBytes.{Appends}
use Rattle.er_device.specs.declared.device.Device.{Device}

-- the reader or writer that it wraps
abbrev pub inner_of : {D : Type 0} → Device D → D
inner_of device = device.inner

-- whether one of its calls failed
abbrev pub has_failed : {D : Type 0} → Device D → Bool
has_failed device = device.failed

-- how many bytes its reads gave and its caller counted
abbrev pub taken_of : {D : Type 0} → Device D → ℕ
taken_of device = device.taken

-- a device that has made no call yet
abbrev pub fresh : {D : Type 0} → D → Device D
fresh inner = record { inner = inner; failed = false; taken = 0 }

-- the device once what it wraps has changed to this
abbrev pub with_inner : {D : Type 0} → Device D → D → Device D
with_inner device inner = record device { inner = inner }

-- the device once so many more bytes were taken, up to the greatest number of 64 bits
abbrev pub more_taken : {D : Type 0} → Device D → ℕ → Device D
more_taken device count = record device { taken = min (device.taken + count) (2 ^ 64 - 1) }

-- the device once a call of it has failed
abbrev pub failing : {D : Type 0} → Device D → Device D
failing device = record device { failed = true }

-- an error marks the device for good, and nothing else does
abbrev pub Failing : {X E : Type 0} → Bool → Bool → Result X E → Type 0
Failing old new result = MatchResult result (λ _. new ≡ old) (λ _. new ≡ true)

-- the count of bytes grows by those that a read gave, up to the greatest number of 64 bits
abbrev pub CountsTaken : {E : Type 0} → ℕ → ℕ → Result ℕ E → Type 0
CountsTaken old new result = MatchResult result (λ n. new ≡ min (old + n) (2 ^ 64 - 1)) (λ _. new ≡ old)

-- all of the bytes were written, or a prefix of them
abbrev pub WritesPrefix : {X E : Type 0} → Option (List ℕ) → Option (List ℕ) → List ℕ → Result X E → Type 0
WritesPrefix old new bytes result = MatchResult result (λ _. Appends old new bytes) (λ _. (n : ℕ) × Appends old new (take n bytes))
