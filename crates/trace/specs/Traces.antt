-- What identifies a trace, and how it was sampled. Assumes nothing.
use Rattle.std.specs.Prelude.{ℕ, Bool, false, not, ◌&&◌, ℤ, pos, Some, None, Option, ◌==◌, int_lt}
use Rattle.trace.specs.declared.ids.TraceId.{TraceId}
use Rattle.trace.specs.declared.mechanism.SamplingMechanism.{SamplingMechanism}
use Rattle.trace.specs.declared.priority.SamplingPriority.{SamplingPriority}

abbrev pub is_zero : TraceId → Bool
is_zero t = t.high == 0 && t.low == 0

-- an id above 64 bits
abbrev pub is_wide : TraceId → Bool
is_wide t = not (t.high == 0)

-- the number of a priority, and of a mechanism
abbrev pub level : SamplingPriority → ℤ
level p = p.value

abbrev pub maker : SamplingMechanism → ℕ
maker m = m.value

-- a priority keeps exactly when it is above 0
abbrev pub keeps : ℤ → Bool
keeps z = int_lt (pos 0) z

-- and none does not
abbrev pub keeps_if : Option ℤ → Bool
keeps_if None = false
keeps_if (Some z) = keeps z
