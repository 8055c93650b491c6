-- The numbers of a context are those that its types hold. Assumes nothing.
use Rattle.std.specs.Prelude.{ℕ, ◌^◌, Bool, true, ◌&&◌, ℤ, pos, negsuc, Some, None, Option, int_le, nat_lt}
use Rattle.std.specs.Option.{option_map}
use Rattle.trace.specs.Traces.{level, maker}
use Rattle.trace.specs.declared.ids.TraceId.{TraceId}
use Rattle.context.specs.declared.sampling.Sampling.{Sampling}

-- ids of 64 bits
abbrev pub ids_fit : TraceId → ℕ → Bool
ids_fit id span = (nat_lt id.high (2 ^ 64) && nat_lt id.low (2 ^ 64)) && nat_lt span (2 ^ 64)

-- a priority from -128 to 127, if there is one
abbrev pub priority_fits : Option ℤ → Bool
priority_fits None = true
priority_fits (Some z) = int_le (negsuc 127) z && int_le z (pos 127)

-- a mechanism from 0 to 255, if there is one
abbrev pub mechanism_fits : Option ℕ → Bool
mechanism_fits None = true
mechanism_fits (Some m) = nat_lt m 256

abbrev pub sampling_fits : Sampling → Bool
sampling_fits s = priority_fits (option_map level s.priority) && mechanism_fits (option_map maker s.mechanism)
