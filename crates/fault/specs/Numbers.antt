-- Every cause has a number of a refusal. Assumes nothing.
use Rattle.std.proofs.Common.{lit≤}
use Rattle.refusal.specs.Numbers.{IsRefusal}
use Rattle.fault.specs.declared.Cause.{Cause}
use Rattle.fault.specs.declared.Cause.TheVariants as cause
use Rattle.fault.specs.Faults.{number}

pub numbers_fit : (c : Cause) → IsRefusal (number c)
numbers_fit cause.NotShown = (lit≤ tt, lit≤ tt)
numbers_fit cause.Shape = (lit≤ tt, lit≤ tt)
numbers_fit cause.ZeroTraceId = (lit≤ tt, lit≤ tt)
numbers_fit cause.ZeroSpanId = (lit≤ tt, lit≤ tt)
numbers_fit cause.VersionFf = (lit≤ tt, lit≤ tt)
numbers_fit cause.TailAfterVersion00 = (lit≤ tt, lit≤ tt)
numbers_fit cause.UnreadableTraceId = (lit≤ tt, lit≤ tt)
numbers_fit cause.ZeroDatadogTraceId = (lit≤ tt, lit≤ tt)
numbers_fit cause.ZeroId = (lit≤ tt, lit≤ tt)
numbers_fit cause.Unlawful = (lit≤ tt, lit≤ tt)
numbers_fit cause.MemoryTooSmall = (lit≤ tt, lit≤ tt)
numbers_fit (cause.CarrierFull h f) = (lit≤ tt, lit≤ tt)
numbers_fit cause.MalformedBlock = (lit≤ tt, lit≤ tt)
