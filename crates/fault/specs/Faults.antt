-- The numbers and words of refusals. Assumes nothing.
use Rattle.std.specs.Prelude.{ℕ, List, ◌++◌, Some, None, codes, Option}
use Rattle.store.specs.declared.faults.StoreFault.{StoreFault}
use Rattle.store.specs.declared.faults.StoreFault.TheVariants as full
use Rattle.traceparent.specs.declared.read.TraceparentFault.{TraceparentFault}
use Rattle.traceparent.specs.declared.read.TraceparentFault.TheVariants as parent
use Rattle.fault.specs.declared.Fault.{Fault}
use Rattle.fault.specs.declared.Cause.{Cause}
use Rattle.fault.specs.declared.Cause.TheVariants as cause
use Rattle.fault.specs.declared.Header.{Header}
use Rattle.fault.specs.declared.Header.TheVariants as header
use Rattle.fault.specs.declared.Operation.{Operation}
use Rattle.fault.specs.declared.Operation.TheVariants as operation
use Rattle.fault.specs.declared.Propagator.{Propagator}
use Rattle.fault.specs.declared.Propagator.TheVariants as propagator

-- the number of each cause
abbrev pub number : Cause → ℕ
number cause.NotShown = 1
number cause.Shape = 2
number cause.ZeroTraceId = 3
number cause.ZeroSpanId = 4
number cause.VersionFf = 5
number cause.TailAfterVersion00 = 6
number cause.UnreadableTraceId = 7
number cause.ZeroDatadogTraceId = 8
number cause.ZeroId = 9
number cause.Unlawful = 10
number cause.MemoryTooSmall = 11
number (cause.CarrierFull h f) = 12
number cause.MalformedBlock = 13

-- its message: the original's, or ours where it has none
abbrev pub message_text : Cause → List ℕ
message_text cause.NotShown = codes "header not shown"
message_text cause.Shape = codes "invalid traceparent"
message_text cause.ZeroTraceId = codes "`0` value for trace_id is invalid"
message_text cause.ZeroSpanId = codes "`0` value for span_id is invalid"
message_text cause.VersionFf = codes "`ff` is an invalid traceparent version"
message_text cause.TailAfterVersion00 = codes "Traceparent with version `00` should contain only 4 values delimited by `-`"
message_text cause.UnreadableTraceId = codes "Failed to decode `trace_id`"
message_text cause.ZeroDatadogTraceId = codes "Invalid `trace_id` found"
message_text cause.ZeroId = codes "zero id"
message_text cause.Unlawful = codes "unlawful text or number"
message_text cause.MemoryTooSmall = codes "memory too small"
message_text (cause.CarrierFull h f) = codes "carrier full"
message_text cause.MalformedBlock = codes "malformed block"

-- the header that a full carrier did not take
abbrev pub header_of : Cause → Option Header
header_of cause.NotShown = None
header_of cause.Shape = None
header_of cause.ZeroTraceId = None
header_of cause.ZeroSpanId = None
header_of cause.VersionFf = None
header_of cause.TailAfterVersion00 = None
header_of cause.UnreadableTraceId = None
header_of cause.ZeroDatadogTraceId = None
header_of cause.ZeroId = None
header_of cause.Unlawful = None
header_of cause.MemoryTooSmall = None
header_of (cause.CarrierFull h f) = Some h
header_of cause.MalformedBlock = None

abbrev pub header_text : Header → List ℕ
header_text header.Traceparent = codes "traceparent"
header_text header.Tracestate = codes "tracestate"
header_text header.TraceId = codes "x-datadog-trace-id"
header_text header.ParentId = codes "x-datadog-parent-id"
header_text header.Origin = codes "x-datadog-origin"
header_text header.SamplingPriority = codes "x-datadog-sampling-priority"
header_text header.Tags = codes "x-datadog-tags"

abbrev pub operation_text : Operation → List ℕ
operation_text operation.Extract = codes "extract"
operation_text operation.Inject = codes "inject"
operation_text operation.Make = codes "make"
operation_text operation.Child = codes "child"
operation_text operation.Put = codes "put"

abbrev pub propagator_text : Propagator → List ℕ
propagator_text propagator.Traceparent = codes "traceparent"
propagator_text propagator.Datadog = codes "datadog"
propagator_text propagator.Relay = codes "relay"
propagator_text propagator.Context = codes "context"

-- a fault as the original shows it
abbrev pub fault_text : Fault → List ℕ
fault_text f = codes "Cannot " ++ (operation_text f.operation ++ (codes " from " ++ (propagator_text f.propagator ++ (codes ", " ++ message_text f.cause))))

-- the cause of a call's refusal, if a change of its store is refused
abbrev pub store_cause : StoreFault → Cause
store_cause full.Unlawful = cause.Unlawful
store_cause full.Full = cause.MemoryTooSmall

-- the cause of a call's refusal, if its traceparent is
abbrev pub parent_cause : TraceparentFault → Cause
parent_cause parent.Shape = cause.Shape
parent_cause parent.ZeroTraceId = cause.ZeroTraceId
parent_cause parent.ZeroSpanId = cause.ZeroSpanId
parent_cause parent.VersionFf = cause.VersionFf
parent_cause parent.TailAfterVersion00 = cause.TailAfterVersion00
