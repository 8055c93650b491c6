-- What each call of a relay answers and leaves, over any kind of carrier. Assumes nothing.
use Rattle.std.specs.Prelude.{ℕ, cond, ◌||◌, List, ◌++◌, Some, None, Ok, Err, codes, Option, Result, ◌==◌, nat_lt}
use Rattle.trace.specs.Traces.{is_zero}
use Rattle.carrier.specs.Kinds.{Kind}
use Rattle.carrier.specs.Names.{Table}
use Rattle.fault.specs.declared.Cause.{Cause}
use Rattle.fault.specs.declared.Cause.TheVariants as cause
use Rattle.fault.specs.declared.Fault.{Fault}
use Rattle.fault.specs.declared.Header.{Header}
use Rattle.fault.specs.declared.Operation.TheVariants as operation
use Rattle.fault.specs.declared.Propagator.TheVariants as propagator
use Rattle.store.specs.Contents.{Contents}
use Rattle.context.specs.Contexts.{Context, child_of}
use Rattle.propagation.specs.Extracts.{Desk, desk, Ended, extract}
use Rattle.propagation.specs.Faulted.{faulted}
use Rattle.propagation.specs.Settings.{Left, w3c_names, datadog_names, unset_all}
use Rattle.w3c_extract.specs.Reads.{w3c_told}
use Rattle.w3c_inject.specs.Writes.{w3c_inject}
use Rattle.datadog_extract.specs.Reads.{datadog_told, shown_headers}
use Rattle.datadog_inject.specs.Writes.{Injected, datadog_inject}
use Rattle.datadog_inject.specs.declared.answer.TagsAnswer.{TagsAnswer}
use Rattle.relay.specs.declared.calls.Call.{Call}
use Rattle.relay.specs.declared.calls.Call.TheVariants as call

-- a relay and its carrier: the context, the spare store, the tag limit, and what the carrier holds
pub record State (K : Kind) : Type 0 where
  pub context : Context
  pub spare : Contents
  pub limit : ℕ
  pub held : K.Held

abbrev pub state : (K : Kind) → Desk → ℕ → K.Held → State K
state K d limit h = record { context = d.context; spare = d.spare; limit = limit; held = h }

-- all seven names
abbrev pub all_names : List Header
all_names = w3c_names ++ datadog_names

-- making: a tag limit above 1,024 and then a zero id are refused
abbrev pub make_refusal : Context → ℕ → Option Cause
make_refusal c limit = cond (nat_lt 1024 limit) (Some cause.Unlawful) (cond (is_zero c.trace || c.span == 0) (Some cause.ZeroId) None)

abbrev pub made : (K : Kind) → Context → Contents → ℕ → K.Held → State K
made K c spare limit h = state K (desk c spare) limit (unset_all K all_names h)

-- a call's answer, as the list of answers has it: only a Datadog inject says what became of its tags
abbrev pub Answered : Type 0
Answered = Result (Option TagsAnswer) Fault

abbrev pub plain : Result (Unit {0}) Fault → Answered
plain (Ok _) = Ok None
plain (Err f) = Err f

abbrev pub tagged : Result TagsAnswer Fault → Answered
tagged (Ok a) = Ok (Some a)
tagged (Err f) = Err f

-- what a call answers, and the state that it leaves
pub record Turn (K : Kind) : Type 0 where
  pub answer : Answered
  pub state : State K

module _ (K : Kind) where
  abbrev pub turned : Answered → State K → Turn K
  turned a s = record { answer = a; state = s }

  abbrev pub shown : State K → Table
  shown s = K.shown s.held

  abbrev pub child_answer : ℕ → Result (Unit {0}) Cause
  child_answer span = cond (span == 0) (Err cause.ZeroId) (Ok tt)

  abbrev pub child_context : Context → ℕ → Context
  child_context c span = cond (span == 0) c (child_of c span)

  abbrev pub child_turn : State K → ℕ → Turn K
  child_turn s span = turned (plain (faulted propagator.Relay operation.Child (child_answer span))) (state K (desk (child_context s.context span) s.spare) s.limit s.held)

  abbrev pub w3c_left : State K → ℕ → Left K.Held (Unit {0})
  w3c_left s work = w3c_inject K s.context work s.held

  abbrev pub inject_w3c_turn : State K → ℕ → Turn K
  inject_w3c_turn s work =
      turned (plain (faulted propagator.Traceparent operation.Inject (w3c_left s work).answer)) (state K (desk s.context s.spare) s.limit (w3c_left s work).held)

  abbrev pub datadog_left : State K → ℕ → Injected K.Held
  datadog_left s work = datadog_inject K s.limit work s.context s.held

  abbrev pub inject_datadog_turn : State K → ℕ → Turn K
  inject_datadog_turn s work =
      turned (tagged (faulted propagator.Datadog operation.Inject (datadog_left s work).answer)) (state K (desk (datadog_left s work).context s.spare) s.limit (datadog_left s work).held)

  abbrev pub w3c_ended : State K → Ended (Unit {0})
  w3c_ended s = extract (w3c_told (shown s (codes "traceparent")) (shown s (codes "tracestate"))) (desk s.context s.spare)

  abbrev pub extract_w3c_turn : State K → Turn K
  extract_w3c_turn s = turned (plain (faulted propagator.Traceparent operation.Extract (w3c_ended s).answer)) (state K (w3c_ended s).desk s.limit s.held)

  abbrev pub datadog_ended : State K → Ended (Unit {0})
  datadog_ended s = extract (datadog_told s.limit (shown_headers (shown s))) (desk s.context s.spare)

  abbrev pub extract_datadog_turn : State K → Turn K
  extract_datadog_turn s = turned (plain (faulted propagator.Datadog operation.Extract (datadog_ended s).answer)) (state K (datadog_ended s).desk s.limit s.held)

  -- every call
  abbrev pub turn : Call → State K → Turn K
  turn (call.Child span) s = child_turn s span
  turn (call.InjectW3c work) s = inject_w3c_turn s work
  turn (call.InjectDatadog work) s = inject_datadog_turn s work
  turn call.ExtractW3c s = extract_w3c_turn s
  turn call.ExtractDatadog s = extract_datadog_turn s
