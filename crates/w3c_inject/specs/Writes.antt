-- What a W3C inject of a context sets, and when it is refused. Assumes nothing.
use Rattle.std.specs.Prelude.{ℕ, cond, ◌||◌, List, [], ◌∷◌, Some, None, Option, ◌==◌, nat_lt}
use Rattle.trace.specs.Traces.{is_zero}
use Rattle.traceparent.specs.Writes.{traceparent_text}
use Rattle.carrier.specs.Kinds.{Kind}
use Rattle.fault.specs.declared.Cause.{Cause}
use Rattle.fault.specs.declared.Cause.TheVariants as cause
use Rattle.fault.specs.declared.Header.TheVariants as header
use Rattle.context.specs.Contexts.{Context, carried, keeps, ot_of}
use Rattle.propagation.specs.Settings.{Setting, setting, Left, w3c_names, inject}
use Rattle.ddvalue.specs.Values.{dd_value}
use Rattle.statelist.specs.Written.{written_list}

unfoldable pub traceparent_of : Context → List ℕ
traceparent_of c = traceparent_text c.trace c.span (keeps c)

unfoldable pub tracestate_of : Context → List ℕ
tracestate_of c = written_list (dd_value c) (ot_of c) (carried c)

abbrev pub w3c_settings : Context → List Setting
w3c_settings c = setting header.Traceparent (traceparent_of c) ∷ setting header.Tracestate (tracestate_of c) ∷ []

-- a zero id, or too few work bytes
abbrev pub w3c_refusal : Context → ℕ → Option Cause
w3c_refusal c work =
    cond (is_zero c.trace || c.span == 0) (Some cause.ZeroId)
    (cond (nat_lt work 16384) (Some cause.MemoryTooSmall) None)

abbrev pub w3c_inject : (K : Kind) → Context → ℕ → K.Held → Left K.Held (Unit {0})
w3c_inject K c work h = inject K w3c_names (w3c_refusal c work) (w3c_settings c) h
