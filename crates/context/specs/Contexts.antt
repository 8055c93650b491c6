-- What a context is to its caller. Assumes nothing.
use Rattle.std.specs.Prelude.{ℕ, Bool, false, ◌&&◌, List, ℤ, codes, Option}
use Rattle.std.specs.Option.{option_and_then, option_map}
use Rattle.store.specs.Contents.{Contents}
use Rattle.store.specs.Stores.{held}
use Rattle.store.specs.Tags.{looked}
use Rattle.trace.specs.Traces.{level, maker, keeps_if}
use Rattle.trace.specs.declared.ids.TraceId.{TraceId}
use Rattle.tracestate.specs.Lists.{read_tracestate}
use Rattle.context.specs.Ranges.{ids_fit, priority_fits, mechanism_fits}
use Rattle.context.specs.declared.sampling.OtSource.{OtSource}
use Rattle.context.specs.declared.sampling.OtSource.TheVariants.{Given, Carried}
use Rattle.context.specs.declared.span_context.SpanContext.{SpanContext}

-- ids, sampling, and what the store holds: tags, origin and a given ot value
pub record Context : Type 0 where
  pub trace : TraceId
  pub span : ℕ
  pub priority : Option ℤ
  pub mechanism : Option ℕ
  pub remote : Bool
  pub ot_source : OtSource
  pub store : Contents

-- the context that a value stands for
abbrev pub context_of : SpanContext → Context
context_of c = record {
  trace = c.trace_id;
  span = c.span_id;
  priority = option_map level c.sampling.priority;
  mechanism = option_map maker c.sampling.mechanism;
  remote = c.is_remote;
  ot_source = c.ot_source;
  store = held c.store;
}

-- its numbers are those of 64, 8 and 8 bits
abbrev pub numbers_fit : Context → Bool
numbers_fit c = ids_fit c.trace c.span && (priority_fits c.priority && mechanism_fits c.mechanism)

-- the same with another store
abbrev pub with_store : Context → Contents → Context
with_store c s = record { trace = c.trace; span = c.span; priority = c.priority; mechanism = c.mechanism; remote = c.remote; ot_source = c.ot_source; store = s }

-- the value of a tag
abbrev pub tag : List ℕ → Context → Option (List ℕ)
tag key c = looked key c.store.tags

-- the carried list is the tag `tracestate`
abbrev pub carried : Context → Option (List ℕ)
carried c = tag (codes "tracestate") c

-- the ot value that reading a list gives
abbrev pub ot_read : List ℕ → Option (List ℕ)
ot_read list = option_and_then (λ f. f.ot) (read_tracestate list)

-- the ot value: the given one, or the one that reading the carried list gives
abbrev pub ot_by : OtSource → Context → Option (List ℕ)
ot_by Given c = c.store.ot
ot_by Carried c = option_and_then ot_read (carried c)

unfoldable pub ot_of : Context → Option (List ℕ)
ot_of c = ot_by c.ot_source c

-- the keep decision
abbrev pub keeps : Context → Bool
keeps c = keeps_if c.priority

-- a child of the same trace: its own span id, and no longer as it came from elsewhere
abbrev pub child_of : Context → ℕ → Context
child_of c span = record { trace = c.trace; span = span; priority = c.priority; mechanism = c.mechanism; remote = false; ot_source = c.ot_source; store = c.store }
