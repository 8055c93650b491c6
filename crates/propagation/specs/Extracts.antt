-- What an extract makes of the context and of the store that it fills, once the headers are read. Assumes nothing.
use Rattle.std.specs.Prelude.{ℕ, true, List, ℤ, Ok, Err, codes, Option, Result}
use Rattle.std.specs.Option.{option_and_then}
use Rattle.number.specs.Numbers.{mechanism}
use Rattle.trace.specs.declared.ids.TraceId.{TraceId}
use Rattle.fault.specs.declared.Cause.{Cause}
use Rattle.fault.specs.Faults.{store_cause}
use Rattle.store.specs.declared.faults.StoreFault.{StoreFault}
use Rattle.store.specs.Contents.{Contents, cleared}
use Rattle.store.specs.Tags.{Tag, looked}
use Rattle.context.specs.Contexts.{Context}
use Rattle.context.specs.declared.sampling.OtSource.TheVariants.{Carried}
use Rattle.propagation.specs.Changes.{Change, changes}

-- what accepted headers say: ids, priority, and the changes that fill the store
pub record Told : Type 0 where
  pub trace : TraceId
  pub span : ℕ
  pub priority : Option ℤ
  pub fill : List Change

-- a context, and the store that the next extract fills
pub record Desk : Type 0 where
  pub context : Context
  pub spare : Contents

abbrev pub desk : Context → Contents → Desk
desk c s = record { context = c; spare = s }

-- a call's answer, and what it leaves
pub record Ended (A : Type 0) : Type 0 where
  pub answer : Result A Cause
  pub desk : Desk

abbrev pub ended : {A : Type 0} → Result A Cause → Desk → Ended A
ended r d = record { answer = r; desk = d }

-- with a priority, the mechanism is that of the tag `_dd.p.dm`
abbrev pub mechanism_of : Option ℤ → List Tag → Option ℕ
mechanism_of priority tags = option_and_then (λ _. option_and_then mechanism (looked (codes "_dd.p.dm") tags)) priority

-- the context that accepted headers give, in the store that they filled
abbrev pub accepted : TraceId → ℕ → Option ℤ → Contents → Context
accepted id span priority s = record { trace = id; span = span; priority = priority; mechanism = mechanism_of priority s.tags; remote = true; ot_source = Carried; store = s }

abbrev pub told_context : Told → Contents → Context
told_context t s = accepted t.trace t.span t.priority s

-- the stores change places where all changes were made; otherwise the context stands
abbrev pub filled : Told → Desk → Result (Unit {0}) StoreFault → Contents → Ended (Unit {0})
filled t d (Ok _) s = ended (Ok tt) (desk (told_context t s) d.context.store)
filled t d (Err f) s = ended (Err (store_cause f)) (desk d.context s)

abbrev pub extract : Result Told Cause → Desk → Ended (Unit {0})
extract (Err c) d = ended (Err c) d
extract (Ok t) d = filled t d (changes t.fill (cleared d.spare)).answer (changes t.fill (cleared d.spare)).store
