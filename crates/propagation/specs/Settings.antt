-- Headers that are set one after the other up to the first that is refused, and unset again. Assumes nothing.
use Rattle.std.specs.Prelude.{ℕ, List, [], ◌∷◌, Some, None, Ok, Err, Option, Result}
use Rattle.carrier.specs.Kinds.{Kind}
use Rattle.carrier.specs.Steps.{set_answer, after_set}
use Rattle.carrier.specs.declared.faults.SetFault.{SetFault}
use Rattle.fault.specs.Faults.{header_text}
use Rattle.fault.specs.declared.Cause.{Cause}
use Rattle.fault.specs.declared.Cause.TheVariants as cause
use Rattle.fault.specs.declared.Header.{Header}
use Rattle.fault.specs.declared.Header.TheVariants as header

-- a header and the value that it is set to
pub record Setting : Type 0 where
  pub header : Header
  pub value : List ℕ

abbrev pub setting : Header → List ℕ → Setting
setting h v = record { header = h; value = v }

-- the names of the two forms
abbrev pub w3c_names : List Header
w3c_names = header.Traceparent ∷ header.Tracestate ∷ []

abbrev pub datadog_names : List Header
datadog_names = header.TraceId ∷ header.ParentId ∷ header.Origin ∷ header.SamplingPriority ∷ header.Tags ∷ []

-- what a call on a carrier answers, and what the carrier holds then
pub record Left (H : Type 0) (A : Type 0) : Type 0 where
  pub answer : Result A Cause
  pub held : H

abbrev pub left : {H A : Type 0} → Result A Cause → H → Left H A
left r h = record { answer = r; held = h }

module _ (K : Kind) where
  -- the names show nothing
  abbrev pub unset_all : List Header → K.Held → K.Held
  unset_all [] h = h
  unset_all (n ∷ ns) h = unset_all ns (K.cut h (header_text n))

  -- the carrier's own fault is kept whole
  abbrev pub unless_full : Header → Result (Unit {0}) SetFault → K.Held → (K.Held → Left K.Held (Unit {0})) → Left K.Held (Unit {0})
  unless_full n (Ok _) h next = next h
  unless_full n (Err f) h next = left (Err (cause.CarrierFull n f)) h

  -- the headers in their order; a refusal ends them
  abbrev pub set_all : List Setting → K.Held → Left K.Held (Unit {0})
  set_all [] h = left (Ok tt) h
  set_all (s ∷ ss) h =
      unless_full s.header (set_answer K h (header_text s.header) s.value) (after_set K h (header_text s.header) s.value) (set_all ss)

  -- more headers, unless one was refused
  abbrev pub continue_by : Result (Unit {0}) Cause → K.Held → (K.Held → Left K.Held (Unit {0})) → Left K.Held (Unit {0})
  continue_by (Ok _) h next = next h
  continue_by (Err c) h next = left (Err c) h

  abbrev pub continued : Left K.Held (Unit {0}) → (K.Held → Left K.Held (Unit {0})) → Left K.Held (Unit {0})
  continued l next = continue_by l.answer l.held next

  -- a refusal leaves none of the names
  abbrev pub all_or_none : List Header → Result (Unit {0}) Cause → K.Held → Left K.Held (Unit {0})
  all_or_none names (Ok _) h = left (Ok tt) h
  all_or_none names (Err c) h = left (Err c) (unset_all names h)

  -- an inject: refused at once, or the names unset and then set
  abbrev pub inject : List Header → Option Cause → List Setting → K.Held → Left K.Held (Unit {0})
  inject names (Some c) ss h = left (Err c) (unset_all names h)
  inject names None ss h = all_or_none names (set_all ss (unset_all names h)).answer (set_all ss (unset_all names h)).held
