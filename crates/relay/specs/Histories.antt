-- Histories of a relay: calls one after the other, each from the state that the one before left. Assumes nothing.
use Rattle.std.specs.Prelude.{◌≡◌, ℕ, List, [], ◌∷◌, codes, Option}
use Rattle.carrier.specs.Kinds.{Kind}
use Rattle.context.specs.Contexts.{Context}
use Rattle.relay.specs.declared.calls.Call.{Call}
use Rattle.relay.specs.Turns.{Answered, State, turn, shown}

-- a call that was made: what it answered, the context before and after it, and what the carrier shows of the W3C form then
pub record Event : Type 0 where
  pub call : Call
  pub answer : Answered
  pub before : Context
  pub after : Context
  pub parent : Option (List ℕ)
  pub list : Option (List ℕ)

module _ (K : Kind) where
  -- one call leads from a state to the next
  pub record Step (s : State K) (e : Event) (t : State K) : Type 0 where
    pub answered : (turn K e.call s).answer ≡ e.answer
    pub led : (turn K e.call s).state ≡ t
    pub before_is : e.before ≡ s.context
    pub after_is : e.after ≡ t.context
    pub parent_is : e.parent ≡ shown K t (codes "traceparent")
    pub list_is : e.list ≡ shown K t (codes "tracestate")

  abbrev pub History : State K → List Event → State K → Type 0
  History s [] t = s ≡ t
  History s (e ∷ es) t = (u : State K) × Step s e u × History u es t
