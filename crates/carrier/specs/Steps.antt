-- What a set answers and leaves, over any kind. Assumes nothing.
use Rattle.std.specs.Prelude.{ℕ, Bool, true, false, cond, ◌&&◌, List, length, Ok, Err, Result}
use Rattle.text.specs.Texts.{lawful}
use Rattle.carrier.specs.declared.faults.SetFault.{SetFault}
use Rattle.carrier.specs.declared.faults.SetFault.TheVariants.{Unlawful, Full}
use Rattle.carrier.specs.Kinds.{Kind}
use Rattle.carrier.specs.Names.{is_name}

-- a refusal's number
abbrev pub number : SetFault → ℕ
number Unlawful = 10
number Full = 12

-- whether a name and a value may be asked for at all
abbrev pub may : List ℕ → List ℕ → Bool
may n v = is_name n && lawful v

-- the answer, by whether it may be asked for and whether there is room
abbrev pub verdict : Bool → Bool → Result (Unit {0}) SetFault
verdict false room = Err Unlawful
verdict true false = Err Full
verdict true true = Ok tt

module _ (K : Kind) where
  abbrev pub set_answer : K.Held → List ℕ → List ℕ → Result (Unit {0}) SetFault
  set_answer h n v = verdict (may n v) (K.room h n (length v))

  abbrev pub after_set : K.Held → List ℕ → List ℕ → K.Held
  after_set h n v = cond (may n v && K.room h n (length v)) (K.put h n v) h
