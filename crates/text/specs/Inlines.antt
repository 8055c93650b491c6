-- Short texts that lie in a value of their own. Assumes nothing.
use Rattle.std.specs.Prelude.{ℕ, ◌+◌, Bool, cond, List, ◌++◌, length, take, nat_le, Ok, Err, Result}
use Rattle.text.specs.declared.inline.Inline.{Inline}
use Rattle.text.specs.declared.inline.NoRoom.{NoRoom}

abbrev pub text_of : {N : ℕ} → Inline N → List ℕ
text_of i = take i.len i.bytes

-- whether a piece fits behind a text, where there is room for n bytes
abbrev pub fits_behind : ℕ → List ℕ → List ℕ → Bool
fits_behind n text piece = nat_le (length text + length piece) n

abbrev pub push_answer : ℕ → List ℕ → List ℕ → Result (Unit {0}) NoRoom
push_answer n text piece = cond (fits_behind n text piece) (Ok tt) (Err (record {}))

abbrev pub after_push : ℕ → List ℕ → List ℕ → List ℕ
after_push n text piece = cond (fits_behind n text piece) (text ++ piece) text
