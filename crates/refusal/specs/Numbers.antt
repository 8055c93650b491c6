-- The numbers of refusals. Assumes nothing.
use Rattle.std.specs.Prelude.{ℕ, ◌≤◌}

abbrev pub IsRefusal : ℕ → Type 0
IsRefusal n = (1 ≤ n) × (n ≤ 13)

abbrev pub AreRefusals : {R : Type 0} → (R → ℕ) → Type 0
AreRefusals {R} code = (fault : R) → IsRefusal (code fault)
