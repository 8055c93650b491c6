-- A text that is written part by part. Assumes nothing.
use Rattle.std.proofs.Common.{◌≡◌, ℕ, ◌<◌, List, ◌++◌, length, ap, arith, length-append}

-- where a part of it does not fit, the whole does not
pub stops : (work part rest : List ℕ) {whole : List ℕ} → part ++ rest ≡ whole → length work < length part → length work < length whole
stops work part rest e h = omega (arith, ap length e, length-append part rest)
