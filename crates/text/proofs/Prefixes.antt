-- A prefix that stands in front of a text. Assumes nothing.
use Rattle.std.proofs.Common.{◌≡◌, ℕ, ◌≤◌, Bool, true, false, cond, ◌&&◌, leb, ◌++◌, length, take, drop, Some, None, sym, refl, ap, ◌∙◌, arith, length-append}
use Rattle.std.proofs.lemmas.Slice.Eq.{bytes_eq-Decides}
use Rattle.std.proofs.lemmas.List.{take_at, drop_at, take-append-drop}
use Rattle.std.proofs.lemmas.Bool.{and_parts, and_from, le-leb, cond-true}
use Rattle.std.specs.Str.{bytes_eq}
use Rattle.text.specs.Laws.{StripIs, StripOnly}
use Rattle.text.specs.Takes.{stripped}

pub strip_is : StripIs
unfolding stripped
strip_is prefix rest =
    let s = prefix ++ rest in
    let front = take_at prefix rest (length prefix) refl in
    let room : length prefix ≤ length s = omega (arith, length-append prefix rest) in
    cond-true _ (Some (drop (length prefix) s)) None (and_from (leb (length prefix) (length s)) (bytes_eq (take (length prefix) s) prefix) (le-leb _ _ room) ((bytes_eq-Decides (take (length prefix) s) prefix).1 front))
    ∙ ap Some (drop_at prefix rest (length prefix) refl)

passed : {A : Type 0} (t : Bool) (x y : A) → cond t (Some x) None ≡ Some y → (t ≡ true) × (x ≡ y)
passed true x y e = (refl, cc)
passed false x y e = let z : ◌≡◌ {A = ℕ} 0 1 = cc in absurd (omega arith)

pub strip_only : StripOnly
unfolding stripped
strip_only prefix s rest e =
    let found = passed (leb (length prefix) (length s) && bytes_eq (take (length prefix) s) prefix) (drop (length prefix) s) rest e in
    let parts = and_parts _ _ found.0 in
    sym (take-append-drop (length prefix) s) ∙ (λ i. ((bytes_eq-Decides (take (length prefix) s) prefix).0 parts.1) i ++ found.1 i)
