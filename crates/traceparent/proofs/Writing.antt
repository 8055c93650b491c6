-- A traceparent that is written over dashes. Assumes nothing.
use Rattle.std.proofs.Common.{◌≡◌, ℕ, ◌+◌, Bool, true, false, List, [], ◌++◌, length, take, drop, replicate, codes, refl, sym, ap, ◌∙◌, append_assoc, append-nil, arith, length-append}
use Rattle.std.proofs.lemmas.List.{take_at, drop_at}
use Rattle.std.specs.Int.{from_bool}
use Rattle.number.proofs.HexText.{length-hex_text}
use Rattle.number.specs.Numbers.{glyph, hex_text}
use Rattle.text.specs.Appends.{placed}
use Rattle.traceparent.proofs.Lengths.{two_flags}
use Rattle.traceparent.specs.Writes.{flags_text, traceparent_text}
use Rattle.trace.specs.declared.ids.TraceId.{TraceId}

pub version_written : hex_text 2 0 ≡ codes "00"
unfolding hex_text glyph
version_written = refl

pub flags_written : (keep : Bool) → hex_text 2 (from_bool keep) ≡ flags_text keep
unfolding hex_text glyph
flags_written true = refl
flags_written false = refl

-- a piece over as many bytes
laid : (front gap rest piece : List ℕ) (at : ℕ) → length front ≡ at → length piece ≡ length gap → placed (front ++ (gap ++ rest)) at piece ≡ (front ++ piece) ++ rest
laid front gap rest piece at e k =
    let long : length (front ++ gap) ≡ at + length piece = length-append front gap ∙ omega (arith, e, k) in
    let before : take at (front ++ (gap ++ rest)) ≡ front = take_at front (gap ++ rest) at e in
    let behind : drop (at + length piece) (front ++ (gap ++ rest)) ≡ rest = ap (drop (at + length piece)) (sym (append_assoc front gap rest)) ∙ drop_at (front ++ gap) rest (at + length piece) long in
    (λ i. before i ++ (piece ++ behind i)) ∙ sym (append_assoc front piece rest)

-- and then a dash stays
laid-dash : (front gap rest piece : List ℕ) (at : ℕ) → length front ≡ at → length piece ≡ length gap → placed (front ++ (gap ++ (codes "-" ++ rest))) at piece ≡ ((front ++ piece) ++ codes "-") ++ rest
laid-dash front gap rest piece at e k = laid front gap (codes "-" ++ rest) piece at e k ∙ sym (append_assoc (front ++ piece) (codes "-") rest)

abbrev pub dashes : ℕ → List ℕ
dashes n = replicate n 0x2D

pub written : (id : TraceId) (span : ℕ) (keep : Bool) →
    placed (placed (placed (placed (placed (dashes 55) 0 (codes "00")) 3 (hex_text 16 id.high)) 19 (hex_text 16 id.low)) 36 (hex_text 16 span)) 53 (flags_text keep) ≡ traceparent_text id span keep
unfolding traceparent_text
written id span keep =
    let high = hex_text 16 id.high in
    let low = hex_text 16 id.low in
    let parent = hex_text 16 span in
    let flags = flags_text keep in
    let h = length-hex_text 16 id.high in
    let l = length-hex_text 16 id.low in
    let s = length-hex_text 16 span in
    let f = two_flags keep in
    let t₁ = codes "00-" in
    let t₂ = t₁ ++ high in
    let n₂ = length-append t₁ high in
    let t₃ = (t₂ ++ low) ++ codes "-" in
    let n₃ = length-append (t₂ ++ low) (codes "-") ∙ ap (λ k. k + 1) (length-append t₂ low) in
    let t₄ = (t₃ ++ parent) ++ codes "-" in
    let n₄ = length-append (t₃ ++ parent) (codes "-") ∙ ap (λ k. k + 1) (length-append t₃ parent) in
    let w₂ = laid t₁ (dashes 16) (dashes 36) high 3 refl h in
    let w₃ = laid-dash t₂ (dashes 16) (dashes 19) low 19 (omega arith) l in
    let w₄ = laid-dash t₃ (dashes 16) (dashes 2) parent 36 (omega arith) s in
    let w₅ = laid t₄ (dashes 2) [] flags 53 (omega arith) f in
    ap (λ o. placed (placed (placed o 19 low) 36 parent) 53 flags) w₂
    ∙ ap (λ o. placed (placed o 36 parent) 53 flags) w₃
    ∙ ap (λ o. placed o 53 flags) w₄
    ∙ w₅
    ∙ append-nil (t₄ ++ flags)
    ∙ simp append_assoc
