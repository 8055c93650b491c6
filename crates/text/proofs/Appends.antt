-- What is in a buffer after a piece more. Assumes nothing.
use Rattle.std.proofs.Common.{◌≡◌, ℕ, ◌+◌, ◌-◌, ◌<◌, ◌≤◌, min, List, [], ◌++◌, length, take, drop, sym, refl, ap, ◌∙◌, inl, inr, append_assoc, add-zero, arith, length-append}
use borrow.Rule.Slice.PartMut.{put_mid}
use Rattle.std.proofs.lemmas.List.{take_all, take_at, take-append-drop, length-take, length-drop, length-take-le, drop-drop}
use Rattle.std.proofs.lemmas.Bool.{cases_lt}
use Rattle.text.specs.Appends.{fitting, placed}

take_min : (piece : List ℕ) (room n : ℕ) → n ≡ min (length piece) room → take n piece ≡ take room piece
take_min piece room n e =
    elim (cases_lt (length piece) room) [
      | inl short ↦ let all : n ≡ length piece = omega arith in take_all n piece (omega arith) ∙ sym (take_all room piece (omega arith))
      | inr long ↦ let part : n ≡ room = omega arith in ap (λ k. take k piece) part
    ]

module _ (buf piece : List ℕ) (at n : ℕ) (h : at < length buf) (e : n ≡ min (length piece) (length buf - at)) where
  pub fits_whole : length (fitting buf at piece) ≡ n
  fits_whole = length-take (length buf - at) piece ∙ omega arith

  pub written : (ys : List ℕ) → ys ≡ take (n - 0) piece → put_mid at (at + n - at) buf ys ≡ placed buf at (fitting buf at piece)
  written ys is =
      let whole : n - 0 ≡ n = omega arith in
      let part : ys ≡ fitting buf at piece = is ∙ ap (λ k. take k piece) whole ∙ take_min piece (length buf - at) n e in
      let span : at + n - at ≡ n = omega arith in
      let end : at + n ≡ at + length (fitting buf at piece) = ap (λ k. at + k) (sym fits_whole) in
      let rest : drop (at + n - at) (drop at buf) ≡ drop (at + length (fitting buf at piece)) buf = ap (λ k. drop k (drop at buf)) span ∙ drop-drop n at buf ∙ ap (λ k. drop k buf) end in
      (λ i. take at buf ++ (part i ++ rest i))

pub no_room : (buf piece : List ℕ) (at : ℕ) → length buf ≤ at → (at ≡ at + length (fitting buf at piece)) × (buf ≡ placed buf at (fitting buf at piece))
no_room buf piece at h = let none : length buf - at ≡ 0 = omega arith in rw none (omega arith, sym (rw add-zero (take-append-drop at buf)))

-- a buffer whose first bytes are known, with one piece more
pub record Filled (buf : List ℕ) (at size : ℕ) (known : List ℕ) : Type 0 where
  pub long : length known ≡ at
  pub size_is : length buf ≡ size
  pub front : take at buf ≡ known

pub filled_none : (buf : List ℕ) (size : ℕ) → length buf ≡ size → Filled buf 0 size []
filled_none buf size e = record { long = refl; size_is = e; front = refl }

pub filled_more : (buf known piece : List ℕ) (at size : ℕ) → Filled buf at size known → at + length piece ≤ size → Filled (placed buf at (fitting buf at piece)) (at + length (fitting buf at piece)) size (known ++ piece)
filled_more buf known piece at size f room =
    let whole : take (length buf - at) piece ≡ piece = take_all (length buf - at) piece (omega arith) in
    let rest = drop (at + length piece) buf in
    let front_long : length (take at buf) ≡ at = length-take-le at buf (omega arith) in
    let both_long : length (take at buf ++ piece) ≡ at + length piece = length-append (take at buf) piece ∙ ap (λ k. k + length piece) front_long in
    rw whole (record {
      long = length-append known piece ∙ ap (λ k. k + length piece) f.long;
      size_is = length-append (take at buf) (piece ++ rest) ∙ omega (arith, length-append piece rest, length-drop (at + length piece) buf);
      front = ap (take (at + length piece)) (sym (append_assoc (take at buf) piece rest)) ∙ take_at (take at buf ++ piece) rest (at + length piece) both_long ∙ ap (λ l. l ++ piece) f.front;
    })

-- the same of what a call of `append` left
pub filled-by : {buf buf' known piece : List ℕ} {at r size : ℕ} (text : List ℕ) → piece ≡ text → Filled buf at size known → length known + length text ≤ size → r ≡ at + length (fitting buf at piece) → buf' ≡ placed buf at (fitting buf at piece) → Filled buf' r size (known ++ text)
filled-by {buf} {buf'} {known} {piece} {at} {r} {size} text is f room end bytes =
    let e : length piece ≡ length text = ap length is in
    rw (bytes, end, sym is) (filled_more buf known piece at size f (omega (arith, f.long)))

-- a buffer that is filled to its end
pub filled-all : (buf known : List ℕ) (at size : ℕ) → Filled buf at size known → length known ≡ size → buf ≡ known
filled-all buf known at size f e = sym (take_all at buf (omega (arith, f.long, f.size_is))) ∙ f.front
