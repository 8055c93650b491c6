-- What an accepted traceparent tells. Assumes nothing.
use Rattle.std.proofs.Common.{◌≡◌, ℕ, ◌%◌, ◌^◌, ◌<◌, Bool, true, false, cond, ◌&&◌, eqb, ◌⊎◌, pos, is_some, Some, None, Ok, Err, codes, Option, Result, refl, subst, inl, inr, arith}
use Rattle.std.proofs.lemmas.Bool.{eq-eqb, both_ways}
use Rattle.std.specs.Str.{bytes_eq}
use Rattle.number.proofs.Ranges.{hex-fits}
use Rattle.number.specs.Numbers.{hex_number}
use Rattle.trace.specs.Traces.{is_zero, level}
use Rattle.traceparent.specs.Laws.{Tells, ReadTells}
use Rattle.traceparent.specs.Reads.{Fields, bind, components, judged, judged_if, read_from, said, sampled}
use Rattle.traceparent.specs.declared.read.Traceparent.{Traceparent}
use Rattle.traceparent.specs.declared.read.TraceparentFault.{TraceparentFault}

-- a chain that gives something gave something at its first link
bind-some : {X Y : Type 0} (o : Option X) (f : X → Option Y) (y : Y) → bind o f ≡ Some y → (x : X) × (o ≡ Some x) × (f x ≡ Some y)
bind-some None f y e = let z : ◌≡◌ {A = ℕ} 0 1 = cc in absurd (omega arith)
bind-some (Some x) f y e = (x, refl, e)

-- a refusal that was passed
passed : (b : Bool) (f : TraceparentFault) (r : Result Traceparent TraceparentFault) (t : Traceparent) → cond b (Err f) r ≡ Ok t → (b ≡ false) × (r ≡ Ok t)
passed true f r t e = let z : ◌≡◌ {A = ℕ} 0 1 = cc in absurd (omega arith)
passed false f r t e = (refl, e)

bit : (flags : ℕ) → (level (sampled flags) ≡ pos 0) ⊎ (level (sampled flags) ≡ pos 1)
bit flags = by (eqb (flags % 2) 1) where
  by : (b : Bool) → (level (cond b (record { value = pos 1 }) (record { value = pos 0 })) ≡ pos 0) ⊎ (level (cond b (record { value = pos 1 }) (record { value = pos 0 })) ≡ pos 1)
  by true = inr refl
  by false = inl refl

pub record Sized (t : Traceparent) : Type 0 where
  pub high : t.trace_id.high < 2 ^ 64
  pub low : t.trace_id.low < 2 ^ 64
  pub span : t.span_id < 2 ^ 64
  pub priority : (level t.sampling_priority ≡ pos 0) ⊎ (level t.sampling_priority ≡ pos 1)

sized : (f : Fields) (t : Traceparent) → said f ≡ Some t → Sized t
sized f t e =
    let a = bind-some (hex_number 16 f.high) _ t e in
    let b = bind-some (hex_number 16 f.low) _ t a.2 in
    let c = bind-some (hex_number 16 f.span) _ t b.2 in
    let d = bind-some (hex_number 2 f.flags) _ t c.2 in
    let read : Traceparent = record { trace_id = record { high = a.0; low = b.0 }; span_id = c.0; sampling_priority = sampled d.0 } in
    let last : ◌≡◌ {A = Option Traceparent} (Some read) (Some t) = d.2 in
    let is : ◌≡◌ {A = Traceparent} read t = cc in
    subst Sized is (record { high = hex-fits 16 f.high a.0 a.1; low = hex-fits 16 f.low b.0 b.1; span = hex-fits 16 f.span c.0 c.1; priority = bit d.0 })

judged_tells : (f : Fields) (t u : Traceparent) → Sized t → judged f t ≡ Ok u → Tells u
judged_tells f t u s e =
    let a = passed (is_zero t.trace_id) _ _ u e in
    let b = passed (eqb t.span_id 0) _ _ u a.1 in
    let c = passed (bytes_eq f.version (codes "ff")) _ _ u b.1 in
    let d = passed (bytes_eq f.version (codes "00") && is_some f.tail) _ _ u c.1 in
    let last : ◌≡◌ {A = Result Traceparent TraceparentFault} (Ok t) (Ok u) = d.1 in
    let is : ◌≡◌ {A = Traceparent} t u = cc in
    subst Tells is (record {
      high = s.high;
      low = s.low;
      span = s.span;
      some_trace = a.0;
      some_span = λ z. both_ways (eqb t.span_id 0) b.0 (eq-eqb t.span_id 0 z);
      priority = s.priority;
    })

pub read_tells : ReadTells
read_tells s t e = by (components s) e where
  numbered : (f : Fields) (o : Option Traceparent) → said f ≡ o → judged_if f o ≡ Ok t → Tells t
  numbered f None is g = let z : ◌≡◌ {A = ℕ} 0 1 = cc in absurd (omega arith)
  numbered f (Some n) is g = judged_tells f n t (sized f n is) g

  by : (o : Option Fields) → read_from o ≡ Ok t → Tells t
  by None g = let z : ◌≡◌ {A = ℕ} 0 1 = cc in absurd (omega arith)
  by (Some f) g = numbered f (said f) refl g
