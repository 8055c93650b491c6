-- What a traceparent says. Assumes nothing.
use Rattle.std.specs.Prelude.{ℕ, ◌%◌, cond, ◌&&◌, List, length, pos, is_some, Some, None, Ok, Err, codes, Option, Result, ◌==◌}
use Rattle.std.specs.Option.{option_map}
use Rattle.std.specs.Str.{bytes_eq}
use Rattle.number.specs.Numbers.{hex_number}
use Rattle.text.specs.Takes.{taken_char, taken_hex}
use Rattle.text.specs.Trims.{trimmed}
use Rattle.trace.specs.Traces.{is_zero}
use Rattle.trace.specs.declared.priority.SamplingPriority.{SamplingPriority}
use Rattle.traceparent.specs.declared.read.Components.{Components}
use Rattle.traceparent.specs.declared.read.Traceparent.{Traceparent}
use Rattle.traceparent.specs.declared.read.TraceparentFault.{TraceparentFault}
use Rattle.traceparent.specs.declared.read.TraceparentFault.TheVariants.{Shape, ZeroTraceId, ZeroSpanId, VersionFf, TailAfterVersion00}

-- the number of each refusal
abbrev pub number : TraceparentFault → ℕ
number Shape = 2
number ZeroTraceId = 3
number ZeroSpanId = 4
number VersionFf = 5
number TailAfterVersion00 = 6

abbrev pub bind : {X Y : Type 0} → Option X → (X → Option Y) → Option Y
bind None f = None
bind (Some x) f = f x

-- the parts of the text, between the dashes
pub record Fields : Type 0 where
  pub version : List ℕ
  pub high : List ℕ
  pub low : List ℕ
  pub span : List ℕ
  pub flags : List ℕ
  pub tail : Option (List ℕ)

abbrev pub parts : Components → Fields
parts c = record { version = c.version.now; high = c.high.now; low = c.low.now; span = c.span_id.now; flags = c.flags.now; tail = option_map (λ x. x.now) c.tail }

-- after the flags comes the end, or a dash and any tail
abbrev pub taken_tail : List ℕ → Option (Option (List ℕ))
taken_tail s = cond (length s == 0) (Some None) (option_map Some (taken_char 0x2D s))

-- version, trace id, span id and flags, with a dash between them: 2, 32, 16 and 2 digits
abbrev pub components : List ℕ → Option Fields
components s =
    bind (taken_hex 2 s) (λ version. bind (taken_char 0x2D version.1) (λ s₁.
    bind (taken_hex 16 s₁) (λ high. bind (taken_hex 16 high.1) (λ low. bind (taken_char 0x2D low.1) (λ s₂.
    bind (taken_hex 16 s₂) (λ span. bind (taken_char 0x2D span.1) (λ s₃.
    bind (taken_hex 2 s₃) (λ flags. bind (taken_tail flags.1) (λ tail.
    Some (record { version = version.0; high = high.0; low = low.0; span = span.0; flags = flags.0; tail = tail }))))))))))

-- bit 0 of the flags: keep or reject
abbrev pub sampled : ℕ → SamplingPriority
sampled flags = cond (flags % 2 == 1) (record { value = pos 1 }) (record { value = pos 0 })

-- what the parts say, if they write numbers
abbrev pub said : Fields → Option Traceparent
said f =
    bind (hex_number 16 f.high) (λ high. bind (hex_number 16 f.low) (λ low. bind (hex_number 16 f.span) (λ span. bind (hex_number 2 f.flags) (λ flags.
    Some (record { trace_id = record { high = high; low = low }; span_id = span; sampling_priority = sampled flags })))))

-- the refusals in their order
abbrev pub judged : Fields → Traceparent → Result Traceparent TraceparentFault
judged f t =
    cond (is_zero t.trace_id) (Err ZeroTraceId)
    (cond (t.span_id == 0) (Err ZeroSpanId)
    (cond (bytes_eq f.version (codes "ff")) (Err VersionFf)
    (cond (bytes_eq f.version (codes "00") && is_some f.tail) (Err TailAfterVersion00)
    (Ok t))))

abbrev pub judged_if : Fields → Option Traceparent → Result Traceparent TraceparentFault
judged_if f None = Err Shape
judged_if f (Some t) = judged f t

abbrev pub read_from : Option Fields → Result Traceparent TraceparentFault
read_from None = Err Shape
read_from (Some f) = judged_if f (said f)

-- what the text says, or why it is refused
abbrev pub read_traceparent : List ℕ → Result Traceparent TraceparentFault
read_traceparent s = read_from (components s)

-- what a header's value says: blanks off, then as above
unfoldable pub header_traceparent : List ℕ → Result Traceparent TraceparentFault
header_traceparent value = read_traceparent (trimmed value)
