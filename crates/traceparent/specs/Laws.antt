-- What a traceparent is, without saying how it is taken apart; and that what is written is read as the same. Assumes nothing.
use Rattle.std.specs.Prelude.{◌≡◌, ℕ, ◌^◌, ◌<◌, Bool, true, false, ◌⊎◌, List, [], ◌++◌, length, pos, Some, None, Ok, codes, Option, ◌≢◌}
use Rattle.byte_classes.specs.Sets.{hex}
use Rattle.std.specs.List.{list_all}
use Rattle.trace.specs.Traces.{is_zero, keeps, level}
use Rattle.trace.specs.declared.ids.TraceId.{TraceId}
use Rattle.traceparent.specs.Reads.{Fields, components, header_traceparent, read_traceparent}
use Rattle.traceparent.specs.Writes.{traceparent_text}
use Rattle.traceparent.specs.declared.read.Traceparent.{Traceparent}

-- the text reads as these ids, and as this keep decision
pub record ReadsAs (s : List ℕ) (id : TraceId) (span : ℕ) (keep : Bool) : Type 0 where
  pub read : Traceparent
  pub accepted : read_traceparent s ≡ Ok read
  pub same_trace : read.trace_id ≡ id
  pub same_span : read.span_id ≡ span
  pub same_keep : keeps (level read.sampling_priority) ≡ keep

abbrev pub WrittenReadsBack : Type 0
WrittenReadsBack =
    (id : TraceId) (span : ℕ) (keep : Bool) → id.high < 2 ^ 64 → id.low < 2 ^ 64 → span < 2 ^ 64 →
    is_zero id ≡ false → (span ≢ 0) → ReadsAs (traceparent_text id span keep) id span keep

-- as a header's value it has no blanks to take off, and is read the same
abbrev pub HeaderReadsBack : Type 0
HeaderReadsBack = (id : TraceId) (span : ℕ) (keep : Bool) → header_traceparent (traceparent_text id span keep) ≡ read_traceparent (traceparent_text id span keep)

abbrev pub WrittenLength : Type 0
WrittenLength = (id : TraceId) (span : ℕ) (keep : Bool) → length (traceparent_text id span keep) ≡ 55

-- what is read: ids of 64 bits, neither of them zero, and the priority 0 or 1
pub record Tells (t : Traceparent) : Type 0 where
  pub high : t.trace_id.high < 2 ^ 64
  pub low : t.trace_id.low < 2 ^ 64
  pub span : t.span_id < 2 ^ 64
  pub some_trace : is_zero t.trace_id ≡ false
  pub some_span : t.span_id ≡ 0 → ⊥
  pub priority : (level t.sampling_priority ≡ pos 0) ⊎ (level t.sampling_priority ≡ pos 1)

abbrev pub ReadTells : Type 0
ReadTells = (s : List ℕ) (t : Traceparent) → read_traceparent s ≡ Ok t → Tells t

-- the text after the flags
abbrev pub tail_text : Option (List ℕ) → List ℕ
tail_text None = []
tail_text (Some t) = codes "-" ++ t

-- so many lower-case hexadecimal digits
pub record Digits (n : ℕ) (t : List ℕ) : Type 0 where
  pub long : length t ≡ n
  pub hexes : list_all hex t ≡ true

-- the shape of a traceparent, and its fields
pub record Shaped (s : List ℕ) (f : Fields) : Type 0 where
  pub whole : s ≡ f.version ++ (codes "-" ++ (f.high ++ (f.low ++ (codes "-" ++ (f.span ++ (codes "-" ++ (f.flags ++ tail_text f.tail)))))))
  pub version : Digits 2 f.version
  pub high : Digits 16 f.high
  pub low : Digits 16 f.low
  pub span : Digits 16 f.span
  pub flags : Digits 2 f.flags

-- a text is taken apart exactly where it has the shape
abbrev pub ShapeIs : Type 0
ShapeIs = (s : List ℕ) (f : Fields) → Shaped s f → components s ≡ Some f

abbrev pub ShapeOnly : Type 0
ShapeOnly = (s : List ℕ) (f : Fields) → components s ≡ Some f → Shaped s f
