-- A written traceparent, read. Assumes nothing.
use Rattle.std.proofs.Common.{◌≡◌, ℕ, ◌^◌, ◌<◌, Bool, true, false, cond, List, [], ◌++◌, reverse, pos, Some, Ok, codes, Result, sym, refl, ap, ◌∙◌, append_assoc, arith}
use mathlib.Core.List.{reverse-append}
use Rattle.std.proofs.lemmas.List.{append-nil}
use Rattle.std.proofs.lemmas.Bool.{ne_eqb}
use Rattle.byte_classes.specs.Sets.{blank, digit, hex}
use Rattle.number.proofs.HexText.{length-hex_text, hex_form}
use Rattle.number.proofs.ReadBack.{hexes_read_back}
use Rattle.number.specs.Numbers.{digit_value, numeral, hex_number, hex_text}
use Rattle.text.proofs.Trimming.{trim_only}
use Rattle.text.specs.Laws.{Trims, bare}
use Rattle.text.specs.Takes.{taken_hex}
use Rattle.text.specs.Trims.{trimmed}
use Rattle.trace.specs.Traces.{is_zero, keeps}
use Rattle.trace.specs.declared.ids.TraceId.{TraceId}
use Rattle.traceparent.specs.Laws.{HeaderReadsBack, WrittenReadsBack}
use Rattle.traceparent.proofs.Shapes.{taken_hex_lem}
use Rattle.traceparent.specs.Reads.{header_traceparent, read_traceparent, sampled}
use Rattle.traceparent.specs.Writes.{flags_text, traceparent_text}
use Rattle.traceparent.specs.declared.read.Traceparent.{Traceparent}
use Rattle.traceparent.specs.declared.read.TraceparentFault.{TraceparentFault}

taken-hex_text : (n : ℕ) (rest : List ℕ) → taken_hex 16 (hex_text 16 n ++ rest) ≡ Some (hex_text 16 n, rest)
taken-hex_text n rest = taken_hex_lem 16 (hex_text 16 n) rest (length-hex_text 16 n) (hex_form 16 n).1

flags-taken : (keep : Bool) → taken_hex 2 (flags_text keep) ≡ Some (flags_text keep, [])
unfolding taken_hex hex
flags-taken true = refl
flags-taken false = refl

flags-number : (keep : Bool) → hex_number 2 (flags_text keep) ≡ Some (cond keep 1 0)
unfolding hex_number numeral digit_value hex digit
flags-number true = refl
flags-number false = refl

version-taken : (rest : List ℕ) → taken_hex 2 (codes "00-" ++ rest) ≡ Some (codes "00", codes "-" ++ rest)
unfolding hex
version-taken rest = taken_hex_lem 2 (codes "00") (codes "-" ++ rest) refl refl

number_read : (n : ℕ) → n < 2 ^ 64 → hex_number 16 (hex_text 16 n) ≡ Some n
number_read n h = hexes_read_back 16 n (omega arith) h h

module _ (id : TraceId) (span : ℕ) (high : id.high < 2 ^ 64) (low : id.low < 2 ^ 64) (small : span < 2 ^ 64) (some_id : is_zero id ≡ false) (some_span : span ≡ 0 → ⊥) where
  -- what follows each part
  abbrev after-span : Bool → List ℕ
  after-span keep = codes "-" ++ flags_text keep

  abbrev after-low : Bool → List ℕ
  after-low keep = codes "-" ++ (hex_text 16 span ++ after-span keep)

  abbrev after-high : Bool → List ℕ
  after-high keep = hex_text 16 id.low ++ after-low keep

  abbrev told : Bool → Traceparent
  told keep = record { trace_id = id; span_id = span; sampling_priority = record { value = cond keep (pos 1) (pos 0) } }

  bit : (keep : Bool) → ◌≡◌ {A = Result Traceparent TraceparentFault} (Ok (record { trace_id = id; span_id = span; sampling_priority = sampled (cond keep 1 0) })) (Ok (told keep))
  bit true = refl
  bit false = refl

  accepted : (keep : Bool) → read_traceparent (traceparent_text id span keep) ≡ Ok (told keep)
  unfolding traceparent_text
  accepted keep =
      rw (version-taken (hex_text 16 id.high ++ after-high keep), taken-hex_text id.high (after-high keep), taken-hex_text id.low (after-low keep), taken-hex_text span (after-span keep), flags-taken keep)
      (rw (number_read id.high high, number_read id.low low, number_read span small, flags-number keep) (rw (some_id, ne_eqb span 0 some_span) (bit keep)))

same_keep : (keep : Bool) → keeps (cond keep (pos 1) (pos 0)) ≡ keep
same_keep true = refl
same_keep false = refl

pub written_reads_back : WrittenReadsBack
written_reads_back id span keep high low small some_id some_span =
    record { read = told id span high low small some_id some_span keep; accepted = accepted id span high low small some_id some_span keep; same_trace = refl; same_span = refl; same_keep = same_keep keep }

-- a written text, parted before its flags
abbrev before_flags : TraceId → ℕ → List ℕ
before_flags id span = codes "00-" ++ (hex_text 16 id.high ++ (hex_text 16 id.low ++ (codes "-" ++ (hex_text 16 span ++ codes "-"))))

regroup : (a b c d e f g : List ℕ) → a ++ (b ++ (c ++ (d ++ (e ++ (f ++ g))))) ≡ (a ++ (b ++ (c ++ (d ++ (e ++ f))))) ++ g
regroup a b c d e f g = simp append_assoc

flags_last : (id : TraceId) (span : ℕ) (keep : Bool) → traceparent_text id span keep ≡ before_flags id span ++ flags_text keep
unfolding traceparent_text
flags_last id span keep = regroup (codes "00-") (hex_text 16 id.high) (hex_text 16 id.low) (codes "-") (hex_text 16 span) (codes "-") (flags_text keep)

ends_visible : (front : List ℕ) (keep : Bool) → bare blank (reverse (front ++ flags_text keep)) ≡ true
unfolding blank
ends_visible front true = ap (bare blank) (reverse-append front (codes "01"))
ends_visible front false = ap (bare blank) (reverse-append front (codes "00"))

-- it has no blanks to take off
written_bare : (id : TraceId) (span : ℕ) (keep : Bool) → Trims (traceparent_text id span keep) (traceparent_text id span keep)
unfolding traceparent_text blank
written_bare id span keep = record {
  front = [];
  back = [];
  whole = sym (append-nil (traceparent_text id span keep));
  front_blank = refl;
  back_blank = refl;
  starts_bare = refl;
  ends_bare = ap (λ (t : List ℕ). bare blank (reverse t)) (flags_last id span keep) ∙ ends_visible (before_flags id span) keep;
}

pub written_untrimmed : (id : TraceId) (span : ℕ) (keep : Bool) → trimmed (traceparent_text id span keep) ≡ traceparent_text id span keep
written_untrimmed id span keep = sym (trim_only (traceparent_text id span keep) (traceparent_text id span keep) (written_bare id span keep))

-- so what a header's value says is what the text says
pub header_reads_back : HeaderReadsBack
unfolding header_traceparent
header_reads_back id span keep = ap read_traceparent (written_untrimmed id span keep)
