use Rattle.std.proofs.Common.{ap, ◌∙◌}
use Rattle.number.specs.Numbers.{hex_text}
use Rattle.text.specs.Appends.{placed}
use Rattle.traceparent.proofs.Writing.{dashes, flags_written, version_written, written}
use Rattle.traceparent.proofs.write.traceparent_text.Goals as goal

pub returns : goal.returns
returns c =
    let high = hex_text 16 c.args.trace_id.high in
    let low = hex_text 16 c.args.trace_id.low in
    let span = hex_text 16 c.args.span_id in
    let o₁ = c.put_hex.ensures ∙ ap (placed (dashes 55) 0) version_written in
    let o₂ = c.put_hex-2.ensures ∙ ap (λ o. placed o 3 high) o₁ in
    let o₃ = c.put_hex-3.ensures ∙ ap (λ o. placed o 19 low) o₂ in
    let o₄ = c.put_hex-4.ensures ∙ ap (λ o. placed o 36 span) o₃ in
    let flags = ap (hex_text 2) c.from.ensures ∙ flags_written c.args.keep in
    c.put_hex-5.ensures ∙ (λ i. placed (o₄ i) 53 (flags i)) ∙ written c.args.trace_id c.args.span_id c.args.keep
