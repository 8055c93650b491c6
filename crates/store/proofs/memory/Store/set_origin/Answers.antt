use Rattle.std.proofs.Common.{[], unwrap_or, length, ◌∙◌, arith}
use Rattle.std.proofs.lemmas.Result.{err_from_is_err_and}
use Rattle.std.specs.Option.{option_map}
use Rattle.text.specs.Texts.{lawful}
use Rattle.store.specs.Contents.{with_origin, origin_answer, after_origin}
use Rattle.store.specs.Layout.{contents}
use Rattle.store.specs.Stores.{held}
use Rattle.store.specs.Uses.{in_use, room}
use Rattle.store.proofs.Answering.{refused_part, accepted_part}
use Rattle.store.proofs.Heading.{origin-fits, origin_lies}
use Rattle.store.proofs.Holding.{bounds, held-sound, kept}
use Rattle.store.proofs.Laying.{lies_back}
use Rattle.store.proofs.Sounds.{sound-origin}
use Rattle.store.proofs.memory.Store.set_origin.Goals as goal

pub returns-in_err-self-clause-answer : goal.returns-in_err-self-clause-answer
unfolding origin_answer
returns-in_err-self-clause-answer c =
    let s = c.args.self.now in
    let o = option_map (λ x. x.now) c.args.origin in
    let out = refused_part (lawful (unwrap_or o [])) _ (with_origin (held s) o) (held s) (origin-fits s o) (option_map length o) c.set_part.result c.set_part.ensures.answer _ _ _ c.set_part.ensures.items _ c.in_err-self.was in
    let p = err_from_is_err_and c.from_residual.result c.from_residual.ensures.1 in
    rw (p.1, p.2) out.0.answers

pub returns-in_err-self-clause-after : goal.returns-in_err-self-clause-after
unfolding held after_origin
returns-in_err-self-clause-after c =
    let s = c.args.self.now in
    let o = option_map (λ x. x.now) c.args.origin in
    let out = refused_part (lawful (unwrap_or o [])) _ (with_origin (held s) o) (held s) (origin-fits s o) (option_map length o) c.set_part.result c.set_part.ensures.answer _ _ _ c.set_part.ensures.items _ c.in_err-self.was in
    (λ i. contents (in_use s.spans) (out.1 i) (room s.spans) (c.set_part.ensures.room i) s.origin s.ot) ∙ out.0.leaves

pub invariant_of-self-2 : goal.invariant_of-self-2
invariant_of-self-2 c =
    let s = c.args.self.now in
    let o = option_map (λ x. x.now) c.args.origin in
    let b = bounds s in
    let out = accepted_part (lawful (unwrap_or o [])) _ (with_origin (held s) o) (held s) (origin-fits s o) (option_map length o) c.set_part.result c.set_part.ensures.answer _ _ _ c.set_part.ensures.items _ c.in_ok-self.was in
    kept s.spans c.set_part.new.text (origin_lies s o (in_use c.set_part.new.text) c.in_ok-self.field-0 (room c.set_part.new.text) c.set_part.ensures.room out.2 out.1) (sound-origin (held s) (held-sound s) o out.3)
    (s.small.0, omega (arith, c.set_part.ensures.room))

pub returns-clause-answer : goal.returns-clause-answer
unfolding origin_answer
returns-clause-answer c =
    let s = c.args.self.now in
    let o = option_map (λ x. x.now) c.args.origin in
    let out = accepted_part (lawful (unwrap_or o [])) _ (with_origin (held s) o) (held s) (origin-fits s o) (option_map length o) c.set_part.result c.set_part.ensures.answer _ _ _ c.set_part.ensures.items _ c.in_ok-self.was in
    out.0.answers

pub returns-clause-after : goal.returns-clause-after
unfolding held after_origin
returns-clause-after c =
    let s = c.args.self.now in
    let o = option_map (λ x. x.now) c.args.origin in
    let out = accepted_part (lawful (unwrap_or o [])) _ (with_origin (held s) o) (held s) (origin-fits s o) (option_map length o) c.set_part.result c.set_part.ensures.answer _ _ _ c.set_part.ensures.items _ c.in_ok-self.was in
    lies_back (origin_lies s o (in_use c.set_part.new.text) c.in_ok-self.field-0 (room c.set_part.new.text) c.set_part.ensures.room out.2 out.1) ∙ out.0.leaves
