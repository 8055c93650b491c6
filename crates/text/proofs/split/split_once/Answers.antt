use Rattle.std.proofs.Common.{◌+◌, take, drop, Some, sym, ap, ◌∙◌, rules}
use Rattle.std.proofs.lemmas.List.{take_rest}
use Rattle.std.specs.Option.{option_map}
use Rattle.text.proofs.Cuts.{split-position}
use Rattle.text.proofs.split.split_once.Goals as goal

pub returns-in_err-at : goal.returns-in_err-at
returns-in_err-at c = let e = split-position c.args.c c.args.s.now in search rules

pub returns : goal.returns
returns c =
    let s = c.args.s.now in
    let at = c.in_ok-at.at in
    (λ i. Some (take at s, take_rest s (at + 1) i))
    ∙ sym (split-position c.args.c s ∙ ap (option_map (λ n. (take n s, drop (n + 1) s))) (sym c.place_of.ensures ∙ c.in_ok-at.was))
