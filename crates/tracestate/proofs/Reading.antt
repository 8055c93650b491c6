-- Pieces read one after the other, and what they say together. Assumes nothing.
use Rattle.std.proofs.Common.{◌≡◌, ℕ, Bool, true, false, cond, eqb, List, [], ◌∷◌, length, take, Some, None, codes, Option, refl, ap, ◌∙◌}
use Rattle.std.specs.Option.{option_map}
use Rattle.text.specs.Splits.{pieces}
use Rattle.text.specs.Trims.{trimmed}
use Rattle.tracestate.specs.Lists.{with_member, members_of, tracestate, counting, Found, found, seen, read_piece, read_tracestate}
use Rattle.tracestate.specs.Members.{Pair, member_of, newer, value_at}
use Rattle.tracestate.proofs.Folds.{bind, fold_while}

abbrev pub nothing : Found
nothing = record { dd = None; ot = None }

pub newer_assoc : (a b c : Option (List ℕ)) → newer a (newer b c) ≡ newer (newer a b) c
newer_assoc None b c = refl
newer_assoc (Some v) b c = refl

pub newer_none : (a : Option (List ℕ)) → newer a None ≡ a
newer_none None = refl
newer_none (Some v) = refl

-- what members say, after what was found before them
abbrev after : Found → List Pair → Found
after f ms = record { dd = newer (counting (codes "dd") ms) f.dd; ot = newer (counting (codes "ot") ms) f.ot }

abbrev both : Option (List ℕ) → Option (List ℕ) → Found
both d o = record { dd = d; ot = o }

after-seen : (f : Found) (m : Pair) (ms : List Pair) → after (seen f m) ms ≡ after f (m ∷ ms)
unfolding counting
after-seen f m ms = λ i. both (newer_assoc (counting (codes "dd") ms) (value_at (codes "dd") m) f.dd i) (newer_assoc (counting (codes "ot") ms) (value_at (codes "ot") m) f.ot i)

after_none : (ms : List Pair) → after nothing ms ≡ found ms
after_none ms = λ i. both (newer_none (counting (codes "dd") ms) i) (newer_none (counting (codes "ot") ms) i)

-- a piece that is not empty
one_more : (f : Found) (m : Option Pair) (ps : List (List ℕ)) (ms : Option (List Pair)) → ((g : Found) → fold_while read_piece g ps ≡ option_map (after g) ms) → bind (option_map (seen f) m) (λ g. fold_while read_piece g ps) ≡ option_map (after f) (with_member m ms)
one_more f None ps ms e = refl
one_more f (Some m) ps None e = e (seen f m)
one_more f (Some m) ps (Some ms) e = e (seen f m) ∙ ap Some (after-seen f m ms)

more : (t : Bool) (f : Found) (m : Option Pair) (ps : List (List ℕ)) (ms : Option (List Pair)) → ((g : Found) → fold_while read_piece g ps ≡ option_map (after g) ms) → bind (cond t (Some f) (option_map (seen f) m)) (λ g. fold_while read_piece g ps) ≡ option_map (after f) (cond t ms (with_member m ms))
more true f m ps ms e = e f
more false f m ps ms e = one_more f m ps ms e

reads : (ps : List (List ℕ)) (f : Found) → fold_while read_piece f ps ≡ option_map (after f) (members_of ps)
unfolding counting
reads [] f = refl
reads (p ∷ ps) f = more (eqb (length (trimmed p)) 0) f (member_of (trimmed p)) ps (members_of ps) (reads ps)

mapped_same : {X : Type 0} (f g : X → Found) (o : Option X) → ((x : X) → f x ≡ g x) → option_map f o ≡ option_map g o
mapped_same f g None e = refl
mapped_same f g (Some x) e = ap Some (e x)

pub reads_all : (s : List ℕ) → fold_while read_piece nothing (take 32 (pieces 0x2C s)) ≡ read_tracestate s
unfolding tracestate
reads_all s = reads (take 32 (pieces 0x2C s)) nothing ∙ mapped_same (after nothing) found (tracestate s) after_none
