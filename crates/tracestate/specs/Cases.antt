-- The examples of docs/HEADERS.md on tracestate lists, of the definitions. Assumes nothing.
use Rattle.std.specs.Prelude.{◌≡◌, [], ◌∷◌, Some, None, codes}
use Rattle.tracestate.specs.Items.{heard, items, tags}
use Rattle.tracestate.specs.Lists.{tracestate, read_tracestate}
use Rattle.tracestate.specs.Members.{pair}

pub record Cases : Type 0 where
  -- empty pieces and blanks
  pub two_members : tracestate (codes ",a=1 , b=2,") ≡ Some (pair (codes "a", codes "1") ∷ pair (codes "b", codes "2") ∷ [])
  pub no_members : tracestate (codes " ,, ") ≡ Some []
  -- one unlawful piece drops them all
  pub empty_key : tracestate (codes "=x") ≡ None
  pub no_equals : tracestate (codes "a=1,b") ≡ None
  pub no_value : tracestate (codes "a=") ≡ None
  pub second_equals : tracestate (codes "a=1=2") ≡ None
  -- the part after `@` has up to 14 bytes
  pub fourteen : tracestate (codes "a@bcdefghijklmno=1") ≡ Some (pair (codes "a@bcdefghijklmno", codes "1") ∷ [])
  pub fifteen : tracestate (codes "a@bcdefghijklmnop=1") ≡ None
  -- of two values of a key the last counts
  pub last_counts : read_tracestate (codes "dd=s:1,ot=x,dd=s:2") ≡ Some (record { dd = Some (codes "s:2"); ot = Some (codes "x") })
  -- a later item replaces one of the same key, and stands in its own place
  pub later_item : heard (items (codes "s:1;o:a;s:2;x")) ≡ record { priority = Some (codes "2"); origin = Some (codes "a"); parent = None }
  pub later_tag : tags (items (codes "t.a:1;t.b:2;t.a:3;p:4")) ≡ pair (codes "b", codes "2") ∷ pair (codes "a", codes "3") ∷ []
