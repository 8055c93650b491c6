-- What a carrier shows once headers are unset and set. Assumes nothing.
use Rattle.std.proofs.Common.{◌≡◌, ℕ, Bool, true, false, cond, ◌||◌, List, [], ◌∷◌, Some, None, Ok, Err, Option, Result, sym, refl, ap, ◌∙◌, arith}
use Rattle.std.proofs.lemmas.Slice.Eq.{bytes_eq-Decides}
use Rattle.std.specs.Str.{bytes_eq}
use Rattle.carrier.specs.Kinds.{Kind}
use Rattle.carrier.specs.Names.{Table}
use Rattle.carrier.specs.Steps.{set_answer, after_set}
use Rattle.carrier.specs.declared.faults.SetFault.{SetFault}
use Rattle.carrier.proofs.Rules.{keeps_the_rules}
use Rattle.fault.specs.Faults.{header_text}
use Rattle.fault.specs.declared.Cause.{Cause}
use Rattle.fault.specs.declared.Header.{Header}
use Rattle.propagation.specs.Settings.{Setting, unset_all, set_all, unless_full, all_or_none}
use Rattle.propagation.specs.Tables.{named, showing, unset_in, set_in, Within, injected_table, AllOrNone}

-- a test that fails, of equal texts
not_same : (n m : List ℕ) → bytes_eq n m ≡ false → m ≡ n → ⊥
not_same n m f e = let t : bytes_eq n m ≡ true = (bytes_eq-Decides n m).1 (sym e) in let z : true ≡ false = sym t ∙ f in let y : ◌≡◌ {A = ℕ} 0 1 = cc in omega arith

-- tables that show the same show the same once a name shows another value
showing-same : (n : List ℕ) (v : Option (List ℕ)) (t u : Table) → ((m : List ℕ) → t m ≡ u m) → (m : List ℕ) → showing n v t m ≡ showing n v u m
showing-same n v t u e m = ap (λ (x : Option (List ℕ)). cond (bytes_eq n m) v x) (e m)

pub unset_in-same : (ns : List Header) (t u : Table) → ((m : List ℕ) → t m ≡ u m) → (m : List ℕ) → unset_in ns t m ≡ unset_in ns u m
unset_in-same [] t u e m = e m
unset_in-same (n ∷ ns) t u e m = unset_in-same ns (showing (header_text n) None t) (showing (header_text n) None u) (showing-same (header_text n) None t u e) m

pub set_in-same : (ss : List Setting) (t u : Table) → ((m : List ℕ) → t m ≡ u m) → (m : List ℕ) → set_in ss t m ≡ set_in ss u m
set_in-same [] t u e m = e m
set_in-same (s ∷ ss) t u e m = set_in-same ss (showing (header_text s.header) (Some s.value) t) (showing (header_text s.header) (Some s.value) u) (showing-same (header_text s.header) (Some s.value) t u e) m

-- a name that is none of the headers shows what it showed
pub unset_in-other : (ns : List Header) (t : Table) (m : List ℕ) → named m ns ≡ false → unset_in ns t m ≡ t m
unset_in-other [] t m f = refl
unset_in-other (n ∷ ns) t m f = by (bytes_eq (header_text n) m) refl f (unset_in-other ns (showing (header_text n) None t) m) where
  by : (b : Bool) → bytes_eq (header_text n) m ≡ b → (b || named m ns) ≡ false
      → (named m ns ≡ false → unset_in ns (showing (header_text n) None t) m ≡ showing (header_text n) None t m) → unset_in ns (showing (header_text n) None t) m ≡ t m
  by true is g later = let y : ◌≡◌ {A = ℕ} 0 1 = cc in absurd (omega arith)
  by false is g later = later g ∙ ap (λ (b : Bool). cond b None (t m)) is

-- one that is shows nothing
pub unset_in-named : (ns : List Header) (t : Table) (m : List ℕ) → named m ns ≡ true → unset_in ns t m ≡ None
unset_in-named [] t m f = let y : ◌≡◌ {A = ℕ} 0 1 = cc in absurd (omega arith)
unset_in-named (n ∷ ns) t m f = by (named m ns) refl (bytes_eq (header_text n) m) refl f (unset_in-named ns (showing (header_text n) None t) m) where
  by : (b : Bool) → named m ns ≡ b → (a : Bool) → bytes_eq (header_text n) m ≡ a → (a || b) ≡ true
      → (named m ns ≡ true → unset_in ns (showing (header_text n) None t) m ≡ None) → unset_in ns (showing (header_text n) None t) m ≡ None
  by true is a at g later = later is
  by false is true at g later = unset_in-other ns (showing (header_text n) None t) m is ∙ ap (λ (b : Bool). cond b None (t m)) at
  by false is false at g later = let y : ◌≡◌ {A = ℕ} 0 1 = cc in absurd (omega arith)

-- a header that is set among others of the form: the name of none of them shows what it showed
pub within-other : (names : List Header) (ss : List Setting) (t : Table) (m : List ℕ) → Within names ss → named m names ≡ false → set_in ss t m ≡ t m
within-other names [] t m w f = refl
within-other names (s ∷ ss) t m w f =
    within-other names ss (showing (header_text s.header) (Some s.value) t) m w.1 f ∙ ap (λ (b : Bool). cond b (Some s.value) (t m)) (apart (bytes_eq (header_text s.header) m) refl) where
      apart : (b : Bool) → bytes_eq (header_text s.header) m ≡ b → bytes_eq (header_text s.header) m ≡ false
      apart true is = let e : named m names ≡ true = ap (λ (n : List ℕ). named n names) (sym ((bytes_eq-Decides (header_text s.header) m).0 is)) ∙ w.0 in let y : ◌≡◌ {A = ℕ} 0 1 = cc in absurd (omega arith)
      apart false is = is

module _ (K : Kind) where
  abbrev once-set : Setting → K.Held → K.Held
  once-set s h = after_set K h (header_text s.header) s.value

  cut-shown : (h : K.Held) (n m : List ℕ) → K.shown (K.cut h n) m ≡ showing n None (K.shown h) m
  cut-shown h n m = by (bytes_eq n m) refl where
    by : (b : Bool) → bytes_eq n m ≡ b → K.shown (K.cut h n) m ≡ cond b None (K.shown h m)
    by true is = ap (λ (x : List ℕ). K.shown (K.cut h x) m) ((bytes_eq-Decides n m).0 is) ∙ K.cut_shows h m
    by false is = K.cut_keeps h n m (not_same n m is)

  -- names that are unset
  pub unset-shown : (ns : List Header) (h : K.Held) (m : List ℕ) → K.shown (unset_all K ns h) m ≡ unset_in ns (K.shown h) m
  unset-shown [] h m = refl
  unset-shown (n ∷ ns) h m =
      unset-shown ns (K.cut h (header_text n)) m ∙ unset_in-same ns (K.shown (K.cut h (header_text n))) (showing (header_text n) None (K.shown h)) (cut-shown h (header_text n)) m

  set-shown : (h : K.Held) (n v m : List ℕ) → set_answer K h n v ≡ Ok tt → K.shown (after_set K h n v) m ≡ showing n (Some v) (K.shown h) m
  set-shown h n v m ok = by (bytes_eq n m) refl where
    by : (b : Bool) → bytes_eq n m ≡ b → K.shown (after_set K h n v) m ≡ cond b (Some v) (K.shown h m)
    by true is = ap (K.shown (after_set K h n v)) (sym ((bytes_eq-Decides n m).0 is)) ∙ (keeps_the_rules K).set_shows h n v ok
    by false is = (keeps_the_rules K).set_keeps h n v m (not_same n m is)

  -- headers that are all set
  pub all_shown : (ss : List Setting) (h : K.Held) (m : List ℕ) → (set_all K ss h).answer ≡ Ok tt → K.shown (set_all K ss h).held m ≡ set_in ss (K.shown h) m
  all_shown [] h m ok = refl
  all_shown (s ∷ ss) h m ok = by (set_answer K h (header_text s.header) s.value) refl ok (all_shown ss (after_set K h (header_text s.header) s.value) m) where
    by : (r : Result (Unit {0}) SetFault) → set_answer K h (header_text s.header) s.value ≡ r → (unless_full K s.header r (once-set s h) (set_all K ss)).answer ≡ Ok tt
        → ((set_all K ss (once-set s h)).answer ≡ Ok tt → K.shown (set_all K ss (once-set s h)).held m ≡ set_in ss (K.shown (once-set s h)) m)
        → K.shown (unless_full K s.header r (once-set s h) (set_all K ss)).held m ≡ set_in ss (showing (header_text s.header) (Some s.value) (K.shown h)) m
    by (Ok _) is good later = later good ∙ set_in-same ss (K.shown (once-set s h)) (showing (header_text s.header) (Some s.value) (K.shown h)) (λ n. set-shown h (header_text s.header) s.value n is) m
    by (Err f) is bad later = let y : ◌≡◌ {A = ℕ} 0 1 = cc in absurd (omega arith)

  -- whatever becomes of the sets, a name of another form shows what it showed
  pub others-shown : (names : List Header) (ss : List Setting) (h : K.Held) (m : List ℕ) → Within names ss → named m names ≡ false → K.shown (set_all K ss h).held m ≡ K.shown h m
  others-shown names [] h m w f = refl
  others-shown names (s ∷ ss) h m w f = by (set_answer K h (header_text s.header) s.value) (others-shown names ss (after_set K h (header_text s.header) s.value) m w.1 f) where
    here : K.shown (once-set s h) m ≡ K.shown h m
    here = (keeps_the_rules K).set_keeps h (header_text s.header) s.value m
        (λ e. let g : named m names ≡ true = ap (λ (n : List ℕ). named n names) e ∙ w.0 in let y : ◌≡◌ {A = ℕ} 0 1 = cc in omega arith)

    by : (r : Result (Unit {0}) SetFault) → K.shown (set_all K ss (once-set s h)).held m ≡ K.shown (once-set s h) m → K.shown (unless_full K s.header r (once-set s h) (set_all K ss)).held m ≡ K.shown h m
    by (Ok _) later = later ∙ here
    by (Err e) later = here

  pub injects : AllOrNone K
  injects names (Some c) ss h w m = unset-shown names h m
  injects names None ss h w m = by (set_all K ss (unset_all K names h)).answer refl where
    refused : (b : Bool) → named m names ≡ b → K.shown (unset_all K names (set_all K ss (unset_all K names h)).held) m ≡ unset_in names (K.shown h) m
    refused true is = unset-shown names (set_all K ss (unset_all K names h)).held m ∙ unset_in-named names (K.shown (set_all K ss (unset_all K names h)).held) m is ∙ sym (unset_in-named names (K.shown h) m is)
    refused false is =
        unset-shown names (set_all K ss (unset_all K names h)).held m ∙ unset_in-other names (K.shown (set_all K ss (unset_all K names h)).held) m is ∙ others-shown names ss (unset_all K names h) m w is ∙ unset-shown names h m

    by : (r : Result (Unit {0}) Cause) → (set_all K ss (unset_all K names h)).answer ≡ r
        → K.shown (all_or_none K names r (set_all K ss (unset_all K names h)).held).held m ≡ injected_table (all_or_none K names r (set_all K ss (unset_all K names h)).held).answer names ss (K.shown h) m
    by (Ok _) is = all_shown ss (unset_all K names h) m is ∙ set_in-same ss (K.shown (unset_all K names h)) (unset_in names (K.shown h)) (unset-shown names h) m
    by (Err c) is = refused (named m names) refl
