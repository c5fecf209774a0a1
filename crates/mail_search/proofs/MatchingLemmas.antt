-- What the steps of a criterion come to, carried out on what is known of each key.
use Rattle.std.proofs.Common.{◌≡◌, Bool, true, false, not, ◌||◌, ◌&&◌, cond, ℕ, List, [], ◌∷◌, map, Option, Some, None, MatchOption, refl, sym, ap, ◌∙◌}
use Rattle.std.specs.List.{filter_map, cons_option, list_any}
use Rattle.std.proofs.lemmas.Bool.{cond-true, cond-false}
use Rattle.std.proofs.Common.{Bor}
use Rattle.mail_text.specs.Ascii.{same_ascii}
use Rattle.mail_headers.specs.Field.{Field}
use Rattle.mail_headers.specs.Header.{Entry, field_in}
use Rattle.mail_search.specs.declared.criterion.Facts.{Facts}
use Rattle.mail_search.specs.declared.criterion.Step.TheVariants.{Not, Or, Both}
use Rattle.mail_search.specs.declared.criterion.Step.TheVariants as step
use Rattle.mail_search.specs.declared.criterion.Test.{Test}
use Rattle.mail_search.specs.declared.matching.Held.{Held}
use Rattle.mail_search.specs.declared.matching.Held.TheVariants.{Known, Open}
use Rattle.mail_search.specs.Entries.{is_holding, holding_in}
use Rattle.mail_search.specs.Keys.{Key}
use Rattle.mail_search.specs.Known.{known, known_or, IsKnown}
use Rattle.mail_search.specs.Meaning.{passes, key_holds}
use Rattle.mail_search.specs.Steps.{with_step, last_key}

abbrev known_of : List ℕ → Facts → List Held → List Bool
known_of text facts held = map (known text facts) held

abbrev held_of : List ℕ → Facts → List Key → List Bool
held_of text facts keys = map (key_holds text facts) keys

pub known-test : (text : List ℕ) (facts : Facts) (keys : List Key) (old new : List Held) (t : Bor Test) → new ≡ Open t ∷ old
    → IsKnown text facts old keys → IsKnown text facts new (with_step keys (step.Test t.now))
unfolding key_holds
known-test text facts keys old new t n e = ap (known_of text facts) n ∙ ap (λ (l : List Bool). passes text facts t.now ∷ l) e

-- no keys where nothing is known, and the first of them where something is
no_keys : (text : List ℕ) (facts : Facts) (keys : List Key) (old : List Held) → old ≡ [] → IsKnown text facts old keys → keys ≡ []
no_keys text facts [] old o e = refl
no_keys text facts (k ∷ ks) old o e = let f : [] ≡ held_of text facts (k ∷ ks) = sym (ap (known_of text facts) o) ∙ e in cc

record IsFirst (text : List ℕ) (facts : Facts) (k : Key) (ks : List Key) (h : Held) (rest : List Held) : Type 0 where
  here : known text facts h ≡ key_holds text facts k
  later : IsKnown text facts rest ks

first_known : (text : List ℕ) (facts : Facts) (k : Key) (ks : List Key) (old : List Held) (h : Held) (rest : List Held) → old ≡ h ∷ rest
    → IsKnown text facts old (k ∷ ks) → IsFirst text facts k ks h rest
first_known text facts k ks old h rest o e =
    let f : known text facts h ∷ known_of text facts rest ≡ key_holds text facts k ∷ held_of text facts ks = sym (ap (known_of text facts) o) ∙ e in record { here = cc; later = cc }

nothing_known : (text : List ℕ) (facts : Facts) (old : List Held) (h : Held) (rest : List Held) (A : Type 0) → old ≡ h ∷ rest → IsKnown text facts old [] → A
nothing_known text facts old h rest A o e = let f : known text facts h ∷ known_of text facts rest ≡ [] = sym (ap (known_of text facts) o) ∙ e in cc

something_known : (text : List ℕ) (facts : Facts) (k : Key) (ks : List Key) (old : List Held) (A : Type 0) → old ≡ [] → IsKnown text facts old (k ∷ ks) → A
something_known text facts k ks old A o e = let f : [] ≡ held_of text facts (k ∷ ks) = sym (ap (known_of text facts) o) ∙ e in cc

pub known-not : (text : List ℕ) (facts : Facts) (keys : List Key) (old rest new : List Held) (h : Held) (one : Bool) → old ≡ h ∷ rest → one ≡ known text facts h → new ≡ Known (not one) ∷ rest
    → IsKnown text facts old keys → IsKnown text facts new (with_step keys Not)
unfolding key_holds
known-not text facts [] old rest new h one o a n e = nothing_known text facts old h rest _ o e
known-not text facts (k ∷ ks) old rest new h one o a n e =
    let first = first_known text facts k ks old h rest o e in
    ap (known_of text facts) n ∙ ap (λ (b : Bool). not b ∷ known_of text facts rest) (a ∙ first.here) ∙ ap (λ (l : List Bool). not (key_holds text facts k) ∷ l) first.later

-- a step that needs a key where there is none
pub known-not_none : (text : List ℕ) (facts : Facts) (keys : List Key) (old new : List Held) → old ≡ [] → new ≡ [] → IsKnown text facts old keys → IsKnown text facts new (with_step keys Not)
known-not_none text facts keys old new o n e = ap (known_of text facts) n ∙ ap (λ (ks : List Key). held_of text facts (with_step ks Not)) (sym (no_keys text facts keys old o e))

pub known-or_none : (text : List ℕ) (facts : Facts) (keys : List Key) (old new : List Held) → old ≡ [] → new ≡ [] → IsKnown text facts old keys → IsKnown text facts new (with_step keys Or)
known-or_none text facts keys old new o n e = ap (known_of text facts) n ∙ ap (λ (ks : List Key). held_of text facts (with_step ks Or)) (sym (no_keys text facts keys old o e))

pub known-both_none : (text : List ℕ) (facts : Facts) (keys : List Key) (old new : List Held) → old ≡ [] → new ≡ [] → IsKnown text facts old keys → IsKnown text facts new (with_step keys Both)
known-both_none text facts keys old new o n e = ap (known_of text facts) n ∙ ap (λ (ks : List Key). held_of text facts (with_step ks Both)) (sym (no_keys text facts keys old o e))

-- what a pop found
abbrev pub Pops : List Held → List Held → Option Held → Type 0
Pops old new o = MatchOption o ((old ≡ []) × (new ≡ [])) (λ value. old ≡ value ∷ new)

known-either : (text : List ℕ) (facts : Facts) (first : Bool) (second : Held) → known text facts (cond first (Known true) second) ≡ (first || known text facts second)
known-either text facts true second = refl
known-either text facts false second = refl

known-both : (text : List ℕ) (facts : Facts) (first : Bool) (second : Held) → known text facts (cond first second (Known false)) ≡ (first && known text facts second)
known-both text facts true second = refl
known-both text facts false second = refl

pub known-or : (text : List ℕ) (facts : Facts) (keys : List Key) (old middle rest new : List Held) (second : Held) (found : Option Held)
    (first : Bool) → old ≡ second ∷ middle → Pops middle rest found → first ≡ known_or text facts false found
    → new ≡ cond first (Known true) second ∷ rest → IsKnown text facts old keys → IsKnown text facts new (with_step keys Or)
unfolding key_holds
known-or text facts [] old middle rest new second found first o pops a n e = nothing_known text facts old second middle _ o e
known-or text facts (b ∷ []) old middle rest new second None first o pops a n e =
    let last = first_known text facts b [] old second middle o e in
    ap (known_of text facts) n ∙ ap (λ (x : Bool). x ∷ known_of text facts rest) (known-either text facts first second ∙ ap (λ (x : Bool). x || known text facts second) a ∙ last.here)
    ∙ ap (λ (l : List Held). key_holds text facts b ∷ known_of text facts l) pops.1
known-or text facts (b ∷ []) old middle rest new second (Some h) first o pops a n e =
    let last = first_known text facts b [] old second middle o e in nothing_known text facts middle h rest _ pops last.later
known-or text facts (b ∷ k ∷ ks) old middle rest new second None first o pops a n e =
    let last = first_known text facts b (k ∷ ks) old second middle o e in something_known text facts k ks middle _ pops.0 last.later
known-or text facts (b ∷ k ∷ ks) old middle rest new second (Some h) first o pops a n e =
    let last = first_known text facts b (k ∷ ks) old second middle o e in
    let next = first_known text facts k ks middle h rest pops last.later in
    ap (known_of text facts) n ∙ ap (λ (x : Bool). x ∷ known_of text facts rest)
    (known-either text facts first second ∙ ap (λ (x : Bool). x || known text facts second) (a ∙ next.here) ∙ ap (λ (x : Bool). key_holds text facts k || x) last.here)
    ∙ ap (λ (l : List Bool). (key_holds text facts k || key_holds text facts b) ∷ l) next.later

pub known-and : (text : List ℕ) (facts : Facts) (keys : List Key) (old middle rest new : List Held) (second : Held) (found : Option Held)
    (first : Bool) → old ≡ second ∷ middle → Pops middle rest found → first ≡ known_or text facts true found
    → new ≡ cond first second (Known false) ∷ rest → IsKnown text facts old keys → IsKnown text facts new (with_step keys Both)
unfolding key_holds
known-and text facts [] old middle rest new second found first o pops a n e = nothing_known text facts old second middle _ o e
known-and text facts (b ∷ []) old middle rest new second None first o pops a n e =
    let last = first_known text facts b [] old second middle o e in
    ap (known_of text facts) n ∙ ap (λ (x : Bool). x ∷ known_of text facts rest) (known-both text facts first second ∙ ap (λ (x : Bool). x && known text facts second) a ∙ last.here)
    ∙ ap (λ (l : List Held). key_holds text facts b ∷ known_of text facts l) pops.1
known-and text facts (b ∷ []) old middle rest new second (Some h) first o pops a n e =
    let last = first_known text facts b [] old second middle o e in nothing_known text facts middle h rest _ pops last.later
known-and text facts (b ∷ k ∷ ks) old middle rest new second None first o pops a n e =
    let last = first_known text facts b (k ∷ ks) old second middle o e in something_known text facts k ks middle _ pops.0 last.later
known-and text facts (b ∷ k ∷ ks) old middle rest new second (Some h) first o pops a n e =
    let last = first_known text facts b (k ∷ ks) old second middle o e in
    let next = first_known text facts k ks middle h rest pops last.later in
    ap (known_of text facts) n ∙ ap (λ (x : Bool). x ∷ known_of text facts rest)
    (known-both text facts first second ∙ ap (λ (x : Bool). x && known text facts second) (a ∙ next.here) ∙ ap (λ (x : Bool). key_holds text facts k && x) last.here)
    ∙ ap (λ (l : List Bool). (key_holds text facts k && key_holds text facts b) ∷ l) next.later

-- what the last pop found
pub known-last : (text : List ℕ) (facts : Facts) (keys : List Key) (old new : List Held) (top : Option Held) → Pops old new top
    → IsKnown text facts old keys → known_or text facts true top ≡ key_holds text facts (last_key keys)
unfolding key_holds
known-last text facts [] old new None pops e = refl
known-last text facts [] old new (Some h) pops e = nothing_known text facts old h new _ pops e
known-last text facts (k ∷ ks) old new None pops e = something_known text facts k ks old _ pops.0 e
known-last text facts (k ∷ ks) old new (Some h) pops e = (first_known text facts k ks old h new pops e).here

-- whether some field among entries holds the string, the first perhaps a field
abbrev with_field : List ℕ → List ℕ → List Entry → Option Field → Bool
with_field name string es o = list_any (is_holding name string) (cons_option o (filter_map field_in es))

-- an entry that is no field, a field that doesn't hold the string, and one that does
pub holding-other : (name string : List ℕ) (e : Entry) (es : List Entry) → field_in e ≡ None → holding_in name string (e ∷ es) ≡ holding_in name string es
holding-other name string e es is = ap (with_field name string es) is

pub holding-not : (name string : List ℕ) (e : Entry) (es : List Entry) (f : Field) → field_in e ≡ Some f → is_holding name string f ≡ false
    → holding_in name string (e ∷ es) ≡ holding_in name string es
holding-not name string e es f is not = ap (with_field name string es) is ∙ ap (λ (b : Bool). b || holding_in name string es) not

pub holding-here : (name string : List ℕ) (e : Entry) (es : List Entry) (f : Field) → field_in e ≡ Some f → is_holding name string f ≡ true → holding_in name string (e ∷ es) ≡ true
holding-here name string e es f is here = ap (with_field name string es) is ∙ ap (λ (b : Bool). b || holding_in name string es) here
