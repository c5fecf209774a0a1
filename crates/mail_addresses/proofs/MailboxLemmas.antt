-- Which marks the forms lack, so that a mailbox is cut in one way at its brackets.
use Rattle.std.proofs.Common.{◌≡◌, ◌≢◌, ℕ, true, false, List, [], ◌∷◌, ◌++◌, inl, inr, Option, Some, None, Result, Ok, Err, IfOk, MatchOption, refl, sym, ap, ◌∙◌, subst, arith}
use Rattle.std.specs.List.{list_all, list_any}
use Rattle.std.proofs.lemmas.Bool.{and_parts, or_from, or_left, or_right, both_ways, eq-eqb, eqb-true, ne_eqb, false≢true}
use Rattle.std.proofs.lemmas.List.Folds.{list_any-append}
use Rattle.mail_addresses.specs.declared.address.Address.{Address}
use Rattle.mail_addresses.specs.Lexical.{Lexeme, blanks, comment, atom, quoted, literal, mark, unclosed}
use Rattle.mail_addresses.specs.Forms.{is_gap, is_mark, Lacks, is_part, IsSpec, GivesSpec, IsName, IsDisplayName, IsAngled, IsMailbox}
use Rattle.mail_addresses.specs.Forms.IsName.{one, beside}
use Rattle.mail_addresses.proofs.ListLemmas.{split_unique}
use Rattle.mail_addresses.proofs.FormLemmas.{local_lacks, domain_lacks}

lacks_both : (c : ℕ) (ts us : List Lexeme) → Lacks c ts → Lacks c us → Lacks c (ts ++ us)
lacks_both c ts us h k = list_any-append (is_mark c) ts us ∙ or_from _ _ h k

pub lacks_mark : (c d : ℕ) (ts us : List Lexeme) → c ≢ d → Lacks c ts → Lacks c us → Lacks c (ts ++ mark d ∷ us)
lacks_mark c d ts us n h k = lacks_both c ts (mark d ∷ us) h (or_from _ _ (ne_eqb d c (λ e. n (sym e))) k)

-- a mark that stands there
pub has_mark : (c : ℕ) (ts us : List Lexeme) → list_any (is_mark c) (ts ++ mark c ∷ us) ≡ true
has_mark c ts us = list_any-append (is_mark c) ts (mark c ∷ us) ∙ or_right _ _ (or_left _ _ (eqb-same c))
  where
    eqb-same : (c : ℕ) → is_mark c (mark c) ≡ true
    eqb-same c = eq-eqb c c refl

gap_no_mark : (c : ℕ) (t : Lexeme) → is_gap t ≡ true → is_mark c t ≡ false
gap_no_mark c (blanks run) h = refl
gap_no_mark c (comment inside) h = refl
gap_no_mark c (atom run) h = absurd (false≢true h)
gap_no_mark c (quoted inside) h = absurd (false≢true h)
gap_no_mark c (literal inside) h = absurd (false≢true h)
gap_no_mark c (mark b) h = absurd (false≢true h)
gap_no_mark c (unclosed text) h = absurd (false≢true h)

pub gaps_lack : (c : ℕ) (gs : List Lexeme) → list_all is_gap gs ≡ true → Lacks c gs
gaps_lack c [] h = refl
gaps_lack c (g ∷ gs) h = let parts = and_parts _ _ h in or_from _ _ (gap_no_mark c g parts.0) (gaps_lack c gs parts.1)

spec_lacks : (c : ℕ) (ts : List Lexeme) (n : ℕ) → c ≢ 46 → c ≢ 64 → IsSpec ts n → Lacks c ts
spec_lacks c ts n dot at (inl (h, count)) = local_lacks c ts dot h
spec_lacks c ts n dot at (inr whole) =
    subst (Lacks c) (sym whole.whole) (lacks_mark c 64 whole.local whole.domain at (local_lacks c whole.local dot whole.is_local) (domain_lacks c whole.domain dot whole.has_domain))

pub gives_lacks : (c : ℕ) (ts : List Lexeme) (a : Address) → c ≢ 46 → c ≢ 64 → GivesSpec ts a → Lacks c ts
gives_lacks c ts a dot at gives =
    subst (Lacks c) (sym gives.whole) (lacks_both c gives.before (gives.spec ++ gives.after) (gaps_lack c gives.before gives.gaps_before)
    (lacks_both c gives.spec gives.after (spec_lacks c gives.spec a.local dot at gives.is_spec) (gaps_lack c gives.after gives.gaps_after)))

part_no_mark : (c : ℕ) (t : Lexeme) → c ≢ 46 → is_part t ≡ true → is_mark c t ≡ false
part_no_mark c (mark b) n h = ne_eqb b c (λ e. n (sym e ∙ eqb-true b 46 h))
part_no_mark c (atom run) n h = refl
part_no_mark c (quoted inside) n h = refl
part_no_mark c (blanks run) n h = absurd (false≢true h)
part_no_mark c (comment inside) n h = absurd (false≢true h)
part_no_mark c (literal inside) n h = absurd (false≢true h)
part_no_mark c (unclosed text) n h = absurd (false≢true h)

name_lacks : {ts : List Lexeme} {text : List ℕ} → (c : ℕ) → c ≢ 46 → IsName ts text → Lacks c ts
name_lacks c n (one {t} p) = or_from _ _ (part_no_mark c t n p) refl
name_lacks c n (beside {t} {ts} {text} p rest) = or_from _ _ (part_no_mark c t n p) (name_lacks c n rest)
name_lacks c n (IsName.apart {t} {ts} {text} gaps p some g rest) = or_from _ _ (part_no_mark c t n p) (lacks_both c gaps ts (gaps_lack c gaps g) (name_lacks c n rest))

pub display_lacks : (c : ℕ) (ts : List Lexeme) (text : List ℕ) → c ≢ 46 → IsDisplayName ts text → Lacks c ts
display_lacks c ts text n (inl (gaps, e)) = gaps_lack c ts gaps
display_lacks c ts text n (inr padded) =
    subst (Lacks c) (sym padded.whole) (lacks_both c padded.before (padded.name ++ padded.after) (gaps_lack c padded.before padded.gaps_before)
    (lacks_both c padded.name padded.after (name_lacks c n padded.is_name) (gaps_lack c padded.after padded.gaps_after)))

-- what stands in the brackets and after them
pub record InBrackets (front inside after : List Lexeme) (a : Address) : Type 0 where
  pub named : IsDisplayName front a.name
  pub gives_spec : GivesSpec inside a
  pub gaps_after : list_all is_gap after ≡ true

pub angled_parts : (front back inside after : List Lexeme) (a : Address) → back ≡ inside ++ mark 62 ∷ after → Lacks 62 inside → IsAngled front back a → InBrackets front inside after a
angled_parts front back inside after a e lacks is =
    let parts = split_unique (is_mark 62) inside is.inside after is.after (mark 62) (mark 62) lacks
    (gives_lacks 62 is.inside a (λ z. absurd (omega (arith, z))) (λ z. absurd (omega (arith, z))) is.gives_spec) refl refl (sym e ∙ is.whole) in
    record {
      named = is.named;
      gives_spec = subst (λ (ts : List Lexeme). GivesSpec ts a) (sym parts.0) is.gives_spec;
      gaps_after = ap (list_all is_gap) parts.1 ∙ is.gaps_after;
    }

pub angled_from : (front back inside after : List Lexeme) (a : Address) → back ≡ inside ++ mark 62 ∷ after → InBrackets front inside after a → IsAngled front back a
angled_from front back inside after a e is = record {
  inside = inside;
  after = after;
  whole = e;
  named = is.named;
  gives_spec = is.gives_spec;
  gaps_after = is.gaps_after;
}

-- without a closing bracket there is no address in brackets
pub no_angled : (front back : List Lexeme) (a : Address) → Lacks 62 back → IsAngled front back a → ⊥
no_angled front back a lacks is = both_ways _ lacks (ap (list_any (is_mark 62)) is.whole ∙ has_mark 62 is.inside is.after)

-- a mailbox with a bracket is a name and what follows the first one
pub mailbox_angled : (ts front back : List Lexeme) (a : Address) → ts ≡ front ++ mark 60 ∷ back → Lacks 60 front → IsMailbox ts a → IsAngled front back a
mailbox_angled ts front back a e lacks (inl (gives, unnamed)) =
    absurd (both_ways _ (gives_lacks 60 ts a (λ z. absurd (omega (arith, z))) (λ z. absurd (omega (arith, z))) gives) (ap (list_any (is_mark 60)) e ∙ has_mark 60 front back))
mailbox_angled ts front back a e lacks (inr (first, (rest, whole, is))) =
    let parts = split_unique (is_mark 60) front first back rest (mark 60) (mark 60) lacks (display_lacks 60 first a.name (λ z. absurd (omega (arith, z))) is.named) refl refl (sym e ∙ whole) in
    subst (λ (ts : List Lexeme). IsAngled ts back a) (sym parts.0) (subst (λ (ts : List Lexeme). IsAngled first ts a) (sym parts.1) is)

-- a mailbox without a bracket is a spec
pub mailbox_bare : (ts : List Lexeme) (a : Address) → Lacks 60 ts → IsMailbox ts a → GivesSpec ts a
mailbox_bare ts a lacks (inl (gives, unnamed)) = gives
mailbox_bare ts a lacks (inr (first, (rest, whole, is))) = absurd (both_ways _ lacks (ap (list_any (is_mark 60)) whole ∙ has_mark 60 first rest))

-- a mailbox has no marks but dots, `@` and brackets
pub mailbox_lacks : (c : ℕ) (ts : List Lexeme) (a : Address) → c ≢ 46 → c ≢ 64 → c ≢ 60 → c ≢ 62 → IsMailbox ts a → Lacks c ts
mailbox_lacks c ts a dot at first last (inl (gives, unnamed)) = gives_lacks c ts a dot at gives
mailbox_lacks c ts a dot at first last (inr (front, (back, whole, is))) =
    subst (Lacks c) (sym whole) (lacks_mark c 60 front back first (display_lacks c front a.name dot is.named)
    (subst (Lacks c) (sym is.whole) (lacks_mark c 62 is.inside is.after last (gives_lacks c is.inside a dot at is.gives_spec) (gaps_lack c is.after is.gaps_after))))

-- an answer for one form is an answer for another
pub answers : {E : Type 0} (r : Result (Option Address) E) (Said Asked Form : Address → Type 0) → ((a : Address) → Said a → Form a) → ((a : Address) → Form a → Asked a)
    → IfOk r (λ o. MatchOption o ((a : Address) → Asked a → ⊥) Said) → IfOk r (λ o. MatchOption o ((a : Address) → Form a → ⊥) Form)
answers (Err e) Said Asked Form f g h = tt
answers (Ok None) Said Asked Form f g h = λ a form. h a (g a form)
answers (Ok (Some a)) Said Asked Form f g h = f a h

pub at_none : {A : Type 0} (o : Option A) (P : Type 0) (Q : A → Type 0) → o ≡ None → MatchOption o P Q → P
at_none None P Q e h = h
at_none (Some x) P Q e h = absurd (cc)

pub at_some : {A : Type 0} (o : Option A) (x : A) (P : Type 0) (Q : A → Type 0) → o ≡ Some x → MatchOption o P Q → Q x
at_some None x P Q e h = absurd (cc)
at_some (Some y) x P Q e h = let same : y ≡ x = cc in subst Q same h
