-- Which tokens the forms have, and that a spec is cut in one way.
use Rattle.std.proofs.Common.{◌≡◌, ◌≢◌, ℕ, Bool, true, false, List, [], ◌∷◌, ◌++◌, inl, inr, refl, sym, ap, ◌∙◌, length, subst, arith}
use Rattle.std.specs.List.{list_all, list_any}
use Rattle.std.proofs.lemmas.Bool.{and_parts, and_from, or_cases, or_from, or_right, both_ways, eqb-true, ne_eqb, false≢true, not-true, not_from_true}
use Rattle.std.proofs.lemmas.List.Folds.{list_all-append}
use Rattle.mail_addresses.specs.Lexical.{Lexeme, blanks, comment, atom, quoted, literal, mark, unclosed, texts, begins}
use Rattle.mail_addresses.specs.Forms.{is_gap, is_solid, is_mark, is_atom, is_quoted, is_domain_literal, is_dot_atom, is_one, is_local_part, is_domain, IsSpec, GivesSpec}
use Rattle.mail_addresses.specs.declared.address.Address.{Address}
use Rattle.mail_addresses.proofs.ListLemmas.{split_unique, front_unique, empty_front}

pub atom_no_mark : (c : ℕ) (t : Lexeme) → is_atom t ≡ true → is_mark c t ≡ false
atom_no_mark c (atom run) h = refl
atom_no_mark c (blanks run) h = refl
atom_no_mark c (comment inside) h = refl
atom_no_mark c (quoted inside) h = refl
atom_no_mark c (literal inside) h = refl
atom_no_mark c (mark b) h = absurd (false≢true h)
atom_no_mark c (unclosed text) h = refl

pub one_mark : (c d : ℕ) (t : Lexeme) → c ≢ d → is_mark d t ≡ true → is_mark c t ≡ false
one_mark c d (mark b) n h = ne_eqb _ _ (λ e. n (sym e ∙ eqb-true _ _ h))
one_mark c d (atom run) n h = refl
one_mark c d (blanks run) n h = refl
one_mark c d (comment inside) n h = refl
one_mark c d (quoted inside) n h = refl
one_mark c d (literal inside) n h = refl
one_mark c d (unclosed text) n h = refl

-- a dot-atom has no mark but dots
pub dot_atom_lacks : (c : ℕ) (ts : List Lexeme) → c ≢ 46 → is_dot_atom ts ≡ true → list_any (is_mark c) ts ≡ false
unfolding is_dot_atom
dot_atom_lacks c [] n h = refl
dot_atom_lacks c (t ∷ []) n h = or_from _ _ (atom_no_mark c t h) refl
dot_atom_lacks c (t ∷ dot ∷ ts) n h =
    let a = and_parts _ _ h in
    let b = and_parts _ _ a.0 in
    or_from _ _ (atom_no_mark c t b.0) (or_from _ _ (one_mark c 46 dot n b.1) (dot_atom_lacks c ts n a.1))

quoted_no_mark : (c : ℕ) (t : Lexeme) → is_quoted t ≡ true → is_mark c t ≡ false
quoted_no_mark c (quoted inside) h = refl
quoted_no_mark c (atom run) h = refl
quoted_no_mark c (blanks run) h = refl
quoted_no_mark c (comment inside) h = refl
quoted_no_mark c (literal inside) h = refl
quoted_no_mark c (mark b) h = absurd (false≢true h)
quoted_no_mark c (unclosed text) h = refl

literal_no_mark : (c : ℕ) (t : Lexeme) → is_domain_literal t ≡ true → is_mark c t ≡ false
literal_no_mark c (literal inside) h = refl
literal_no_mark c (atom run) h = refl
literal_no_mark c (blanks run) h = refl
literal_no_mark c (comment inside) h = refl
literal_no_mark c (quoted inside) h = refl
literal_no_mark c (mark b) h = absurd (false≢true h)
literal_no_mark c (unclosed text) h = refl

one_lacks : (p : Lexeme → Bool) (c : ℕ) → ((t : Lexeme) → p t ≡ true → is_mark c t ≡ false) → (ts : List Lexeme) → is_one p ts ≡ true → list_any (is_mark c) ts ≡ false
one_lacks p c none [] h = refl
one_lacks p c none (t ∷ []) h = or_from _ _ (none t h) refl
one_lacks p c none (t ∷ u ∷ ts) h = absurd (false≢true h)

pub local_lacks : (c : ℕ) (ts : List Lexeme) → c ≢ 46 → is_local_part ts ≡ true → list_any (is_mark c) ts ≡ false
local_lacks c ts n h = elim (or_cases _ _ h) [ inl a ↦ dot_atom_lacks c ts n a | inr b ↦ one_lacks is_quoted c (quoted_no_mark c) ts b ]

pub domain_lacks : (c : ℕ) (ts : List Lexeme) → c ≢ 46 → is_domain ts ≡ true → list_any (is_mark c) ts ≡ false
domain_lacks c ts n h = elim (or_cases _ _ h) [ inl a ↦ dot_atom_lacks c ts n a | inr b ↦ one_lacks is_domain_literal c (literal_no_mark c) ts b ]

-- a spec with this `@` is the parts beside it
pub spec_at : (ts local domain : List Lexeme) (n : ℕ) → ts ≡ local ++ mark 64 ∷ domain → list_any (is_mark 64) local ≡ false → IsSpec ts n
    → (is_local_part local ≡ true) × (is_domain domain ≡ true) × (n ≡ length (texts local))
spec_at ts local domain n e lacks (inl (h, count)) = absurd (both_ways _ (local_lacks 64 ts (λ z. absurd (omega (arith, z))) h) (has_mark ts local domain e))
  where
    has_mark : (ts local domain : List Lexeme) → ts ≡ local ++ mark 64 ∷ domain → list_any (is_mark 64) ts ≡ true
    has_mark ts [] domain e = ap (list_any (is_mark 64)) e
    has_mark ts (x ∷ xs) domain e = ap (list_any (is_mark 64)) e ∙ or_right _ _ (has_mark (xs ++ mark 64 ∷ domain) xs domain refl)
spec_at ts local domain n e lacks (inr at) =
    let parts = split_unique (is_mark 64) local at.local domain at.domain (mark 64) (mark 64) lacks
    (local_lacks 64 at.local (λ z. absurd (omega (arith, z))) at.is_local) refl refl (sym e ∙ at.whole) in
    (subst (λ xs. is_local_part xs ≡ true) (sym parts.0) at.is_local, subst (λ xs. is_domain xs ≡ true) (sym parts.1) at.has_domain, at.count ∙ ap (λ xs. length (texts xs)) (sym parts.0))

atom_solid : (t : Lexeme) → is_atom t ≡ true → is_solid t ≡ true
atom_solid (atom run) h = refl
atom_solid (blanks run) h = absurd (false≢true h)
atom_solid (comment inside) h = absurd (false≢true h)
atom_solid (quoted inside) h = refl
atom_solid (literal inside) h = refl
atom_solid (mark b) h = refl
atom_solid (unclosed text) h = refl

mark_solid : (c : ℕ) (t : Lexeme) → is_mark c t ≡ true → is_solid t ≡ true
mark_solid c (mark b) h = refl
mark_solid c (blanks run) h = absurd (false≢true h)
mark_solid c (comment inside) h = absurd (false≢true h)
mark_solid c (atom run) h = refl
mark_solid c (quoted inside) h = refl
mark_solid c (literal inside) h = refl
mark_solid c (unclosed text) h = refl

quoted_solid : (t : Lexeme) → is_quoted t ≡ true → is_solid t ≡ true
quoted_solid (quoted inside) h = refl
quoted_solid (blanks run) h = absurd (false≢true h)
quoted_solid (comment inside) h = absurd (false≢true h)
quoted_solid (atom run) h = refl
quoted_solid (literal inside) h = refl
quoted_solid (mark b) h = refl
quoted_solid (unclosed text) h = refl

literal_solid : (t : Lexeme) → is_domain_literal t ≡ true → is_solid t ≡ true
literal_solid (literal inside) h = refl
literal_solid (blanks run) h = absurd (false≢true h)
literal_solid (comment inside) h = absurd (false≢true h)
literal_solid (atom run) h = refl
literal_solid (quoted inside) h = refl
literal_solid (mark b) h = refl
literal_solid (unclosed text) h = refl

-- some tokens, and no blanks among them
pub record IsSolid (ts : List Lexeme) : Type 0 where
  pub some : ts ≢ []
  pub all : list_all is_solid ts ≡ true

dot_atom_solid : (ts : List Lexeme) → is_dot_atom ts ≡ true → IsSolid ts
unfolding is_dot_atom
dot_atom_solid [] h = absurd (false≢true h)
dot_atom_solid (t ∷ []) h = record { some = λ e. cc; all = and_from _ _ (atom_solid t h) refl }
dot_atom_solid (t ∷ dot ∷ ts) h =
    let a = and_parts _ _ h in
    let b = and_parts _ _ a.0 in
    record { some = λ e. cc; all = and_from _ _ (atom_solid t b.0) (and_from _ _ (mark_solid 46 dot b.1) (dot_atom_solid ts a.1).all) }

one_solid : (p : Lexeme → Bool) → ((t : Lexeme) → p t ≡ true → is_solid t ≡ true) → (ts : List Lexeme) → is_one p ts ≡ true → IsSolid ts
one_solid p solid [] h = absurd (false≢true h)
one_solid p solid (t ∷ []) h = record { some = λ e. cc; all = and_from _ _ (solid t h) refl }
one_solid p solid (t ∷ u ∷ ts) h = absurd (false≢true h)

local_solid : (ts : List Lexeme) → is_local_part ts ≡ true → IsSolid ts
local_solid ts h = elim (or_cases _ _ h) [ inl a ↦ dot_atom_solid ts a | inr b ↦ one_solid is_quoted quoted_solid ts b ]

domain_solid : (ts : List Lexeme) → is_domain ts ≡ true → IsSolid ts
domain_solid ts h = elim (or_cases _ _ h) [ inl a ↦ dot_atom_solid ts a | inr b ↦ one_solid is_domain_literal literal_solid ts b ]

-- a spec has tokens, and no blanks among them
pub spec_solid : (ts : List Lexeme) (n : ℕ) → IsSpec ts n → IsSolid ts
spec_solid ts n (inl (h, count)) = local_solid ts h
spec_solid ts n (inr at) =
    let local = local_solid at.local at.is_local in
    let domain = domain_solid at.domain at.has_domain in
    record {
      some = λ e. local.some (empty_front at.local (mark 64 ∷ at.domain) (sym at.whole ∙ e));
      all = ap (list_all is_solid) at.whole ∙ list_all-append is_solid at.local (mark 64 ∷ at.domain) ∙ and_from _ _ local.all domain.all;
    }

pub begins_solid : (ts after : List Lexeme) → IsSolid ts → begins is_gap (ts ++ after) ≡ false
begins_solid [] after s = absurd (s.some refl)
begins_solid (t ∷ ts) after s = not-true _ (and_parts _ _ s.all).0

pub ends_solid : (gs : List Lexeme) → list_all is_gap gs ≡ true → begins is_solid gs ≡ false
ends_solid [] h = refl
ends_solid (g ∷ gs) h = not_from_true _ (and_parts _ _ h).0

-- tokens cut into blanks, a run without blanks, and a rest that blanks begin
pub record IsCut (ts front run after : List Lexeme) : Type 0 where
  pub whole : ts ≡ front ++ (run ++ after)
  pub gaps : list_all is_gap front ≡ true
  pub starts : begins is_gap (run ++ after) ≡ false
  pub solid : list_all is_solid run ≡ true
  pub ends : begins is_solid after ≡ false

-- the spec that they give is that run
pub record IsRun (run after : List Lexeme) (a : Address) : Type 0 where
  pub gaps_after : list_all is_gap after ≡ true
  pub is_spec : IsSpec run a.local
  pub text : a.spec ≡ texts run

pub spec_is_run : (ts front run after : List Lexeme) (a : Address) → IsCut ts front run after → GivesSpec ts a → IsRun run after a
spec_is_run ts front run after a cut gives =
    let solid = spec_solid gives.spec a.local gives.is_spec in
    let inner = (front_unique is_gap front gives.before (run ++ after) (gives.spec ++ gives.after) cut.gaps gives.gaps_before cut.starts
    (begins_solid gives.spec gives.after solid) (sym cut.whole ∙ gives.whole)).1 in
    let parts = front_unique is_solid run gives.spec after gives.after cut.solid solid.all cut.ends (ends_solid gives.after gives.gaps_after) inner in
    record {
      gaps_after = ap (list_all is_gap) parts.1 ∙ gives.gaps_after;
      is_spec = subst (λ (us : List Lexeme). IsSpec us a.local) (sym parts.0) gives.is_spec;
      text = gives.text ∙ ap texts (sym parts.0);
    }

-- an address from its run
pub run_is_spec : (ts front run after : List Lexeme) (a : Address) → IsCut ts front run after → IsRun run after a → GivesSpec ts a
run_is_spec ts front run after a cut is = record {
  before = front;
  spec = run;
  after = after;
  whole = cut.whole;
  gaps_before = cut.gaps;
  gaps_after = is.gaps_after;
  is_spec = is.is_spec;
  text = is.text;
}

pub is_cut : (ts front rest run after : List Lexeme) → ts ≡ front ++ rest → rest ≡ run ++ after → list_all is_gap front ≡ true
    → begins is_gap rest ≡ false → list_all is_solid run ≡ true → begins is_solid after ≡ false → IsCut ts front run after
is_cut ts front rest run after e f gaps starts solid ends = record {
  whole = e ∙ ap (λ (us : List Lexeme). front ++ us) f;
  gaps = gaps;
  starts = ap (begins is_gap) (sym f) ∙ starts;
  solid = solid;
  ends = ends;
}
