-- A body that grows by lines.
use Rattle.std.proofs.Common.{◌≡◌, ◌==◌, ℕ, List, [], ◌∷◌, ◌++◌, length, Some, None, refl, sym, ap, ◌∙◌, ◌-◌, ⊎_elim, append_assoc, append-nil, arith}
use Rattle.std.specs.Prelude.{if◌then◌else◌, slice_get}
use Rattle.std.proofs.lemmas.Bool.{cond-true, cond-false, cases_Bool, eqb-true, eqb-false, ne_eqb}
use Rattle.mail_text.specs.Lines.{lines_of, in_front, with_feed, fed}
use Rattle.mail_text.proofs.LineLemmas.{IsSomeLines, lines_of-nil, lines_of-feed, lines_of-byte, lines_of-some}
use Rattle.draft_text.proofs.BodyLemmas.{fed-ended, fed-unended, fed-empty}
use Rattle.compose_tilde.specs.Values.{grown}
use Rattle.compose_tilde.specs.Laws.{BodyKeepsLines}

-- by the last byte of a text
pub fed-last : (bs : List ℕ) (x : ℕ) → slice_get bs (length bs - 1) ≡ Some x → fed bs ≡ (if x == 10 then bs else with_feed bs)
fed-last bs x last =
    ⊎_elim
    (λ is. fed-ended bs x last (eqb-true x 10 is) ∙ append-nil bs ∙ sym (cond-true _ _ _ is))
    (λ other. fed-unended bs x last (eqb-false x 10 other) ∙ sym (cond-false _ _ _ other))
    (cases_Bool (x == 10))

pub fed-none : (bs : List ℕ) → slice_get bs (length bs - 1) ≡ None → fed bs ≡ bs
fed-none bs none = fed-empty bs none ∙ append-nil bs

-- a line feed ends a text
fed-line : (l : List ℕ) → fed (with_feed l) ≡ with_feed l
unfolding fed
fed-line [] = refl
fed-line (b ∷ []) = refl
fed-line (b ∷ c ∷ l) = ap (λ (x : List ℕ). b ∷ x) (fed-line (c ∷ l))

fed-behind : (body l : List ℕ) → fed (body ++ with_feed l) ≡ body ++ with_feed l
fed-behind body l = ap fed (sym (append_assoc body l (10 ∷ []))) ∙ fed-line (body ++ l) ∙ append_assoc body l (10 ∷ [])

-- a line and what comes behind it
grown-some : (body : List ℕ) (b : ℕ) (bytes : List ℕ) → grown body (b ∷ bytes) ≡ fed body ++ b ∷ bytes
grown-some body b bytes = cond-false _ _ _ (ne_eqb (length (b ∷ bytes)) 0 (λ e. omega arith))

grown-line : (body l more : List ℕ) → grown body (with_feed l ++ more) ≡ fed body ++ (with_feed l ++ more)
grown-line body [] more = grown-some body 10 more
grown-line body (b ∷ l) more = grown-some body b (with_feed l ++ more)

-- a body that grew by a line, and then by more, grew by both
pub grown-twice : (body l more : List ℕ) → grown (grown body (with_feed l)) more ≡ grown body (with_feed l ++ more)
grown-twice body l [] = ap (grown body) (sym (append-nil (with_feed l)))
grown-twice body l (b ∷ more) =
    let line : grown body (with_feed l) ≡ fed body ++ with_feed l =
    ap (grown body) (sym (append-nil (with_feed l))) ∙ grown-line body l [] ∙ ap (λ (x : List ℕ). fed body ++ x) (append-nil (with_feed l)) in
    grown-some (grown body (with_feed l)) b more
    ∙ ap (λ (x : List ℕ). fed x ++ b ∷ more) line
    ∙ ap (λ (x : List ℕ). x ++ b ∷ more) (fed-behind (fed body) l)
    ∙ append_assoc (fed body) (with_feed l) (b ∷ more)
    ∙ sym (grown-line body l (b ∷ more))

-- the lines of a text and of what comes behind its last one
in_front-append : (b : ℕ) (ls more : List (List ℕ)) → IsSomeLines ls → in_front b (ls ++ more) ≡ in_front b ls ++ more
in_front-append b ls more some = ap (λ (x : List (List ℕ)). in_front b (x ++ more)) some.is ∙ ap (λ (x : List (List ℕ)). in_front b x ++ more) (sym some.is)

lines-one : (b : ℕ) (more : List ℕ) → lines_of (fed (b ∷ []) ++ more) ≡ lines_of (b ∷ []) ++ lines_of more
unfolding fed
lines-one b more =
    ⊎_elim
    (λ is.
    ap (λ (x : List ℕ). lines_of (x ++ more)) (cond-true _ _ _ is)
    ∙ lines_of-feed b more is
    ∙ ap (λ (ls : List (List ℕ)). ([] ∷ ls) ++ lines_of more) (sym lines_of-nil)
    ∙ ap (λ (ls : List (List ℕ)). ls ++ lines_of more) (sym (lines_of-feed b [] is)))
    (λ other.
    ap (λ (x : List ℕ). lines_of (x ++ more)) (cond-false _ _ _ other)
    ∙ lines_of-byte b (10 ∷ more) other
    ∙ ap (in_front b) (lines_of-feed 10 more refl)
    ∙ ap (λ (ls : List (List ℕ)). in_front b ls ++ lines_of more) (sym lines_of-nil)
    ∙ ap (λ (ls : List (List ℕ)). ls ++ lines_of more) (sym (lines_of-byte b [] other)))
    (cases_Bool (b == 10))

lines-behind : (body more : List ℕ) → lines_of (fed body ++ more) ≡ lines_of body ++ lines_of more
unfolding fed
lines-behind [] more = ap (λ (ls : List (List ℕ)). ls ++ lines_of more) (sym lines_of-nil)
lines-behind (b ∷ []) more = lines-one b more
lines-behind (b ∷ c ∷ cs) more =
    let rest = fed (c ∷ cs) ++ more in
    let later = lines-behind (c ∷ cs) more in
    ⊎_elim
    (λ is.
    lines_of-feed b rest is
    ∙ ap (λ (ls : List (List ℕ)). [] ∷ ls) later
    ∙ ap (λ (ls : List (List ℕ)). ls ++ lines_of more) (sym (lines_of-feed b (c ∷ cs) is)))
    (λ other.
    lines_of-byte b rest other
    ∙ ap (in_front b) later
    ∙ in_front-append b (lines_of (c ∷ cs)) (lines_of more) (lines_of-some c cs)
    ∙ ap (λ (ls : List (List ℕ)). ls ++ lines_of more) (sym (lines_of-byte b (c ∷ cs) other)))
    (cases_Bool (b == 10))

grown-lines : (body bytes : List ℕ) → lines_of (grown body bytes) ≡ lines_of body ++ lines_of bytes
grown-lines body [] = sym (append-nil (lines_of body)) ∙ ap (λ (ls : List (List ℕ)). lines_of body ++ ls) (sym lines_of-nil)
grown-lines body (b ∷ bytes) = ap lines_of (grown-some body b bytes) ∙ lines-behind body (b ∷ bytes)

pub body-keeps-lines : BodyKeepsLines
body-keeps-lines draft bytes = grown-lines draft.body bytes
