-- Parts of a draft with a space for each line feed.
use Rattle.std.proofs.Common.{◌≡◌, ◌≢◌, ℕ, ◌==◌, List, [], ◌∷◌, map, get_or, refl, sym, ap, ◌∙◌, ⊎_elim}
use Rattle.std.specs.Prelude.{All}
use Rattle.std.proofs.lemmas.Bool.{cond-true, cond-false, cases_Bool, eqb-false, ne_eqb}
use Rattle.std.proofs.lemmas.List.Elements.{All-nil, All-cons, All-head, All-tail, All-map}
use Rattle.mail_text.specs.Lines.{HasNoFeed}
use Rattle.draft_text.specs.declared.draft.Draft.{Draft}
use Rattle.draft_text.specs.Texts.{flat_byte, flat, flattened}
use Rattle.draft_text.specs.DraftLaws.{HasFlatParts}

-- ---- they hold no line feed

byte-apart : (b : ℕ) → flat_byte b ≢ 10
byte-apart b =
    ⊎_elim
    (λ feed.
    let is : flat_byte b ≡ 32 = cond-true _ _ _ feed in
    let space : 32 ≢ 10 = eqb-false 32 10 refl in
    λ e. space (sym is ∙ e))
    (λ other.
    let is : flat_byte b ≡ b = cond-false _ _ _ other in
    λ e. eqb-false b 10 other (sym is ∙ e))
    (cases_Bool (b == 10))

pub flat-apart : (bytes : List ℕ) → HasNoFeed (flat bytes)
flat-apart [] = All-nil (λ b. b ≢ 10)
flat-apart (b ∷ bs) = All-cons (λ x. x ≢ 10) (flat_byte b) (flat bs) (byte-apart b) (flat-apart bs)

pub all-apart : (texts : List (List ℕ)) → All HasNoFeed (map flat texts)
all-apart texts = All-map HasNoFeed flat texts (λ i d lt. flat-apart (get_or texts i d))

-- ---- where there is none, all stays

flat-same : (bytes : List ℕ) → HasNoFeed bytes → flat bytes ≡ bytes
flat-same [] apart = refl
flat-same (b ∷ bs) apart =
    let other : b ≢ 10 = All-head (λ x. x ≢ 10) b bs apart in
    let same : flat_byte b ≡ b = cond-false _ _ _ (ne_eqb b 10 other) in
    ap (λ (x : ℕ). x ∷ flat bs) same ∙ ap (λ (xs : List ℕ). b ∷ xs) (flat-same bs (All-tail (λ x. x ≢ 10) b bs apart))

all-same : (texts : List (List ℕ)) → All HasNoFeed texts → map flat texts ≡ texts
all-same [] apart = refl
all-same (t ∷ ts) apart =
    ap (λ (x : List ℕ). x ∷ map flat ts) (flat-same t (All-head HasNoFeed t ts apart))
    ∙ ap (λ (xs : List (List ℕ)). t ∷ xs) (all-same ts (All-tail HasNoFeed t ts apart))

pub flattened-same : (draft : Draft) → HasFlatParts draft → flattened draft ≡ draft
flattened-same draft apart = λ i. record draft {
  to = all-same draft.to apart.to i;
  cc = all-same draft.cc apart.cc i;
  bcc = all-same draft.bcc apart.bcc i;
  subject = flat-same draft.subject apart.subject i;
  from = flat-same draft.from apart.from i;
  reply = flat-same draft.reply apart.reply i;
  references = all-same draft.references apart.references i;
}
