-- Each field of a draft is found under its name.
use Rattle.std.proofs.Common.{[], ◌≡◌, ◌≢◌, ℕ, true, false, ◌==◌, List, ◌∷◌, ◌++◌, length, Option, Some, None, codes, refl, sym, ap, ◌∙◌, ⊎_elim, take, drop}
use Rattle.std.specs.Bool.{if◌then◌else◌}
use Rattle.std.specs.Option.{option_map, option_or}
use Rattle.std.specs.List.{find, filter_map, AllByRecursion}
use Rattle.std.proofs.lemmas.Bool.{cond-true, cond-false, cases_Bool, eqb-false}
use Rattle.std.proofs.lemmas.List.Elements.{All-cons}
use Rattle.std.proofs.lemmas.List.Folds.{find-append}
use Rattle.mail_text.specs.Ascii.{same_ascii}
use Rattle.mail_text.specs.Lines.{HasNoFeed}
use Rattle.mail_headers.specs.Field.{Field, trim_start, trim_end, without_feeds, unfolded}
use Rattle.mail_headers.specs.Header.{field_in, fields_of}
use Rattle.mail_headers.proofs.UnfoldLemmas.{without_feeds-none}
use Rattle.mail_dates.specs.declared.moment.Moment.{Moment}
use Rattle.mail_dates.specs.Clock.{IsPrintable}
use Rattle.mail_dates.specs.Printed.{date_text}
use Rattle.mail_dates.proofs.PlainText.{date_is_plain}
use Rattle.draft_text.specs.declared.draft.Draft.{Draft}
use Rattle.draft_text.specs.Texts.{joined, filled, draft_values, all_filled, draft_fields}
use Rattle.draft_text.specs.DraftLaws.{HasFlatParts, HasDraft, IsFound, FindsDraft}
use Rattle.draft_text.proofs.FieldLemmas.{plain-apart, names-apart, ids-apart, entries-fields}

-- ---- among the fields

-- the first of these fields under this name
abbrev found : List ℕ → List Field → Option Field
found name fs = find (λ f. same_ascii f.name name) fs

past : (name : List ℕ) (a b : List Field) → found name a ≡ None → found name (a ++ b) ≡ found name b
past name a b none = find-append (λ (f : Field). same_ascii f.name name) a b ∙ ap (λ (o : Option Field). option_or o (found name b)) none

or-none : (o : Option Field) → option_or o None ≡ o
or-none None = refl
or-none (Some f) = refl

before : (name : List ℕ) (a b : List Field) → found name b ≡ None → found name (a ++ b) ≡ found name a
before name a b none = find-append (λ (f : Field). same_ascii f.name name) a b ∙ ap (λ (o : Option Field). option_or (found name a) o) none ∙ or-none (found name a)

other : (name own value : List ℕ) → same_ascii own name ≡ false → found name (filled own value) ≡ None
other name own value differs =
    ⊎_elim
    (λ none. ap (found name) (cond-true _ _ _ none))
    (λ some. ap (found name) (cond-false _ _ _ some) ∙ cond-false _ _ _ differs)
    (cases_Bool (length value == 0))

-- what is read of a value
abbrev read_value : List ℕ → Option (List ℕ)
read_value value = if length value == 0 then None else Some (trim_end (trim_start value))

spaced : (value : List ℕ) → HasNoFeed value → trim_end (trim_start (without_feeds (32 ∷ value))) ≡ trim_end (trim_start value)
unfolding trim_start
spaced value flat =
    let space : 32 ≢ 10 = eqb-false 32 10 refl in
    let apart : HasNoFeed (32 ∷ value) = All-cons (λ b. b ≢ 10) 32 value space flat in
    ap (λ (x : List ℕ). trim_end (trim_start x)) (without_feeds-none (32 ∷ value) (λ k lt. apart k 0 lt))

own : (name value : List ℕ) → same_ascii name name ≡ true → HasNoFeed value → option_map unfolded (found name (filled name value)) ≡ read_value value
own name value same flat =
    ⊎_elim
    (λ none. ap (λ (fs : List Field). option_map unfolded (found name fs)) (cond-true _ _ _ none) ∙ sym (cond-true _ _ _ none))
    (λ some.
    ap (λ (fs : List Field). option_map unfolded (found name fs)) (cond-false _ _ _ some)
    ∙ ap (option_map unfolded) (cond-true _ _ _ same)
    ∙ ap (λ (x : List ℕ). Some x) (spaced value flat)
    ∙ sym (cond-false _ _ _ some))
    (cases_Bool (length value == 0))

-- ---- among the values

-- none is found where all names differ
none-in : (name : List ℕ) (vs : List (List ℕ × List ℕ)) → AllByRecursion (λ v. same_ascii v.0 name ≡ false) vs → found name (all_filled vs) ≡ None
none-in name [] differ = refl
none-in name (v ∷ vs) differ = past name (filled v.0 v.1) (all_filled vs) (other name v.0 v.1 differ.0) ∙ none-in name vs differ.1

-- one is found between others of other names
at : (name value : List ℕ) (front back : List (List ℕ × List ℕ)) → AllByRecursion (λ v. same_ascii v.0 name ≡ false) front → AllByRecursion (λ v. same_ascii v.0 name ≡ false) back
    → found name (all_filled (front ++ (name, value) ∷ back)) ≡ found name (filled name value)
at name value [] back before_it after_it = before name (filled name value) (all_filled back) (none-in name back after_it)
at name value (v ∷ front) back before_it after_it =
    past name (filled v.0 v.1) (all_filled (front ++ (name, value) ∷ back)) (other name v.0 v.1 before_it.0) ∙ at name value front back before_it.1 after_it

-- ---- in a draft

fields-of : (text from body : List ℕ) (fs : List Field) → HasDraft text from fs body → fields_of text ≡ fs
fields-of text from body fs has = ap (filter_map field_in) has.entries ∙ entries-fields fs

-- the parts of a draft that are values of fields
record FlatValues (draft : Draft) (m : Moment) : Type 0 where
  date : HasNoFeed (date_text m)
  to : HasNoFeed (joined (codes ", ") draft.to)
  copy : HasNoFeed (joined (codes ", ") draft.cc)
  follow : HasNoFeed (joined (codes " ") draft.references)

flat-values : (draft : Draft) (m : Moment) → IsPrintable m → HasFlatParts draft → FlatValues draft m
flat-values draft m range flat = record {
  date = plain-apart (date_text m) (date_is_plain m range).0;
  to = names-apart draft.to flat.to;
  copy = names-apart draft.cc flat.cc;
  follow = ids-apart draft.references flat.references;
}

finds : (name value text from body : List ℕ) (front back : List (List ℕ × List ℕ)) → HasDraft text from (all_filled (front ++ (name, value) ∷ back)) body
    → AllByRecursion (λ v. same_ascii v.0 name ≡ false) front → AllByRecursion (λ v. same_ascii v.0 name ≡ false) back → same_ascii name name ≡ true → HasNoFeed value → IsFound text name value
finds name value text from body front back has before_it after_it same flat =
    ap (λ (x : List Field). option_map unfolded (found name x)) (fields-of text from body (all_filled (front ++ (name, value) ∷ back)) has)
    ∙ ap (option_map unfolded) (at name value front back before_it after_it)
    ∙ own name value same flat

pub finds-draft : (draft : Draft) (m : Moment) (text from body : List ℕ) → IsPrintable m → HasFlatParts draft → HasDraft text from (draft_fields draft m) body → FindsDraft text draft m
unfolding draft_fields
finds-draft draft m text from body range flat has =
    let values = flat-values draft m range flat in
    let vs = draft_values draft m in
    record {
      date = finds (codes "Date") (date_text m) text from body [] (drop 1 vs) has tt (refl, (refl, (refl, (refl, (refl, (refl, tt)))))) refl values.date;
      from = finds (codes "From") draft.from text from body (take 1 vs) (drop 2 vs) has (refl, tt) (refl, (refl, (refl, (refl, (refl, tt))))) refl flat.from;
      to = finds (codes "To") (joined (codes ", ") draft.to) text from body (take 2 vs) (drop 3 vs) has (refl, (refl, tt)) (refl, (refl, (refl, (refl, tt)))) refl values.to;
      cc = finds (codes "Cc") (joined (codes ", ") draft.cc) text from body (take 3 vs) (drop 4 vs) has (refl, (refl, (refl, tt))) (refl, (refl, (refl, tt))) refl values.copy;
      subject = finds (codes "Subject") draft.subject text from body (take 4 vs) (drop 5 vs) has (refl, (refl, (refl, (refl, tt)))) (refl, (refl, tt)) refl flat.subject;
      reply = finds (codes "In-Reply-To") draft.reply text from body (take 5 vs) (drop 6 vs) has (refl, (refl, (refl, (refl, (refl, tt))))) (refl, tt) refl flat.reply;
      references = finds (codes "References") (joined (codes " ") draft.references) text from body (take 6 vs) [] has (refl, (refl, (refl, (refl, (refl, (refl, tt)))))) tt refl values.follow;
    }
