-- Each address stands once in an answer, who is answered is among them, and own names stand there only so.
use Rattle.std.proofs.Common.{◌≡◌, ◌⊎◌, ℕ, Bool, true, false, ◌||◌, if◌then◌else◌, List, [], ◌∷◌, ◌++◌, Some, None, drop, length, ◌==◌, codes, sym, ap, ◌∙◌, subst, append-nil, inl, inr}
use Rattle.std.specs.Prelude.{is_some, unwrap_or}
use Rattle.std.specs.List.{IsDistinct, list_any}
use Rattle.std.specs.Str.{bytes_eq, str_to_ascii_lowercase}
use Rattle.std.proofs.lemmas.Bool.{both_ways, cases_Bool, cond-true, cond-false, false≢true, or_cases, or_left, or_right}
use Rattle.std.proofs.lemmas.List.Folds.{list_any-append}
use Rattle.mail_text.specs.Ascii.{same_ascii}
use Rattle.alias_groups.specs.Expansion.{dropped_names}
use Rattle.name_lists.specs.Names.{has_name, with_name, with_names}
use Rattle.alias_groups.proofs.LawLemmas.{none-once, once-with_name}
use Rattle.alias_groups.proofs.SameLemmas.{to-same}
use Rattle.draft_text.specs.declared.draft.Draft.{Draft}
use Rattle.draft_text.specs.declared.reply.ReplyHow.{ReplyHow}
use Rattle.draft_text.specs.declared.reply.ReplyHow.TheVariants.{All, Authors}
use Rattle.draft_text.specs.Replies.{answer, answered, bare_addresses, with_other, with_others}
use Rattle.draft_text.specs.ReplyLaws.{EachOnce, AnsweredStay, OwnAreLeftOut}
use Rattle.draft_text.proofs.ReplyLemmas.{Names, others-whole}

-- ---- the draft

some-of : {A : Type 0} (b : Bool) (x y : A) → (if b then None else Some x) ≡ Some y → x ≡ y
some-of true x y is = absurd (false≢true (ap (λ o. is_some o) is))
some-of false x y is = ap (λ o. unwrap_or o x) is

-- all addresses of the answer
abbrev all-names : ReplyHow → Names → List ℕ → Names
all-names All dropped text =
    with_others dropped (with_others dropped (with_names [] (answered text)) (bare_addresses (codes "To") text)) (bare_addresses (codes "Cc") text)
all-names Authors dropped text = with_names [] (answered text)

answer-names : (how : ReplyHow) (dropped : Names) (text : List ℕ) → (answer how dropped text).to ++ (answer how dropped text).cc ≡ all-names how dropped text
unfolding answer
answer-names All dropped text = others-whole dropped (with_others dropped (with_names [] (answered text)) (bare_addresses (codes "To") text)) (bare_addresses (codes "Cc") text)
answer-names Authors dropped text = append-nil (with_names [] (answered text))

-- ---- each once

once-other : (dropped names : Names) (name : List ℕ) → IsDistinct same_ascii names → IsDistinct same_ascii (with_other dropped names name)
once-other dropped names name once = go (has_name dropped name)
  where
    go : (d : Bool) → IsDistinct same_ascii (if d then names else with_name names name)
    go true = once
    go false = once-with_name names name once

once-others : (dropped names others : Names) → IsDistinct same_ascii names → IsDistinct same_ascii (with_others dropped names others)
once-others dropped names [] once = once
once-others dropped names (name ∷ others) once = once-others dropped (with_other dropped names name) others (once-other dropped names name once)

once-with_names : (names others : Names) → IsDistinct same_ascii names → IsDistinct same_ascii (with_names names others)
once-with_names names [] once = once
once-with_names names (name ∷ others) once = once-with_names (with_name names name) others (once-with_name names name once)

once-all : (how : ReplyHow) (dropped : Names) (text : List ℕ) → IsDistinct same_ascii (all-names how dropped text)
once-all All dropped text =
    once-others dropped (with_others dropped (with_names [] (answered text)) (bare_addresses (codes "To") text)) (bare_addresses (codes "Cc") text)
    (once-others dropped (with_names [] (answered text)) (bare_addresses (codes "To") text) (once-with_names [] (answered text) none-once))
once-all Authors dropped text = once-with_names [] (answered text) none-once

pub each-once : EachOnce
each-once how own metoo text draft is =
    let dropped = dropped_names own metoo in
    let made = some-of (length (answered text) == 0) (answer how dropped text) draft is in
    subst (λ (d : Draft). IsDistinct same_ascii (d.to ++ d.cc)) made
    (subst (IsDistinct same_ascii) (sym (answer-names how dropped text)) (once-all how dropped text))

-- ---- names that are there

-- whether a name is among names doesn't hang on the case of its letters
same-has : (names : Names) (a b : List ℕ) → same_ascii a b ≡ true → has_name names a ≡ has_name names b
same-has names a b is =
    ap (λ (lower : List ℕ). list_any (λ (x : List ℕ). bytes_eq lower (str_to_ascii_lowercase x)) names) (to-same (str_to_ascii_lowercase a) (str_to_ascii_lowercase b) is)

-- a name is among the names with one more where it is among them, or is that one
has-more : (names : Names) (more name : List ℕ) → (has_name names name ≡ true) ⊎ (same_ascii name more ≡ true) → has_name (names ++ more ∷ []) name ≡ true
has-more names more name (inl there) = list_any-append (same_ascii name) names (more ∷ []) ∙ or_left _ _ there
has-more names more name (inr same) = list_any-append (same_ascii name) names (more ∷ []) ∙ or_right _ _ (or_left _ _ same)

has-with_name : (names : Names) (more name : List ℕ) → (has_name names name ≡ true) ⊎ (same_ascii name more ≡ true) → has_name (with_name names more) name ≡ true
has-with_name names more name either =
    elim (cases_Bool (has_name names more)) [
      | inl there ↦ ap (λ (ns : Names). has_name ns name) (cond-true _ _ _ there) ∙ already there either
      | inr new ↦ ap (λ (ns : Names). has_name ns name) (cond-false _ _ _ new) ∙ has-more names more name either
    ]
  where
    already : has_name names more ≡ true → (has_name names name ≡ true) ⊎ (same_ascii name more ≡ true) → has_name names name ≡ true
    already there (inl is) = is
    already there (inr same) = same-has names name more same ∙ there

has-with_names : (names others : Names) (name : List ℕ) → (has_name names name ≡ true) ⊎ (has_name others name ≡ true) → has_name (with_names names others) name ≡ true
has-with_names names [] name (inl is) = is
has-with_names names [] name (inr is) = absurd (false≢true is)
has-with_names names (other ∷ others) name (inl is) = has-with_names (with_name names other) others name (inl (has-with_name names other name (inl is)))
has-with_names names (other ∷ others) name (inr is) =
    elim (or_cases (same_ascii name other) (has_name others name) is) [
      | inl same ↦ has-with_names (with_name names other) others name (inl (has-with_name names other name (inr same)))
      | inr later ↦ has-with_names (with_name names other) others name (inr later)
    ]

has-others : (dropped names others : Names) (name : List ℕ) → has_name names name ≡ true → has_name (with_others dropped names others) name ≡ true
has-others dropped names others name is =
    ap (λ (ns : Names). has_name ns name) (sym (others-whole dropped names others))
    ∙ list_any-append (same_ascii name) names (drop (length names) (with_others dropped names others))
    ∙ or_left _ _ is

stays-to : (how : ReplyHow) (dropped : Names) (text name : List ℕ) → has_name (answered text) name ≡ true → has_name (answer how dropped text).to name ≡ true
unfolding answer
stays-to All dropped text name is = has-others dropped (with_names [] (answered text)) (bare_addresses (codes "To") text) name (has-with_names [] (answered text) name (inr is))
stays-to Authors dropped text name is = has-with_names [] (answered text) name (inr is)

pub answered-stay : AnsweredStay
answered-stay how own metoo text draft name is among =
    let dropped = dropped_names own metoo in
    let made = some-of (length (answered text) == 0) (answer how dropped text) draft is in
    subst (λ (d : Draft). has_name d.to name ≡ true) made (stays-to how dropped text name among)

-- ---- own names

-- a name is among the names with one more only where it is among them, or is that one
was-there : (names : Names) (more name : List ℕ) → has_name (with_name names more) name ≡ true → (has_name names name ≡ true) ⊎ (same_ascii name more ≡ true)
was-there names more name is = go (has_name names more) is
  where
    last : same_ascii name more || false ≡ true → same_ascii name more ≡ true
    last e = elim (or_cases (same_ascii name more) false e) [ inl same ↦ same | inr f ↦ absurd (false≢true f) ]

    go : (h : Bool) → has_name (if h then names else names ++ more ∷ []) name ≡ true → (has_name names name ≡ true) ⊎ (same_ascii name more ≡ true)
    go true e = inl e
    go false e =
        elim (or_cases (has_name names name) (has_name (more ∷ []) name) (sym (list_any-append (same_ascii name) names (more ∷ [])) ∙ e)) [
          | inl there ↦ inl there
          | inr same ↦ inr (last same)
        ]

-- a name that is to be dropped was there before
dropped-other : (dropped names : Names) (more name : List ℕ) → has_name dropped name ≡ true → has_name (with_other dropped names more) name ≡ true → has_name names name ≡ true
dropped-other dropped names more name own is =
    elim (cases_Bool (has_name dropped more)) [
      | inl drops ↦ sym (ap (λ (ns : Names). has_name ns name) (cond-true _ _ _ drops)) ∙ is
      | inr keeps ↦ elim (was-there names more name (sym (ap (λ (ns : Names). has_name ns name) (cond-false _ _ _ keeps)) ∙ is)) [
        | inl there ↦ there
        | inr same ↦ absurd (both_ways _ keeps (sym (same-has dropped name more same) ∙ own))
      ]
    ]

dropped-others : (dropped names others : Names) (name : List ℕ) → has_name dropped name ≡ true → has_name (with_others dropped names others) name ≡ true → has_name names name ≡ true
dropped-others dropped names [] name own is = is
dropped-others dropped names (other ∷ others) name own is =
    dropped-other dropped names other name own (dropped-others dropped (with_other dropped names other) others name own is)

were-answered : (names others : Names) (name : List ℕ) → has_name (with_names names others) name ≡ true → (has_name names name ≡ true) ⊎ (has_name others name ≡ true)
were-answered names [] name is = inl is
were-answered names (other ∷ others) name is =
    elim (were-answered (with_name names other) others name is) [
      | inl there ↦ elim (was-there names other name there) [
        | inl before ↦ inl before
        | inr same ↦ inr (or_left _ _ same)
      ]
      | inr later ↦ inr (or_right _ _ later)
    ]

answered-alone : (text name : List ℕ) → has_name (with_names [] (answered text)) name ≡ true → has_name (answered text) name ≡ true
answered-alone text name is =
    elim (were-answered [] (answered text) name is) [
      | inl nobody ↦ absurd (false≢true nobody)
      | inr somebody ↦ somebody
    ]

left-out : (how : ReplyHow) (dropped : Names) (text name : List ℕ) → has_name dropped name ≡ true → has_name (all-names how dropped text) name ≡ true → has_name (answered text) name ≡ true
left-out All dropped text name own is =
    answered-alone text name
    (dropped-others dropped (with_names [] (answered text)) (bare_addresses (codes "To") text) name own
    (dropped-others dropped (with_others dropped (with_names [] (answered text)) (bare_addresses (codes "To") text)) (bare_addresses (codes "Cc") text) name own is))
left-out Authors dropped text name own is = answered-alone text name is

pub own-left-out : OwnAreLeftOut
own-left-out how own metoo text draft name is among there =
    let dropped = dropped_names own metoo in
    let made = some-of (length (answered text) == 0) (answer how dropped text) draft is in
    let names : (answer how dropped text).to ++ (answer how dropped text).cc ≡ draft.to ++ draft.cc = ap (λ (d : Draft). d.to ++ d.cc) made in
    left-out how dropped text name among (ap (λ (ns : Names). has_name ns name) (sym (answer-names how dropped text) ∙ names) ∙ there)
