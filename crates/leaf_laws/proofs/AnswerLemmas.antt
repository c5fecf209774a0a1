-- The addresses of a message stay in its answer, and nobody else is in it.
use Rattle.std.proofs.Common.{◌≡◌, ◌⊎◌, ℕ, Bool, true, false, List, [], ◌∷◌, ◌++◌, Some, None, drop, length, ◌==◌, codes, refl, sym, ap, ◌∙◌, subst, append-nil, append_assoc, inl, inr, ⊎_elim, true≢false}
use Rattle.std.specs.Prelude.{if◌then◌else◌, is_some, unwrap_or}
use Rattle.std.specs.List.{All, Contains}
use Rattle.std.proofs.lemmas.List.Elements.{All-append, All-contains, All-contains_itself, All-nil, All-weaker, Contains-append_cases, Contains-append_left, Contains-append_right}
use Rattle.std.proofs.Math.Seq.{drop-append_seam}
use Rattle.mail_text.specs.Ascii.{same_ascii}
use Rattle.alias_groups.specs.Expansion.{dropped_names}
use Rattle.alias_groups.proofs.FreshLemmas.{or-split}
use Rattle.alias_groups.proofs.WalkLemmas.{Names}
use Rattle.name_lists.specs.Names.{has_name, with_name, with_names}
use Rattle.draft_text.specs.declared.draft.Draft.{Draft}
use Rattle.draft_text.specs.declared.reply.ReplyHow.{ReplyHow}
use Rattle.draft_text.specs.declared.reply.ReplyHow.TheVariants as how
use Rattle.draft_text.specs.Replies.{answer, answered, bare_addresses, to_names, with_other, with_others}
use Rattle.draft_text.proofs.ReplyLemmas.{others-whole}
use Rattle.leaf_laws.specs.Answering.{IsMeant, NobodyElse, OthersStay, Stays, others_in}
use Rattle.leaf_laws.proofs.NameLemmas.{has-put, has-with, same-has}

some-of : {A : Type 0} (b : Bool) (x y : A) → (if b then None else Some x) ≡ Some y → x ≡ y
some-of true x y is = absurd (true≢false (sym (ap (λ o. is_some o) is)))
some-of false x y is = ap (λ o. unwrap_or o x) is

-- ---- others stay
module _ (dropped : Names) where
  with-kept : (names : Names) (other q : List ℕ) → has_name names q ≡ true → has_name (with_other dropped names other) q ≡ true
  with-kept names other q h = go (has_name dropped other)
    where
      go : (b : Bool) → has_name (if b then names else with_name names other) q ≡ true
      go true = h
      go false = has-with names other q h

  others-kept : (names others : Names) (q : List ℕ) → has_name names q ≡ true → has_name (with_others dropped names others) q ≡ true
  others-kept names [] q h = h
  others-kept names (other ∷ others) q h = others-kept (with_other dropped names other) others q (with-kept names other q h)

  with-put : (names : Names) (other q : List ℕ) → has_name dropped q ≡ false → same_ascii q other ≡ true → has_name (with_other dropped names other) q ≡ true
  with-put names other q own same = go (has_name dropped other) (sym (same-has dropped q other same) ∙ own)
    where
      go : (b : Bool) → b ≡ false → has_name (if b then names else with_name names other) q ≡ true
      go true h = absurd (true≢false h)
      go false h = same-has (with_name names other) q other same ∙ has-put names other

  others-put : (names others : Names) (q : List ℕ) → has_name dropped q ≡ false → has_name others q ≡ true → has_name (with_others dropped names others) q ≡ true
  others-put names [] q own is = absurd (true≢false (sym is))
  others-put names (other ∷ others) q own is =
      ⊎_elim
      (λ same. others-kept (with_other dropped names other) others q (with-put names other q own same))
      (λ later. others-put (with_other dropped names other) others q own later)
      (or-split (same_ascii q other) (has_name others q) is)

  stays-to : (h : ReplyHow) (text name : List ℕ) → has_name dropped name ≡ false → has_name (others_in (codes "To") h text) name ≡ true → has_name (answer h dropped text).to name ≡ true
  unfolding answer
  stays-to how.All text name own is = others-put (with_names [] (answered text)) (bare_addresses (codes "To") text) name own is
  stays-to how.Authors text name own is = absurd (true≢false (sym is))

  stays-cc : (h : ReplyHow) (text name : List ℕ) → has_name dropped name ≡ false → has_name (others_in (codes "Cc") h text) name ≡ true
      → has_name ((answer h dropped text).to ++ (answer h dropped text).cc) name ≡ true
  unfolding answer
  stays-cc how.All text name own is =
      let to : Names = to_names how.All dropped text in
      let copies : Names = bare_addresses (codes "Cc") text in
      ap (λ (l : Names). has_name l name) (others-whole dropped to copies) ∙ others-put to copies name own is
  stays-cc how.Authors text name own is = absurd (true≢false (sym is))

pub others-stay : OthersStay
others-stay h own metoo text draft name is apart =
    let dropped : Names = dropped_names own metoo in
    let made = some-of (length (answered text) == 0) (answer h dropped text) draft is in
    subst (λ (d : Draft). Stays h text d name) made (record { to = stays-to dropped h text name apart; cc = stays-cc dropped h text name apart })

-- ---- nobody else

-- all are the names with some of the others
record Adds (names others all : Names) : Type 0 where
  added : Names
  whole : all ≡ names ++ added
  only : All (Contains others) added

module _ (dropped : Names) where
  with-adds : (names : Names) (other : List ℕ) → Adds names (other ∷ []) (with_other dropped names other)
  with-adds names other = go (has_name dropped other) (has_name names other)
    where
      none : Adds names (other ∷ []) names
      none = record { added = []; whole = sym (append-nil names); only = All-nil (Contains (other ∷ [])) }

      go : (d h : Bool) → Adds names (other ∷ []) (if d then names else (if h then names else names ++ other ∷ []))
      go true h = none
      go false true = none
      go false false = record { added = other ∷ []; whole = refl; only = All-contains_itself (other ∷ []) }

  others-add : (names others : Names) → Adds names others (with_others dropped names others)
  others-add names [] = record { added = []; whole = sym (append-nil names); only = All-nil (Contains []) }
  others-add names (other ∷ others) =
      let first : Adds names (other ∷ []) (with_other dropped names other) = with-adds names other in
      let rest : Adds (with_other dropped names other) others (with_others dropped names (other ∷ others)) = others-add (with_other dropped names other) others in
      record {
        added = first.added ++ rest.added;
        whole = rest.whole ∙ ap (λ (l : Names). l ++ rest.added) first.whole ∙ append_assoc names first.added rest.added;
        only = All-append (Contains (other ∷ others)) first.added rest.added
            (All-weaker (Contains (other ∷ [])) (Contains (other ∷ others)) (λ x h. Contains-append_left (other ∷ []) others x h) first.added first.only)
            (All-weaker (Contains others) (Contains (other ∷ others)) (λ x h. Contains-append_right (other ∷ []) others x h) rest.added rest.only);
      }

  -- a name of those is one of the first, or one of the others
  others-or : (names others : Names) (name : List ℕ) → Contains (with_others dropped names others) name → Contains names name ⊎ Contains others name
  others-or names others name within =
      let a : Adds names others (with_others dropped names others) = others-add names others in
      ⊎_elim (λ old. inl old) (λ new. inr (All-contains (Contains others) a.added name a.only new))
      (Contains-append_cases names a.added name (subst (λ (l : Names). Contains l name) a.whole within))

  -- a name past the first is one of the others
  others-past : (names others : Names) (name : List ℕ) → Contains (drop (length names) (with_others dropped names others)) name → Contains others name
  others-past names others name within =
      let a : Adds names others (with_others dropped names others) = others-add names others in
      let past : drop (length names) (with_others dropped names others) ≡ a.added = ap (drop (length names)) a.whole ∙ drop-append_seam names a.added in
      All-contains (Contains others) a.added name a.only (subst (λ (l : Names). Contains l name) past within)

-- the names put to none are of those
from-none : (others : Names) (name : List ℕ) → Contains (with_names [] others) name → Contains others name
from-none others name within = others-past [] [] others name within

meant-to : (h : ReplyHow) (dropped : Names) (text name : List ℕ) → Contains (answer h dropped text).to name → Contains (answered text) name ⊎ Contains (others_in (codes "To") h text) name
unfolding answer
meant-to how.All dropped text name within =
    ⊎_elim (λ old. inl (from-none (answered text) name old)) (λ new. inr new) (others-or dropped (with_names [] (answered text)) (bare_addresses (codes "To") text) name within)
meant-to how.Authors dropped text name within = inl (from-none (answered text) name within)

meant-cc : (h : ReplyHow) (dropped : Names) (text name : List ℕ) → Contains (answer h dropped text).cc name → Contains (others_in (codes "Cc") h text) name
unfolding answer
meant-cc how.All dropped text name within = others-past dropped (to_names how.All dropped text) (bare_addresses (codes "Cc") text) name within
meant-cc how.Authors dropped text name within = within

meant-bcc : (h : ReplyHow) (dropped : Names) (text : List ℕ) → (answer h dropped text).bcc ≡ []
unfolding answer
meant-bcc h dropped text = refl

pub nobody-else : NobodyElse
nobody-else h own metoo text draft name is =
    let dropped : Names = dropped_names own metoo in
    let made = some-of (length (answered text) == 0) (answer h dropped text) draft is in
    subst (λ (d : Draft). IsMeant h text d name) made (record { to = meant-to h dropped text name; cc = meant-cc h dropped text name; bcc = meant-bcc h dropped text })
