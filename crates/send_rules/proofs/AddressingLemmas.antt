-- To, Cc and Bcc in order.
use Rattle.std.proofs.Common.{◌≡◌, ℕ, List, ◌++◌, Option, Some, None, Bool, true, false, drop, length, refl, sym, ap, subst, ◌∙◌}
use Rattle.std.specs.Prelude.{nat_lt, codes, unwrap_or, if◌then◌else◌}
use Rattle.std.proofs.Math.Seq.{drop-append_seam}
use Rattle.mailx_vars.specs.Settings.{is_set}
use Rattle.send_rules.specs.declared.addressing.Recipients.{Recipients}
use Rattle.send_rules.specs.Addressing.{all_of, few, names_of, recipient_limit, stands_for}
use Rattle.send_rules.specs.AddressingLaws.{AddresseesInOrder}
use Rattle.send_rules.proofs.WalkLemmas.{later-names-add}

abbrev Names : Type 0
Names = List (List ℕ)

-- names that aren't too many are these names
few-are : (names found : Names) → few names ≡ Some found → names ≡ found
few-are names found is = go (nat_lt recipient_limit (length names)) is
  where
    go : (b : Bool) → (if b then None else Some names) ≡ Some found → names ≡ found
    go true none = absurd (cc none)
    go false some = ap (λ (o : Option Names). unwrap_or o found) some

-- three lists that are there
record AreThere (x y z : Option Names) (a : Recipients) : Type 0 where
  second : Names
  to : x ≡ Some a.to
  shown : y ≡ Some second
  all : z ≡ Some a.all
  cc : a.cc ≡ drop (length a.to) second

are-there : (to shown all : Option Names) (a : Recipients) → all_of to shown all ≡ Some a → AreThere to shown all a
are-there None shown all a is = absurd (cc is)
are-there (Some to) None all a is = absurd (cc is)
are-there (Some to) (Some shown) None a is = absurd (cc is)
are-there (Some to) (Some shown) (Some all) a is =
    let made : Recipients = record { to = to; cc = drop (length to) shown; all = all } in
    let same : made ≡ a = ap (λ (o : Option Recipients). unwrap_or o made) is in
    subst (AreThere (Some to) (Some shown) (Some all)) same (record { second = shown; to = refl; shown = refl; all = refl; cc = refl })

pub in-order : AddresseesInOrder
in-order desk draft a is =
    let shown_names : Names = draft.to ++ draft.cc in
    let metoo : Bool = is_set desk.vars (codes "metoo") in
    let f = are-there (stands_for desk draft.to) (stands_for desk shown_names) (stands_for desk (shown_names ++ draft.bcc)) a is in
    let to = few-are (names_of desk draft.to) a.to f.to in
    let shown = few-are (names_of desk shown_names) f.second f.shown in
    let all = few-are (names_of desk (shown_names ++ draft.bcc)) a.all f.all in
    let added = later-names-add desk.aliases desk.own metoo draft.to draft.cc in
    let blind = later-names-add desk.aliases desk.own metoo shown_names draft.bcc in
    let split : f.second ≡ a.to ++ added.0 = sym shown ∙ added.1 ∙ ap (λ (l : Names). l ++ added.0) to in
    let copies : a.cc ≡ added.0 = f.cc ∙ ap (drop (length a.to)) split ∙ drop-append_seam a.to added.0 in
    let both : a.to ++ a.cc ≡ names_of desk shown_names = ap (λ (l : Names). a.to ++ l) copies ∙ sym split ∙ sym shown in
    record {
      to = sym to;
      shown = both;
      blind = blind.0;
      all = sym all ∙ blind.1 ∙ ap (λ (l : Names). l ++ blind.0) (sym both);
      whole = sym all;
    }
