-- What the words of a delivery come to.
use Rattle.std.proofs.Common.{◌≡◌, ◌≤◌, ◌<◌, ◌||◌, ◌&&◌, ℕ, Bool, true, false, List, [], ◌∷◌, ◌++◌, take, drop, length, get_or, None, inl, inr, ◌+◌, refl, ap, sym, ◌∙◌, arith, if◌then◌else◌, length-append, take-append-drop}
use Rattle.std.specs.Prelude.{nat_lt, nat_le}
use Rattle.std.specs.List.{fold, list_all, list_any}
use Rattle.std.specs.Str.{bytes_eq}
use Rattle.std.proofs.lemmas.Bool.{cases_Bool, cond-false, and_from, leb-true}
use Rattle.std.proofs.lemmas.List.{take_more}
use Rattle.std.proofs.lemmas.List.Folds.{list_all_at, list_all_more}
use Rattle.std.proofs.lemmas.List.Sums.{fold-append, fold_push}
use Rattle.commit_machine.specs.Records.{has}
use Rattle.mail_delivery.specs.Words.{user_limit, is_recipient, with_name, each_once, recipients_of}

pub any-has : (names : List (List ℕ)) (name : List ℕ) → list_any (λ (other : List ℕ). bytes_eq name other) names ≡ has names name
any-has [] name = refl
any-has (n ∷ ns) name = ap (λ (b : Bool). bytes_eq name n || b) (any-has ns name)

-- names never become fewer
not-fewer : (names : List (List ℕ)) (name : List ℕ) → length names ≤ length (with_name names name)
not-fewer names name = go (has names name)
  where
    go : (b : Bool) → length names ≤ length (if b then names else names ++ name ∷ [])
    go true = omega arith
    go false = omega (arith, length-append names (name ∷ []))

pub folded-more : (names later : List (List ℕ)) → length names ≤ length (fold with_name names later)
folded-more names [] = omega arith
folded-more names (n ∷ later) = omega (arith, not-fewer names n, folded-more (with_name names n) later)

second-fails : (a b c : Bool) → b ≡ false → (a && (b && c)) ≡ false
second-fails true b c h = ap (λ (x : Bool). x && c) h
second-fails false b c h = refl

third-fails : (a b c : Bool) → c ≡ false → (a && (b && c)) ≡ false
third-fails true true c h = h
third-fails true false c h = refl
third-fails false b c h = refl

not-within : (n : ℕ) → user_limit < n → nat_le n user_limit ≡ false
not-within n past = elim (cases_Bool (nat_le n user_limit)) [ inl fits ↦ absurd (let within = leb-true n user_limit fits in omega (arith, within, past)) | inr over ↦ over ]

-- the first names, each once, are no more than all are
pub front-fewer : (names : List (List ℕ)) (k : ℕ) → length (each_once (take k names)) ≤ length (each_once names)
front-fewer names k =
    let front = take k names in
    let back = drop k names in
    let whole : length (each_once names) ≡ length (fold with_name (each_once front) back) =
    ap (λ (l : List (List ℕ)). length (each_once l)) (sym (take-append-drop k names)) ∙ ap (λ (l : List (List ℕ)). length l) (fold-append with_name [] front back) in
    omega (arith, whole, folded-more (each_once front) back)

-- ---- the users, one by one
module _ (users : List (List ℕ)) (i : ℕ) (user : List ℕ) (within : i < length users) (is : user ≡ get_or users i user) where
  once-more : (names new : List (List ℕ)) → names ≡ each_once (take i users) → new ≡ with_name names user → new ≡ each_once (take (i + 1) users)
  once-more names new so more =
      more
      ∙ ap (λ (l : List (List ℕ)). with_name l user) so
      ∙ ap (with_name (each_once (take i users))) is
      ∙ sym (fold_push with_name [] (take i users) (get_or users i user))
      ∙ ap each_once (sym (take_more users i user within))

  -- one that is no recipient refuses all
  pub not-one : is_recipient user ≡ false → None ≡ recipients_of users
  not-one other =
      let all : list_all is_recipient users ≡ false = list_all_at is_recipient users i user within (ap is_recipient (sym is) ∙ other) in
      sym (cond-false _ _ _ (second-fails (nat_lt 0 (length users)) (list_all is_recipient users) (nat_le (length (each_once users)) user_limit) all))

  -- so do too many
  pub too-many : (names new : List (List ℕ)) → names ≡ each_once (take i users) → new ≡ with_name names user → user_limit < length new → None ≡ recipients_of users
  too-many names new so more many =
      let whole : length new ≡ length (each_once (take (i + 1) users)) = ap (λ (l : List (List ℕ)). length l) (once-more names new so more) in
      let past : user_limit < length (each_once users) = omega (arith, many, whole, front-fewer users (i + 1)) in
      sym (cond-false _ _ _ (third-fails (nat_lt 0 (length users)) (list_all is_recipient users) (nat_le (length (each_once users)) user_limit) (not-within (length (each_once users)) past)))

  pub kept : (names new : List (List ℕ)) → names ≡ each_once (take i users) → list_all is_recipient (take i users) ≡ true → new ≡ with_name names user
      → is_recipient user ≡ true → length new ≤ user_limit
      → (new ≡ each_once (take (i + 1) users)) × (list_all is_recipient (take (i + 1) users) ≡ true) × (length new ≤ user_limit)
  kept names new so all more fine few = (
    once-more names new so more,
    list_all_more is_recipient users i user within ∙ and_from (list_all is_recipient (take i users)) (is_recipient (get_or users i user)) all (ap is_recipient (sym is) ∙ fine),
    few,
  )
