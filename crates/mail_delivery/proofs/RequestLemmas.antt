-- What is so of every request.
use Rattle.std.proofs.Common.{◌≡◌, ◌<◌, ◌≤◌, ◌||◌, ℕ, Bool, true, false, List, [], ◌∷◌, ◌++◌, length, Option, Some, None, codes, refl, ap, sym, ◌∙◌, subst, inl, inr, arith, if◌then◌else◌}
use Rattle.std.specs.List.{fold, list_all, All, AllByRecursion}
use Rattle.std.specs.Option.{option_map}
use Rattle.std.specs.Str.{bytes_eq}
use Rattle.std.proofs.lemmas.Bool.{and_parts, ltb-true, leb-true}
use Rattle.std.proofs.lemmas.List.Elements.{All-nil, All-cons}
use Rattle.commit_machine.specs.Records.{has, AreDistinct}
use Rattle.commit_machine.proofs.records.Same.{same_or_not}
use Rattle.mailx_vars.specs.Environment.{Pairs, variable}
use Rattle.mailx_vars.specs.Names.{is_user_name}
use Rattle.mail_delivery.specs.declared.words.Request.{Request}
use Rattle.mail_delivery.specs.Words.{user_limit, is_recipient, with_name, each_once, are_recipients, recipients_of, request_of, reading}
use Rattle.mail_delivery.specs.Laws.{UsersAreOnce}
use Rattle.mail_delivery.proofs.WordLemmas.{folded-more}

-- there are users, not too many, each once, and each a recipient; the sender's name is one
pub record IsGood (request : Request) : Type 0 where
  pub some : 0 < length request.users
  pub few : length request.users ≤ user_limit
  pub once : AreDistinct request.users
  pub recipients : AllByRecursion (λ (user : List ℕ). is_recipient user ≡ true) request.users
  pub sender : is_user_name request.sender ≡ true

-- ---- each once
any-other : (a b c : Bool) → (a || b) ≡ false → (a ≡ false) × (b ≡ false)
any-other true b c h = absurd (cc h)
any-other false b c h = (refl, h)

has-end : (ns : List (List ℕ)) (x y : List ℕ) → has ns y ≡ false → bytes_eq y x ≡ false → has (ns ++ x ∷ []) y ≡ false
has-end [] x y none other = ap (λ (b : Bool). b || false) other
has-end (n ∷ ns) x y none other =
    let p = any-other (bytes_eq y n) (has ns y) true none in
    ap (λ (b : Bool). b || has (ns ++ x ∷ []) y) p.0 ∙ has-end ns x y p.1 other

turned : (n x : List ℕ) → bytes_eq x n ≡ false → bytes_eq n x ≡ false
turned n x h = elim (same_or_not n x) [ inl p ↦ absurd (let same = same_or_not x n in elim same [ inl q ↦ cc (q.1, h) | inr q ↦ q.0 (sym p.0) ]) | inr p ↦ p.1 ]

distinct-end : (ns : List (List ℕ)) (x : List ℕ) → AreDistinct ns → has ns x ≡ false → AreDistinct (ns ++ x ∷ [])
distinct-end [] x d none = (refl, tt)
distinct-end (n ∷ ns) x d none =
    let p = any-other (bytes_eq x n) (has ns x) true none in
    (has-end ns x n d.0 (turned n x p.0), distinct-end ns x d.1 p.1)

distinct-with : (ns : List (List ℕ)) (x : List ℕ) → AreDistinct ns → AreDistinct (with_name ns x)
distinct-with ns x d = go (has ns x) refl
  where
    go : (b : Bool) → has ns x ≡ b → AreDistinct (if b then ns else ns ++ x ∷ [])
    go true is = d
    go false is = distinct-end ns x d is

distinct-fold : (ns later : List (List ℕ)) → AreDistinct ns → AreDistinct (fold with_name ns later)
distinct-fold ns [] d = d
distinct-fold ns (x ∷ later) d = distinct-fold (with_name ns x) later (distinct-with ns x d)

-- ---- each is a recipient
abbrev AreAll : List (List ℕ) → Type 0
AreAll users = AllByRecursion (λ (user : List ℕ). is_recipient user ≡ true) users

all-end : (ns : List (List ℕ)) (x : List ℕ) → AreAll ns → is_recipient x ≡ true → AreAll (ns ++ x ∷ [])
all-end [] x all h = (h, tt)
all-end (n ∷ ns) x all h = (all.0, all-end ns x all.1 h)

all-with : (ns : List (List ℕ)) (x : List ℕ) → AreAll ns → is_recipient x ≡ true → AreAll (with_name ns x)
all-with ns x all h = go (has ns x)
  where
    go : (b : Bool) → AreAll (if b then ns else ns ++ x ∷ [])
    go true = all
    go false = all-end ns x all h

all-fold : (ns later : List (List ℕ)) → AreAll ns → list_all is_recipient later ≡ true → AreAll (fold with_name ns later)
all-fold ns [] all h = all
all-fold ns (x ∷ later) all h = let p = and_parts _ _ h in all-fold (with_name ns x) later (all-with ns x all p.0) p.1

some-once : (users : List (List ℕ)) → 0 < length users → 0 < length (each_once users)
some-once [] some = absurd (omega (arith, some))
some-once (u ∷ us) some = omega (arith, folded-more (u ∷ []) us)

-- ---- what words ask for
abbrev some_of : Request → Option Request
some_of r = Some r

same-request : (a b : Request) → some_of a ≡ some_of b → a ≡ b
same-request a b e = cc

request-good : (sender : List ℕ) (users : List (List ℕ)) (request : Request) → request_of sender users ≡ Some request → IsGood request
request-good sender users request h = named (is_user_name sender) refl h
  where
    given : (b : Bool) → are_recipients users ≡ b → is_user_name sender ≡ true
        → option_map (λ (once : List (List ℕ)). record { sender = sender; users = once }) (if b then Some (each_once users) else None) ≡ Some request → IsGood request
    given false is good e = absurd (cc e)
    given true is good e =
        let a = and_parts _ _ is in
        let b = and_parts _ _ a.1 in
        let r : Request = record { sender = sender; users = each_once users } in
        subst IsGood (same-request r request e) (record {
          some = some-once users (ltb-true _ _ a.0);
          few = leb-true _ _ b.1;
          once = distinct-fold [] users tt;
          recipients = all-fold [] users tt b.0;
          sender = good;
        })

    named : (b : Bool) → is_user_name sender ≡ b
        → (if b then option_map (λ (once : List (List ℕ)). record { sender = sender; users = once }) (recipients_of users) else None) ≡ Some request → IsGood request
    named false is e = absurd (cc e)
    named true is e = given (are_recipients users) refl is e

pub reading-good : (words : List (List ℕ)) (pairs : Pairs) (request : Request) → reading words pairs ≡ Some request → IsGood request
reading-good [] pairs request h = request-good (variable pairs (codes "LOGNAME")) [] request h
reading-good (w ∷ []) pairs request h = request-good (variable pairs (codes "LOGNAME")) (w ∷ []) request h
reading-good (w ∷ s ∷ us) pairs request h = go (bytes_eq w (codes "-r")) h
  where
    go : (b : Bool) → (if b then request_of s us else request_of (variable pairs (codes "LOGNAME")) (w ∷ s ∷ us)) ≡ Some request → IsGood request
    go true e = request-good s us request e
    go false e = request-good (variable pairs (codes "LOGNAME")) (w ∷ s ∷ us) request e

all-of : (users : List (List ℕ)) → AreAll users → All (λ (user : List ℕ). is_recipient user ≡ true) users
all-of [] all = All-nil (λ (user : List ℕ). is_recipient user ≡ true)
all-of (u ∷ us) all = All-cons (λ (user : List ℕ). is_recipient user ≡ true) u us all.0 (all-of us all.1)

pub users-once : UsersAreOnce
users-once words pairs request h = let good = reading-good words pairs request h in (good.once, all-of request.users good.recipients)
