-- The users of a request are those whom the words name.
use Rattle.std.proofs.Common.{◌≡◌, ◌||◌, Bool, true, false, List, [], ◌∷◌, ◌++◌, ℕ, Option, Some, None, codes, refl, ap, sym, ◌∙◌, subst, inl, inr, if◌then◌else◌}
use Rattle.std.specs.List.{fold}
use Rattle.std.specs.Option.{option_map}
use Rattle.std.specs.Str.{bytes_eq}
use Rattle.std.proofs.lemmas.Bool.{false≢true}
use Rattle.std.proofs.lemmas.Slice.Eq.{bytes_eq-Decides}
use Rattle.commit_machine.specs.Records.{has}
use Rattle.mailx_vars.specs.Environment.{Pairs, variable}
use Rattle.mailx_vars.specs.Names.{is_user_name}
use Rattle.mail_delivery.specs.declared.words.Request.{Request}
use Rattle.mail_delivery.specs.Words.{with_name, each_once, are_recipients, recipients_of, request_of, reading}
use Rattle.mail_delivery.specs.Laws.{AllAreNamed, named_users}

or-none : (a : Bool) → (a || false) ≡ a
or-none true = refl
or-none false = refl

or-later : (a b c : Bool) → (a || (b || c)) ≡ ((a || b) || c)
or-later true b c = refl
or-later false b c = refl

or-same : (a b : Bool) → (b ≡ true → a ≡ true) → a ≡ (a || b)
or-same true b h = refl
or-same false true h = h refl
or-same false false h = refl

has-end : (ns : List (List ℕ)) (x y : List ℕ) → has (ns ++ x ∷ []) y ≡ (has ns y || bytes_eq y x)
has-end [] x y = or-none (bytes_eq y x)
has-end (n ∷ ns) x y = ap (λ (b : Bool). bytes_eq y n || b) (has-end ns x y) ∙ or-later (bytes_eq y n) (has ns y) (bytes_eq y x)

has-with : (ns : List (List ℕ)) (x y : List ℕ) → has (with_name ns x) y ≡ (has ns y || bytes_eq y x)
has-with ns x y = go (has ns x) refl
  where
    go : (b : Bool) → has ns x ≡ b → has (if b then ns else ns ++ x ∷ []) y ≡ (has ns y || bytes_eq y x)
    go true is = or-same (has ns y) (bytes_eq y x) (λ same. ap (has ns) ((bytes_eq-Decides y x).0 same) ∙ is)
    go false is = has-end ns x y

has-fold : (ns later : List (List ℕ)) (y : List ℕ) → has (fold with_name ns later) y ≡ (has ns y || has later y)
has-fold ns [] y = sym (or-none (has ns y))
has-fold ns (x ∷ later) y =
    has-fold (with_name ns x) later y
    ∙ ap (λ (b : Bool). b || has later y) (has-with ns x y)
    ∙ sym (or-later (has ns y) (bytes_eq y x) (has later y))

-- the users of a request of this sender to these users
has-request : (sender : List ℕ) (users : List (List ℕ)) (request : Request) (user : List ℕ) → request_of sender users ≡ Some request → has request.users user ≡ has users user
has-request sender users request user h = named (is_user_name sender) h
  where
    given : (b : Bool) → option_map (λ (once : List (List ℕ)). record { sender = sender; users = once }) (if b then Some (each_once users) else None)
        ≡ Some request → has request.users user ≡ has users user
    given false e = absurd (cc e)
    given true e =
        let r : Request = record { sender = sender; users = each_once users } in
        let same : r ≡ request = cc e in
        ap (λ (x : Request). has x.users user) (sym same) ∙ has-fold [] users user

    named : (b : Bool) → (if b then option_map (λ (once : List (List ℕ)). record { sender = sender; users = once }) (recipients_of users) else None)
        ≡ Some request → has request.users user ≡ has users user
    named false e = absurd (cc e)
    named true e = given (are_recipients users) e

pub all-named : AllAreNamed
all-named [] pairs request user h = has-request (variable pairs (codes "LOGNAME")) [] request user h
all-named (w ∷ []) pairs request user h = has-request (variable pairs (codes "LOGNAME")) (w ∷ []) request user h
all-named (w ∷ s ∷ us) pairs request user h = go (bytes_eq w (codes "-r")) h
  where
    go : (b : Bool) → (if b then request_of s us else request_of (variable pairs (codes "LOGNAME")) (w ∷ s ∷ us)) ≡ Some request
        → has request.users user ≡ has (if b then us else w ∷ s ∷ us) user
    go true e = has-request s us request user e
    go false e = has-request (variable pairs (codes "LOGNAME")) (w ∷ s ∷ us) request user e
