-- The name of the actor of a home folder can be one.
use Rattle.std.proofs.Common.{◌≡◌, ◌≤◌, ℕ, Bool, true, false, List, [], ◌∷◌, ◌++◌, codes, length, refl, ◌∙◌, arith, length-append}
use Rattle.std.specs.Prelude.{◌==◌, ◌&&◌, not, nat_le, if◌then◌else◌}
use Rattle.std.specs.Str.{bytes_eq}
use Rattle.std.proofs.lemmas.Bool.{and_parts, leb-true}
use Rattle.std.proofs.lemmas.List.Folds.{list_all-append}
use Rattle.host_port.specs.Names.{has_no_zero}
use Rattle.commit_machine.specs.Names.{actor_limit}
use Rattle.mailx_vars.specs.Names.{is_short_name}
use Rattle.session_state.specs.Placing.{actor_for, front_of, is_rooted, placed}
use Rattle.session_state.specs.States.{IsActor}
use Rattle.session_state.proofs.NameLemmas.{short-name}

both-clear : (a b : List ℕ) → has_no_zero a ≡ true → has_no_zero b ≡ true → has_no_zero (a ++ b) ≡ true
both-clear a b x y = list_all-append (λ b. not (b == 0)) a b ∙ rw (x, y) refl

pub placed-clear : (here name : List ℕ) → has_no_zero here ≡ true → has_no_zero name ≡ true → has_no_zero (placed here name) ≡ true
placed-clear here [] clear name = refl
placed-clear here (b ∷ bs) clear name = go (b == 47)
  where
    go : (t : Bool) → has_no_zero (if t then b ∷ bs else here ++ b ∷ bs) ≡ true
    go true = name
    go false = both-clear here (b ∷ bs) clear name

pub front-clear : (folder : List ℕ) → has_no_zero (front_of folder) ≡ true
front-clear folder = go (is_short_name folder && is_rooted folder) refl
  where
    slash : has_no_zero folder ≡ true → (t : Bool) → has_no_zero (if t then folder else folder ++ codes "/") ≡ true
    slash clear true = clear
    slash clear false = both-clear folder (codes "/") clear refl

    go : (t : Bool) → (is_short_name folder && is_rooted folder) ≡ t
        → has_no_zero (if t then (if bytes_eq folder (codes "/") then folder else folder ++ codes "/") else []) ≡ true
    go true is = let short = short-name folder (and_parts (is_short_name folder) _ is).0 in slash short.no_zero (bytes_eq folder (codes "/"))
    go false is = refl

-- the name of the actor of a home folder whose name can be used
pub actor-is : (here home : List ℕ) → has_no_zero here ≡ true → is_short_name home ≡ true → IsActor (actor_for here home)
actor-is here home front short = go (nat_le (length (placed here own)) actor_limit) refl
  where
    own : List ℕ
    own = home ++ codes "/.mailx"

    own-clear : has_no_zero own ≡ true
    own-clear = let is = short-name home short in both-clear home (codes "/.mailx") is.no_zero refl

    own-short : length own ≤ actor_limit
    own-short = let is = short-name home short in let h = is.short in omega (arith, length-append home (codes "/.mailx"))

    go : (t : Bool) → nat_le (length (placed here own)) actor_limit ≡ t → IsActor (if t then placed here own else own)
    go true is = record { short = leb-true (length (placed here own)) actor_limit is; no_zero = placed-clear here own front own-clear }
    go false is = record { short = own-short; no_zero = own-clear }
