-- No lawful call is about the mailbox of another user.
use Rattle.std.proofs.Common.{◌≡◌, ◌∙◌, ℕ, List, [], ◌∷◌, ◌++◌, sym, ap, subst, refl, inl, inr}
use Rattle.std.specs.Prelude.{Option, Some, Bool, true, false, ◌&&◌, is_none}
use Rattle.std.specs.declared.result.Result.TheVariants.{Ok, Err}
use Rattle.spool_rules.specs.declared.port.Step.{Step}
use Rattle.spool_rules.specs.declared.port.Step.TheVariants.{Users, Hold, Look, Make, Take, Link, Rename, Remove, Sync}
use Rattle.spool_rules.specs.declared.words.Operation.{Operation}
use Rattle.spool_rules.specs.declared.words.Operation.TheVariants as op
use Rattle.spool_rules.specs.declared.words.Request.{Request}
use Rattle.spool_rules.specs.Users.{is_callers, entry_of, has_number}
use Rattle.spool_rules.specs.Lawful.{Clears, IsNameOf, MayRemove, Allowed, MayCome, LawfulAfter, IsLawful}
use Rattle.spool_rules.specs.Laws.{Concerns, Spares, IsOthers}

and_left : (a b : Bool) → (a && b) ≡ true → a ≡ true
and_left true b e = refl
and_left false b e = e

and_right : (a b : Bool) → (a && b) ≡ true → b ≡ true
and_right true b e = e
and_right false b e = cc

-- the four parts of a test
part_one : (a b c d : Bool) → (a && b && c && d) ≡ true → a ≡ true
part_one a b c d e = and_left a b (and_left (a && b) c (and_left (a && b && c) d e))

part_two : (a b c d : Bool) → (a && b && c && d) ≡ true → b ≡ true
part_two a b c d e = and_right a b (and_left (a && b) c (and_left (a && b && c) d e))

part_three : (a b c d : Bool) → (a && b && c && d) ≡ true → c ≡ true
part_three a b c d e = and_right (a && b) c (and_left (a && b && c) d e)

-- a name that has an entry isn't one that has none
no_entry : (list name other line : List ℕ) → entry_of list name ≡ Some line → name ≡ other → is_none (entry_of list other) ≡ true → ⊥
no_entry list name other line e m none =
    let same : entry_of list other ≡ Some line = ap (λ (x : List ℕ). entry_of list x) (sym m) ∙ e in
    let wrong : false ≡ true = ap (λ (x : Option (List ℕ)). is_none x) (sym same) ∙ none in
    cc

not_his : (n : ℕ) (list name other line : List ℕ) → entry_of list name ≡ Some line → has_number n (Some line) ≡ false → name ≡ other → has_number n (entry_of list other) ≡ true → ⊥
not_his n list name other line e isnt m own =
    let same : entry_of list other ≡ Some line = ap (λ (x : List ℕ). entry_of list x) (sym m) ∙ e in
    let his : has_number n (Some line) ≡ true = ap (λ (x : Option (List ℕ)). has_number n x) (sym same) ∙ own in
    let wrong : false ≡ true = sym isnt ∙ his in
    cc

-- the mailbox of another user is none of the caller's names
no_name : (n : ℕ) (r : Request) (list name line : List ℕ) → is_callers list n r ≡ true → entry_of list name ≡ Some line → has_number n (Some line) ≡ false → IsNameOf r name → ⊥
no_name n r list name line is e isnt (inl m) =
    not_his n list name r.mailbox line e isnt m
    (part_one (has_number n (entry_of list r.mailbox)) (is_none (entry_of list r.lock)) (is_none (entry_of list r.beside)) (is_none (entry_of list r.staged)) is)
no_name n r list name line is e isnt (inr (inl m)) =
    no_entry list name r.lock line e m (part_two (has_number n (entry_of list r.mailbox)) (is_none (entry_of list r.lock)) (is_none (entry_of list r.beside)) (is_none (entry_of list r.staged)) is)
no_name n r list name line is e isnt (inr (inr (inl m))) =
    no_entry list name r.beside line e m (part_three (has_number n (entry_of list r.mailbox)) (is_none (entry_of list r.lock)) (is_none (entry_of list r.beside)) (is_none (entry_of list r.staged)) is)
no_name n r list name line is e isnt (inr (inr (inr m))) =
    no_entry list name r.staged line e m (and_right
    (has_number n (entry_of list r.mailbox) && is_none (entry_of list r.lock) && is_none (entry_of list r.beside)) (is_none (entry_of list r.staged)) is)

-- what is cleared away has one of the names
pub cleared_name : (operation : Operation) (r : Request) (name : List ℕ) → Clears operation r name → IsNameOf r name
cleared_name op.Lock r name e = inr (inr (inl e))
cleared_name op.Unlock r name e = inr (inr (inl e))
cleared_name op.Stage r name e = inr (inr (inr e))
cleared_name op.Publish r name e = absurd e
cleared_name op.Erase r name e = absurd e
cleared_name op.Discard r name e = inr (inr (inr e))

-- what may be taken away has one of the names
removed_name : (n : ℕ) (r : Request) (steps : List Step) (name : List ℕ) → MayRemove n r steps name → IsNameOf r name
removed_name n r steps name (inl p) = cleared_name r.operation r name p.0
removed_name n r steps name (inr (inl p)) = inr (inl p.0)
removed_name n r steps name (inr (inr p)) = inl p.0

-- what an allowed call is about is one of the names
own_name : (n : ℕ) (r : Request) (before : List Step) (name : List ℕ) (step : Step) → Allowed n r before step → Concerns name step → IsNameOf r name
own_name n r before name (Users list) a c = absurd c
own_name n r before name (Hold other done) a c = absurd a
own_name n r before name (Look other seen) a c = subst (λ (x : List ℕ). IsNameOf r x) (sym c) a
own_name n r before name (Make other bytes done) a c = inr (inr (inl (c ∙ a.0)))
own_name n r before name (Take other mode done) a c = inr (inr (inr (c ∙ a.0)))
own_name n r before name (Link from to free) a (inl c) = inr (inr (inl (c ∙ a.0)))
own_name n r before name (Link from to free) a (inr c) = inr (inl (c ∙ a.1))
own_name n r before name (Rename from to done) a (inl c) = inr (inr (inr (c ∙ a.0)))
own_name n r before name (Rename from to done) a (inr c) = inl (c ∙ a.1)
own_name n r before name (Remove other done) a c = subst (λ (x : List ℕ). IsNameOf r x) (sym c) (removed_name n r before other a)
own_name n r before name (Sync done) a c = absurd c

-- a call that may come, behind the list of users, isn't about the name of another
spared : (n : ℕ) (r : Request) (list name line : List ℕ) (tail : List Step) (step : Step) → entry_of list name ≡ Some line
    → has_number n (Some line) ≡ false → MayCome n r (Users (Ok list) ∷ tail) step → Concerns name step → ⊥
spared n r list name line tail (Users other) e isnt may c = c
spared n r list name line tail (Hold a b) e isnt may c = no_name n r list name line may.0 e isnt (inr (inr (inl (c ∙ may.2))))
spared n r list name line tail (Look a b) e isnt may c = no_name n r list name line may.0 e isnt (own_name n r (Users (Ok list) ∷ tail) name (Look a b) may.2 c)
spared n r list name line tail (Make a b d) e isnt may c = no_name n r list name line may.0 e isnt (own_name n r (Users (Ok list) ∷ tail) name (Make a b d) may.2 c)
spared n r list name line tail (Take a b d) e isnt may c = no_name n r list name line may.0 e isnt (own_name n r (Users (Ok list) ∷ tail) name (Take a b d) may.2 c)
spared n r list name line tail (Link a b d) e isnt may c = no_name n r list name line may.0 e isnt (own_name n r (Users (Ok list) ∷ tail) name (Link a b d) may.2 c)
spared n r list name line tail (Rename a b d) e isnt may c = no_name n r list name line may.0 e isnt (own_name n r (Users (Ok list) ∷ tail) name (Rename a b d) may.2 c)
spared n r list name line tail (Remove a d) e isnt may c = no_name n r list name line may.0 e isnt (own_name n r (Users (Ok list) ∷ tail) name (Remove a d) may.2 c)
spared n r list name line tail (Sync d) e isnt may c = c

all_spared : (n : ℕ) (r : Request) (list name line : List ℕ) (tail steps : List Step) → entry_of list name ≡ Some line
    → has_number n (Some line) ≡ false → LawfulAfter n r (Users (Ok list) ∷ tail) steps → Spares name steps
all_spared n r list name line tail [] e isnt h = tt
all_spared n r list name line tail (step ∷ steps) e isnt h = (λ c. spared n r list name line tail step e isnt h.0 c, all_spared n r list name line (tail ++ step ∷ []) steps e isnt h.1)

pub others_spared : (n : ℕ) (r : Request) (name : List ℕ) (steps : List Step) → IsLawful n r steps → IsOthers n name steps → Spares name steps
others_spared n r name [] h o = absurd o
others_spared n r name (Users (Ok list) ∷ steps) h o = (λ c. c, all_spared n r list name o.0 [] steps o.1 o.2 h.1)
others_spared n r name (Users (Err a) ∷ steps) h o = absurd o
others_spared n r name (Hold a b ∷ steps) h o = absurd o
others_spared n r name (Look a b ∷ steps) h o = absurd o
others_spared n r name (Make a b c ∷ steps) h o = absurd o
others_spared n r name (Take a b c ∷ steps) h o = absurd o
others_spared n r name (Link a b c ∷ steps) h o = absurd o
others_spared n r name (Rename a b c ∷ steps) h o = absurd o
others_spared n r name (Remove a b ∷ steps) h o = absurd o
others_spared n r name (Sync a ∷ steps) h o = absurd o
