-- A criterion as the code keeps it: steps over a stack, each key after the keys that it is made of.
use mathlib.Core.Path.{ap, ◌∙◌}
use Rattle.std.specs.Prelude.{◌≡◌, List, [], ◌∷◌, fold, refl}
use Rattle.std.specs.Coded.{Coded, code_by, coded_list}
use Rattle.mail_search.specs.declared.criterion.Step.{Step}
use Rattle.mail_search.specs.declared.criterion.Step.TheVariants.{Test, Not, Or, Both}
use Rattle.mail_search.specs.declared.criterion.Test.TheVariants as tested
use Rattle.mail_search.specs.Keys.{Key, test, negation, either, both}

-- the keys after a step, the last one first
abbrev pub with_step : List Key → Step → List Key
with_step ks (Test t) = test t ∷ ks
with_step (k ∷ ks) Not = negation k ∷ ks
with_step (b ∷ a ∷ ks) Or = either a b ∷ ks
with_step (b ∷ a ∷ ks) Both = both a b ∷ ks
with_step ks step = ks

-- the keys that steps make, the last one first
abbrev pub keys_of : List Step → List Key
keys_of steps = fold with_step [] steps

-- the last key; the one that always holds, if there is none
abbrev pub last_key : List Key → Key
last_key [] = test tested.All
last_key (k ∷ ks) = k

-- the steps that make a key, before these: those of the keys that it is made of, and its own
abbrev pub steps_onto : Key → List Step → List Step
steps_onto (test t) more = Test t ∷ more
steps_onto (negation k) more = steps_onto k (Not ∷ more)
steps_onto (either a b) more = steps_onto a (steps_onto b (Or ∷ more))
steps_onto (both a b) more = steps_onto a (steps_onto b (Both ∷ more))

made : (k : Key) (ks : List Key) (more : List Step) → fold with_step ks (steps_onto k more) ≡ fold with_step (k ∷ ks) more
made (test t) ks more = refl
made (negation k) ks more = made k ks (Not ∷ more)
made (either a b) ks more = made a ks (steps_onto b (Or ∷ more)) ∙ made b (a ∷ ks) (Or ∷ more)
made (both a b) ks more = made a ks (steps_onto b (Both ∷ more)) ∙ made b (a ∷ ks) (Both ∷ more)

pub made_alone : (k : Key) → last_key (keys_of (steps_onto k [])) ≡ k
made_alone k = ap last_key (made k [] [])

-- the logic stores a key as its steps
abbrev pub key_code : Coded Step → Coded Key
key_code step = code_by (List Step) (coded_list step) (λ k. steps_onto k []) (λ steps. last_key (keys_of steps)) made_alone
