-- One more call on calls that are lawful.
use Rattle.std.proofs.Common.{◌≡◌, ◌∙◌, ℕ, List, [], ◌∷◌, ◌++◌, sym, ap, subst, refl}
use Rattle.std.proofs.lemmas.List.{append-nil, append_assoc}
use Rattle.std.specs.Prelude.{Option, Some, None, IfSome, Bool}
use Rattle.std.specs.declared.result.Result.{Result}
use Rattle.std.specs.declared.result.Result.TheVariants.{Ok, Err}
use Rattle.spool_rules.specs.declared.port.Stop.{Stop}
use Rattle.spool_rules.specs.declared.port.Seen.{Seen}
use Rattle.spool_rules.specs.declared.port.Step.{Step}
use Rattle.spool_rules.specs.declared.port.Step.TheVariants.{Users, Hold, Look, Make, Take, Link, Rename, Remove, Sync}
use Rattle.spool_rules.specs.declared.words.Operation.TheVariants as op
use Rattle.spool_rules.specs.declared.words.Request.{Request}
use Rattle.spool_rules.specs.Told.{followed, added, EndsWith, HasInput, Once, OnlyLooked, Onward}
use Rattle.spool_rules.specs.Lawful.{GoneThen, IsNameOf, LockedThen, MayRemove, MayReplace, MayTake, Allowed, KnowsCaller, HasHold, MayCome, LawfulAfter, Sound}

-- one more at the end
lawful_more : (n : ℕ) (r : Request) (before steps : List Step) (step : Step) → LawfulAfter n r before steps → MayCome n r (before ++ steps) step → LawfulAfter n r before (steps ++ step ∷ [])
lawful_more n r before [] step h may = (subst (λ (b : List Step). MayCome n r b step) (append-nil before) may, tt)
lawful_more n r before (first ∷ steps) step h may =
    (h.0, lawful_more n r (before ++ first ∷ []) steps step h.1 (subst (λ (b : List Step). MayCome n r b step) (sym (append_assoc before (first ∷ []) steps)) may))

-- who the caller is stays known
knows_more : (n : ℕ) (r : Request) (steps : List Step) (step : Step) → KnowsCaller n r steps → KnowsCaller n r (steps ++ step ∷ [])
knows_more n r [] step h = absurd h
knows_more n r (Users (Ok list) ∷ steps) step h = h
knows_more n r (Users (Err a) ∷ steps) step h = absurd h
knows_more n r (Hold a b ∷ steps) step h = absurd h
knows_more n r (Look a b ∷ steps) step h = absurd h
knows_more n r (Make a b c ∷ steps) step h = absurd h
knows_more n r (Take a b c ∷ steps) step h = absurd h
knows_more n r (Link a b c ∷ steps) step h = absurd h
knows_more n r (Rename a b c ∷ steps) step h = absurd h
knows_more n r (Remove a b ∷ steps) step h = absurd h
knows_more n r (Sync a ∷ steps) step h = absurd h

-- what is held stays so
hold_more : (r : Request) (steps : List Step) (step : Step) → HasHold r steps → HasHold r (steps ++ step ∷ [])
hold_more r [] step h = absurd h
hold_more r (first ∷ []) step h = absurd h
hold_more r (first ∷ Hold a (Ok b) ∷ steps) step h = h
hold_more r (first ∷ Hold a (Err b) ∷ steps) step h = absurd h
hold_more r (first ∷ Users a ∷ steps) step h = absurd h
hold_more r (first ∷ Look a b ∷ steps) step h = absurd h
hold_more r (first ∷ Make a b c ∷ steps) step h = absurd h
hold_more r (first ∷ Take a b c ∷ steps) step h = absurd h
hold_more r (first ∷ Link a b c ∷ steps) step h = absurd h
hold_more r (first ∷ Rename a b c ∷ steps) step h = absurd h
hold_more r (first ∷ Remove a b ∷ steps) step h = absurd h
hold_more r (first ∷ Sync a ∷ steps) step h = absurd h

-- what is allowed may come once the caller is known, and the lock's other name is held
may_come : (n : ℕ) (r : Request) (steps : List Step) (step : Step) → KnowsCaller n r steps → HasHold r steps → Allowed n r steps step → MayCome n r steps step
may_come n r steps (Users list) k o a = absurd a
may_come n r steps (Hold x y) k o a = absurd a
may_come n r steps (Look x y) k o a = (k, o, a)
may_come n r steps (Make x y z) k o a = (k, o, a)
may_come n r steps (Take x y z) k o a = (k, o, a)
may_come n r steps (Link x y z) k o a = (k, o, a)
may_come n r steps (Rename x y z) k o a = (k, o, a)
may_come n r steps (Remove x y) k o a = (k, o, a)
may_come n r steps (Sync x) k o a = (k, o, a)

-- a call that is allowed keeps the calls sound
pub sound_more : (n : ℕ) (r : Request) (told : Option (List Step)) (step : Step) → IfSome told (λ steps. Allowed n r steps step) → Sound n r told → Sound n r (added told step)
sound_more n r None step a s = tt
sound_more n r (Some steps) step a s = (lawful_more n r [] steps step s.0 (may_come n r steps step s.1 s.2 a), knows_more n r steps step s.1, hold_more r steps step s.2)

-- the same, where the call is told
pub sound_call : (n : ℕ) (r : Request) (old new : Option (List Step)) (step : Step) → new ≡ added old step → IfSome old (λ steps. Allowed n r steps step) → Sound n r old → Sound n r new
sound_call n r old new step e a s = subst (λ (t : Option (List Step)). Sound n r t) (sym e) (sound_more n r old step a s)

-- what holds at any list of calls holds while they are told
pub always : (P : List Step → Type 0) (told : Option (List Step)) → ((steps : List Step) → P steps) → IfSome told P
always P None h = tt
always P (Some steps) h = h steps

-- what follows at each list of calls follows while they are told
pub weaken : (P Q : List Step → Type 0) (told : Option (List Step)) → ((steps : List Step) → P steps → Q steps) → IfSome told P → IfSome told Q
weaken P Q None h p = tt
weaken P Q (Some steps) h p = h steps p

-- both hold while they are told
pub both : (P Q : List Step → Type 0) (told : Option (List Step)) → IfSome told P → IfSome told Q → IfSome told (λ steps. P steps × Q steps)
both P Q None p q = tt
both P Q (Some steps) p q = (p, q)

-- what one more call makes of what held before it
pub if_added : (P Q : List Step → Type 0) (old new : Option (List Step)) (step : Step) → ((steps : List Step) → P steps → Q (steps ++ step ∷ [])) → new ≡ added old step → IfSome old P → IfSome new Q
if_added P Q None new step h e p = subst (λ (t : Option (List Step)). IfSome t Q) (sym e) tt
if_added P Q (Some steps) new step h e p = subst (λ (t : Option (List Step)). IfSome t Q) (sym e) (h steps p)

pub look_keeps : (n : ℕ) (r : Request) (old new : Option (List Step)) (name : List ℕ) (seen : Result Seen Stop) → new ≡ added old (Look name seen) → IsNameOf r name → Sound n r old → Sound n r new
look_keeps n r old new name seen e is = sound_call n r old new (Look name seen) e (always (λ steps. IsNameOf r name) old (λ steps. is))

pub make_keeps : (n : ℕ) (r : Request) (old new : Option (List Step)) (done : Result Unit Stop) → new ≡ added old (Make r.beside r.token done)
    → r.operation ≡ op.Lock → IfSome old (λ steps. GoneThen r.beside [] steps) → Sound n r old → Sound n r new
make_keeps n r old new done e locks gone =
    sound_call n r old new (Make r.beside r.token done) e
    (weaken (λ steps. GoneThen r.beside [] steps)
    (λ steps. (r.beside ≡ r.beside) × (r.token ≡ r.token) × (r.operation ≡ op.Lock) × GoneThen r.beside [] steps) old (λ steps m. (refl, refl, locks, m)) gone)

pub take_keeps : (n : ℕ) (r : Request) (old new : Option (List Step)) (mode : ℕ) (done : Result Unit Stop) → new ≡ added old (Take r.staged mode done)
    → r.operation ≡ op.Stage → IfSome old HasInput → IfSome old (λ steps. MayTake n r steps mode) → Sound n r old → Sound n r new
take_keeps n r old new mode done e stages input may =
    sound_call n r old new (Take r.staged mode done) e
    (weaken (λ steps. HasInput steps × MayTake n r steps mode)
    (λ steps. (r.staged ≡ r.staged) × (r.operation ≡ op.Stage) × HasInput steps × MayTake n r steps mode) old (λ steps m. (refl, stages, m.0, m.1))
    (both HasInput (λ steps. MayTake n r steps mode) old input may))

pub link_keeps : (n : ℕ) (r : Request) (old new : Option (List Step)) (free : Result Bool Stop) → new ≡ added old (Link r.beside r.lock free)
    → IfSome old (λ steps. EndsWith steps (Make r.beside r.token (Ok tt) ∷ [])) → Sound n r old → Sound n r new
link_keeps n r old new free e made = sound_call n r old new (Link r.beside r.lock free) e
    (weaken (λ steps. EndsWith steps (Make r.beside r.token (Ok tt) ∷ []))
    (λ steps. (r.beside ≡ r.beside) × (r.lock ≡ r.lock) × EndsWith steps (Make r.beside r.token (Ok tt) ∷ [])) old (λ steps m. (refl, refl, m)) made)

pub rename_keeps : (n : ℕ) (r : Request) (old new : Option (List Step)) (done : Result Unit Stop) → new ≡ added old (Rename r.staged r.mailbox done)
    → r.operation ≡ op.Publish → IfSome old (λ steps. MayReplace n r steps) → Sound n r old → Sound n r new
rename_keeps n r old new done e publishes may =
    sound_call n r old new (Rename r.staged r.mailbox done) e
    (weaken (λ steps. MayReplace n r steps) (λ steps. (r.staged ≡ r.staged) × (r.mailbox ≡ r.mailbox) × (r.operation ≡ op.Publish)
    × MayReplace n r steps) old (λ steps m. (refl, refl, publishes, m)) may)

pub remove_keeps : (n : ℕ) (r : Request) (old new : Option (List Step)) (name : List ℕ) (done : Result Unit Stop) → new ≡ added old (Remove name done)
    → IfSome old (λ steps. MayRemove n r steps name) → Sound n r old → Sound n r new
remove_keeps n r old new name done e may = sound_call n r old new (Remove name done) e may

pub sync_keeps : (n : ℕ) (r : Request) (old new : Option (List Step)) (done : Result Unit Stop) → new ≡ added old (Sync done) → Sound n r old → Sound n r new
sync_keeps n r old new done e = sound_call n r old new (Sync done) e (always (λ steps. Unit {0}) old (λ steps. tt))

-- a look changes nothing
looked_step : (steps : List Step) (name : List ℕ) (seen : Result Seen Stop) → OnlyLooked steps → OnlyLooked (steps ++ Look name seen ∷ [])
looked_step [] name seen h = tt
looked_step (Users a ∷ steps) name seen h = looked_step steps name seen h
looked_step (Hold a b ∷ steps) name seen h = looked_step steps name seen h
looked_step (Look a b ∷ steps) name seen h = looked_step steps name seen h
looked_step (Make a b c ∷ steps) name seen h = absurd h
looked_step (Take a b c ∷ steps) name seen h = absurd h
looked_step (Link a b c ∷ steps) name seen h = absurd h
looked_step (Rename a b c ∷ steps) name seen h = absurd h
looked_step (Remove a b ∷ steps) name seen h = absurd h
looked_step (Sync a ∷ steps) name seen h = absurd h

pub looked_more : (old new : Option (List Step)) (name : List ℕ) (seen : Result Seen Stop) → new ≡ added old (Look name seen) → IfSome old OnlyLooked → IfSome new OnlyLooked
looked_more old new name seen e h = if_added OnlyLooked OnlyLooked old new (Look name seen) (λ steps p. looked_step steps name seen p) e h

-- the input is there as long as looks came alone, and stays there at any call but a taking
looked_input : (steps : List Step) → OnlyLooked steps → HasInput steps
looked_input [] h = tt
looked_input (Users a ∷ steps) h = looked_input steps h
looked_input (Hold a b ∷ steps) h = looked_input steps h
looked_input (Look a b ∷ steps) h = looked_input steps h
looked_input (Make a b c ∷ steps) h = absurd h
looked_input (Take a b c ∷ steps) h = absurd h
looked_input (Link a b c ∷ steps) h = absurd h
looked_input (Rename a b c ∷ steps) h = absurd h
looked_input (Remove a b ∷ steps) h = absurd h
looked_input (Sync a ∷ steps) h = absurd h

pub looked_has_input : (told : Option (List Step)) → IfSome told OnlyLooked → IfSome told HasInput
looked_has_input told h = weaken OnlyLooked HasInput told (λ steps p. looked_input steps p) h

input_then : (steps more : List Step) → HasInput more → HasInput steps → HasInput (steps ++ more)
input_then [] more m h = m
input_then (Users a ∷ steps) more m h = input_then steps more m h
input_then (Hold a b ∷ steps) more m h = input_then steps more m h
input_then (Look a b ∷ steps) more m h = input_then steps more m h
input_then (Make a b c ∷ steps) more m h = input_then steps more m h
input_then (Take a b c ∷ steps) more m h = absurd h
input_then (Link a b c ∷ steps) more m h = input_then steps more m h
input_then (Rename a b c ∷ steps) more m h = input_then steps more m h
input_then (Remove a b ∷ steps) more m h = input_then steps more m h
input_then (Sync a ∷ steps) more m h = input_then steps more m h

pub input_more : (old new : Option (List Step)) (step : Step) → HasInput (step ∷ []) → new ≡ added old step → IfSome old HasInput → IfSome new HasInput
input_more old new step m e h = if_added HasInput HasInput old new step (λ steps p. input_then steps (step ∷ []) m p) e h

-- the last call
pub ends_one : (old new : Option (List Step)) (step : Step) → new ≡ added old step → IfSome new (λ steps. EndsWith steps (step ∷ []))
ends_one old new step e = if_added (λ steps. Unit {0}) (λ steps. EndsWith steps (step ∷ [])) old new step (λ steps u. (steps, refl)) e (always (λ steps. Unit {0}) old (λ steps. tt))

-- one more call behind others
pub ends_step : (last steps : List Step) (step : Step) → EndsWith steps last → EndsWith (steps ++ step ∷ []) (last ++ step ∷ [])
ends_step last steps step h = (h.0, ap (λ (s : List Step). s ++ step ∷ []) h.1 ∙ append_assoc h.0 last (step ∷ []))

pub ends_more : (last : List Step) (old new : Option (List Step)) (step : Step) → new ≡ added old step → IfSome old (λ steps. EndsWith steps last)
    → IfSome new (λ steps. EndsWith steps (last ++ step ∷ []))
ends_more last old new step e h = if_added (λ steps. EndsWith steps last) (λ steps. EndsWith steps (last ++ step ∷ [])) old new step (λ steps p. ends_step last steps step p) e h

-- the last two calls
pub ends_two : (old mid new : Option (List Step)) (one two : Step) → mid ≡ added old one → new ≡ added mid two → IfSome new (λ steps. EndsWith steps (one ∷ two ∷ []))
ends_two old mid new one two e f = ends_more (one ∷ []) mid new two f (ends_one old mid one e)

-- the lock stays seen as further calls come
pub locked_more : (n : ℕ) (r : Request) (last : List Step) (old new : Option (List Step)) (step : Step) → new ≡ added old step
    → IfSome old (λ steps. LockedThen n r steps last) → IfSome new (λ steps. LockedThen n r steps (last ++ step ∷ []))
locked_more n r last old new step e h = if_added (λ steps. LockedThen n r steps last) (λ steps. LockedThen n r steps (last ++ step ∷ [])) old new step
    (λ steps p. (p.0, p.1, p.2, ends_step (Look r.lock (Ok p.0) ∷ Look r.beside (Ok p.1) ∷ last) steps step p.3)) e h

-- no call, one call, and the calls of two parts
pub on_none : (old : Option (List Step)) → Onward old old
on_none None = ([], refl)
on_none (Some steps) = ([], ap (λ (s : List Step). Some s) (sym (append-nil steps)))

pub on_one : (old new : Option (List Step)) (step : Step) → new ≡ added old step → Onward old new
on_one old new step e = (step ∷ [], e)

follows_twice : (old : Option (List Step)) (one two : List Step) → followed (followed old one) two ≡ followed old (one ++ two)
follows_twice None one two = refl
follows_twice (Some steps) one two = ap (λ (s : List Step). Some s) (append_assoc steps one two)

pub on_then : (old mid new : Option (List Step)) → Onward old mid → Onward mid new → Onward old new
on_then old mid new o p = (o.0 ++ p.0, p.1 ∙ ap (λ (t : Option (List Step)). followed t p.0) o.1 ∙ follows_twice old o.0 p.0)

-- what held before these calls held once
once_then : (P : List Step → Type 0) (old : Option (List Step)) (more : List Step) → IfSome old P → IfSome (followed old more) (λ steps. Once P steps)
once_then P None more p = tt
once_then P (Some steps) more p = (steps, more, p, refl)

pub once_on : (P : List Step → Type 0) (old new : Option (List Step)) → IfSome old P → Onward old new → IfSome new (λ steps. Once P steps)
once_on P old new p o = subst (λ (t : Option (List Step)). IfSome t (λ steps. Once P steps)) (sym o.1) (once_then P old o.0 p)
