-- What each call leaves of the lines, and that its event is plain.
use Rattle.std.proofs.Common.{◌≡◌, ◌≤◌, arith, ℕ, ℤ, zero, suc, pos, Bool, true, false, List, [], ◌∷◌, ◌++◌, map, take, drop, length, refl, sym, ◌∙◌, ap, subst, append_assoc}
use Rattle.std.specs.Prelude.{◌||◌, ◌&&◌, if◌then◌else◌, IfOk, is_err, is_some, is_none}
use Rattle.std.proofs.lemmas.List.{append-nil, append_cancel_left, length-take-le, map-append}
use Rattle.std.proofs.lemmas.Bool.{le-leb}
use Rattle.std.specs.declared.option.Option.{Option}
use Rattle.std.specs.declared.option.Option.TheVariants.{Some, None}
use Rattle.std.specs.declared.result.Result.{Result}
use Rattle.std.specs.declared.result.Result.TheVariants.{Ok, Err}
use Rattle.host_port.specs.declared.event.Event.{Event}
use Rattle.host_port.specs.declared.event.Event.TheVariants.{In, Load, Child, Edit, Now, Foreign}
use Rattle.host_port.specs.declared.event.Seen.{Seen}
use Rattle.host_port.specs.declared.event.Seen.TheVariants as seen
use Rattle.host_port.specs.declared.event.ForeignStep.{ForeignStep}
use Rattle.host_port.specs.declared.event.LoadAnswer.{LoadAnswer}
use Rattle.host_port.specs.declared.event.ChildAnswer.{ChildAnswer}
use Rattle.host_port.specs.declared.event.EditAnswer.{EditAnswer}
use Rattle.host_port.specs.declared.host.InFault.{InFault}
use Rattle.host_port.specs.declared.host.OutFault.{OutFault}
use Rattle.host_port.specs.declared.host.DiskFault.{DiskFault}
use Rattle.host_port.specs.declared.host.LoadError.{LoadError}
use Rattle.host_port.specs.declared.host.LoadError.TheVariants as error
use Rattle.host_port.specs.declared.host.ChildError.{ChildError}
use Rattle.host_port.specs.declared.host.ChildError.TheVariants as child_error
use Rattle.host_port.specs.Disk.{Disk, disk}
use Rattle.host_port.specs.Calls.{Calls, FitsLoad, load_limit, Filled, Said, Loaded, LoadCause, Staged, Published, Extended, Erased, Locked, Unlocked, Seized, Released, ChildRan, Edited, TimeTold}
use Rattle.host_port.specs.Own.{own}
use Rattle.host_port.proofs.RanLemmas.{own-append}
use Rattle.host_memory.specs.Children.{silence, next_given}
use Rattle.host_memory.specs.Edits.{edit_given, next_edit}
use Rattle.host_memory.specs.declared.memory.MemHost.{MemHost}
use Rattle.host_memory.specs.declared.plan.Plan.{Plan}
use Rattle.host_memory.specs.MemHosts.{host_world, host_start, host_told, told_of, input_left, answers_left, is_lost, is_failed_load, wants_memory, is_failed_child, child_wants_memory, edits_left, is_failed_edit, edit_wants_memory, next_part, IsAsPlanned, IsDoneAsPlanned}
use Rattle.host_memory.specs.Plans.{is_refused}
use Rattle.host_memory.specs.Views.{next_call, part_at, steps_before, AddsOne}
use Rattle.trial_host.specs.Trials.{IsScripted, GoesPlainly, plainly, seen_plainly, taken, taken_by, is_nothing, ends_once}

-- a call adds its own event behind the steps that the plan has before it
abbrev AddsAsPlanned : MemHost → MemHost → Type 0
AddsAsPlanned old new = (es : List Event) → host_told new ≡ Some es → (e : Event) × AddsOne old.tape.trace.items es (steps_before old.plan.foreign (next_call old.calls)) e

-- the event is plain, and takes what is between these two of the input
pub record Step (before left : List ℕ) (e : Event) : Type 0 where
  pub alone : own (e ∷ []) ≡ e ∷ []
  pub plain : plainly e ≡ e
  pub input : taken_by e ++ left ≡ before
  pub ends : ends_once (e ∷ []) left ≡ true

taken-one : (es : List Event) (e : Event) → taken (es ++ e ∷ []) ≡ taken es ++ taken_by e
taken-one [] e = append-nil (taken_by e)
taken-one (x ∷ es) e = ap (λ (r : List ℕ). taken_by x ++ r) (taken-one es e) ∙ sym (append_assoc (taken_by x) (taken es) (taken_by e))

-- what was there before an event is what it took and what it left
left-one : (es : List Event) (e : Event) (old new : List ℕ) → taken_by e ++ new ≡ old → taken (es ++ e ∷ []) ++ new ≡ taken es ++ old
left-one es e old new is = ap (λ (r : List ℕ). r ++ new) (taken-one es e) ∙ append_assoc (taken es) (taken_by e) new ∙ ap (λ (r : List ℕ). taken es ++ r) is

both : (a b : Bool) → (a && b) ≡ true → (a ≡ true) × (b ≡ true)
both true b is = (refl, is)
both false b is = absurd (cc is)

ends-one : (es : List Event) (e : Event) (old new : List ℕ) → taken_by e ++ new ≡ old → ends_once es old ≡ true → ends_once (e ∷ []) new ≡ true → ends_once (es ++ e ∷ []) new ≡ true
ends-one [] e old new is was last = last
ends-one (In [] failed ∷ es) e old new is was last =
    let p = both (is_nothing (taken es ++ old)) (ends_once es old) was in
    ap (λ (l : List ℕ). is_nothing l && ends_once (es ++ e ∷ []) new) (left-one es e old new is) ∙ ap (λ (b : Bool). b && ends_once (es ++ e ∷ []) new) p.0 ∙ ends-one es e old new is p.1 last
ends-one (x ∷ es) e old new is was last = ends-one es e old new is was last

told-items : (lost : Bool) (xs es : List Event) → told_of lost xs ≡ Some es → es ≡ xs
told-items true xs es is = absurd (cc is)
told-items false xs es is = cc is

not-nothing : (xs : List Event) (e : Event) → xs ++ e ∷ [] ≡ [] → ⊥
not-nothing [] e is = cc is
not-nothing (x ∷ xs) e is = cc is

-- no steps of others stand before the one event
one-alone : (steps : List ForeignStep) (e f : Event) → map Foreign steps ++ e ∷ [] ≡ f ∷ [] → map Foreign steps ++ e ∷ [] ≡ e ∷ []
one-alone [] e f is = refl
one-alone (s ∷ steps) e f is = absurd (not-nothing (map Foreign steps) e (tail is))
  where
    tail : {x y : Event} {xs : List Event} → x ∷ xs ≡ y ∷ [] → xs ≡ []
    tail is = cc is

-- a trace after a call: what was told before it, and its event
record Parts (old new : MemHost) (es : List Event) : Type 0 where
  before : List Event
  one : Event
  told : host_told old ≡ Some before
  is : es ≡ before ++ one ∷ []
  step : Step (input_left old) (input_left new) one

-- one event more
goes-on : (es : List Event) (e : Event) (before left : List ℕ) → GoesPlainly es before → Step before left e → GoesPlainly (es ++ e ∷ []) left
goes-on es e before left goes step = record {
  alone = own-append es (e ∷ []) ∙ ap (λ (r : List Event). r ++ own (e ∷ [])) goes.alone ∙ ap (λ (r : List Event). es ++ r) step.alone;
  plain = map-append plainly es (e ∷ []) ∙ ap (λ (r : List Event). r ++ plainly e ∷ []) goes.plain ∙ ap (λ (x : Event). es ++ x ∷ []) step.plain;
  input = goes.input ∙ sym (left-one es e before left step.input);
  ends = ends-one es e before left step.input goes.ends step.ends;
}

-- a call of a scripted host leaves one that is scripted, if its plan stays, and each event that it may have added is such a step
pub scripted : (old new : MemHost) (Happened : Disk → Event → Type 0) → IsScripted old → new.plan ≡ old.plan → AddsAsPlanned old new → Calls host_world old new Happened
    → ((es : List Event) → host_told new ≡ Some es → (d : Disk) (e : Event) → Happened d e → Step (input_left old) (input_left new) e) → IsScripted new
scripted old new Happened was plan adds calls steps = record {
  plan = plan ∙ was.plan;
  goes = λ es told.
      let p = parts es told in
      let P : List Event → Type 0 = λ l. GoesPlainly l (input_left new) in
      subst P (sym p.is) (goes-on p.before p.one (input_left old) (input_left new) (was.goes p.before p.told) p.step);
}
  where
    parts : (es : List Event) → host_told new ≡ Some es → Parts old new es
    parts es told =
        let c = calls.added es told in
        let call = c.2 in
        let a = adds es told in
        let first : c.0 ≡ old.tape.trace.items = told-items old.lost old.tape.trace.items c.0 c.1 in
        let none : steps_before old.plan.foreign (next_call old.calls) ≡ [] = ap (λ p. steps_before p.foreign (next_call old.calls)) was.plan in
        let planned : es ≡ c.0 ++ a.0 ∷ [] = a.1 ∙ ap (λ s. old.tape.trace.items ++ (map Foreign s ++ a.0 ∷ [])) none ∙ ap (λ b. b ++ a.0 ∷ []) (sym first) in
        record {
          before = c.0;
          one = call.own;
          told = c.1;
          is = call.is ∙ ap (λ r. c.0 ++ r) (one-alone call.steps call.own a.0 (append_cancel_left c.0 _ _ (sym call.is ∙ planned)));
          step = steps es told _ _ call.happened;
        }

-- ---- no call fails that the plan doesn't name, and it names none

pub unnamed : (m : MemHost) → IsScripted m → is_some (next_part m) ≡ false
unnamed m was = ap (λ (p : Plan). is_some (part_at p.fails (next_call m.calls))) was.plan

pub as-planned : (old new : MemHost) (failed : Bool) → IsAsPlanned old new failed → AddsAsPlanned old new
as-planned old new failed planned = λ es told. let p = planned.told es told in (p.1, p.2)

pub unfailed : (old new : MemHost) (failed : Bool) (es : List Event) → IsScripted old → IsAsPlanned old new failed → host_told new ≡ Some es → failed ≡ false
unfailed old new failed es was planned told = (planned.told es told).0 ∙ unnamed old was

not-lost : (new : MemHost) (es : List Event) → host_told new ≡ Some es → is_lost new ≡ false
not-lost new es told = ap is_none told

-- an event that takes no input is a step if the input stays
abbrev Quiet : Event → Type 0
Quiet e = (text : List ℕ) → Step text text e

stays : (old new : MemHost) (e : Event) → input_left new ≡ input_left old → Quiet e → Step (input_left old) (input_left new) e
stays old new e kept quiet = let P : List ℕ → Type 0 = λ left. Step (input_left old) left e in subst P (sym kept) (quiet (input_left old))

-- a call that takes no input
pub scripted-as : (old new : MemHost) (failed : Bool) (Happened : Disk → Event → Type 0) → IsScripted old → IsAsPlanned old new failed
    → Calls host_world old new Happened → input_left new ≡ input_left old
    → ((d : Disk) (e : Event) → failed ≡ false → is_lost new ≡ false → Happened d e → Quiet e) → IsScripted new
scripted-as old new failed Happened was planned calls kept quiet =
    scripted old new Happened was planned.plan (as-planned old new failed planned) calls
    (λ es told d e happened. stays old new e kept (quiet d e (unfailed old new failed es was planned told) (not-lost new es told) happened))

-- a call on the disk
pub scripted-done : (old new : MemHost) (whole : Event) (failed : Bool) (Happened : Disk → Event → Type 0) → IsScripted old
    → IsDoneAsPlanned old new whole (next_part old) failed → Calls host_world old new Happened
    → input_left new ≡ input_left old → ((at d : Disk) (e : Event) → failed ≡ is_refused at whole → Happened d e → Quiet e) → IsScripted new
scripted-done old new whole failed Happened was planned calls kept quiet =
    let at = disk (host_start old) (old.tape.trace.items ++ map Foreign (steps_before old.plan.foreign (next_call old.calls))) in
    scripted old new Happened was planned.plan (λ es told. (_, (planned.told es told).is)) calls
    (λ es told d e happened. stays old new e kept (quiet at d e ((planned.told es told).fails ∙ ap (λ (b : Bool). b || is_refused at whole) (unnamed old was)) happened))

-- a call that can't fail
pub scripted-told : (old new : MemHost) (whole : Event) (Happened : Disk → Event → Type 0) → IsScripted old → IsDoneAsPlanned old new whole None false → Calls host_world old new Happened
    → input_left new ≡ input_left old → ((d : Disk) (e : Event) → Happened d e → Quiet e) → IsScripted new
scripted-told old new whole Happened was planned calls kept quiet =
    scripted old new Happened was planned.plan (λ es told. (_, (planned.told es told).is)) calls (λ es told d e happened. stays old new e kept (quiet d e happened))

-- ---- what each call adds

-- so an event is that is
nothing : (e f : Event) → e ≡ f → Quiet f → Quiet e
nothing e f is quiet = let P : Event → Type 0 = λ e. Quiet e in subst P (sym is) quiet

pub said-quiet : (r : Result Unit OutFault) (bytes : List ℕ) (d : Disk) (e : Event) → is_err r ≡ false → Said r bytes d e → Quiet e
said-quiet (Ok u) bytes d e ok is = nothing e _ is (λ text. record { alone = refl; plain = refl; input = refl; ends = refl })
said-quiet (Err fault) bytes d e ok is = absurd (cc ok)

-- a file within the limit is seen as it is
within-seen : (bytes : Option (List ℕ)) (held : Bool) → FitsLoad bytes → seen_plainly (seen.Bytes bytes held) ≡ seen.Bytes bytes held
within-seen None held fits = refl
within-seen (Some bytes) held fits = ap (λ (b : Bool). if b then seen.Bytes (Some bytes) held else seen.TooLarge (length bytes)) (le-leb (length bytes) load_limit fits)

pub loaded-quiet : (name : List ℕ) (r : Result LoadAnswer LoadError) (before now : ℕ) (d : Disk) (e : Event) → LoadCause before now r
    → is_failed_load r ≡ false → wants_memory r ≡ false → Loaded name r d e → Quiet e
loaded-quiet name (Ok answer) before now d e fits ok room is =
    nothing e _ is.0 (λ text. record { alone = refl; plain = ap (λ (s : Seen). Load name s) (within-seen answer.bytes answer.held fits); input = refl; ends = refl })
loaded-quiet name (Err (error.TooLarge n)) before now d e fits ok room is = nothing e _ is.0 (λ text. record { alone = refl; plain = refl; input = refl; ends = refl })
loaded-quiet name (Err error.Failed) before now d e fits ok room is = absurd (cc ok)
loaded-quiet name (Err error.Memory) before now d e fits ok room is = absurd (cc room)

pub staged-quiet : (name bytes : List ℕ) (r : Result Unit DiskFault) (d : Disk) (e : Event) → is_err r ≡ false → Staged name bytes r d e → Quiet e
staged-quiet name bytes (Ok u) d e ok is = nothing e _ is (λ text. record { alone = refl; plain = refl; input = refl; ends = refl })
staged-quiet name bytes (Err fault) d e ok is = absurd (cc ok)

pub published-quiet : (from to : List ℕ) (r : Result Bool DiskFault) (d : Disk) (e : Event) → is_err r ≡ false → Published from to r d e → Quiet e
published-quiet from to (Ok done) d e ok is = nothing e _ is.0 (λ text. record { alone = refl; plain = refl; input = refl; ends = refl })
published-quiet from to (Err fault) d e ok is = absurd (cc ok)

pub extended-quiet : (name : List ℕ) (at : ℕ) (bytes : List ℕ) (r : Result Unit DiskFault) (d : Disk) (e : Event) → Extended name at bytes r d e → Quiet e
extended-quiet name at bytes (Ok u) d e is = nothing e _ is.0 (λ text. record { alone = refl; plain = refl; input = refl; ends = refl })
extended-quiet name at bytes (Err fault) d e is = nothing e _ is.1 (λ text. record { alone = refl; plain = refl; input = refl; ends = refl })

pub erased-quiet : (name : List ℕ) (r : Result Unit DiskFault) (d : Disk) (e : Event) → is_err r ≡ false → Erased name r d e → Quiet e
erased-quiet name (Ok u) d e ok is = nothing e _ is (λ text. record { alone = refl; plain = refl; input = refl; ends = refl })
erased-quiet name (Err fault) d e ok is = absurd (cc ok)

pub locked-quiet : (name : List ℕ) (token : ℕ) (r : Result Bool DiskFault) (d : Disk) (e : Event) → is_err r ≡ false → Locked name token r d e → Quiet e
locked-quiet name token (Ok got) d e ok is = nothing e _ is.0 (λ text. record { alone = refl; plain = refl; input = refl; ends = refl })
locked-quiet name token (Err fault) d e ok is = absurd (cc ok)

pub unlocked-quiet : (name : List ℕ) (token : ℕ) (r : Result Unit DiskFault) (d : Disk) (e : Event) → is_err r ≡ false → Unlocked name token r d e → Quiet e
unlocked-quiet name token (Ok u) d e ok is = nothing e _ is (λ text. record { alone = refl; plain = refl; input = refl; ends = refl })
unlocked-quiet name token (Err fault) d e ok is = absurd (cc ok)

pub seized-quiet : (name : List ℕ) (r : Result Bool DiskFault) (d : Disk) (e : Event) → is_err r ≡ false → Seized name r d e → Quiet e
seized-quiet name (Ok got) d e ok is = nothing e _ is.0 (λ text. record { alone = refl; plain = refl; input = refl; ends = refl })
seized-quiet name (Err fault) d e ok is = absurd (cc ok)

pub released-quiet : (name : List ℕ) (d : Disk) (e : Event) → Released name d e → Quiet e
released-quiet name d e is = nothing e _ is (λ text. record { alone = refl; plain = refl; input = refl; ends = refl })

drop-nothing : {A : Type 0} (n : ℕ) (l : List A) → l ≡ [] → drop n l ≡ []
drop-nothing zero l none = none
drop-nothing (suc n) [] none = refl
drop-nothing (suc n) (x ∷ l) none = absurd (cc none)

-- no answer is planned
pub unanswered : (m : MemHost) → IsScripted m → answers_left m ≡ []
unanswered m was = drop-nothing m.used m.plan.children (ap (λ (p : Plan). p.children) was.plan)

pub child-quiet : (program : List ℕ) (args : List (List ℕ)) (input : List ℕ) (r : Result ChildAnswer ChildError) (answers : List ChildAnswer)
    (d : Disk) (e : Event) → answers ≡ [] → IfOk r (λ a. a ≡ next_given answers)
    → is_failed_child r ≡ false → child_wants_memory r ≡ false → ChildRan program args input r d e → Quiet e
child-quiet program args input (Ok answer) answers d e none given ok room is =
    let silent : answer ≡ silence = given ∙ ap next_given none in
    nothing e _ is (λ text. record { alone = refl; plain = ap (λ (a : ChildAnswer). Child program args input (Some a) false) (sym silent); input = refl; ends = refl })
child-quiet program args input (Err child_error.Failed) answers d e none given ok room is = absurd (cc ok)
child-quiet program args input (Err child_error.Memory) answers d e none given ok room is = absurd (cc room)

-- no answer of an editor is planned
pub unedited : (m : MemHost) → IsScripted m → edits_left m ≡ []
unedited m was = drop-nothing m.edited m.plan.edits (ap (λ (p : Plan). p.edits) was.plan)

pub edit-quiet : (name shell command text : List ℕ) (r : Result EditAnswer ChildError) (answers : List EditAnswer) (d : Disk) (e : Event) → answers ≡ [] → IfOk r (λ a. a ≡ next_edit text answers)
    → is_failed_edit r ≡ false → edit_wants_memory r ≡ false → Edited name shell command text r d e → Quiet e
edit-quiet name shell command text (Ok answer) answers d e none given ok room is =
    let same : answer ≡ edit_given (pos 0) text false = given ∙ ap (next_edit text) none in
    nothing e _ is (λ rest. record { alone = refl; plain = ap (λ (a : EditAnswer). Edit name shell command text (Some a) false) (sym same); input = refl; ends = refl })
edit-quiet name shell command text (Err child_error.Failed) answers d e none given ok room is = absurd (cc ok)
edit-quiet name shell command text (Err child_error.Memory) answers d e none given ok room is = absurd (cc room)

pub time-quiet : (seconds : ℤ) (d : Disk) (e : Event) → seconds ≡ pos 0 → TimeTold seconds d e → Quiet e
time-quiet seconds d e zero_then is = nothing e _ is (λ text. record { alone = refl; plain = ap Now (sym zero_then); input = refl; ends = refl })

-- ---- input

front-and-rest : (m : ℕ) (l : List ℕ) → take m l ++ drop (length (take m l)) l ≡ l
front-and-rest zero l = refl
front-and-rest (suc m) [] = refl
front-and-rest (suc m) (x ∷ l) = ap (λ r. x ∷ r) (front-and-rest m l)

none-taken : (m : ℕ) (l : List ℕ) → 1 ≤ m → take m l ≡ [] → l ≡ []
none-taken zero l some none = absurd (omega arith)
none-taken (suc m) [] some none = refl
none-taken (suc m) (x ∷ l) some none = absurd (cc none)

-- an event that took no bytes, where none are left
once : (bytes left : List ℕ) → (bytes ≡ [] → left ≡ []) → ends_once (In bytes false ∷ []) left ≡ true
once [] left none = ap (λ (l : List ℕ). is_nothing l && true) (none refl)
once (b ∷ bytes) left none = refl

-- a filling takes the next bytes, of which there are none only at the end
pub filled-step : (r : Result ℕ InFault) (buf old new : List ℕ) (room m : ℕ) (d : Disk) (e : Event) → is_err r ≡ false → 1 ≤ m → length buf ≡ room
    → IfOk r (λ n. n ≤ room) → IfOk r (λ n. take n buf ≡ take m old)
    → IfOk r (λ n. new ≡ drop n old) → Filled r buf d e → Step old new e
filled-step (Ok n) buf old new room m d e ok some is_room within given left is =
    let inside : n ≤ length buf = omega (arith, within, is_room) in
    let long : length (take n buf) ≡ n = length-take-le n buf inside in
    let rest : take n buf ++ new ≡ old =
    ap (λ (r : List ℕ). take n buf ++ r) (left ∙ ap (λ (k : ℕ). drop k old) (sym long ∙ ap length given)) ∙ ap (λ (r : List ℕ). r ++ drop (length (take m old)) old) given ∙ front-and-rest m old in
    let none : take n buf ≡ [] → new ≡ [] = λ empty. left ∙ drop-nothing n old (none-taken m old some (sym given ∙ empty)) in
    let P : Event → Type 0 = λ e. Step old new e in
    subst P (sym is) (record { alone = refl; plain = refl; input = rest; ends = once (take n buf) new none })
filled-step (Err fault) buf old new room m d e ok some is_room within given left is = absurd (cc ok)
