-- One call carries out one act.
use Rattle.std.proofs.Common.{◌≡◌, ℕ, true, false, List, [], ◌∷◌, ◌++◌, refl, sym, ap, subst, inl, inr, take, drop, take-append-drop}
use Rattle.std.specs.declared.result.Result.TheVariants.{Ok, Err}
use Rattle.host_port.specs.declared.event.Event.{Event}
use Rattle.host_port.specs.declared.event.Event.TheVariants as event
use Rattle.host_port.specs.declared.event.Seen.TheVariants as seen
use Rattle.host_port.specs.declared.event.LoadAnswer.{LoadAnswer}
use Rattle.host_port.specs.declared.event.ChildAnswer.{ChildAnswer}
use Rattle.host_port.specs.declared.event.EditAnswer.{EditAnswer}
use Rattle.host_port.specs.declared.host.LoadError.TheVariants as error
use Rattle.host_port.specs.Disk.{Disk}
use Rattle.host_port.specs.Calls.{Loaded}
use Rattle.host_port.specs.Ran.{Agrees}
use Rattle.host_port.specs.Own.{own}
use Rattle.session_play.specs.declared.act.Found.{Found}
use Rattle.session_play.specs.declared.act.Found.TheVariants as found
use Rattle.session_play.specs.declared.stop.Stop.TheVariants as stop
use Rattle.std.specs.declared.option.Option.{Option}
use Rattle.std.specs.declared.option.Option.TheVariants.{Some, None}
use Rattle.std.specs.Prelude.{ℤ}
use Rattle.mail_dates.specs.declared.moment.Moment.{Moment}
use Rattle.session_play.specs.Moments.{IsMomentAt}
use Rattle.session_play.specs.Play.{Ask, Ret, Say, Read, Try, Child, Editor, Now, Goes}

append_nil : (xs : List ℕ) → xs ≡ xs ++ []
append_nil [] = refl
append_nil (x ∷ xs) = ap (λ r. x ∷ r) (append_nil xs)

pub said-ok : (bytes : List ℕ) (d : Disk) (e : Event) → e ≡ event.Out bytes false → Agrees d e × Goes {R = Unit {0}} (Ask (Say bytes) Ret) (own (e ∷ [])) (Ok tt)
said-ok bytes d e is =
    let P : Event → Type 0 = λ e. Agrees d e × Goes {R = Unit {0}} (Ask (Say bytes) Ret) (own (e ∷ [])) (Ok tt) in
    subst P (sym is) (tt, inl (tt, event.Out bytes false ∷ [], [], refl, ([], append_nil bytes, refl), (refl, inl refl)))

pub said-err : (bytes : List ℕ) (d : Disk) (e : Event) → (n : ℕ) × (e ≡ event.Out (take n bytes) true) → Agrees d e × Goes {R = Unit {0}} (Ask (Say bytes) Ret) (own (e ∷ [])) (Err stop.Output)
said-err bytes d e is =
    let P : Event → Type 0 = λ e. Agrees d e × Goes {R = Unit {0}} (Ask (Say bytes) Ret) (own (e ∷ [])) (Err stop.Output) in
    subst P (sym is.1) (tt, inr (stop.Output, refl, inr (drop is.0 bytes, sym (take-append-drop is.0 bytes), refl)))

pub loaded-ok : (name : List ℕ) (a : LoadAnswer) (d : Disk) (e : Event) → Loaded name (Ok a) d e → Agrees d e × Goes {R = Found} (Ask (Read name) Ret) (own (e ∷ [])) (Ok (found.Bytes a.bytes a.held))
loaded-ok name a d e is =
    let P : Event → Type 0 = λ e. Agrees d e × Goes {R = Found} (Ask (Read name) Ret) (own (e ∷ [])) (Ok (found.Bytes a.bytes a.held)) in
    subst P (sym is.0) ((is.1, is.2), inl (found.Bytes a.bytes a.held, event.Load name (seen.Bytes a.bytes a.held) ∷ [], [], refl, refl, (refl, inl refl)))

pub loaded-large : (name : List ℕ) (n : ℕ) (d : Disk) (e : Event) → Loaded name (Err (error.TooLarge n)) d e
    → Agrees d e × Goes {R = Found} (Ask (Read name) Ret) (own (e ∷ [])) (Ok (found.TooLarge n))
loaded-large name n d e is =
    let P : Event → Type 0 = λ e. Agrees d e × Goes {R = Found} (Ask (Read name) Ret) (own (e ∷ [])) (Ok (found.TooLarge n)) in
    subst P (sym is.0) (is.1, inl (found.TooLarge n, event.Load name (seen.TooLarge n) ∷ [], [], refl, refl, (refl, inl refl)))

pub load-failed : (name : List ℕ) (d : Disk) (e : Event) → e ≡ event.Load name seen.Failed → Agrees d e × Goes {R = Found} (Ask (Read name) Ret) (own (e ∷ [])) (Err stop.Disk)
load-failed name d e is =
    let P : Event → Type 0 = λ e. Agrees d e × Goes {R = Found} (Ask (Read name) Ret) (own (e ∷ [])) (Err stop.Disk) in
    subst P (sym is) (tt, inr (stop.Disk, refl, inr (refl)))

pub load-memory : (name : List ℕ) (d : Disk) (e : Event) → e ≡ event.Load name seen.Memory → Agrees d e × Goes {R = Found} (Ask (Read name) Ret) (own (e ∷ [])) (Err stop.Memory)
load-memory name d e is =
    let P : Event → Type 0 = λ e. Agrees d e × Goes {R = Found} (Ask (Read name) Ret) (own (e ∷ [])) (Err stop.Memory) in
    subst P (sym is) (tt, inr (stop.Memory, refl, inr refl))

pub tried-ok : (name : List ℕ) (a : LoadAnswer) (d : Disk) (e : Event) → Loaded name (Ok a) d e
    → Agrees d e × Goes {R = Option Found} (Ask (Try name) Ret) (own (e ∷ [])) (Ok (Some (found.Bytes a.bytes a.held)))
tried-ok name a d e is =
    let P : Event → Type 0 = λ e. Agrees d e × Goes {R = Option Found} (Ask (Try name) Ret) (own (e ∷ [])) (Ok (Some (found.Bytes a.bytes a.held))) in
    subst P (sym is.0) ((is.1, is.2), inl (Some (found.Bytes a.bytes a.held), event.Load name (seen.Bytes a.bytes a.held) ∷ [], [], refl, refl, (refl, inl refl)))

pub tried-large : (name : List ℕ) (n : ℕ) (d : Disk) (e : Event) → Loaded name (Err (error.TooLarge n)) d e
    → Agrees d e × Goes {R = Option Found} (Ask (Try name) Ret) (own (e ∷ [])) (Ok (Some (found.TooLarge n)))
tried-large name n d e is =
    let P : Event → Type 0 = λ e. Agrees d e × Goes {R = Option Found} (Ask (Try name) Ret) (own (e ∷ [])) (Ok (Some (found.TooLarge n))) in
    subst P (sym is.0) (is.1, inl (Some (found.TooLarge n), event.Load name (seen.TooLarge n) ∷ [], [], refl, refl, (refl, inl refl)))

pub tried-failed : (name : List ℕ) (d : Disk) (e : Event) → e ≡ event.Load name seen.Failed
    → Agrees d e × Goes {R = Option Found} (Ask (Try name) Ret) (own (e ∷ [])) (Ok None)
tried-failed name d e is =
    let P : Event → Type 0 = λ e. Agrees d e × Goes {R = Option Found} (Ask (Try name) Ret) (own (e ∷ [])) (Ok None) in
    subst P (sym is) (tt, inl (None, event.Load name seen.Failed ∷ [], [], refl, refl, (refl, inl refl)))

pub tried-memory : (name : List ℕ) (d : Disk) (e : Event) → e ≡ event.Load name seen.Memory
    → Agrees d e × Goes {R = Option Found} (Ask (Try name) Ret) (own (e ∷ [])) (Err stop.Memory)
tried-memory name d e is =
    let P : Event → Type 0 = λ e. Agrees d e × Goes {R = Option Found} (Ask (Try name) Ret) (own (e ∷ [])) (Err stop.Memory) in
    subst P (sym is) (tt, inr (stop.Memory, refl, inr refl))

pub child-ran : (program : List ℕ) (args : List (List ℕ)) (input : List ℕ) (a : ChildAnswer) (d : Disk) (e : Event) → e ≡ event.Child program args input (Some a) false
    → Agrees d e × Goes {R = Option ChildAnswer} (Ask (Child program args input) Ret) (own (e ∷ [])) (Ok (Some a))
child-ran program args input a d e is =
    let P : Event → Type 0 = λ e. Agrees d e × Goes {R = Option ChildAnswer} (Ask (Child program args input) Ret) (own (e ∷ [])) (Ok (Some a)) in
    subst P (sym is) (tt, inl (Some a, event.Child program args input (Some a) false ∷ [], [], refl, refl, (refl, inl refl)))

pub child-failed : (program : List ℕ) (args : List (List ℕ)) (input : List ℕ) (d : Disk) (e : Event) → e ≡ event.Child program args input None true
    → Agrees d e × Goes {R = Option ChildAnswer} (Ask (Child program args input) Ret) (own (e ∷ [])) (Ok None)
child-failed program args input d e is =
    let P : Event → Type 0 = λ e. Agrees d e × Goes {R = Option ChildAnswer} (Ask (Child program args input) Ret) (own (e ∷ [])) (Ok None) in
    subst P (sym is) (tt, inl (None, event.Child program args input None true ∷ [], [], refl, refl, (refl, inl refl)))

pub child-memory : (program : List ℕ) (args : List (List ℕ)) (input : List ℕ) (d : Disk) (e : Event) → e ≡ event.Child program args input None false
    → Agrees d e × Goes {R = Option ChildAnswer} (Ask (Child program args input) Ret) (own (e ∷ [])) (Err stop.Memory)
child-memory program args input d e is =
    let P : Event → Type 0 = λ e. Agrees d e × Goes {R = Option ChildAnswer} (Ask (Child program args input) Ret) (own (e ∷ [])) (Err stop.Memory) in
    subst P (sym is) (tt, inr (stop.Memory, refl, inr refl))

pub editor-ran : (name shell command text : List ℕ) (a : EditAnswer) (d : Disk) (e : Event) → e ≡ event.Edit name shell command text (Some a) false
    → Agrees d e × Goes {R = Option EditAnswer} (Ask (Editor name shell command text) Ret) (own (e ∷ [])) (Ok (Some a))
editor-ran name shell command text a d e is =
    let P : Event → Type 0 = λ e. Agrees d e × Goes {R = Option EditAnswer} (Ask (Editor name shell command text) Ret) (own (e ∷ [])) (Ok (Some a)) in
    subst P (sym is) (tt, inl (Some a, event.Edit name shell command text (Some a) false ∷ [], [], refl, refl, (refl, inl refl)))

pub editor-failed : (name shell command text : List ℕ) (d : Disk) (e : Event) → e ≡ event.Edit name shell command text None true
    → Agrees d e × Goes {R = Option EditAnswer} (Ask (Editor name shell command text) Ret) (own (e ∷ [])) (Ok None)
editor-failed name shell command text d e is =
    let P : Event → Type 0 = λ e. Agrees d e × Goes {R = Option EditAnswer} (Ask (Editor name shell command text) Ret) (own (e ∷ [])) (Ok None) in
    subst P (sym is) (tt, inl (None, event.Edit name shell command text None true ∷ [], [], refl, refl, (refl, inl refl)))

pub editor-memory : (name shell command text : List ℕ) (d : Disk) (e : Event) → e ≡ event.Edit name shell command text None false
    → Agrees d e × Goes {R = Option EditAnswer} (Ask (Editor name shell command text) Ret) (own (e ∷ [])) (Err stop.Memory)
editor-memory name shell command text d e is =
    let P : Event → Type 0 = λ e. Agrees d e × Goes {R = Option EditAnswer} (Ask (Editor name shell command text) Ret) (own (e ∷ [])) (Err stop.Memory) in
    subst P (sym is) (tt, inr (stop.Memory, refl, inr refl))

pub time-told : (tz : List ℕ) (seconds : ℤ) (m : Moment) → IsMomentAt tz seconds m → (d : Disk) (e : Event) → e ≡ event.Now seconds
    → Agrees d e × Goes {R = Moment} (Ask (Now tz) Ret) (own (e ∷ [])) (Ok m)
time-told tz seconds m at d e is =
    let P : Event → Type 0 = λ e. Agrees d e × Goes {R = Moment} (Ask (Now tz) Ret) (own (e ∷ [])) (Ok m) in
    subst P (sym is) (tt, inl (m, event.Now seconds ∷ [], [], refl, (seconds, refl, at), (refl, inl refl)))
